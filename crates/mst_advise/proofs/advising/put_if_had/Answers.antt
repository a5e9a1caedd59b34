use Rattle.std.proofs.Common.{◌≡◌, ◌++◌, ◌∷◌, [], List, length, map, refl, sym, subst, true≢false, ◌∙◌, inr}
use Rattle.mst_rows.specs.Rows.{Row}
use Rattle.mst_roles.specs.forest.Settled.{outcome_of}
use Rattle.mst_advise.specs.Told.{count_row, setting_row}
use Rattle.mst_advise.specs.Made.{Has}
use Rattle.mst_sweeping.specs.StepText.{AreStepRows}
use Rattle.mst_sweeping.specs.declared.step.Deed.TheVariants as deed
use Rattle.mst_advise.proofs.Tried.{none_put, put_then}
use Rattle.mst_advise.proofs.advising.put_if_had.Goals as goal

pub returns : goal.returns
returns g c net numbers is made =
    let s = c.args.settled.now in
    let settings = c.args.settings.now in
    let grew = g.R.Rows.grew in
    let are = c.requires.new in
    let said = c.in_ok-put_between.ensures net s.net numbers s.numbers is are tt in
    let same : are.forest.outcome ≡ outcome_of s = c.one_outcome.ensures s.net are.forest.outcome (outcome_of s) are.of.network are.forest.is_outcome c.known.ensures.is_outcome in
    let edits : List Row = map setting_row settings in
    let last : List Row = count_row (length settings) ∷ [] in (
      edits ++ said.0 ++ last,
      record {
        now = s.net;
        outcome = are.forest.outcome;
        made = record { is = made; is_network = are.of.network; is_outcome = are.forest.is_outcome };
        has = subst (λ o. Has c.args.goal.now s.net o) (sym same) (c.in_ok-holds.ensures.0 c.if-not-branch.false);
        own = said.0;
        does = c.in_ok-put_between.field-0;
        told = subst (λ leaving. AreStepRows leaving net is.forest.outcome s.net are.forest.outcome deed.Edits said.0 c.in_ok-put_between.field-0) c.none-leaving.ensures said.1;
        are = refl;
      },
      put_then grew c.args.out.now c.put_between.new.out c.put_count.new.out (edits ++ said.0) last
          (put_then grew c.args.out.now c.put_settings.new.out c.put_between.new.out edits said.0 c.in_ok-put_settings.ensures said.2) c.in_ok-put_count.ensures,
    )

pub returns-then-not-branch : goal.returns-then-not-branch
returns-then-not-branch g c net numbers is made =
    let s = c.args.settled.now in
    let lacks : Has c.args.goal.now s.net (outcome_of s) → ⊥ = λ has. let so = c.in_ok-holds.ensures.1 has in absurd (true≢false (sym so ∙ c.if-not-branch.true)) in
    ([], (inr (record { now = s.net; outcome = outcome_of s; made = record { is = made; is_network = c.known.ensures.of.network; is_outcome = c.known.ensures.is_outcome }; lacks = lacks }), refl), none_put g.R.Rows.grew c.args.out.now)

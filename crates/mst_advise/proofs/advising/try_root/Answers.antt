use Rattle.std.proofs.Common.{[], true, false, List, Ok, refl, ap, subst, sym, ◌∙◌, inl, inr}
use Rattle.mst_rows.specs.Rows.{Row}
use Rattle.mst_roles.specs.forest.Settled.{SettledNet, outcome_of}
use Rattle.mst_advise.specs.declared.goal.Goal.TheVariants.{Root}
use Rattle.mst_advise.specs.Advising.{LeaveApart, Tries}
use Rattle.mst_sweeping.specs.Sweeping.{Puts}
use Rattle.mst_advise.proofs.Tried.{none_put}
use Rattle.mst_advise.proofs.advising.try_root.Goals as goal

pub returns-then-not-branch : goal.returns-then-not-branch
returns-then-not-branch g c is =
    let err = c.in_ok-make_settings.ensures.refused (ap Ok c.if-not-branch.true) in
    ([], (inl err, inl (err, c.new.ensures.items), refl), none_put g.R.Rows.grew c.args.out.now)

pub returns-then-branch : goal.returns-then-branch
returns-then-branch g c is =
    let old = c.args.network.now in
    let settings = c.args.settings.now in
    let made = c.in_ok-make_settings.ensures.made (ap Ok c.if-not-branch.false) ∙ ap (λ (s : SettledNet). Ok s.net) (sym c.new-settled.ensures) in
    subst (λ found. (rows : List Row) × Tries (Root c.args.tree c.args.bridge.now) old.net is.forest.outcome settings found rows × Puts g.R.Rows.grew c.args.out.now c.put_if_had.new.out rows) c.if-branch.true
    (c.in_ok-put_if_had.ensures old.net old.numbers is made)

pub returns : goal.returns
returns g c is =
    let old = c.args.network.now in
    let settings = c.args.settings.now in
    let s = c.new-settled.result in
    let made = c.in_ok-make_settings.ensures.made (ap Ok c.if-not-branch.false) ∙ ap (λ (s : SettledNet). Ok s.net) (sym c.new-settled.ensures) in
    let said = subst (λ found. (rows : List Row) × Tries (Root c.args.tree c.args.bridge.now) old.net is.forest.outcome settings found rows × Puts g.R.Rows.grew c.args.out.now c.put_if_had.new.out rows) c.if-branch.false
    (c.in_ok-put_if_had.ensures old.net old.numbers is made) in
    let left : LeaveApart old.net c.args.tree c.args.bridge.now settings c.in_ok-names.names.items = record { now = s.net; outcome = outcome_of s; made = record { is = made; is_network = c.known.ensures.of.network; is_outcome = c.known.ensures.is_outcome }; are = c.in_ok-names.ensures } in
    (said.0, (said.1.0, inr left, said.1.1), said.2)

use Rattle.std.proofs.Common.{◌∷◌, [], List, length, Bool, true, false, refl, subst, sym}
use Rattle.std.proofs.lemmas.List.{length-map}
use Rattle.mst_rows.specs.Rows.{Row}
use Rattle.mst_advise.specs.Settings.{alone}
use Rattle.mst_advise.specs.Told.{because_row, none_row}
use Rattle.mst_advise.specs.declared.goal.Goal.TheVariants.{Forward}
use Rattle.mst_advise.specs.Advising.{TriesEach}
use Rattle.mst_sweeping.specs.Sweeping.{Puts}
use Rattle.mst_advise.proofs.Tried.{put_then}
use Rattle.mst_advise.proofs.advising.advise_port.Goals as goal

pub returns-then-branch : goal.returns-then-branch
returns-then-branch g c is =
    subst (λ (found : Bool). (rows : List Row) × TriesEach (Forward c.args.tree c.args.port.now) c.args.network.now.net is.forest.outcome c.args.settings.now found rows × Puts g.R.Rows.grew c.args.out.now c.try_each.new.out rows) c.if-branch.true
    (c.in_ok-try_each.ensures.told is)

pub returns : goal.returns
returns g c is =
    let grew = g.R.Rows.grew in
    let wanted = Forward c.args.tree c.args.port.now in
    let settings = c.args.settings.now in
    let said = subst (λ (found : Bool). (rows : List Row) × TriesEach wanted c.args.network.now.net is.forest.outcome settings found rows × Puts grew c.args.out.now c.try_each.new.out rows) c.if-branch.false
    (c.in_ok-try_each.ensures.told is) in
    let silent = subst (λ (rows : List Row). Puts grew c.args.out.now c.try_each.new.out rows) said.1.1 said.2 in
    let rows : List Row = because_row c.args.hindrance.now [] (length settings) ∷ none_row ∷ [] in (
      rows,
      record {
        fail = said.1.0;
        apart = [];
        are_apart = refl;
        are = λ i. because_row (c.requires.hindrance i) [] (sym (length-map settings alone) i) ∷ none_row ∷ [];
      },
      put_then grew c.args.out.now c.try_each.new.out c.put_nothing.new.out [] rows silent c.in_ok-put_nothing.ensures,
    )

use Rattle.std.proofs.Common.{◌≡◌, ◌==◌, Bool, false, ap, sym, ◌∙◌}
use Rattle.std.specs.Prelude.{if◌then◌else◌}
use Rattle.std.specs.Option.{option_map_or}
use Rattle.mst_outcome.specs.Assignment.{Assignment}
use Rattle.mst_vector.specs.declared.msti.MstiVector.{MstiVector}
use Rattle.mst_forest.specs.Forest.{Forest, msti_settlings}
use Rattle.mst_forest.proofs.Found.{found_some, found_none, not_zero}
use Rattle.mst_forest.proofs.forest.Forest.settlings.Goals as goal

pub returns-in-None : goal.returns-in-None
returns-in-None c =
    let other : (c.args.tree == 0) ≡ false = ap (λ n. n == 0) (sym c.value.ensures.value) ∙ not_zero c.value.result c.if-value-eq0.false in
    ap (λ o. option_map_or (λ (a : Assignment MstiVector). a.settlings) o 0) (found_none c.self.inside.mstis.entries c.args.tree c.in-None.ensures.value)
    ∙ (ap (λ (f : Forest). msti_settlings f c.args.tree) c.self.view_is
    ∙ ap (λ (t : Bool). if t then c.args.self.now.cist.settlings else msti_settlings c.args.self.now c.args.tree) (sym other))

pub returns-in-Some : goal.returns-in-Some
returns-in-Some c =
    let other : (c.args.tree == 0) ≡ false = ap (λ n. n == 0) (sym c.value.ensures.value) ∙ not_zero c.value.result c.if-value-eq0.false in
    c.settlings-in-Some.ensures
    ∙ (ap (λ o. option_map_or (λ (a : Assignment MstiVector). a.settlings) o 0) (found_some c.self.inside.mstis.entries c.args.tree c.in-Some.msti.now c.in-Some.ensures.value)
    ∙ (ap (λ (f : Forest). msti_settlings f c.args.tree) c.self.view_is
    ∙ ap (λ (t : Bool). if t then c.args.self.now.cist.settlings else msti_settlings c.args.self.now c.args.tree) (sym other)))

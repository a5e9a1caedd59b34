use Rattle.std.proofs.Common.{◌≡◌, ◌==◌, Bool, false, ap, sym, ◌∙◌}
use Rattle.std.specs.Prelude.{if◌then◌else◌}
use Rattle.std.specs.Option.{option_and_then}
use Rattle.mst_outcome.specs.Assignment.{Assignment, designated_of}
use Rattle.mst_vector.specs.declared.msti.MstiVector.{MstiVector}
use Rattle.mst_forest.specs.Forest.{Forest, msti_designated}
use Rattle.mst_forest.proofs.Found.{found_some, found_none, not_zero}
use Rattle.mst_forest.proofs.forest.Forest.designated.Goals as goal

pub returns-in-None : goal.returns-in-None
returns-in-None c =
    let other : (c.args.tree == 0) ≡ false = ap (λ n. n == 0) (sym c.value.ensures.value) ∙ not_zero c.value.result c.if-value-eq0.false in
    ap (option_and_then (λ (a : Assignment MstiVector). designated_of a c.args.lan)) (found_none c.self.inside.mstis.entries c.args.tree c.in-None.ensures.value)
    ∙ (ap (λ (f : Forest). msti_designated f c.args.tree c.args.lan) c.self.view_is
    ∙ ap (λ (t : Bool). if t then designated_of c.args.self.now.cist c.args.lan else msti_designated c.args.self.now c.args.tree c.args.lan) (sym other))

pub returns-in-Some : goal.returns-in-Some
returns-in-Some c =
    let other : (c.args.tree == 0) ≡ false = ap (λ n. n == 0) (sym c.value.ensures.value) ∙ not_zero c.value.result c.if-value-eq0.false in
    c.designated-in-Some.ensures
    ∙ (ap (option_and_then (λ (a : Assignment MstiVector). designated_of a c.args.lan)) (found_some c.self.inside.mstis.entries c.args.tree c.in-Some.msti.now c.in-Some.ensures.value)
    ∙ (ap (λ (f : Forest). msti_designated f c.args.tree c.args.lan) c.self.view_is
    ∙ ap (λ (t : Bool). if t then designated_of c.args.self.now.cist c.args.lan else msti_designated c.args.self.now c.args.tree c.args.lan) (sym other)))

use Rattle.std.proofs.Common.{ap, ◌∙◌}
use Rattle.std.specs.Option.{option_and_then}
use Rattle.mst_outcome.specs.Assignment.{Assignment, vector_of}
use Rattle.mst_vector.specs.declared.msti.MstiVector.{MstiVector}
use Rattle.mst_forest.specs.Forest.{Forest, msti_vector}
use Rattle.mst_forest.proofs.Found.{found_some, found_none}
use Rattle.mst_forest.proofs.forest.Forest.msti.Goals as goal

pub returns-in-None : goal.returns-in-None
returns-in-None c =
    ap (option_and_then (λ (a : Assignment MstiVector). vector_of a c.args.bridge)) (found_none c.self.inside.mstis.entries c.args.tree c.in-None.ensures.value)
    ∙ ap (λ (f : Forest). msti_vector f c.args.tree c.args.bridge) c.self.view_is

pub returns-in-Some : goal.returns-in-Some
returns-in-Some c =
    c.vector.ensures
    ∙ (ap (option_and_then (λ (a : Assignment MstiVector). vector_of a c.args.bridge)) (found_some c.self.inside.mstis.entries c.args.tree c.in-Some.msti.now c.in-Some.ensures.value)
    ∙ ap (λ (f : Forest). msti_vector f c.args.tree c.args.bridge) c.self.view_is)

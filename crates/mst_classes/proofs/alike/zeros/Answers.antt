use Rattle.std.proofs.Common.{arith}
use Rattle.std.proofs.lemmas.Result.{IfOk-weaker}
use Rattle.mst_classes.proofs.Starting.{nothing}
use Rattle.mst_classes.proofs.alike.zeros.Goals as goal

pub returns-clause-zeros : goal.returns-clause-zeros
returns-clause-zeros c =
    IfOk-weaker c.vec.result _ _ (λ numbers all. λ i. let e = nothing numbers.items 4094 i (all (λ y e. e)) in omega (arith, e)) c.vec.ensures.items_if_clones_equal

use Rattle.std.proofs.Common.{arith}
use Rattle.mst_graph.proofs.Own.{none_own, one_own}
use Rattle.mst_graph.proofs.labels.own_parents.Goals as goal

pub loop-place-init : goal.loop-place-init
loop-place-init c = rw c.in_ok-parents.ensures.items none_own

pub loop-place-preserved : goal.loop-place-preserved
loop-place-preserved c = rw c.in_ok-push.ensures.items (one_own c.loop-place.place c.loop-place.parents.items c.loop-place.invariant)

pub returns : goal.returns
returns c = record { count = omega arith; own = λ place below. c.loop-place.invariant.own place (omega arith) }

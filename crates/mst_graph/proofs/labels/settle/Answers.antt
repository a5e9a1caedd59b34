use Rattle.std.proofs.Common.{◌<◌, length, arith}
use Rattle.mst_graph.proofs.Parents.{both_changed, one_up, settles, settled}
use Rattle.mst_graph.proofs.labels.settle.Goals as goal

pub loop-place-preserved : goal.loop-place-preserved
loop-place-preserved c =
    let inv = c.loop-place.invariant in
    let parents = c.loop-place.parents in
    let place = c.loop-place.place in
    let below : place < length parents = omega arith in
    record {
      kept = both_changed c.args.parents.now parents _ inv.kept (one_up parents place below inv.kept.parents);
      settled = λ labels have. settles parents place below inv.kept.parents labels (inv.kept.labels labels have) (inv.settled labels have);
    }

pub returns-clause-labels : goal.returns-clause-labels
returns-clause-labels c = λ labels have.
    let inv = c.loop-place.invariant in
    settled c.loop-place.parents labels ((inv.kept.labels labels have).as_long) (λ p h. inv.settled labels have p (omega arith))

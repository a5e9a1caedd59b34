use Rattle.mst_diff.specs.Seen.{pair_of}
use Rattle.mst_diff.proofs.Once.{pair_more}
use Rattle.mst_diff.proofs.roots.pairs.Goals as goal

pub loop-bridge-preserved : goal.loop-bridge-preserved
loop-bridge-preserved c =
    let l = c.loop-bridge in
    let s = c.args.shared.now in
    pair_more (pair_of s.old.now s.new.now s.tree) c.args.both.now l.bridge-index c.bridge-item.result c.loop-bridge-test.true c.bridge-item.is l.pairs.items c.add_pair.new.pairs.items l.invariant (c.in_ok-add_pair.ensures {u = tt})

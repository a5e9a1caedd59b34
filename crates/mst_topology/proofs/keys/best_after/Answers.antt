use Rattle.std.proofs.Common.{◌/◌, sym, length}
use Rattle.mst_topology.specs.Chains.{IsAt}
use Rattle.mst_topology.proofs.Blocks.{best_written, block_first, block_end}
use Rattle.mst_topology.proofs.keys.best_after.Goals as goal

pub returns-then-stays_first : goal.returns-then-stays_first
returns-then-stays_first g c =
    let at : IsAt c.args.entries.now c.args.place c.index-entries-place.result = (c.requires.place, sym c.index-entries-place.is) in
    let stays = c.stays_first.ensures c.if-stays_first.true in
    rw (c.lesser.ensures, ← c.index-entries-place.is)
    (best_written g.M.Metric.rules.order g.met.M.Metric.lawful.total c.args.entries.now c.index-entries-place.result c.args.place at (c.args.place / 32) (block_first c.args.place) (block_end c.args.place) (length c.args.entries.now) c.args.former (c.requires.former stays))

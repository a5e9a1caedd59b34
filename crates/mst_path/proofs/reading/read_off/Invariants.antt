use Rattle.std.proofs.Common.{◌<◌, get_or}
use Rattle.mst_path.specs.Places.{IsBridgeNode}
use Rattle.mst_path.proofs.Following.{IsFollowed}
use Rattle.mst_path.proofs.reading.read_off.Given as goal

-- the hops so far go on to a bridge that is reached
abbrev pub invariant-loop-at : goal.invariant-loop-at
invariant-loop-at l = record {
  followed : IsFollowed l.bridges l.lans l.ways.depths.items l.ways.ups.items l.root l.start l.at l.hops.items;
  on_bridge : IsBridgeNode l.bridges l.lans l.at;
  reached : 0 < get_or l.ways.depths.items l.at 0;
}

-- each hop leads to a bridge that lies less deep
abbrev pub decreases-loop-at : goal.decreases-loop-at
decreases-loop-at l = get_or l.ways.depths.items l.at 0

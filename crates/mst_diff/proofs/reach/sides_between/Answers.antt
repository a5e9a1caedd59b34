use Rattle.mst_vlan.proofs.forest_lemmas.SettledNet.{known_of}
use Rattle.mst_diff.proofs.reach.sides_between.Goals as goal

pub new-requires : goal.new-requires
new-requires c = known_of c.args.old.now c.known.ensures c.view.result.now c.forest.result.now c.view.ensures c.forest.ensures

pub new-requires-2 : goal.new-requires-2
new-requires-2 c = known_of c.args.new.now c.known-2.ensures c.view-2.result.now c.forest-2.result.now c.view-2.ensures c.forest-2.ensures

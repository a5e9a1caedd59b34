use Rattle.std.proofs.Common.{◌≡◌, ℕ, take}
use Rattle.mst_forest.specs.topology.Places.{in_map}
use Rattle.mst_trees.specs.Wirings.{own_in}
use Rattle.mst_trees.proofs.OwnSettings.{noted_of}
use Rattle.mst_trees.proofs.own.own_settings.Given as goal

-- the settings of the ports before the next are noted
abbrev pub invariant-loop-port : goal.invariant-loop-port
invariant-loop-port l = (tree k : ℕ) → in_map (own_in l.own.entries tree) k ≡ noted_of l.view tree (take l.port-index l.port-items) k

use Rattle.std.proofs.Common.{◌≡◌, ◌+◌, length, map, take}
use Rattle.std.specs.List.{AllZip}
use Rattle.mst_net.specs.tables.Tables.{Net, Numbers}
use Rattle.mst_vlan.specs.forest.Agrees.{AreOf}
use Rattle.mst_vlan.specs.forest.Forest.{IsForest}
use Rattle.mst_sweep.specs.Baseline.{AreHomes}
use Rattle.mst_sweep.proofs.baseline.homes_at.Given as goal

-- the homes of the places so far
abbrev pub invariant-loop-place : goal.invariant-loop-place
invariant-loop-place l = record {
  as_long : length l.homes.items ≡ l.place-index;
  homes : (net : Net) (k : Numbers) (is : IsForest net k l.carriage.forest) → AreOf net k l.carriage.view l.carriage.forest.regions
      → AllZip (λ place homes. AreHomes net k is.outcome (place + 1) homes) (take l.place-index l.places) (map (λ h. h.entries) l.homes.items);
}

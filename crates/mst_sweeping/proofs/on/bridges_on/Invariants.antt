use Rattle.std.proofs.Common.{◌≡◌, ◌&&◌, ℕ, List, take}
use Rattle.std.specs.HashSet.{contains}
use Rattle.std.specs.List.{list_any}
use Rattle.mst_net.specs.tables.Seen.{bridge_row}
use Rattle.mst_view.specs.Aggregation.{same_name}
use Rattle.mst_sweeping.proofs.on.bridges_on.Given as goal

-- those of the bridges so far
abbrev pub invariant-loop-bridge : goal.invariant-loop-bridge
invariant-loop-bridge l = (name : List ℕ) → contains same_name l.on name ≡ list_any (λ b. (bridge_row b.bridge).is_on && same_name b.name name) (take l.bridge-index l.view.bridges)

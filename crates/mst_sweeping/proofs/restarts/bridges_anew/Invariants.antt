use Rattle.std.proofs.Common.{◌≡◌, ◌&&◌, ℕ, List, take}
use Rattle.std.specs.HashSet.{contains}
use Rattle.std.specs.List.{list_any}
use Rattle.mst_view.specs.Aggregation.{same_name}
use Rattle.mst_sweeping.specs.Seen.{seen_anew}
use Rattle.mst_sweeping.proofs.restarts.bridges_anew.Given as goal

-- those of the bridges so far
abbrev pub invariant-loop-bridge : goal.invariant-loop-bridge
invariant-loop-bridge l = (name : List ℕ) → contains same_name l.anew name ≡ list_any (λ bridge. seen_anew l.old l.new bridge && same_name bridge.old.name name) (take l.bridge-index l.both)

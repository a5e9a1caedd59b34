use Rattle.std.proofs.Common.{◌≡◌, ℕ, nat_eq, take}
use Rattle.indexmap.specs.IndexMap.{get}
use Rattle.mst_text.specs.Held.{name_with}
use Rattle.mst_text.proofs.holders.names_by_mac.Given as goal

-- those of the bridges so far
abbrev pub invariant-loop-bridge : goal.invariant-loop-bridge
invariant-loop-bridge l = (mac : ℕ) → get nat_eq l.names mac ≡ name_with (take l.bridge-index l.bridges) mac

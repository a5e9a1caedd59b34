use Rattle.std.proofs.Common.{◌≡◌, ℕ, ◌+◌, ◌<◌, false, length, get_or}
use Rattle.mst_vlan.specs.Carried.{CarryAlike}
use Rattle.mst_vlan.proofs.comparing.by_places.Given as goal

-- the VIDs so far have their flags
abbrev pub invariant-loop-place : goal.invariant-loop-place
invariant-loop-place l = record {
  as_long : length l.flags.items ≡ l.place-index;
  alike : (i : ℕ) → i < l.place-index → get_or l.flags.items i false ≡ false → CarryAlike l.old l.new (get_or l.places i 0 + 1);
}

use Rattle.std.proofs.Common.{◌≡◌, ℕ, ◌<◌, length}
use Rattle.mst_topology.specs.Places.{in_map}
use Rattle.mst_topology.specs.Chains.{IsAt}
use Rattle.mst_topology.specs.Slots.{IsSlots, HasRoom}
use Rattle.mst_topology.proofs.slots.Slots.fill.Given as goal

abbrev pub invariant-loop-place : goal.invariant-loop-place
invariant-loop-place g l = record {
  slots : IsSlots (in_map l.self-inside.places) l.self-inside.entries.items;
  filled : (k n : ℕ) (x : g.row.T.Denot) → k < l.place → IsAt l.self-inside.entries.items k (n, x) → x ≡ l.value;
  rooms : (n : ℕ) → HasRoom l.initial.self-inside.entries.items n → HasRoom l.self-inside.entries.items n;
  back : (n : ℕ) → HasRoom l.self-inside.entries.items n → HasRoom l.initial.self-inside.entries.items n;
  len : length l.self-inside.entries.items ≡ length l.initial.self-inside.entries.items;
}

use Rattle.std.proofs.Common.{◌≡◌, ℕ, Some, None, nat_eq, cond, take}
use Rattle.std.specs.List.{list_any}
use Rattle.std.specs.Option.{option_or}
use Rattle.indexmap.specs.IndexMap.{get}
use Rattle.mst_sweep.proofs.homes.add_island.Given as goal

-- the places after the bridges so far
abbrev pub invariant-loop-bridge : goal.invariant-loop-bridge
invariant-loop-bridge l = (q : ℕ) → get nat_eq l.homes q ≡ option_or (get nat_eq l.fn.homes q) (cond (list_any (nat_eq q) (take l.bridge-index l.bridges)) (Some l.place) None)

use Rattle.std.proofs.Common.{◌≡◌, ℕ, nat_eq, take}
use Rattle.indexmap.specs.IndexMap.{get}
use Rattle.mst_sweep.specs.Seen.{seen_home}
use Rattle.mst_sweep.proofs.homes.places.Given as goal

-- the places of the islands so far
abbrev pub invariant-loop-place : goal.invariant-loop-place
invariant-loop-place l = (q : ℕ) → get nat_eq l.homes q ≡ seen_home (take l.place l.islands) q

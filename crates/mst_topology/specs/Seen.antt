-- A set of numbers by marks: those with the mark of this round are in it.
use Rattle.std.specs.Prelude.{◌≡◌, ℕ, ◌+◌, ◌<◌, ◌^◌, List, Some}
use Rattle.mst_topology.specs.Places.{in_map}

-- the numbers that have room with the rounds in which they were put in, and this round
pub record Marks : Type 0 where
  pub marks : List (ℕ × ℕ)
  pub round : ℕ

-- the number is in the set
abbrev pub IsSeen : Marks → ℕ → Type 0
IsSeen s n = (in_map s.marks n ≡ Some s.round) × (s.round + 1 < 2 ^ 64)

-- no number is
abbrev pub IsEmpty : Marks → Type 0
IsEmpty s = (n : ℕ) → IsSeen s n → ⊥

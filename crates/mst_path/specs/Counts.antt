-- Hops to a root, by how deep nodes lie below it.
use Rattle.std.specs.Prelude.{◌≡◌, ◌-◌, ◌/◌, ◌==◌, ℕ, List, Option, None, Some, map, slice_index, if◌then◌else◌}

-- from a bridge whose node lies so deep, where 0 says that it isn't reached. The root lies at 1, and a hop leads two nodes up
abbrev pub hops_at : ℕ → Option ℕ
hops_at depth = if depth == 0 then None else Some ((depth - 1) / 2)

-- from each of these bridges' nodes
abbrev pub AreCounted : List ℕ → List ℕ → List (Option ℕ) → Type 0
AreCounted bridges depths counts = counts ≡ map (λ x. hops_at (slice_index depths x)) bridges

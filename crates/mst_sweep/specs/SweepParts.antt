-- Equal parts of a sweep: runs of the failures of a network, one after another.
use Rattle.std.specs.Prelude.{ℕ, ◌-◌, ◌*◌, ◌/◌, ◌≤◌, ◌&&◌, List, [], ◌∷◌, length, take, drop, nat_le, Option, Some, None, if◌then◌else◌}
use Rattle.std.specs.List.{AllZip, range_with_len}
use Rattle.mst_rows.specs.Rows.{Row}
use Rattle.mst_net.specs.tables.Tables.{Net}
use Rattle.mst_vlan.specs.forest.Outcome.{Outcome}
use Rattle.mst_sweep.specs.Failures.{failures}
use Rattle.mst_sweep.specs.SweepText.{IsSweepOf}

-- one of so many parts, by its number
pub record PartOf : Type 0 where
  pub number : ℕ
  pub count : ℕ

-- they are numbered from 1 on, and 65,536 at most
abbrev pub IsPart : PartOf → Type 0
IsPart part = (1 ≤ part.number) × (part.number ≤ part.count) × (part.count ≤ 65536)

abbrev pub part_at : ℕ → ℕ → Option PartOf
part_at number count = if nat_le 1 number && (nat_le number count && nat_le count 65536) then Some (record { number = number; count = count }) else None

-- the only part of one is the whole
abbrev pub whole_part : PartOf
whole_part = record { number = 1; count = 1 }

-- the place in a list of this length at which so many of its equal parts end
abbrev pub end_of : ℕ → ℕ → ℕ → ℕ
end_of parts count len = parts * len / count

-- a part of a list: from the end of the part before it to its own
abbrev pub part_of : {A : Type 0} → PartOf → List A → List A
part_of part all =
    let begin = end_of (part.number - 1) part.count (length all) in
    take (end_of part.number part.count (length all) - begin) (drop begin all)

-- these are the rows of a part of the failures of a network, and this is the number of those of it that cut some VID
abbrev pub IsSweepPart : PartOf → Net → Outcome → List Row → ℕ → Type 0
IsSweepPart part net o rows cuts = IsSweepOf net o (part_of part (failures net)) rows cuts

-- ---- the parts together
-- what is told of a part: its rows, and how many of its failures cut some VID
pub record ToldOfPart : Type 0 where
  pub rows : List Row
  pub cuts : ℕ

-- this is told of each of so many parts, by their numbers
abbrev pub AreSweepParts : Net → Outcome → ℕ → List ToldOfPart → Type 0
AreSweepParts net o count parts = AllZip (λ number part. IsSweepPart (record { number = number; count = count }) net o part.rows part.cuts) (range_with_len 1 count) parts

-- rows without the last
abbrev pub but_last_row : List Row → List Row
but_last_row [] = []
but_last_row (row ∷ []) = []
but_last_row (row ∷ next ∷ others) = row ∷ but_last_row (next ∷ others)

use Rattle.std.proofs.Common.{◌≡◌, ℕ, List, filter}
use Rattle.std.specs.List.{range_with_len}
use Rattle.mst_view.specs.Aggregation.{same_name}
use Rattle.mst_summary.specs.Grouped.{group_at}
use Rattle.mst_summary.specs.Places.{is_on}
use Rattle.mst_summary.proofs.places.places_by_lan.Given as goal

-- the places before the next
abbrev pub invariant-loop-place : goal.invariant-loop-place
invariant-loop-place l = (lan : List ℕ) → group_at same_name l.places lan ≡ filter (is_on l.view lan) (range_with_len 0 l.place)

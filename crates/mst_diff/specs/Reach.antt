-- The rows of VIDs whose islands are other ones.
use Rattle.std.specs.Prelude.{◌≡◌, ℕ, ◌||◌, Bool, true, List, [], ◌∷◌, map, filter, not, if◌then◌else◌}
use Rattle.std.specs.Cmp.Lexicographic.{pointwise}
use Rattle.std.specs.List.{count_by, flat_map, list_any}
use Rattle.mst_ids.specs.Vids.{is_vid, runs_from, set_where}
use Rattle.mst_kinds.specs.declared.change_line.ChangeLine.TheVariants as change_line
use Rattle.mst_kinds.specs.declared.kind.Kind.TheVariants as kind
use Rattle.mst_graph.specs.Groups.{AreGroups}
use Rattle.mst_graph.specs.Islands.{Island}
use Rattle.mst_tables.specs.Tables.{Net}
use Rattle.mst_view.specs.Aggregation.{same_name}
use Rattle.mst_view.specs.Trees.{is_among}
use Rattle.mst_rows.specs.Cells as cells
use Rattle.mst_rows.specs.Rows.{Row, row_of}
use Rattle.mst_vlan.specs.forest.Outcome.{Outcome}
use Rattle.mst_vlan.specs.Reach.{AreIslandsOf}
use Rattle.mst_vlan.specs.classes.AllVids.{all_vids}
use Rattle.mst_graph.specs.Lists.{has_any}

-- the bridges of each island that has one
abbrev pub island_bridges : List (Island (List ℕ) (List ℕ)) → List (List (List ℕ))
island_bridges islands = map (λ i. i.bridges) (filter (λ i. has_any i.bridges) islands)

abbrev pub same_names : List (List ℕ) → List (List ℕ) → Bool
same_names = pointwise same_name

-- the islands of one list, by their bridges, that aren't in the other
abbrev pub without : List (List (List ℕ)) → List (List (List ℕ)) → List (List (List ℕ))
without xs ys = filter (λ x. not (list_any (λ y. same_names y x) ys)) xs

-- the sides of a VID: of the islands before those that aren't there afterwards, and of the islands afterwards those that
-- weren't there before
pub record Sides : Type 0 where
  pub old : List (List (List ℕ))
  pub new : List (List (List ℕ))

abbrev pub sides_of : List (List (List ℕ)) → List (List (List ℕ)) → Sides
sides_of olds news = record { old = without olds news; new = without news olds }

-- nothing on either side
abbrev pub no_sides : Sides
no_sides = record { old = []; new = [] }

-- there is an island on one of them
abbrev pub differ : Sides → Bool
differ s = has_any s.old || has_any s.new

-- these are the sides of a VID
abbrev pub AreSides : Net → Outcome → Net → Outcome → ℕ → Sides → Type 0
AreSides a o b p vid sides =
    (olds news : List (Island (List ℕ) (List ℕ))) × AreIslandsOf a o vid olds × AreIslandsOf b p vid news × (sides ≡ sides_of (island_bridges olds) (island_bridges news))

-- `reach VIDS OLD -> NEW`: VIDs by their longest runs, and their sides
abbrev pub reach_row : List (ℕ × ℕ) → Sides → Row
reach_row runs s = row_of (kind.Change change_line.Reach) (cells.vids runs ∷ cells.groups s.old ∷ cells.groups s.new ∷ [])

-- of a group of VIDs that have these sides, if there is an island
abbrev pub reach_unless : List ℕ → Sides → List Row
reach_unless group s = if differ s then reach_row (runs_from 0 (set_where (is_among group))) s ∷ [] else []

abbrev pub group_rows : (ℕ → Sides) → List ℕ → List Row
group_rows sides [] = []
group_rows sides (vid ∷ others) = reach_unless (vid ∷ others) (sides vid)

-- these are the rows of the groups of VIDs of equal sides, by the least VID, and this the number of VIDs in them
pub record AreReachRows (a : Net) (o : Outcome) (b : Net) (p : Outcome) (rows : List Row) (vlans : ℕ) : Type 0 where
  pub sides : ℕ → Sides
  pub are_sides : (vid : ℕ) → is_vid vid ≡ true → AreSides a o b p vid (sides vid)
  pub groups : List (List ℕ)
  pub are_groups : AreGroups (λ x y. sides x ≡ sides y) all_vids groups
  pub is : rows ≡ flat_map (group_rows sides) groups
  pub counted : vlans ≡ count_by (λ vid. differ (sides vid)) all_vids

-- What differs between two views with their forests.
use Rattle.std.specs.Prelude.{◌≡◌, ℕ, ◌+◌, ◌-◌, ◌<◌, Bool, false, length, List, [], ◌∷◌, Option, None, Some, map, filter, filter_map, slice_index, slice_index_or, if◌then◌else◌}
use Rattle.std.specs.List.{list_any}
use Rattle.mst_tables.specs.Seen.{bridge_row}
use Rattle.mst_tables.specs.Tables.{Net}
use Rattle.mst_view.specs.Viewed.{Viewed}
use Rattle.mst_vlan.specs.forest.config.Regions.{first_of_region}
use Rattle.mst_vlan.specs.forest.Settled.{SettledNet, outcome_of}
use Rattle.mst_vlan.specs.declared.island.Island.{Island}
use Rattle.mst_vlan.specs.Seen.{seen_bridge}
use Rattle.mst_changes.specs.PortChanges.{port_change_rows}
use Rattle.mst_kinds.specs.declared.change_line.ChangeLine.TheVariants as change_line
use Rattle.mst_kinds.specs.declared.kind.Kind.TheVariants as kind
use Rattle.mst_rows.specs.Cells as cells
use Rattle.mst_rows.specs.Rows.{Row, region, row_of}
use Rattle.mst_facts.specs.declared.both.Both.{Both}
use Rattle.mst_diff.specs.declared.roots.RootPair.{RootPair}
use Rattle.mst_diff.specs.declared.roots.RootChange.{RootChange}
use Rattle.mst_diff.specs.declared.diff.Differing.{Differing}
use Rattle.mst_diff.specs.declared.regions.RegionChange.{RegionChange}
use Rattle.mst_diff.specs.DiffText.{AreDiffRowsOf}
use Rattle.mst_diff.specs.Regions.{region_unless}
use Rattle.mst_diff.specs.Roots.{root_pair, root_row, same_pair, tree_roots}
use Rattle.mst_graph.specs.Lists.{with_new, has_any}
use Rattle.mst_diff.specs.Reach.{no_sides, same_names, AreSides, Sides}
use Rattle.mst_diff.specs.declared.sides.Sides.{Sides as KeptSides}

-- ---- regions

-- the row of a bridge of two networks, by its name
abbrev pub region_of : Net → Net → Both → List Row
region_of a b both = region_unless both.old.name (bridge_row both.old.bridge) (first_of_region a both.old.name) (bridge_row both.new.bridge) (first_of_region b both.old.name)

-- the row of a bridge whose region is another one
abbrev pub row_of_region : RegionChange → Row
row_of_region c = row_of (kind.Change change_line.Region) (cells.word c.bridge ∷ cells.object (region c.old.configuration c.old.first) ∷ cells.object (region c.new.configuration c.new.first) ∷ [])

-- ---- roots
-- the row of a tree of which a root is another one
abbrev pub row_of_root : RootChange → Row
row_of_root c = root_row c.tree c.pair

-- the names before and after of the root of a bridge of two networks, by its name
abbrev pub pair_of : SettledNet → SettledNet → ℕ → Both → Option RootPair
pair_of s t tree both = root_pair s.net (outcome_of s) t.net (outcome_of t) tree both.old.name

-- the rows of a tree
abbrev pub roots_of : SettledNet → SettledNet → ℕ → List Row
roots_of s t = tree_roots s.net (outcome_of s) t.net (outcome_of t)

-- pairs with one more, if there is one
abbrev pub with_pair : List RootPair → Option RootPair → List RootPair
with_pair kept None = kept
with_pair kept (Some pair) = with_new same_pair kept pair

-- ---- ports
abbrev pub ports_of : SettledNet → SettledNet → ℕ → List Row
ports_of s t = port_change_rows s.net (outcome_of s) t.net (outcome_of t)

-- ---- islands
abbrev pub AreSidesOf : SettledNet → SettledNet → ℕ → Sides → Type 0
AreSidesOf s t = AreSides s.net (outcome_of s) t.net (outcome_of t)

-- the sides that are kept
abbrev pub seen_sides : KeptSides → Sides
seen_sides s = record { old = map (λ group. group.items) s.old.items; new = map (λ group. group.items) s.new.items }

-- those of the number that a VID has
abbrev pub sides_at : List ℕ → List Sides → ℕ → Sides
sides_at numbers sides vid = slice_index_or sides (slice_index numbers (vid - 1)) (record { old = []; new = [] })

-- the bridges of each island that has one
abbrev pub seen_groups : Viewed → List Island → List (List (List ℕ))
seen_groups v islands = map (λ i. filter_map (seen_bridge v) i.bridges) (filter (λ i. has_any i.bridges) islands)

abbrev pub one_group : Viewed → Island → List (List (List ℕ))
one_group v i = if has_any i.bridges then filter_map (seen_bridge v) i.bridges ∷ [] else []

-- an island, unless it is among others
abbrev pub apart_group : List (List (List ℕ)) → List (List ℕ) → List (List (List ℕ))
apart_group others group = if list_any (λ other. same_names other group) others then [] else group ∷ []

-- the bridges that are on and the logical LANs that are up, by name
abbrev pub seen_names_on : Viewed → List (List ℕ)
seen_names_on v = map (λ b. b.name) (filter (λ b. (bridge_row b.bridge).is_on) v.bridges)

abbrev pub seen_names_up : Viewed → List (List ℕ)
seen_names_up v = map (λ l. l.name) (filter (λ l. l.is_up) v.lans)

-- the same ones are in two views
pub record HaveSameEnds (v w : Viewed) : Type 0 where
  pub bridges : seen_names_on v ≡ seen_names_on w
  pub lans : seen_names_up v ≡ seen_names_up w

-- for each of these VIDs, counted from 0, there is a flag, and where it is false there is nothing on either side of the VID
pub record TellUnlike (s t : SettledNet) (places : List ℕ) (flags : List Bool) : Type 0 where
  pub as_long : length flags ≡ length places
  pub none : (i : ℕ) → i < length places → slice_index_or flags i false ≡ false → AreSidesOf s t (slice_index places i + 1) no_sides

-- ---- all rows
-- from one settled network to another
abbrev pub AreDiffRows : SettledNet → SettledNet → Differing → List Row → Type 0
AreDiffRows s t = AreDiffRowsOf s.net (outcome_of s) t.net (outcome_of t)

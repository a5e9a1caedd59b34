-- The rows of how many islands VIDs have.
use Rattle.std.specs.Prelude.{◌≡◌, ℕ, true, List, [], ◌∷◌}
use Rattle.std.specs.List.{count_by, flat_map}
use Rattle.mst_ids.specs.Vids.{is_vid, runs_from, set_where}
use Rattle.mst_kinds.specs.declared.kind.Kind.TheVariants as kind
use Rattle.mst_kinds.specs.declared.summary_line.SummaryLine.TheVariants as summary_line
use Rattle.mst_rows.specs.Cells.{number, vids}
use Rattle.mst_rows.specs.Rows.{Row, row_of}
use Rattle.mst_graph.specs.Groups.{AreGroups}
use Rattle.mst_graph.specs.Islands.{Island}
use Rattle.mst_tables.specs.Tables.{Net}
use Rattle.mst_view.specs.Trees.{is_among}
use Rattle.mst_vlan.specs.forest.Outcome.{Outcome}
use Rattle.mst_vlan.specs.Reach.{AreIslandsOf}
use Rattle.mst_vlan.specs.classes.AllVids.{all_vids}
use Rattle.mst_graph.specs.Lists.{has_any}

-- how many islands have a bridge
abbrev pub with_bridge : List (Island (List ℕ) (List ℕ)) → ℕ
with_bridge islands = count_by (λ i. has_any i.bridges) islands

-- this is how many a VID has
abbrev pub HasIslands : Net → Outcome → ℕ → ℕ → Type 0
HasIslands net o vid count = (islands : List (Island (List ℕ) (List ℕ))) × AreIslandsOf net o vid islands × (count ≡ with_bridge islands)

-- `vlan VIDS islands N`, of a group of VIDs that have this many
abbrev pub islands_row : List ℕ → ℕ → Row
islands_row group count = row_of (kind.Summary summary_line.Vlan) (vids (runs_from 0 (set_where (is_among group))) ∷ number count ∷ [])

abbrev pub group_rows : (ℕ → ℕ) → List ℕ → List Row
group_rows count [] = []
group_rows count (vid ∷ others) = islands_row (vid ∷ others) (count vid) ∷ []

-- these are the rows of the groups of VIDs that have equally many, by the least VID
pub record AreVlanRows (net : Net) (o : Outcome) (rows : List Row) : Type 0 where
  pub count : ℕ → ℕ
  pub counted : (vid : ℕ) → is_vid vid ≡ true → HasIslands net o vid (count vid)
  pub groups : List (List ℕ)
  pub are_groups : AreGroups (λ x y. count x ≡ count y) all_vids groups
  pub is : rows ≡ flat_map (group_rows count) groups

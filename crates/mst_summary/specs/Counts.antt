-- The row of how much there is.
use Rattle.std.specs.Prelude.{ℕ, Bool, List, [], ◌∷◌, length, filter}
use Rattle.std.specs.List.{count_by, list_any}
use Rattle.std.specs.FinMap as fin
use Rattle.mst_kinds.specs.declared.kind.Kind.TheVariants as kind
use Rattle.mst_kinds.specs.declared.summary_line.SummaryLine.TheVariants as summary_line
use Rattle.mst_rows.specs.Cells.{number}
use Rattle.mst_rows.specs.Rows.{Row, row_of}
use Rattle.mst_tables.specs.Tables.{Net}
use Rattle.mst_view.specs.Aggregation.{same_name}
use Rattle.mst_view.specs.View.{view_ports, bridge_names}
use Rattle.mst_vlan.specs.forest.config.Regions.{first_of_region}
use Rattle.mst_vlan.specs.forest.Msti.{has_tree}
use Rattle.mst_vlan.specs.forest.AllTrees.{all_trees}
use Rattle.mst_summary.specs.declared.counts.Counts.{Counts}

-- a bridge is the first of its region: each region has one
abbrev pub is_first : Net → List ℕ → Bool
is_first net name = same_name (first_of_region net name) name

-- some bridge has the tree. Each has tree 0, so that one counts where there is a bridge
abbrev pub is_used : Net → ℕ → Bool
is_used net tree = list_any (has_tree net tree) (bridge_names net)

-- these trees, rising
abbrev pub used_trees : Net → List ℕ
used_trees net = filter (is_used net) all_trees

-- bridges, those that are on, logical ports, those that are enabled, regions of all bridges, and trees
abbrev pub counts_of : Net → Counts
counts_of net = record {
  bridges = length (fin.entries net.bridges);
  on = count_by (λ e. e.1.is_on) (fin.entries net.bridges);
  ports = length (view_ports net);
  enabled = count_by (λ p. p.is_enabled) (view_ports net);
  regions = count_by (is_first net) (bridge_names net);
  trees = length (used_trees net);
}

-- `bridges N on N ports N enabled N regions N trees N`
abbrev pub counts_row : Counts → Row
counts_row c =
    row_of (kind.Summary summary_line.Counts) (number c.bridges ∷ number c.on ∷ number c.ports ∷ number c.enabled ∷ number c.regions ∷ number c.trees ∷ [])

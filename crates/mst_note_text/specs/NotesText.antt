-- The notes on a network: where limits of hops or age would bind, which path costs no BPDU can hold, and which ports
-- have a restricted role. A note is a row.
use Rattle.std.specs.Prelude.{◌≡◌, ℕ, ◌==◌, List, [], ◌∷◌, ◌++◌, nat_le, nat_lt, if◌then◌else◌}
use Rattle.std.specs.List.{flat_map, range_with_len}
use Rattle.std.specs.Option.{option_map_or}
use Rattle.std.specs.FinMap as fin
use Rattle.mst_ids.specs.declared.name.PortName.{PortName}
use Rattle.mst_kinds.specs.declared.kind.Kind.TheVariants as kind
use Rattle.mst_kinds.specs.declared.note_line.NoteLine.TheVariants as note_line
use Rattle.mst_vector.specs.declared.cist.CistVector.{CistVector}
use Rattle.mst_vector.specs.declared.msti.MstiVector.{MstiVector}
use Rattle.mst_tables.specs.Tables.{Net}
use Rattle.mst_rows.specs.Cells.{word, number}
use Rattle.mst_rows.specs.Rows.{Row, row_of}
use Rattle.mst_view.specs.View.{LogicalPort, view_ports}
use Rattle.mst_roles.specs.forest.Outcome.{Outcome, trees_of}
use Rattle.mst_note_text.specs.AreDepths.{TreeDepths, AreDepths}

-- hops bind where a bridge is at least as deep as the Max Hops of its regional root
abbrev pub hops_note : ℕ → List ℕ → ℕ → ℕ → List Row
hops_note tree name depth limit = if nat_le limit depth then row_of (kind.Note note_line.Hops) (number tree ∷ word name ∷ number depth ∷ number limit ∷ []) ∷ [] else []

-- age binds where a bridge is deeper than the Max Age of the root
abbrev pub age_note : List ℕ → ℕ → ℕ → List Row
age_note name depth limit = if nat_lt limit depth then row_of (kind.Note note_line.Age) (number 0 ∷ word name ∷ number depth ∷ number limit ∷ []) ∷ [] else []

-- the greatest path cost that 32 bits hold
abbrev pub greatest_cost : ℕ
greatest_cost = 4_294_967_295

-- an external and an internal root path cost above that
abbrev pub external_note : ℕ → List ℕ → ℕ → List Row
external_note tree name cost = if nat_lt greatest_cost cost then row_of (kind.Note note_line.ExternalCost) (number tree ∷ word name ∷ number cost ∷ []) ∷ [] else []

abbrev pub internal_note : ℕ → List ℕ → ℕ → List Row
internal_note tree name cost = if nat_lt greatest_cost cost then row_of (kind.Note note_line.InternalCost) (number tree ∷ word name ∷ number cost ∷ []) ∷ [] else []

-- by the Max Hops of the regional root in the tree, and by the Max Age of the root of the CIST
abbrev pub hops_notes : Net → TreeDepths → ℕ → List ℕ → List Row
hops_notes net d tree name = option_map_or (λ row. hops_note tree name (d.internal tree name) row.max_hops) (fin.get net.bridges (d.regional_root tree name)) []

abbrev pub age_notes : Net → TreeDepths → List ℕ → List Row
age_notes net d name = option_map_or (λ row. age_note name (d.external name) row.max_age) (fin.get net.bridges (d.root name)) []

-- the notes on a bridge in the CIST and in an MSTI, by its root priority vector there
abbrev pub cist_notes : Net → TreeDepths → List ℕ → CistVector → List Row
cist_notes net d name x = hops_notes net d 0 name ++ age_notes net d name ++ external_note 0 name x.external ++ internal_note 0 name x.internal

abbrev pub msti_notes : Net → TreeDepths → ℕ → List ℕ → MstiVector → List Row
msti_notes net d tree name x = hops_notes net d tree name ++ internal_note tree name x.internal

-- on a bridge in any tree. One that is off or hasn't the tree has no vector there, and so no notes
abbrev pub bridge_notes : Net → Outcome → TreeDepths → ℕ → List ℕ → List Row
bridge_notes net o d tree name =
    if tree == 0 then option_map_or (cist_notes net d name) (o.cist.vector name) [] else option_map_or (msti_notes net d tree name) ((o.msti tree).vector name) []

-- on a tree, by its bridges in byte order of names. A tree that no bridge has gives none
abbrev pub tree_notes : Net → Outcome → TreeDepths → ℕ → List Row
tree_notes net o d tree = flat_map (bridge_notes net o d tree) (fin.keys net.bridges)

-- on all trees from the CIST to MSTI 4094
unfoldable pub trees_notes : Net → Outcome → TreeDepths → List Row
trees_notes net o d = flat_map (tree_notes net o d) (range_with_len 0 4095)

-- the role of a logical port is restricted, whether it is enabled or not
abbrev pub restricted_row : PortName → Row
restricted_row port = row_of (kind.Note note_line.Restricted) (word port.bridge ∷ number port.number ∷ [])

abbrev pub restricted_note : LogicalPort → List Row
restricted_note p = if p.settings.is_restricted then restricted_row p.name ∷ [] else []

-- on the logical ports, by bridge and number
abbrev pub restricted_notes : Net → List Row
restricted_notes net = flat_map restricted_note (view_ports net)

-- on the trees, and after these on the ports
abbrev pub notes_rows : Net → Outcome → TreeDepths → List Row
notes_rows net o d = trees_notes net o d ++ restricted_notes net

-- the notes, by the depths of the bridges
pub record AreNoteRows (net : Net) (o : Outcome) (notes : List Row) : Type 0 where
  pub depths : TreeDepths
  pub are_depths : AreDepths (trees_of net o) depths
  pub is_rows : notes ≡ notes_rows net o depths

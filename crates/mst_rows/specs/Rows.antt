-- Rows, as they are said.
use Rattle.std.specs.Prelude.{◌≡◌, ℕ, List, [], ◌∷◌, Option, Some, None, map, ⊤}
use Rattle.mst_ids.specs.Texts.{bridge_id_text, port_id_text, mac_text}
use Rattle.mst_ids.specs.Vids.{runs_from}
use Rattle.mst_ids.specs.declared.name.PortName.{PortName}
use Rattle.mst_kinds.specs.declared.key.Key.{Key}
use Rattle.mst_kinds.specs.declared.kind.Kind.{Kind}
use Rattle.mst_kinds.specs.declared.part.Part.{Part}
use Rattle.mst_kinds.specs.declared.part.Part.TheVariants as part
use Rattle.mst_rows.specs.declared.value.Vector.{Vector}
use Rattle.mst_rows.specs.declared.value.PromiseTold.{PromiseTold}
use Rattle.mst_rows.specs.declared.value.Value.{Value}
use Rattle.mst_rows.specs.declared.value.Value.TheVariants as value
use Rattle.mst_rows.specs.Cells.{PromiseSaid, Bare, Cell, absent, own, word, number, port, vids, names, ports, trees, groups, active, object, failed_lan, failed_bridge, failed_risk, no_failure, lines, promises}
use Rattle.mst_rows.specs.Objects.{cist_vector, msti_vector, mstp_region, rstp_region}

-- a port, or a bridge's own vector
abbrev pub giver : Option PortName → Cell
giver (Some p) = port p
giver None = own

-- a priority vector, by its root and its external cost if it is one of the CIST
abbrev pub vector : Option (ℕ × ℕ) → Vector → List (Key × Bare)
vector (Some root) v = cist_vector (bridge_id_text root.0) root.1 (bridge_id_text v.regional) v.int (bridge_id_text v.designated) (port_id_text v.port) (port_id_text v.receiver)
vector None v = msti_vector (bridge_id_text v.regional) v.int (bridge_id_text v.designated) (port_id_text v.port) (port_id_text v.receiver)

-- what tells a region, by its name and its revision if it is of kind mstp
abbrev pub region : Option (List ℕ × ℕ) → List ℕ → List (Key × Bare)
region (Some configuration) first = mstp_region configuration.0 configuration.1 first
region None first = rstp_region first

-- a promise, with its words
abbrev pub said : PromiseTold → PromiseSaid
said p = record { line = p.line; promise = p.promise.now; scope = p.scope; is_final = p.is_final; networks = p.networks; holds = p.holds }

abbrev pub cell : Value → Cell
cell value.Absent = absent
cell (value.Word w) = word w.now
cell (value.Name n) = word n.now
cell (value.Number n) = number n
cell (value.BridgeId id) = word (bridge_id_text id)
cell (value.PortId id) = word (port_id_text id)
cell (value.Mac mac) = word (mac_text mac)
cell (value.Port p) = port p.now
cell (value.Vids vs) = vids (runs_from 0 vs.now)
cell (value.Names ns) = names ns.now
cell (value.Ports ps) = ports ps.now
cell (value.Trees ts) = trees ts.now
cell (value.Groups gs) = groups (map (λ g. g.items) gs.now)
cell (value.Active ps) = active ps.now
cell (value.Giver p) = giver p.now
cell (value.Vector v) = object (vector v.now.root v.now)
cell (value.Region r) = object (region r.now.configuration r.now.first)
cell (value.FailedLan n) = failed_lan n.now
cell (value.FailedBridge n) = failed_bridge n.now
cell (value.FailedRisk n) = failed_risk n.now
cell value.NoFailure = no_failure
cell (value.Lines first last) = lines first last
cell (value.Promises ps) = promises (map said ps.now)

-- these values say this, one by one
abbrev pub AreCells : List Value → List Cell → Type 0
AreCells [] [] = ⊤
AreCells [] (c ∷ cs) = ⊥
AreCells (v ∷ vs) [] = ⊥
AreCells (v ∷ vs) (c ∷ cs) = (cell v ≡ c) × AreCells vs cs

-- a row: its kind and what its values say
pub record Row : Type 0 where
  pub kind : Kind
  pub cells : List Cell

abbrev pub row_of : Kind → List Cell → Row
row_of kind cells = record { kind = kind; cells = cells }

-- the value of the next place that has one, and those of the places behind it
abbrev pub first_cell : List Cell → Cell
first_cell [] = absent
first_cell (c ∷ cs) = c

abbrev pub other_cells : List Cell → List Cell
other_cells [] = []
other_cells (c ∷ cs) = cs

-- those that are left behind a part
abbrev pub left_cells : Part → List Cell → List Cell
left_cells (part.Mark m) cs = cs
left_cells (part.Key k) cs = other_cells cs
left_cells (part.Commas k) cs = other_cells cs
left_cells (part.Above k) cs = other_cells cs
left_cells (part.Said k m) cs = cs
left_cells (part.Told k m) cs = cs
left_cells part.Port cs = other_cells cs
left_cells part.AbovePort cs = other_cells cs

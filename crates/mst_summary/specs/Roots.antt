-- The rows of the roots in a tree, in an MSTI of the regional roots.
use Rattle.std.specs.Prelude.{◌≡◌, ℕ, ◌≤◌, ◌==◌, ◌*◌, not, false, List, [], ◌∷◌, Option, None, Some, length, filter, filter_map, fold, nat_lt, if◌then◌else◌}
use Rattle.std.specs.List.{Contains, flat_map}
use Rattle.std.specs.Option.{option_map}
use Rattle.std.specs.FinMap as fin
use Rattle.mst_kinds.specs.declared.kind.Kind.TheVariants as kind
use Rattle.mst_kinds.specs.declared.summary_line.SummaryLine.TheVariants as summary_line
use Rattle.mst_rows.specs.Cells.{absent, word, number}
use Rattle.mst_rows.specs.Rows.{Row, row_of}
use Rattle.mst_tables.specs.Tables.{Net, BridgeRow}
use Rattle.mst_tables.specs.ByTree.{ByTree, by_tree, priority_in}
use Rattle.mst_vlan.specs.forest.InUse.{id_in}
use Rattle.mst_vlan.specs.forest.Outcome.{Outcome}
use Rattle.mst_facts.specs.Roots.{root_of}
use Rattle.mst_graph.specs.Lists.{has_any}
use Rattle.mst_summary.specs.declared.roots.Follower.{Follower}

-- a bridge that names a root in a tree, with its own identifier there and that of its root. One that is off names none
abbrev pub follower : Net → Outcome → ℕ → List ℕ × BridgeRow → Option Follower
follower net o tree e = option_map (λ root. record { name = e.0; id = id_in (by_tree net) tree e.0 e.1; root = root }) (root_of net o tree e.0)

-- all of them, by name
abbrev pub followers : Net → Outcome → ℕ → List Follower
followers net o tree = filter_map (follower net o tree) (fin.entries net.bridges)

-- those that name the root of this identifier
abbrev pub followers_of : ℕ → List Follower → List Follower
followers_of id all = filter (λ f. f.root == id) all

-- the one of the least identifier: of two the one whose identifier is less
abbrev pub with_lesser : Option Follower → Follower → Option Follower
with_lesser None x = Some x
with_lesser (Some least) x = if nat_lt x.id least.id then Some x else Some least

abbrev pub least : List Follower → Option Follower
least all = fold with_lesser None all

-- the next least after the root: the least of those that aren't the root itself
abbrev pub next_of : ℕ → List Follower → Option Follower
next_of id all = least (filter (λ f. not (f.id == id)) all)

-- this is the next after the root of this identifier: one of them, another than the root, and of all others none has a
-- lesser identifier
pub record IsNext (id : ℕ) (all : List Follower) (next : Follower) : Type 0 where
  pub there : Contains all next
  pub other : (next.id == id) ≡ false
  pub least : (f : Follower) → Contains all f → (f.id == id) ≡ false → next.id ≤ f.id

-- the priority of a bridge in a tree as a number, from 0 to 61440
abbrev pub priority_of : ByTree → ℕ → List ℕ → ℕ
priority_of set tree name = priority_in set.priorities name tree * 4096

-- `tree T root B PRIO of N next C PRIO`, of a bridge with this many followers, or `next -` where there is no next
abbrev pub root_row : ByTree → ℕ → List ℕ → ℕ → Option Follower → Row
root_row set tree name count None = row_of (kind.Summary summary_line.RootAlone) (number tree ∷ word name ∷ number (priority_of set tree name) ∷ number count ∷ absent ∷ [])
root_row set tree name count (Some next) =
    row_of (kind.Summary summary_line.Root)
    (number tree ∷ word name ∷ number (priority_of set tree name) ∷ number count ∷ word next.name ∷ number (priority_of set tree next.name) ∷ [])

-- where it has one, by its identifier
abbrev pub group_rows : ByTree → ℕ → List ℕ → ℕ → List Follower → List Row
group_rows set tree name id group = if has_any group then root_row set tree name (length group) (next_of id group) ∷ [] else []

abbrev pub rows_of_root : ByTree → ℕ → List Follower → List ℕ → ℕ → List Row
rows_of_root set tree all name id = group_rows set tree name id (followers_of id all)

-- of each bridge that some bridge names, by name
abbrev pub root_rows : Net → Outcome → ℕ → List Row
root_rows net o tree =
    flat_map (λ e. rows_of_root (by_tree net) tree (followers net o tree) e.0 (id_in (by_tree net) tree e.0 e.1)) (fin.entries net.bridges)

-- What is told of the path that is asked for.
use Rattle.std.specs.Prelude.{◌≡◌, ◌++◌, ◌||◌, Bool, true, false, nat_lt, List, [], Option, None, Some, if◌then◌else◌}
use Rattle.mst_kinds.specs.declared.query.Query.TheVariants.{Path, PathAlways}
use Rattle.mst_net.specs.tables.Tables.{Net}
use Rattle.mst_path.specs.PathRows.{path_rows, trace_cells}
use Rattle.mst_path.specs.Paths.{Hop}
use Rattle.mst_rows.specs.Rows.{Row}
use Rattle.mst_tool.specs.Shown.{question_row}
use Rattle.mst_tracing.specs.Fates.{AreFates, HasPathIn}
use Rattle.mst_tracing.specs.declared.always.Fates.{Fates}
use Rattle.mst_tracing.specs.declared.asked.Asked.{Asked}

-- `path VID A B`, or `path VID A B always`
abbrev pub asked_row : Asked → Row
asked_row asked = question_row (if asked.is_always then PathAlways else Path) (trace_cells asked.trace)

abbrev pub is_none : Option (List Hop) → Bool
is_none None = true
is_none (Some hops) = false

-- what is told behind a path: nothing, or where that is asked what becomes of it after each single failure; and whether there is no path, now
-- or after some of them
pub record AreAlways (net : Net) (asked : Asked) (path : Option (List Hop)) (is_broken : Bool) (rows : List Row) : Type 0 where
  pub fates : Fates
  pub are_fates : AreFates net asked.trace path fates rows
  pub broken : is_broken ≡ (is_none path || nat_lt 0 fates.nones)

abbrev pub AreToldIf : Bool → Net → Asked → Option (List Hop) → Bool → List Row → Type 0
AreToldIf false net asked path is_broken rows = (is_broken ≡ is_none path) × (rows ≡ [])
AreToldIf true net asked path is_broken rows = AreAlways net asked path is_broken rows

abbrev pub AreTold : Net → Asked → Option (List Hop) → Bool → List Row → Type 0
AreTold net asked path is_broken rows = AreToldIf asked.is_always net asked path is_broken rows

-- these rows tell the path that is asked for, by a settled outcome of the network, and what is told behind it
pub record Traces (net : Net) (asked : Asked) (is_broken : Bool) (rows : List Row) : Type 0 where
  pub path : Option (List Hop)
  pub has_path : HasPathIn net asked.trace path
  pub behind : List Row
  pub told : AreTold net asked path is_broken behind
  pub are : rows ≡ path_rows asked.trace path ++ behind

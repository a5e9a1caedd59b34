-- The tables of bridges as they are kept, by the bridges' names.
use Rattle.std.specs.Prelude.{◌≡◌, ℕ, List, Some, cond, nat_eq}
use Rattle.std.specs.Cmp.Lexicographic.{pointwise}
use Rattle.std.specs.Map.{lookup}
use Rattle.std.specs.Option.{unwrap_or}
use Rattle.mst_tables.specs.Table.{no_table}

-- the table of a bridge, with all VIDs in the CIST where none is kept
abbrev pub table_among : List (List ℕ × List ℕ) → List ℕ → List ℕ
table_among tables bridge = unwrap_or (lookup (pointwise nat_eq bridge) tables) no_table

-- the bridge has this table, and the other bridges have theirs still
abbrev pub IsPutAt : List ℕ → List ℕ → List (List ℕ × List ℕ) → List (List ℕ × List ℕ) → Type 0
IsPutAt bridge table old new = (q : List ℕ) → lookup (pointwise nat_eq q) new ≡ cond (pointwise nat_eq bridge q) (Some table) (lookup (pointwise nat_eq q) old)

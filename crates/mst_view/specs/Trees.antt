-- Which trees a bridge has.
use Rattle.std.specs.Prelude.{ℕ, ◌==◌, Bool, List, [], if◌then◌else◌}
use Rattle.std.specs.List.{list_any}
use Rattle.mst_tables.specs.Table.{mstis_in}
use Rattle.mst_tables.specs.Tables.{Net, BridgeRow}
use Rattle.mst_tables.specs.After.{table_of}

-- the trees that a bridge has beside tree 0, the CIST, in rising order: a bridge of kind mstp has those that its
-- table maps some VID to, and one of kind rstp none
abbrev pub mstis_of : Net → List ℕ → BridgeRow → List ℕ
mstis_of net name row = if row.is_rstp then [] else mstis_in (table_of net name)

-- the tree is one of these
abbrev pub is_among : List ℕ → ℕ → Bool
is_among trees tree = list_any (λ t. t == tree) trees

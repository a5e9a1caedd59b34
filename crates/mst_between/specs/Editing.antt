-- What is to be set: the lines that make one network of another.
use Rattle.std.specs.Prelude.{◌≡◌, Bool, List}
use Rattle.mst_tables.specs.Tables.{Net}
use Rattle.mst_rows.specs.Rows.{Row}
use Rattle.mst_edits.specs.EditRows.{change_rows}
use Rattle.mst_edits.specs.Edits.{edits, has_any}

-- these are the lines of the edits that make the one network of the other, and whether there is one
pub record EditsTo (a b : Net) (differs : Bool) (rows : List Row) : Type 0 where
  pub some : differs ≡ has_any (edits a b)
  pub are : rows ≡ change_rows a b

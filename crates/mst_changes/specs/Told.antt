-- What is told of a side of a change: a root priority vector, a role, or nothing.
use Rattle.std.specs.Prelude.{Option, Some, None}
use Rattle.mst_roles.specs.Names.{role_text}
use Rattle.mst_roles.specs.declared.kind.Role.{Role}
use Rattle.mst_rows.specs.declared.value.Vector.{Vector}
use Rattle.mst_rows.specs.Cells.{Cell, absent, object, word}
use Rattle.mst_rows.specs.Rows.{vector}

abbrev pub told_vector : Option Vector → Cell
told_vector None = absent
told_vector (Some v) = object (vector v.root v)

abbrev pub told_role : Option Role → Cell
told_role None = absent
told_role (Some role) = word (role_text role)

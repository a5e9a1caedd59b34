use Rattle.mst_rows.proofs.Maps.{map_map}
use Rattle.mst_rows.proofs.array.push_promises.Goals as goal

pub returns : goal.returns
returns c = rw map_map c.push_array.ensures

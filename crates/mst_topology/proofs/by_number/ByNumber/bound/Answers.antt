use Rattle.std.proofs.Common.{◌<◌, length, arith}
use Rattle.mst_topology.proofs.Numbers.{slot_there}
use Rattle.mst_topology.proofs.by_number.ByNumber.bound.Goals as goal

pub returns : goal.returns
returns g c = λ n room.
    let full = c.self.inside.slots.ok.0 in
    let size = c.len.ensures in
    let low : n < length c.self.inside.slots.items = slot_there n c.self.inside.slots.items (rw (← c.self.view_is) at room) in
    omega arith

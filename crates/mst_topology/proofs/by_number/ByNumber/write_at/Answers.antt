use Rattle.std.proofs.Common.{◌<◌, length, arith}
use Rattle.mst_topology.proofs.Numbers.{slot_there, slot_put, slot_keys}
use Rattle.mst_topology.proofs.by_number.ByNumber.write_at.Goals as goal

pub index_mut-requires : goal.index_mut-requires
index_mut-requires g c =
    let full = c.self.inside.slots.ok.0 in
    let low : c.args.number < length c.self.inside.slots.items = slot_there c.args.number c.self.inside.slots.items (rw (← c.self.view_is) at c.requires) in
    omega arith

pub returns-clause-put : goal.returns-clause-put
returns-clause-put g c =
    let low : c.args.number < length c.self.inside.slots.items = slot_there c.args.number c.self.inside.slots.items (rw (← c.self.view_is) at c.requires) in
    rw (← c.self.view_is) (slot_put c.args.number c.self.inside.slots.items c.args.value low)

pub returns-clause-keys : goal.returns-clause-keys
returns-clause-keys g c = rw (← c.self.view_is) (slot_keys c.args.number c.self.inside.slots.items c.args.value (rw (← c.self.view_is) at c.requires))

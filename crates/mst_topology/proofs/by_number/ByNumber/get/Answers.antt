use Rattle.std.proofs.Common.{◌<◌, ◌≤◌, ◌∙◌, sym, length, None, arith}
use Rattle.std.proofs.lemmas.List.{get_or_default}
use Rattle.mst_topology.proofs.Numbers.{slot_is, no_slot}
use Rattle.mst_topology.proofs.by_number.ByNumber.get.Goals as goal

pub returns-then-number-len : goal.returns-then-number-len
returns-then-number-len g c =
    let full = c.self.inside.slots.ok.0 in
    let size = c.len.ensures in
    let test = c.if-number-len.true in
    let low : c.args.number < length c.self.inside.slots.items = omega arith in
    rw (← c.self.view_is) (c.index.ensures ∙ get_or_default c.self.inside.slots.items c.args.number c.index.result.now None low ∙ sym (slot_is c.args.number c.self.inside.slots.items))

pub returns-else-number-len : goal.returns-else-number-len
returns-else-number-len g c =
    let full = c.self.inside.slots.ok.0 in
    let size = c.len.ensures in
    let test = c.if-number-len.false in
    let high : length c.self.inside.slots.items ≤ c.args.number = omega arith in
    rw (← c.self.view_is) (sym (no_slot c.args.number c.self.inside.slots.items high))

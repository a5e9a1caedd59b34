use Rattle.std.proofs.Common.{◌≡◌, ◌<◌, ◌+◌, ◌-◌, ◌∙◌, ap, length, arith}
use Rattle.std.specs.Vec.{vec_len}
use Rattle.mst_topology.specs.ByNumber.{entries_from}
use Rattle.mst_topology.proofs.Numbers.{slot_put, grown_same}
use Rattle.mst_topology.proofs.by_number.ByNumber.insert.Goals as goal
use Rattle.mst_topology.proofs.by_number.ByNumber.insert.Goals.{then-len-number+in_ok-resize, else-len-number}

pub returns-clause-ok : goal.returns-clause-ok
returns-clause-ok g c =
    let slots = c.self.inside.slots.items in
    let now = c.if-len-number.self-inside.slots.items in
    let same : entries_from 0 now ≡ entries_from 0 slots = elim c.if-len-number.branch [
      | then-len-number+in_ok-resize w ↦ (let full = c.self.inside.slots.ok.0 in let size = c.len.ensures in let test = w.if-len-number.true in
          ap (λ (v : _). entries_from 0 v.slots.items) w.self-inside-is ∙ grown_same slots w.resize.new.self.items (c.args.number + 1) (c.args.number + 1 - vec_len c.self.inside.slots) (omega arith) w.in_ok-resize.ensures.items)
      | else-len-number w ↦ ap (λ (v : _). entries_from 0 v.slots.items) w.self-inside-is
    ] in
    let low : c.args.number < length now = elim c.if-len-number.branch [
      | then-len-number+in_ok-resize w ↦ (let len = w.in_ok-resize.ensures.len in let full = w.resize.new.self.ok.0 in rw w.self-inside-is (omega arith))
      | else-len-number w ↦ (let full = c.self.inside.slots.ok.0 in let size = c.len.ensures in let test = w.if-len-number.false in rw w.self-inside-is (omega arith))
    ] in
    rw (← c.self.view_is) (rw same at (slot_put c.args.number now c.args.value low))

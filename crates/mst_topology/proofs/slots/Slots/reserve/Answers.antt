use Rattle.std.proofs.Common.{◌≡◌, length, rules, None, inl, refl}
use Rattle.mst_topology.specs.Places.{in_map}
use Rattle.mst_topology.proofs.Places.{some_of}
use Rattle.mst_topology.proofs.Entries.{slots_more, room_found}
use Rattle.mst_topology.proofs.slots.Slots.reserve.Goals as goal

pub returns-then-has-clause-ok : goal.returns-then-has-clause-ok
returns-then-has-clause-ok g c =
    let there = some_of (in_map c.self.inside.places c.args.number) (search rules) in
    inl (rw (← c.self.view_is) (room_found (in_map c.self.inside.places) c.self.inside.entries.items c.self.invariant c.args.number there.0 there.1), refl)

pub invariant_of-self-in_err-insert : goal.invariant_of-self-in_err-insert
invariant_of-self-in_err-insert g c = rw c.reserve.ensures.items (rw c.in_err-insert.ensures.err c.self.invariant)

pub invariant_of-self-2 : goal.invariant_of-self-2
invariant_of-self-2 g c =
    let place : c.len-place.result ≡ length c.self.inside.entries.items = search rules in
    let new : in_map c.self.inside.places c.args.number ≡ None = search rules in
    rw c.push_reserved.ensures.items (rw c.reserve.ensures.items
    (slots_more (in_map c.self.inside.places) c.self.inside.entries.items c.self.invariant (in_map c.insert.new.self) c.args.number c.args.value new
    (rw place at c.in_ok-insert.ensures.ok)))

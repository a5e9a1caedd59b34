use Rattle.std.proofs.Common.{◌≡◌, rules, None, Some}
use Rattle.mst_topology.specs.Places.{in_map}
use Rattle.mst_topology.proofs.Entries.{slots_set, is_set, room_place}
use Rattle.mst_topology.proofs.slots.Slots.set.Goals as goal

pub invariant_of-self : goal.invariant_of-self
invariant_of-self g c =
    let at : in_map c.self.inside.places c.args.number ≡ Some c.in-Some.place = search rules in
    slots_set (in_map c.self.inside.places) c.self.inside.entries.items c.self.invariant c.args.number c.in-Some.place at c.args.value

pub returns-in-Some-clause-set : goal.returns-in-Some-clause-set
returns-in-Some-clause-set g c =
    let at : in_map c.self.inside.places c.args.number ≡ Some c.in-Some.place = search rules in
    rw (← c.self.view_is) (is_set (in_map c.self.inside.places) c.self.inside.entries.items c.self.invariant c.args.number c.in-Some.place at c.args.value)

pub returns-in_default-clause-set : goal.returns-in_default-clause-set
returns-in_default-clause-set g c =
    let none : in_map c.self.inside.places c.args.number ≡ None = search rules in
    absurd (room_place (in_map c.self.inside.places) c.self.inside.entries.items c.self.invariant c.args.number (rw (← c.self.view_is) at c.requires) none)

use Rattle.std.proofs.Common.{rules, ◌≡◌, false, is_some}
use Rattle.mst_topology.specs.Places.{in_map, flat}
use Rattle.mst_settle.proofs.Setting.{known_reserved, known_back, known_less, not_known}
use Rattle.mst_settle.proofs.known.KnownKeys.reserve.Goals as goal

pub invariant_of-self-2 : goal.invariant_of-self-2
invariant_of-self-2 g c =
    let none : is_some (flat (in_map c.self.inside.known c.args.number)) ≡ false = search rules in
    known_reserved c.self.inside.keys c.reserve.new.self (in_map c.self.inside.known) (in_map c.make_room.new.self) c.args.number c.self.invariant (not_known (in_map c.self.inside.known) c.args.number none) (known_back c.self.inside.known c.make_room.new.self c.args.number c.in_ok-make_room.ensures.ok) c.in_ok-reserve.ensures.ok

pub invariant_of-self-in_err-reserve : goal.invariant_of-self-in_err-reserve
invariant_of-self-in_err-reserve g c = rw c.in_err-reserve.ensures.err (known_less c.self.inside.keys (in_map c.self.inside.known) (in_map c.make_room.new.self) c.self.invariant (known_back c.self.inside.known c.make_room.new.self c.args.number c.in_ok-make_room.ensures.ok))

use Rattle.std.proofs.Common.{rules, ◌≡◌, false, is_some}
use Rattle.mst_topology.specs.Places.{in_map}
use Rattle.mst_settle.proofs.Setting.{known_set, known_not_set}
use Rattle.mst_settle.proofs.known.KnownKeys.set.Goals as goal

pub invariant_of-self : goal.invariant_of-self
invariant_of-self g c = known_set c.self.inside.keys c.set.new.self (in_map c.self.inside.known) c.self.invariant c.args.number c.args.key (in_map c.write_at.new.self) c.set.ensures c.write_at.ensures.put

pub invariant_of-self-else-has : goal.invariant_of-self-else-has
invariant_of-self-else-has g c =
    let none : is_some (in_map c.self.inside.known c.args.number) ≡ false = search rules in
    known_not_set c.self.inside.keys c.set.new.self (in_map c.self.inside.known) c.self.invariant c.args.number c.args.key c.set.ensures none

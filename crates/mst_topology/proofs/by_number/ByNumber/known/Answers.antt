use Rattle.std.proofs.Common.{arith}
use Rattle.mst_topology.proofs.Numbers.{slots_sorted, slots_few}
use Rattle.mst_topology.proofs.by_number.ByNumber.known.Goals as goal

pub returns-clause-ordered : goal.returns-clause-ordered
returns-clause-ordered g c = rw (← c.self.view_is) (slots_sorted 0 c.self.inside.slots.items)

pub returns-clause-few : goal.returns-clause-few
returns-clause-few g c =
    let few = slots_few 0 c.self.inside.slots.items in
    let most = c.self.invariant in
    rw (← c.self.view_is) (omega arith)

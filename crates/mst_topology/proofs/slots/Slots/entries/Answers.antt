use Rattle.std.proofs.Common.{sym, ◌∙◌}
use Rattle.mst_topology.proofs.Search.{some_is}
use Rattle.mst_topology.proofs.slots.Slots.entries.Goals as goal

pub returns-clause-once : goal.returns-clause-once
returns-clause-once g c = rw (← c.self.view_is) (λ i j n x y h k. some_is i j (sym (c.self.invariant.back n i x h) ∙ c.self.invariant.back n j y k))

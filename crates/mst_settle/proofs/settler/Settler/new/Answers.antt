use Rattle.mst_settle.proofs.Roomy.{roomy_none}
use Rattle.mst_settle.proofs.settler.Settler.new.Goals as goal

pub invariant_of-result : goal.invariant_of-result
invariant_of-result g c = rw (c.new.ensures, c.new-2.ensures, c.new-3.ensures, c.new-4.ensures, c.new-5.ensures) roomy_none

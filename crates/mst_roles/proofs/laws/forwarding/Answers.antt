use Rattle.mst_roles.proofs.ForwardsNested.{forwards_in}
use Rattle.mst_roles.proofs.laws.forwarding.Goals as goal

pub returns : goal.returns
returns c net o ok is p there enabled tree role e =
    forwards_in net ok c.one_outcome.ensures.ports o is c.designated_by_key.ensures.key c.designated_by_key.ensures.port c.designated_by_key-2.ensures.key c.designated_by_key-2.ensures.port
    p there enabled tree role e

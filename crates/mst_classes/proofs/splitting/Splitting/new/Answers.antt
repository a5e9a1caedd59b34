use Rattle.mst_classes.proofs.Starting.{new_ready}
use Rattle.mst_classes.proofs.splitting.Splitting.new.Goals as goal

pub returns-clause-ready : goal.returns-clause-ready
returns-clause-ready c = new_ready c.args.numbers c.in_ok-given.given 16384 (c.in_ok-given.ensures.items_if_clones_equal (λ y e. e)) (λ k. 16384) c.requires.long c.requires.small

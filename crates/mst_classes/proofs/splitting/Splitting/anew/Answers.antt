use Rattle.mst_classes.proofs.Starting.{anew}
use Rattle.mst_classes.proofs.splitting.Splitting.anew.Goals as goal

pub split_members-requires : goal.split_members-requires
split_members-requires c = anew c.args.numbers c.in_ok-given.given 16384 (c.in_ok-given.ensures.items_if_clones_equal (λ y e. e)) (λ k. 16384) c.requires.long c.requires.within c.all.result c.all.ensures

pub returns-clause-split : goal.returns-clause-split
returns-clause-split c = λ i j li lj e. (c.split_members.ensures.split.finer i j li lj e).0

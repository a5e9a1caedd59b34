use Rattle.std.proofs.Common.{◌<◌, get_or, arith, ◌∙◌}
use Rattle.std.specs.Vec.{vec_len}
use Rattle.mst_classes.proofs.Starting.{anew}
use Rattle.mst_classes.proofs.splitting.Splitting.renew.Goals as goal

pub split_members-requires : goal.split_members-requires
split_members-requires c =
    let s = c.args.self.now in
    anew s.numbers c.fill.new.self (vec_len s.given) (c.fill.ensures.items (λ y e. e)) (s.given.ok.0 ∙ c.requires.room) c.requires.as_long
    (λ i. let below : get_or s.numbers.items i 0 < s.next = c.requires.below i in omega (arith, c.requires.few))
    c.all.result c.all.ensures

pub returns-clause-split : goal.returns-clause-split
returns-clause-split c = λ i j li lj e. (c.split_members.ensures.split.finer i j li lj e).0

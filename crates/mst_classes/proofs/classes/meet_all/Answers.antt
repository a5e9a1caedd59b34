use Rattle.std.proofs.Common.{Bool, List, refl, subst}
use Rattle.std.specs.Cmp.Lexicographic.{pointwise}
use Rattle.std.specs.Bool.{beq}
use Rattle.std.specs.List.{AllByRecursion, Contains}
use Rattle.std.proofs.lemmas.List.{take_all}
use Rattle.mst_classes.proofs.Gathered.{none_so_far, one_put}
use Rattle.mst_classes.proofs.Told.{same_sets}
use Rattle.mst_classes.proofs.classes.meet_all.Goals as goal

pub loop-set-init : goal.loop-set-init
loop-set-init c = none_so_far (λ (set : List Bool). set) c.args.met.now.keys

pub loop-set-preserved : goal.loop-set-preserved
loop-set-preserved c =
    let set = c.set-item.result in
    one_put (λ (set : List Bool). set) c.args.sets.now c.loop-set.set-index set c.loop-set-test.true c.set-item.is c.args.met.now.keys c.loop-set.met.keys c.loop-set.invariant (pointwise beq) same_sets
    c.insert.new.self.keys set refl c.in_ok-insert.ensures.keys

pub returns-clause-there : goal.returns-clause-there
returns-clause-there c =
    subst (AllByRecursion (Contains c.loop-set.met.keys)) (take_all c.loop-set.set-index c.args.sets.now c.loop-set-test.false) c.loop-set.invariant.there

pub returns-clause-before : goal.returns-clause-before
returns-clause-before c = c.loop-set.invariant.before

use Rattle.std.proofs.Common.{List, [], Bool, take, subst, ap}
use Rattle.std.proofs.lemmas.List.{nil_from_length, take_all}
use Rattle.mst_classes.specs.Alike.{SplitBySets}
use Rattle.mst_classes.proofs.Told.{SplitByMet, apart_told, none_met, new_met, known_met, all_told}
use Rattle.mst_classes.proofs.alike.split_by_sets.Goals.{then-branch+else-split, else-branch}
use Rattle.mst_classes.proofs.alike.split_by_sets.Goals as goal

pub loop-set-init : goal.loop-set-init
loop-set-init c =
    let s = c.in_ok-splitting.splitting in
    rw (nil_from_length c.new-met.result.keys c.new-met.ensures.len)
    (subst (λ first. SplitByMet [] first [] s) (ap (λ v. v.items) c.in_ok-splitting.ensures.numbers) (none_met s c.in_ok-splitting.ensures.ready))

pub loop-set-preserved : goal.loop-set-preserved
loop-set-preserved c =
    let sets = c.args.sets.now in
    let old = c.loop-set.met.keys in
    let new = c.insert.new.self.keys in
    let e = c.in_ok-insert.ensures in
    elim c.if-branch.branch [
      | then-branch+else-split w ↦
          rw w.splitting-is
          (new_met sets c.loop-set.set-index c.set-item.result c.loop-set-test.true c.set-item.is c.args.numbers.items old new c.in_ok-insert.field-0 e.keys e.added c.loop-set.splitting w.split.new.self c.loop-set.invariant
          w.if-branch.true w.split.ensures.ready w.split.ensures.split)
      | else-branch w ↦
          rw w.splitting-is
          (known_met sets c.loop-set.set-index c.set-item.result c.loop-set-test.true c.set-item.is c.args.numbers.items old new c.in_ok-insert.field-0 e.keys e.added c.loop-set.splitting c.loop-set.splitting c.loop-set.invariant
          w.if-branch.false)
    ]

pub returns : goal.returns
returns c =
    let sets = c.args.sets.now in
    let s = c.loop-set.splitting in
    subst (λ (all : List (List Bool)). SplitBySets all c.args.numbers.items s.numbers.items) (take_all c.loop-set.set-index sets c.loop-set-test.false)
    (all_told (take c.loop-set.set-index sets) c.loop-set.met.keys c.args.numbers.items s c.loop-set.invariant)

pub returns-then-split : goal.returns-then-split
returns-then-split c =
    let s = c.split.new.self in
    apart_told c.args.sets.now c.args.numbers.items s.numbers.items c.split.ensures.ready.as_long (c.split.ensures.apart c.if-split.true)

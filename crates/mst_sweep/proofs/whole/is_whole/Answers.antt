use Rattle.std.proofs.Common.{nat_eq, ◌+◌, sym, ap, subst, ◌∙◌, take}
use Rattle.std.specs.List.{AllByRecursion}
use Rattle.indexmap.specs.IndexMap.{get}
use Rattle.mst_sweep.proofs.Unbroken.{IsPlaced, all_placed, one_put, one_stands}
use Rattle.mst_sweep.proofs.whole.is_whole.Goals as goal
use Rattle.mst_sweep.proofs.whole.is_whole.Goals.{then-not-contains_key+in_ok-insert, else-not-contains_key}

pub loop-bridge-init : goal.loop-bridge-init
loop-bridge-init c = tt

pub loop-bridge-preserved : goal.loop-bridge-preserved
loop-bridge-preserved c =
    let l = c.loop-bridge in
    let item = c.bridge-item.result in
    elim c.if-not-contains_key.branch [
      | then-not-contains_key+in_ok-insert w ↦
          one_put c.args.all.now l.bridge-index item c.loop-bridge-test.true c.bridge-item.is (get nat_eq l.places) l.invariant (get nat_eq c.if-not-contains_key.places) (sym c.contains_key.ensures ∙ w.if-not-contains_key.true)
          (λ q. ap (λ m. get nat_eq m q) w.places-is ∙ w.in_ok-insert.ensures.updates.0 q)
      | else-not-contains_key w ↦
          let same = w.places-is in
          subst (λ m. AllByRecursion (IsPlaced (get nat_eq m)) (take (l.bridge-index + 1) c.args.all.now)) (sym same)
          (one_stands c.args.all.now l.bridge-index item c.loop-bridge-test.true c.bridge-item.is (get nat_eq l.places) l.invariant (sym c.contains_key.ensures ∙ w.if-not-contains_key.false) (sym c.is_moved.ensures ∙ c.if-is_moved.false))
    ]

pub returns : goal.returns
returns c = λ whole. all_placed c.args.all.now c.loop-bridge.bridge-index (get nat_eq c.loop-bridge.places) c.loop-bridge-test.false c.loop-bridge.invariant

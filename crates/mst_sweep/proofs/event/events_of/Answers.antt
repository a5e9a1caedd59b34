use Rattle.std.proofs.Common.{◌∙◌, ◌++◌, ◌∷◌, [], ap, map, sym}
use Rattle.std.proofs.lemmas.List.{map_more, take_all}
use Rattle.mst_sweep.specs.Failures.{alone}
use Rattle.mst_sweep.specs.declared.failure.Failure.{Failure}
use Rattle.mst_sweep.proofs.event.events_of.Goals as goal

pub loop-failure-preserved : goal.loop-failure-preserved
loop-failure-preserved c =
    let l = c.loop-failure in
    let failures = c.args.failures.now in
    let failure : Failure = c.failure-item.result in
    c.in_ok-push.ensures.items ∙ (λ i. l.invariant i ++ (c.alone.ensures ∙ ap alone c.failure-item.is) i ∷ []) ∙ sym (map_more alone failures l.failure-index failure c.loop-failure-test.true)

pub returns : goal.returns
returns c = c.loop-failure.invariant ∙ ap (map alone) (take_all c.loop-failure.failure-index c.args.failures.now c.loop-failure-test.false)

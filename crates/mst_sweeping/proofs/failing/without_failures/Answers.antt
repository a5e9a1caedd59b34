use Rattle.std.proofs.Common.{List, subst}
use Rattle.mst_sweep.specs.Failures.{failed}
use Rattle.mst_sweep.specs.declared.failure.Failure.{Failure}
use Rattle.mst_view.specs.Viewed.{IsView}
use Rattle.mst_sweeping.proofs.WithFailures.{less_back}
use Rattle.mst_sweeping.proofs.failing.without_failures.Goals as goal

pub renew-requires : goal.renew-requires
renew-requires c =
    let net = c.args.network.now.net in
    let numbers = c.args.network.now.numbers in
    let seen = c.loop-last.seen in
    less_back c.in-Some.others.now c.in-Some.last.now net numbers seen (subst (λ (fs : List Failure). IsView (failed fs net) numbers seen) c.in-Some.ensures.cases.0 c.loop-last.invariant)

use Rattle.std.proofs.Common.{◌≡◌, ◌+◌, ◌∷◌, [], ◌++◌, List, take, sym, ap, subst, ◌∙◌}
use Rattle.std.proofs.lemmas.List.{take_all, take_more}
use Rattle.mst_view.specs.Viewed.{IsView}
use Rattle.mst_sweep.specs.Failures.{failed}
use Rattle.mst_sweep.specs.declared.failure.Failure.{Failure}
use Rattle.mst_sweeping.specs.Sweeping.{IsViewBut}
use Rattle.mst_sweeping.proofs.WithFailures.{more_ahead}
use Rattle.mst_sweeping.proofs.failing.with_failures.Goals as goal

-- the failures so far and the next one are one more
pub renew-requires : goal.renew-requires
renew-requires c =
    let net = c.args.network.now.net in
    let numbers = c.args.network.now.numbers in
    let fs = c.args.failures.now in
    let n = c.loop-n.n in
    let f : Failure = c.index-failures-n.result in
    let seen = c.loop-n.seen in
    let next : take (n + 1) fs ≡ take n fs ++ f ∷ [] = take_more fs n f c.loop-n-test.true ∙ ap (λ x. take n fs ++ x ∷ []) (sym c.index-failures-n.is) in
    subst (λ (some : List Failure). IsViewBut f (failed some net) numbers seen) (sym next) (more_ahead (take n fs) f net numbers seen c.loop-n.invariant)

pub returns : goal.returns
returns c =
    let fs = c.args.failures.now in
    subst (λ (some : List Failure). IsView (failed some c.args.network.now.net) c.args.network.now.numbers c.loop-n.seen) (take_all c.loop-n.n fs c.loop-n-test.false) c.loop-n.invariant

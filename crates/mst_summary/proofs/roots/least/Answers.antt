use Rattle.std.proofs.Common.{None, ap, sym, ◌∙◌}
use Rattle.std.proofs.lemmas.List.{take_all}
use Rattle.mst_summary.specs.Roots.{with_lesser, least}
use Rattle.mst_summary.proofs.Lists.{fold_more}
use Rattle.mst_summary.proofs.roots.least.Goals as goal

pub loop-follower-preserved : goal.loop-follower-preserved
loop-follower-preserved c =
    let l = c.loop-follower in
    c.lesser-least.ensures ∙ ap (λ o. with_lesser o c.follower-item.result) l.invariant ∙ sym (fold_more with_lesser None c.args.followers.now l.follower-index c.follower-item.result c.loop-follower-test.true c.follower-item.is)

pub returns : goal.returns
returns c = c.loop-follower.invariant ∙ ap least (take_all c.loop-follower.follower-index c.args.followers.now c.loop-follower-test.false)

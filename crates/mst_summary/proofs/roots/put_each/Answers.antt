use Rattle.std.proofs.Common.{◌<◌, ◌≤◌, get_or, length, ap, subst, ◌∙◌}
use Rattle.mst_rows.proofs.Loops.{rows_all, rows_more}
use Rattle.mst_summary.specs.Seen.{seen_root}
use Rattle.mst_summary.proofs.roots.put_each.Goals as goal

pub loop-bridge-preserved : goal.loop-bridge-preserved
loop-bridge-preserved g c first rows grew =
    let s = c.args.plan.now in
    let i = c.loop-bridge.bridge-index in
    let item = c.bridge-item.result in
    let all = c.bridges-bridge-items.ensures ∙ ap (λ v. v.bridges) c.view.ensures in
    rows_more (g.R.Rows.grew first c.put_bridge.new.out) (seen_root s c.args.tree c.args.followers.now) s.view.bridges i item rows (subst (λ bs. i < length bs) all c.loop-bridge-test.true)
    (c.bridge-item.is ∙ ap (λ bs. get_or bs i item) all)
    (c.in_ok-put_bridge.ensures c.args.followers.now c.in_ok-groups.ensures first _ (c.loop-bridge.invariant first rows grew))

pub returns : goal.returns
returns g c first rows grew =
    let s = c.args.plan.now in
    let all = c.bridges-bridge-items.ensures ∙ ap (λ v. v.bridges) c.view.ensures in
    rows_all (g.R.Rows.grew first c.loop-bridge.out) (seen_root s c.args.tree c.args.followers.now) s.view.bridges c.loop-bridge.bridge-index rows
    (subst (λ bs. length bs ≤ c.loop-bridge.bridge-index) all c.loop-bridge-test.false) (c.loop-bridge.invariant first rows grew)

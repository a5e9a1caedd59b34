use Rattle.std.proofs.Common.{[], ◌∷◌, ◌+◌, true, false, List, map, refl, subst, take, drop}
use Rattle.mst_rows.specs.Rows.{Row}
use Rattle.mst_advise.specs.Settings.{alone}
use Rattle.mst_advise.specs.Advising.{Fail, Tries}
use Rattle.mst_sweeping.specs.Sweeping.{Puts}
use Rattle.mst_advise.proofs.Tried.{by_plan, each_all, each_more, each_parted, put_then, same_then}
use Rattle.mst_advise.proofs.advising.try_each.Goals as goal

pub returns-then-branch-clause-told : goal.returns-then-branch-clause-told
returns-then-branch-clause-told g c is =
    let grew = g.R.Rows.grew in
    let settings = c.args.settings.now in
    let i = c.loop-setting.setting-index in
    let x = c.setting-item.result in
    let new = c.try_setting.new.out in
    let said = by_plan c.args.network.now c.loop-setting.network c.loop-setting.invariant.same c.args.plan.now
    (λ net o. (rows : List Row) × Tries c.args.goal.now net o (x ∷ []) true rows × Puts grew c.loop-setting.out new rows)
    (λ now. subst (λ found. (rows : List Row) × Tries c.args.goal.now c.loop-setting.network.net now.forest.outcome (x ∷ []) found rows × Puts grew c.loop-setting.out new rows) c.if-branch.true (c.in_ok-try_setting.ensures.told now)) is in (
      said.0,
      record {
        before = map alone (take i settings);
        settings = x ∷ [];
        behind = map alone (drop (i + 1) settings);
        among = each_parted settings i x c.loop-setting-test.true c.setting-item.is;
        fail = c.loop-setting.invariant.fail;
        brings = said.1;
        counted = refl;
      },
      put_then grew c.args.out.now c.loop-setting.out new [] said.0 c.loop-setting.invariant.put said.2,
    )

pub returns-clause-told : goal.returns-clause-told
returns-clause-told g c is =
    ([], (each_all c.args.settings.now c.loop-setting.setting-index c.loop-setting-test.false (Fail c.args.goal.now c.args.network.now.net) c.loop-setting.invariant.fail, refl), c.loop-setting.invariant.put)

pub loop-setting-preserved : goal.loop-setting-preserved
loop-setting-preserved g c =
    let grew = g.R.Rows.grew in
    let settings = c.args.settings.now in
    let i = c.loop-setting.setting-index in
    let x = c.setting-item.result in
    let new = c.try_setting.new.out in
    let said = by_plan c.args.network.now c.loop-setting.network c.loop-setting.invariant.same c.args.plan.now
    (λ net o. (rows : List Row) × Tries c.args.goal.now net o (x ∷ []) false rows × Puts grew c.loop-setting.out new rows)
    (λ now. subst (λ found. (rows : List Row) × Tries c.args.goal.now c.loop-setting.network.net now.forest.outcome (x ∷ []) found rows × Puts grew c.loop-setting.out new rows) c.if-branch.false (c.in_ok-try_setting.ensures.told now)) c.requires in
    record {
      same = same_then c.args.network.now c.loop-setting.network c.try_setting.new.network c.loop-setting.invariant.same c.try_setting.ensures.same;
      fail = each_more settings i x c.loop-setting-test.true c.setting-item.is (Fail c.args.goal.now c.args.network.now.net) c.loop-setting.invariant.fail said.1.0;
      put = put_then grew c.args.out.now c.loop-setting.out new [] [] c.loop-setting.invariant.put (subst (λ (rows : List Row). Puts grew c.loop-setting.out new rows) said.1.1 said.2);
    }

use Rattle.std.proofs.Common.{◌≤◌, List, length, sym, subst, ◌∙◌}
use Rattle.mst_view.specs.Aggregation.{same_name}
use Rattle.mst_lag.specs.Renewed.{seen_member}
use Rattle.mst_lag.specs.declared.members.LanSeen.{LanSeen}
use Rattle.mst_view.specs.declared.in_view.MemberLan.{MemberLan}
use Rattle.mst_lag.proofs.Renewal.{few_kept}
use Rattle.mst_lag.proofs.renewing.total_now.Goals as goal

pub totals-requires : goal.totals-requires
totals-requires g c =
    let t = g.C.Contents.tables c.args.contents.now in
    subst (λ (ls : List LanSeen). length ls ≤ 8192) (sym (c.as_slice.ensures.value ∙ c.in_ok-seen.ensures))
    (few_kept (seen_member t.net t.numbers) (λ (m : MemberLan). same_name m.lan c.args.lan.now) c.args.members.now 8192 c.requires)

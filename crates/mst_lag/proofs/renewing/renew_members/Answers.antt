use Rattle.std.proofs.Common.{◌<◌, length, List, sym, ap, subst, ◌∙◌}
use Rattle.mst_lag.specs.Renewed.{member_again}
use Rattle.mst_view.specs.declared.in_view.MemberLan.{MemberLan}
use Rattle.mst_lag.proofs.InPlace.{written}
use Rattle.mst_lag.proofs.renewing.renew_members.Goals as goal

pub loop-member-preserved : goal.loop-member-preserved
loop-member-preserved c =
    let l = c.loop-member in
    let old = c.args.members.now.items in
    let f : MemberLan → MemberLan = member_again c.args.lan.now c.args.is_up in
    let x : MemberLan = c.member-item.result in
    let below : l.member-index < length old = subst (λ (xs : List MemberLan). l.member-index < length xs) c.as_mut_slice-member-items.ensures.value c.loop-member-test.true in
    written f old l.member-items l.member-index l.invariant x c.renewed_member-renewed.result below c.member-item.is (c.renewed_member-renewed.ensures ∙ ap f (sym c.member-item.is))

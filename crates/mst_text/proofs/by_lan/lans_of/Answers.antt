use Rattle.mst_view.specs.declared.in_view.MemberLan.{MemberLan}
use Rattle.mst_text.specs.KeptByLan.{kept_at}
use Rattle.mst_text.specs.LagView.{lan_of}
use Rattle.mst_text.proofs.LagsByLan.{one_more}
use Rattle.mst_text.proofs.by_lan.lans_of.Goals as goal

pub loop-member-preserved : goal.loop-member-preserved
loop-member-preserved c =
    let l = c.loop-member in
    one_more (λ (m : MemberLan). m.lan) lan_of c.args.members.now l.member-index c.member-item.result c.loop-member-test.true c.member-item.is (kept_at l.kept) (kept_at c.add.new.kept) l.invariant c.in_ok-add.ensures

use Rattle.std.proofs.Common.{sym, subst, ◌∙◌}
use Rattle.mst_view.specs.Viewed.{IsView}
use Rattle.mst_compare.proofs.Sending.{sender_named}
use Rattle.mst_compare.proofs.senders.sender.Goals as goal

pub returns : goal.returns
returns c =
    let s = c.args.plan.now in
    c.sender_name.ensures ∙ sym (sender_named s.net s.numbers c.view.result.now (subst (IsView s.net s.numbers) (sym c.view.ensures) c.known.ensures.of.view) c.args.bpdu.now)

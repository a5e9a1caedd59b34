use Rattle.std.proofs.Common.{◌++◌, List, map, filter, ap, ◌∙◌}
use Rattle.mst_net.specs.tables.Seen.{bridge_row}
use Rattle.mst_view.specs.declared.in_view.BridgeInView.{BridgeInView}
use Rattle.mst_view.specs.declared.in_view.MemberLan.{MemberLan}
use Rattle.mst_sweep.specs.declared.failure.Failure.{Failure}
use Rattle.mst_sweep.specs.declared.failure.Failure.TheVariants.{Lan, Bridge}
use Rattle.mst_sweep.proofs.AllFailures.{failures_seen}
use Rattle.mst_sweep.proofs.failure.failures.Goals as goal

pub returns : goal.returns
returns c net numbers view =
    let of_lans : List MemberLan → List Failure = λ ls. map (λ (l : MemberLan). Lan l.name) (filter (λ (l : MemberLan). l.is_up) ls) in
    let of_bridges : List BridgeInView → List Failure = λ bs. map (λ (b : BridgeInView). Bridge b.name) (filter (λ (b : BridgeInView). (bridge_row b.bridge).is_on) bs) in
    let lans = c.in_ok-failures.ensures ∙ ap of_lans c.member_lans.ensures in
    let bridges = c.as_slice.ensures.value ∙ c.in_ok-bridges.ensures ∙ ap of_bridges c.bridges.ensures in
    c.in_ok-extend_from_slice.ensures.items ∙ (λ i. lans i ++ bridges i) ∙ failures_seen net numbers c.args.view.now view

use Rattle.std.proofs.Common.{ap, ◌∙◌}
use Rattle.std.specs.Prelude.{filter}
use Rattle.std.proofs.lemmas.Result.{IfOk-weaker}
use Rattle.mst_view.specs.Viewed.{Viewed}
use Rattle.mst_vlan.specs.forest.Settled.{outcome_of}
use Rattle.mst_vlan.specs.Seen.{seen_member}
use Rattle.mst_path.proofs.Members.{carried}
use Rattle.mst_path.proofs.Rises.{rising}
use Rattle.mst_path.proofs.over.carrying.Goals as goal

pub returns-clause-named : goal.returns-clause-named
returns-clause-named c =
    let s = c.args.plan.now in
    let v : Viewed = c.view-view.result.now in
    let vid = c.args.vid in
    IfOk-weaker c.members.result _ _
    (λ ports e. carried s.net v vid (ap (λ (v : Viewed). v.settings) c.view-view.ensures ∙ c.known.ensures.of.view.settings) (outcome_of s) ports.items c.in_ok-active.active.items
    (e ∙ ap (filter (seen_member v vid)) c.as_slice.ensures.value) c.in_ok-active.ensures.named)
    c.members.ensures

pub returns-clause-rising : goal.returns-clause-rising
returns-clause-rising c =
    let s = c.args.plan.now in
    let v : Viewed = c.view-view.result.now in
    let vid = c.args.vid in
    IfOk-weaker c.members.result _ _
    (λ ports e. rising s.net (outcome_of s) vid ports.items (carried s.net v vid (ap (λ (v : Viewed). v.settings) c.view-view.ensures ∙ c.known.ensures.of.view.settings) (outcome_of s) ports.items c.in_ok-active.active.items
    (e ∙ ap (filter (seen_member v vid)) c.as_slice.ensures.value) c.in_ok-active.ensures.named))
    c.members.ensures

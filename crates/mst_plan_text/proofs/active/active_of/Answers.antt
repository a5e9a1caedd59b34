use Rattle.std.proofs.Common.{◌≡◌, map, sym, ap, ◌∙◌}
use Rattle.std.proofs.lemmas.Result.{IfOk-weaker}
use Rattle.mst_view.proofs.Lists.{mapped_twice}
use Rattle.mst_vlan.specs.forest.Settled.{outcome_of}
use Rattle.mst_vlan.specs.roles.SeenActive.{seen_active}
use Rattle.mst_text.specs.VlanSeen.{seen_port}
use Rattle.mst_text.proofs.VlanNamed.{active_named}
use Rattle.mst_vlan.proofs.forest_lemmas.SettledNet.{forest_of}
use Rattle.mst_plan_text.specs.Bodies.{pair_of, pairs_of, seen_pair}
use Rattle.mst_plan_text.proofs.active.active_of.Goals as goal

pub returns : goal.returns
returns c =
    let s = c.args.plan.now in
    let is = c.known.ensures in
    let vid = c.args.vid in
    let seen : map (seen_pair c.view.result.now vid) c.as_slice.result.now ≡ pairs_of s.net (outcome_of s) vid =
    (λ i. map (seen_pair (c.view.ensures i) vid) ((c.as_slice.ensures.value ∙ c.in_ok-ports.ensures.seen) i))
    ∙ sym (mapped_twice pair_of (seen_port s.view vid) (seen_active s.view s.forest vid))
    ∙ ap (map pair_of) (active_named s.net s.numbers s.view s.forest is.of (forest_of s is) vid) in
    IfOk-weaker c.pairs.result _ _ (λ pairs e. e ∙ seen) c.pairs.ensures

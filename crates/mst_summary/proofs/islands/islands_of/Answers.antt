use Rattle.std.proofs.Common.{ap, subst, ◌∙◌}
use Rattle.mst_tables.specs.Tables.{Net, Numbers}
use Rattle.mst_vlan.specs.forest.Agrees.{AreOf}
use Rattle.mst_vlan.specs.forest.Forest.{IsForest}
use Rattle.mst_vlan.specs.forest.Settled.{outcome_of}
use Rattle.mst_vlan.proofs.forest_lemmas.SettledNet.{forest_of}
use Rattle.mst_vlan.specs.Reach.{AreReached}
use Rattle.mst_vlan.specs.Carried.{ViewWithTrees}
use Rattle.mst_summary.specs.Seen.{seen_with_bridge}
use Rattle.mst_summary.proofs.VidClasses.{islands_counted}
use Rattle.mst_summary.proofs.islands.islands_of.Goals as goal

pub returns : goal.returns
returns c =
    let s = c.args.plan.now in
    let is = c.known.ensures in
    let all = c.in_ok-islands.islands.items in
    let reached =
    subst (λ (w : ViewWithTrees). (net : Net) (numbers : Numbers) (f : IsForest net numbers w.forest) → AreOf net numbers w.view w.forest.regions → AreReached net numbers f.outcome c.args.vid all) c.requires c.in_ok-islands.ensures in
    let r : AreReached s.net s.numbers (outcome_of s) c.args.vid all = reached s.net s.numbers (forest_of s is) is.of in
    (r.named, r.are_islands, c.with_bridge.ensures ∙ ap seen_with_bridge c.as_slice.ensures.value ∙ islands_counted s.numbers all r.named r.bridges)

use Rattle.std.proofs.Common.{List, ℕ, subst, ◌∙◌}
use Rattle.std.proofs.lemmas.Result.{IfOk-weaker}
use Rattle.mst_vlan.specs.forest.Agrees.{AreOf}
use Rattle.mst_vlan.specs.forest.Forest.{IsForest}
use Rattle.mst_vlan.specs.forest.Settled.{outcome_of}
use Rattle.mst_vlan.specs.Reach.{AreReached}
use Rattle.mst_vlan.proofs.forest_lemmas.SettledNet.{forest_of}
use Rattle.mst_tables.specs.Tables.{Net, Numbers}
use Rattle.mst_vlan.specs.Carried.{ViewWithTrees}
use Rattle.mst_diff.specs.Seen.{seen_groups}
use Rattle.mst_diff.proofs.NamedSides.{groups_named}
use Rattle.mst_diff.proofs.sides.groups_of.Goals as goal

pub returns : goal.returns
returns c =
    let s = c.args.plan.now in
    let is = c.known.ensures in
    let all = c.in_ok-islands.islands.items in
    let reached =
    subst (λ (w : ViewWithTrees). (net : Net) (numbers : Numbers) (f : IsForest net numbers w.forest) → AreOf net numbers w.view w.forest.regions → AreReached net numbers f.outcome c.args.vid all) c.requires c.in_ok-islands.ensures in
    let r : AreReached s.net s.numbers (outcome_of s) c.args.vid all = reached s.net s.numbers (forest_of s is) is.of in
    IfOk-weaker c.groups.result _ _
    (λ groups told. (
      r.named,
      r.are_islands,
      told ∙ (λ i. seen_groups (c.view.ensures i) (c.as_slice.ensures.value i)) ∙ groups_named s.net s.numbers s.view s.forest is.of (outcome_of s) c.args.vid all r,
    ))
    c.groups.ensures

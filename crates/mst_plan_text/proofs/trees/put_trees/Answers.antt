use Rattle.std.proofs.Common.{◌≡◌, ◌++◌, List, ap, subst, ◌∙◌, append_assoc}
use Rattle.std.specs.List.{flat_map}
use Rattle.std.proofs.lemmas.Result.{on_ok_weaker}
use Rattle.mst_rows.specs.Rows.{Row}
use Rattle.mst_vlan.specs.forest.InUse.{seen_mstis}
use Rattle.mst_vlan.specs.forest.Settled.{outcome_of}
use Rattle.mst_text.specs.TreeText.{tree_rows}
use Rattle.mst_plan_text.specs.PlanText.{mstis, trees_rows}
use Rattle.mst_plan_text.proofs.SeenTrees.{mstis_named}
use Rattle.mst_plan_text.proofs.trees.put_trees.Goals as goal

pub returns : goal.returns
returns g c first before grew =
    let s = c.args.plan.now in
    let f = tree_rows s.net (outcome_of s) in
    let listed : c.as_slice.result.now ≡ mstis s.net = c.as_slice.ensures.value ∙ c.in_ok-mstis.ensures ∙ ap seen_mstis c.view.ensures ∙ mstis_named s.net s.numbers s.view s.forest c.known.ensures.of in
    let seen : (before ++ f c.cist.result) ++ flat_map f c.as_slice.result.now ≡ before ++ trees_rows s.net (outcome_of s) =
    (λ k. (before ++ f (c.cist.ensures k)) ++ flat_map f (listed k)) ∙ append_assoc before (f 0) (flat_map f (mstis s.net)) in
    on_ok_weaker c.put_mstis.result (subst (g.R.Rows.grew first c.put_mstis.new.out) seen)
    (c.put_mstis.ensures first (before ++ f c.cist.result) (c.in_ok-put_tree_with.ensures first before grew))

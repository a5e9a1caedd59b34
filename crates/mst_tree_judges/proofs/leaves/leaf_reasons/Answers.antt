use Rattle.std.proofs.Common.{ℕ, List, map, filter, ap, ◌∙◌}
use Rattle.std.specs.List.{flat_map}
use Rattle.std.specs.FinMap as fin
use Rattle.std.proofs.lemmas.Result.{IfOk-weaker}
use Rattle.mst_view.specs.declared.in_view.BridgeInView.{BridgeInView}
use Rattle.mst_judged.specs.reasons.note_text.declared.children.Child.{Child}
use Rattle.mst_roles.specs.forest.Outcome.{trees_of}
use Rattle.mst_roles.specs.forest.Settled.{outcome_of}
use Rattle.mst_judged.specs.reasons.Reasons.{leaf_reason}
use Rattle.mst_tree_judges.specs.Seen.{is_child_of, names_at}
use Rattle.mst_tree_judges.proofs.ChildrenTold.{of_bridge}
use Rattle.mst_judged.proofs.NamedIn.{named_seen}
use Rattle.mst_judged.proofs.reasons_lemmas.Things.{flat_named}
use Rattle.mst_tree_judges.proofs.leaves.leaf_reasons.Goals as goal

pub returns : goal.returns
returns c = IfOk-weaker c.parents.result _ _
    (λ reasons told.
    let s = c.args.judged.now.plan.now in
    let is = c.known.ensures in
    let o = outcome_of s in
    let f = trees_of s.net o in
    let ok = c.nested.ensures.settled s.net o is.of.network is.is_outcome in
    let tree = c.args.tree in
    let keys = fin.keys s.net.bridges in
    let children : List Child = c.in_ok-children.children.items in
    let lost = c.args.judged.now.lost.now in
    let names = c.args.names.now in
    let of = λ (bridge : List ℕ). map (λ (c : Child). c.name) (filter (is_child_of bridge) children) in
    let kept = λ (bridge : List ℕ). c.in_ok-kept.ensures bridge ∙ ap (λ cs. map (λ (c : Child). c.name) (filter (is_child_of bridge) cs)) c.as_slice.ensures.value in
    record {
      children = of;
      are_children = λ bridge h. of_bridge f ok tree keys children c.in_ok-children.ensures bridge;
      are = told
          ∙ ap (flat_map (λ (b : BridgeInView). leaf_reason tree b.name (names_at c.in_ok-kept.kept b.name))) (c.as_slice-2.ensures.value ∙ c.in_ok-bridges.ensures)
          ∙ flat_named (λ (b : BridgeInView). b.name) (λ bridge. leaf_reason tree bridge (names_at c.in_ok-kept.kept bridge)) (λ bridge. leaf_reason tree bridge (of bridge)) (λ bridge. ap (leaf_reason tree bridge) (kept bridge)) _
          ∙ ap (flat_map (λ bridge. leaf_reason tree bridge (of bridge))) (named_seen s.net s.numbers s.view is.of.view lost names);
    }) c.parents.ensures

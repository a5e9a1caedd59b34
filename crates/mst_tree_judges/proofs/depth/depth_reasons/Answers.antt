use Rattle.std.proofs.Common.{◌≡◌, ◌==◌, ◌∷◌, [], nat_lt, List, map, filter, ap, ◌∙◌}
use Rattle.std.specs.Prelude.{if◌then◌else◌}
use Rattle.std.specs.FinMap as fin
use Rattle.std.proofs.lemmas.Result.{IfOk-weaker}
use Rattle.mst_judged.specs.reasons.note_text.declared.children.Child.{Child}
use Rattle.mst_roles.specs.forest.Outcome.{trees_of}
use Rattle.mst_roles.specs.forest.Settled.{outcome_of}
use Rattle.mst_judged.specs.reasons.declared.reason.Reason.TheVariants as why
use Rattle.mst_tree_judges.proofs.ChildrenTold.{are_deepest, deepest, greatest, most_of, none_deeper, some_deepest}
use Rattle.mst_tree_judges.proofs.depth.depth_reasons.Goals as goal

pub returns : goal.returns
returns c = IfOk-weaker c.told.result _ _
    (λ reasons told.
    let s = c.args.judged.now.plan.now in
    let is = c.known.ensures in
    let o = outcome_of s in
    let f = trees_of s.net o in
    let ok = c.nested.ensures.settled s.net o is.of.network is.is_outcome in
    let tree = c.args.tree in
    let names = fin.keys s.net.bridges in
    let children : List Child = c.in_ok-children.children.items in
    let are = c.in_ok-children.ensures in
    let limit = c.args.most in
    let found = greatest f ok tree names children are in
    let steps : c.greatest-steps.result ≡ found = c.greatest-steps.ensures ∙ ap (most_of 0) c.as_slice.ensures.value in
    let deep : c.in_ok-names.names.items ≡ deepest f ok tree names children are =
    c.in_ok-names.ensures ∙ (λ i. map (λ (c : Child). c.name) (filter (λ (c : Child). c.steps == steps i) (c.as_slice-2.ensures.value i))) in
    record {
      greatest = found;
      none_deeper = none_deeper f ok tree names children are;
      deepest = deepest f ok tree names children are;
      are_deepest = are_deepest f ok tree names children are;
      some = some_deepest f ok tree names children are;
      are = told ∙ (λ i. if nat_lt limit (steps i) then why.Depth tree (steps i) (deep i) ∷ [] else []);
    }) c.told.ensures

use Rattle.std.proofs.Common.{[], ◌∷◌, ◌++◌, List, ℕ, Option, false, cond, sym, ap, ◌∙◌, append-nil}
use Rattle.std.specs.Option.{option_map_or}
use Rattle.mst_view.specs.Aggregation.{same_name}
use Rattle.mst_tree_judges.specs.Seen.{names_at}
use Rattle.mst_tree_judges.proofs.ChildAdded.{children_more}
use Rattle.mst_tree_judges.proofs.leaves.by_parent.Goals as goal
use Rattle.mst_tree_judges.proofs.leaves.by_parent.Goals.{in-Some+in_ok-add, in_default}

pub loop-child-preserved : goal.loop-child-preserved
loop-child-preserved c = λ q.
    let child = c.child-item.result in
    let before = names_at c.loop-child.kept q in
    let more = children_more c.args.children.now c.loop-child.child-index child c.loop-child-test.true c.child-item.is q in
    let with : Option (List ℕ) → List (List ℕ) = λ parent. before ++ cond (option_map_or (λ own. same_name own q) parent false) (child.name ∷ []) [] in
    let same = ap (λ l. l ++ cond (option_map_or (λ own. same_name own q) child.parent false) (child.name ∷ []) []) (c.loop-child.invariant q) ∙ sym more in
    elim c.match-child.branch [
      | in-Some+in_ok-add w ↦ ap (λ kept. names_at kept q) w.kept-is ∙ w.in_ok-add.ensures {u = tt} q ∙ ap with (sym w.in-Some.is) ∙ same
      | in_default w ↦ ap (λ kept. names_at kept q) w.kept-is ∙ sym (append-nil before) ∙ ap with (sym w.in_default.is) ∙ same
    ]

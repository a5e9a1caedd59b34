use Rattle.std.proofs.Common.{◌≡◌, ◌-◌, true, false, length, take, drop, sym, ap, ◌∙◌}
use Rattle.std.proofs.lemmas.Result.{IfOk-weaker}
use Rattle.mst_edits.specs.TableLines.{vids_in, gathered, is_one_line}
use Rattle.mst_edits.proofs.LinesMade.{with_none, first_is, others_are}
use Rattle.mst_edits.proofs.tables.gathered_first.Goals as goal

pub returns-then-not-branch : goal.returns-then-not-branch
returns-then-not-branch c =
    let name = c.args.name.now in
    let table = c.args.table.now in
    let tree = c.tree-item.result in
    let vids : c.add_tree.new.vids ≡ vids_in table tree = c.add_tree.ensures ∙ with_none table tree c.none-vids.result c.none-vids.ensures in
    vids ∙ sym (first_is name table c.args.trees.now tree false c.in-len1-up.len_at_least c.tree-item.is (ap (is_one_line name) (sym vids) ∙ sym c.in_ok-is_one_line-in-len1-up.ensures ∙ c.if-not-branch.true))

pub returns-else-not-branch : goal.returns-else-not-branch
returns-else-not-branch c =
    let name = c.args.name.now in
    let table = c.args.table.now in
    let tree = c.tree-item.result in
    let vids : c.add_tree.new.vids ≡ vids_in table tree = c.add_tree.ensures ∙ with_none table tree c.none-vids.result c.none-vids.ensures in
    let first = first_is name table c.args.trees.now tree true c.in-len1-up.len_at_least c.tree-item.is (ap (is_one_line name) (sym vids) ∙ sym c.in_ok-is_one_line-in-len1-up.ensures ∙ c.if-not-branch.false) in
    IfOk-weaker c.gathered.result _ _ (λ all is. is ∙ ap (λ s. gathered name table s (take (length c.args.trees.now - 1) (drop 1 c.args.trees.now))) vids ∙ ap (gathered name table (vids_in table tree)) (others_are c.args.trees.now) ∙ sym first) c.gathered.ensures

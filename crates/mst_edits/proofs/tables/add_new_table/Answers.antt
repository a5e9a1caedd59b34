use Rattle.std.proofs.Common.{◌≡◌, ◌++◌, ◌≤◌, map, replicate, sym, ap, subst, ◌∙◌}
use Rattle.std.proofs.lemmas.Result.{on_ok_weaker}
use Rattle.mst_net.specs.tables.Table.{no_table, tree_count}
use Rattle.mst_edits.specs.TableLines.{direct_moves, edit_of, table_edits}
use Rattle.mst_edits.proofs.LinesMade.{new_table}
use Rattle.mst_edits.proofs.NewTable.{new_lines}
use Rattle.mst_edits.proofs.tables.add_new_table.Goals as goal

pub returns-then-tree_count-gt-TREE_LIMIT : goal.returns-then-tree_count-gt-TREE_LIMIT
returns-then-tree_count-gt-TREE_LIMIT c =
    let name = c.args.name.now in
    let after = c.args.after.now in
    on_ok_weaker c.add_table.result (λ e. e ∙ ap (λ t. c.args.edits.now.items ++ table_edits name t after) (new_table c.cist-before.result c.cist-before.ensures)) c.add_table.ensures

pub returns : goal.returns
returns c =
    let name = c.args.name.now in
    let after = c.args.after.now in
    let old = c.args.edits.now.items in
    let before : replicate 4094 c.cist-before.result ≡ no_table = new_table c.cist-before.result c.cist-before.ensures in
    let few : tree_count after ≤ 64 = subst (λ n. n ≤ 64) c.tree_count.ensures c.if-tree_count-gt-TREE_LIMIT.false in
    on_ok_weaker c.add_lines.result (λ e.
    e ∙ ap (λ ls. old ++ map (edit_of name) ls) (c.deref.ensures.value ∙ c.in_ok-lines.ensures ∙ ap (λ t. direct_moves name t after) before) ∙ ap (λ es. old ++ es) (sym (new_lines name after few)))
    c.add_lines.ensures

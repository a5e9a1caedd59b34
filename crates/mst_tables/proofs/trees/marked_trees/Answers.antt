use Rattle.std.proofs.Common.{◌≡◌, List, Bool, [], Option, None, ap, sym, subst, ◌∙◌}
use Rattle.std.specs.Prelude.{IfOk}
use Rattle.std.specs.Map.{lookup}
use Rattle.std.specs.Option.{option_copied, unwrap_or}
use Rattle.mst_tables.specs.TreesSet.{trees_where}
use Rattle.mst_records.specs.Blocks.{in_block, is_marked}
use Rattle.mst_tables.proofs.TreesListed.{no_trees}
use Rattle.mst_tables.proofs.trees.marked_trees.Goals as goal

pub returns-in-Some : goal.returns-in-Some
returns-in-Some g c =
    let eq = g.K.PartialEq.eq in
    let same : c.in-Some.marked.now ≡ unwrap_or (lookup (eq c.args.key.now) c.args.marks.now.entries) [] =
    ap (λ o. unwrap_or (option_copied o) []) (sym c.in-Some.is) ∙ ap (λ o. unwrap_or o []) c.get.ensures.value in
    subst (λ flags. IfOk c.trees_of.result (λ trees. trees.items ≡ trees_where (in_block flags))) same c.trees_of.ensures

pub returns-in-None : goal.returns-in-None
returns-in-None g c =
    let eq = g.K.PartialEq.eq in
    let none : lookup (eq c.args.key.now) c.args.marks.now.entries ≡ None = sym c.get.ensures.value ∙ ap option_copied c.in-None.is in
    c.new.ensures.items ∙ sym (no_trees (is_marked eq c.args.marks.now.entries c.args.key.now) (λ k. ap (λ (o : Option (List Bool)). in_block (unwrap_or o []) k) none))

use Rattle.std.proofs.Common.{true, List, ◌≡◌, ◌++◌, sym, ap, subst, ◌∙◌, true≢false}
use Rattle.std.specs.Prelude.{OnOk}
use Rattle.std.specs.Option.{option_copied}
use Rattle.mst_ids.specs.declared.name.PortName.{PortName}
use Rattle.mst_rows.specs.Rows.{Row}
use Rattle.mst_questions.specs.Explaining.{Explains, has_asked}
use Rattle.mst_questions.proofs.Explained.{has_all, not_found, found_there, has_name}
use Rattle.mst_questions.proofs.explaining.put_explained.Goals as goal

pub put_in_trees-requires-clause-there : goal.put_in_trees-requires-clause-there
put_in_trees-requires-clause-there g c = found_there c.args.plan.now c.known.ensures c.args.name.now c.in-Some.port.now (sym c.port_named.ensures ∙ ap option_copied c.in-Some.is)

pub put_in_trees-requires-clause-tree : goal.put_in_trees-requires-clause-tree
put_in_trees-requires-clause-tree g c =
    let s = c.args.plan.now in
    let name = c.args.name.now in
    let tree = c.args.tree.now in
    subst (λ (n : PortName). has_asked s.net n.bridge tree ≡ true) (sym (has_name name s.view.ports c.in-Some.port.now (sym c.port_named.ensures ∙ ap option_copied c.in-Some.is)))
    (has_all s.net name tree c.requires).asked

pub returns-in-None : goal.returns-in-None
returns-in-None g c first before grew =
    let s = c.args.plan.now in
    let name = c.args.name.now in
    absurd (true≢false (sym (has_all s.net name c.args.tree.now c.requires).found ∙ not_found s c.known.ensures name (sym c.port_named.ensures ∙ ap option_copied c.in-None.is)))

pub returns-in-Some : goal.returns-in-Some
returns-in-Some g c first before grew =
    let s = c.args.plan.now in
    subst (λ (n : PortName). OnOk c.put_in_trees.result ((rows : List Row) × Explains s.net n c.args.tree.now rows × g.R.Rows.grew first c.put_in_trees.new.out (before ++ rows)))
    (has_name c.args.name.now s.view.ports c.in-Some.port.now (sym c.port_named.ensures ∙ ap option_copied c.in-Some.is))
    (c.put_in_trees.ensures first before grew)

use Rattle.std.proofs.Common.{◌++◌, ◌∷◌, ◌∙◌, [], List, ap, append_assoc, subst}
use Rattle.std.proofs.lemmas.Result.{on_ok_weaker}
use Rattle.mst_rows.specs.Rows.{Row}
use Rattle.mst_text.specs.TreeRows.{heading}
use Rattle.mst_text.specs.TreeRuns.{bridge_with, by_runs}
use Rattle.mst_text.proofs.TreeNamed.{rows_named}
use Rattle.mst_text.proofs.tree.put_tree_with.Goals as goal

pub returns : goal.returns
returns g c first rows grew =
    let s = c.args.plan.now in
    let tree = c.args.tree in
    let seen = by_runs (bridge_with s tree) s.view.bridges s.view.ports in
    on_ok_weaker c.put_bridges.result
    (subst (g.R.Rows.grew first c.put_bridges.new.out) (append_assoc rows (heading tree ∷ []) seen ∙ ap (λ (more : List Row). rows ++ more) (rows_named s c.known.ensures tree)))
    (c.put_bridges.ensures first (rows ++ heading tree ∷ []) (c.in_ok-put_heading.ensures first rows grew))

use Rattle.std.proofs.Common.{List, ◌++◌, subst}
use Rattle.std.specs.Prelude.{OnOk}
use Rattle.mst_view.specs.Viewed.{named_port}
use Rattle.mst_roles.specs.forest.Settled.{outcome_of}
use Rattle.mst_rows.specs.Rows.{Row}
use Rattle.mst_explain.specs.SeenText.{explanation_rows}
use Rattle.mst_explain.proofs.OneText.{one_explained}
use Rattle.mst_explain.proofs.Texts.{explained}
use Rattle.mst_explain.proofs.explained.put_explanation.Goals as goal

pub returns : goal.returns
returns g c rows_of is first rows grew =
    let s = c.args.plan.now in
    let known = c.known.ensures in
    let p = c.args.port.now in
    let tree = c.args.tree in
    let same = one_explained s.net known.of.network (outcome_of s) tree (named_port p) (explanation_rows s tree p) rows_of (explained s known p c.requires.port tree c.requires.tree) is in
    subst (λ (all : List Row). OnOk c.put_in_tree.result (g.R.Rows.grew first c.put_in_tree.new.out (rows ++ all))) same (c.put_in_tree.ensures first rows grew)

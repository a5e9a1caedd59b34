use Rattle.std.proofs.Common.{◌++◌, ◌∙◌, ℕ, List, ap, subst, append_assoc}
use Rattle.std.specs.Prelude.{OnOk}
use Rattle.mst_view.specs.Viewed.{named_port}
use Rattle.mst_roles.specs.forest.Seen.{trees_at}
use Rattle.mst_roles.specs.forest.Settled.{outcome_of}
use Rattle.mst_rows.specs.Rows.{Row}
use Rattle.mst_explain.specs.Explained.{trees_of_bridge}
use Rattle.mst_explain.specs.SeenText.{explanation_rows}
use Rattle.mst_explain.proofs.OneText.{all_explained_once}
use Rattle.mst_explain.proofs.Texts.{explanations_rows, all_explained}
use Rattle.mst_explain.proofs.explained.put_explanations.Goals as goal

pub returns : goal.returns
returns g c rows_of is first rows grew =
    let s = c.args.plan.now in
    let known = c.known.ensures in
    let p = c.args.port.now in
    let each : List ℕ → List Row = explanations_rows s known p c.requires in
    let own = trees_at s.view p.bridge in
    let same = all_explained_once s.net known.of.network (outcome_of s) (named_port p) (trees_of_bridge s.net p.name.bridge) (explanation_rows s 0 p ++ each own) rows_of (all_explained s known p c.requires) is in
    let begun = c.in_ok-put_in_tree.ensures first rows grew in
    subst (λ (all : List Row). OnOk c.put_in_trees.result (g.R.Rows.grew first c.put_in_trees.new.out all))
    ((λ i. (rows ++ explanation_rows s (c.cist.ensures i) p) ++ each ((c.trees.ensures ∙ ap (λ v. trees_at v p.bridge) c.view.ensures) i))
    ∙ append_assoc rows (explanation_rows s 0 p) (each own) ∙ ap (λ (all : List Row). rows ++ all) same) (c.put_in_trees.ensures first (rows ++ explanation_rows s c.cist.result p) begun)

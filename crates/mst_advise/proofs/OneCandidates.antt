-- There is one list of candidates, where a port has one explanation in a tree.
use Rattle.std.proofs.Common.{◌≡◌, ℕ, List, map, Option, Some, None, sym, ap, ◌∙◌}
use Rattle.mst_view.specs.View.{LogicalPort}
use Rattle.mst_rows.specs.Rows.{Row}
use Rattle.mst_net.specs.tables.Tables.{Net}
use Rattle.mst_roles.specs.Roles.{role_in}
use Rattle.mst_roles.specs.declared.kind.Role.{Role}
use Rattle.mst_roles.specs.forest.Outcome.{Outcome}
use Rattle.mst_explain.specs.Explained.{IsExplained}
use Rattle.mst_graph.specs.Lists.{each_once}
use Rattle.mst_advise.specs.Candidates.{AreCandidates}
use Rattle.mst_advise.specs.Contests.{contests_in, lost_by}
use Rattle.mst_advise.specs.Costs.{contested, port_named}
use Rattle.mst_advise.specs.InQuestion.{AreInQuestion, AreInQuestionBy, AreInQuestionOf, in_question}
use Rattle.mst_advise.specs.Settings.{alone, same_setting}
use Rattle.mst_advise.specs.declared.goal.Goal.{Goal}
use Rattle.mst_advise.specs.declared.goal.Goal.TheVariants.{Root, Forward}
use Rattle.mst_advise.specs.declared.setting.Setting.{Setting}

module _ (net : Net) (o : Outcome) (one : (p : LogicalPort) (tree : ℕ) (rows other : List Row) → IsExplained net o tree p rows → IsExplained net o tree p other → rows ≡ other) where
  settings_same : (tree : ℕ) (p : LogicalPort) (xs ys : List Setting) → AreInQuestion net o tree p xs → AreInQuestion net o tree p ys → xs ≡ ys
  settings_same tree p xs ys x y =
      x.are ∙ ap (λ (rows : List Row). each_once same_setting (in_question net o tree p (lost_by p.name (contests_in rows)))) (one p tree x.explanation y.explanation x.is_explained y.is_explained) ∙ sym y.are

  by_same : (tree : ℕ) (p : LogicalPort) (role : Option Role) (xs ys : List Setting) → AreInQuestionBy net o tree p role xs → AreInQuestionBy net o tree p role ys → xs ≡ ys
  by_same tree p None xs ys x y = x ∙ sym y
  by_same tree p (Some role) xs ys x y = settings_same (contested net o tree p) p xs ys x y

  of_same : (tree : ℕ) (found : Option LogicalPort) (xs ys : List Setting) → AreInQuestionOf net o tree found xs → AreInQuestionOf net o tree found ys → xs ≡ ys
  of_same tree None xs ys x y = x ∙ sym y
  of_same tree (Some p) xs ys x y = by_same tree p (role_in net o tree p) xs ys x y

  pub candidates_same : (wanted : Goal) (xs ys : List (List Setting)) → AreCandidates net o wanted xs → AreCandidates net o wanted ys → xs ≡ ys
  candidates_same (Root tree bridge) xs ys x y = x ∙ sym y
  candidates_same (Forward tree port) xs ys x y = x.2 ∙ ap (map alone) (of_same tree (port_named net port) x.0 y.0 x.1 y.1) ∙ sym y.2

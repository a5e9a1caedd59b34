-- The settings that are in question where a port is to forward in a tree.
use Rattle.std.specs.Prelude.{◌≡◌, ℕ, ◌==◌, List, [], ◌++◌, Option, None, Some, if◌then◌else◌}
use Rattle.std.specs.Option.{option_map_or}
use Rattle.mst_ids.specs.declared.name.PortName.{PortName}
use Rattle.mst_view.specs.Aggregation.{same_name}
use Rattle.mst_view.specs.View.{LogicalPort}
use Rattle.mst_rows.specs.Rows.{Row}
use Rattle.mst_net.specs.tables.Tables.{Net}
use Rattle.mst_roles.specs.Roles.{role_in}
use Rattle.mst_roles.specs.declared.kind.Role.{Role}
use Rattle.mst_roles.specs.forest.Outcome.{Outcome}
use Rattle.mst_explain.specs.Explained.{IsExplained}
use Rattle.mst_graph.specs.Lists.{each_once}
use Rattle.mst_advise.specs.Contests.{contests_in, lost_by}
use Rattle.mst_advise.specs.Costs.{against, contested, greatest_cost, least_cost}
use Rattle.mst_advise.specs.PortPriorities.{port_priorities}
use Rattle.mst_advise.specs.Priorities.{lower_priorities}
use Rattle.mst_advise.specs.Settings.{same_setting}
use Rattle.mst_advise.specs.declared.contests.RootContest.{RootContest}
use Rattle.mst_advise.specs.declared.setting.Setting.{Setting}

-- the designated port of the port's LAN in a tree, where the port is enabled
abbrev pub designated_beside : Outcome → ℕ → LogicalPort → Option PortName
designated_beside o tree p = if p.is_enabled then (if tree == 0 then o.cist.designated p.lan else (o.msti tree).designated p.lan) else None

-- what is asked by the port W that gives the bridge its root priority vector in place of P, if one does
abbrev pub by_contest : (RootContest → List Setting) → Option RootContest → List Setting
by_contest settings lost = option_map_or settings lost []

-- the extreme costs of P and of W, and priorities of P's bridge
abbrev pub extremes : Net → Outcome → ℕ → LogicalPort → Option RootContest → PortName → List Setting
extremes net o tree p lost q = (least_cost net o tree p ++ by_contest (greatest_cost net o tree) lost) ++ lower_priorities net o tree p.name.bridge q.bridge

-- by the LAN's designated port Q: priorities of P and of Q where Q is on P's own bridge, and else the extremes
abbrev pub beside : Net → Outcome → ℕ → LogicalPort → Option RootContest → PortName → List Setting
beside net o tree p lost q = if same_name q.bridge p.name.bridge then port_priorities net tree p.name q else extremes net o tree p lost q

-- the costs against W, and what goes by Q, if there is one
abbrev pub in_question : Net → Outcome → ℕ → LogicalPort → Option RootContest → List Setting
in_question net o tree p lost = by_contest (against net o tree p) lost ++ option_map_or (beside net o tree p lost) (designated_beside o tree p) []

-- each once, in the order in which they are tried, by what the explanation of P in the tree tells
pub record AreInQuestion (net : Net) (o : Outcome) (tree : ℕ) (p : LogicalPort) (settings : List Setting) : Type 0 where
  pub explanation : List Row
  pub is_explained : IsExplained net o tree p explanation
  pub are : settings ≡ each_once same_setting (in_question net o tree p (lost_by p.name (contests_in explanation)))

-- in the tree that is contested; none, where P has no role in the tree, as its bridge hasn't the tree
abbrev pub AreInQuestionBy : Net → Outcome → ℕ → LogicalPort → Option Role → List Setting → Type 0
AreInQuestionBy net o tree p None settings = settings ≡ []
AreInQuestionBy net o tree p (Some role) settings = AreInQuestion net o (contested net o tree p) p settings

-- none, where P isn't there
abbrev pub AreInQuestionOf : Net → Outcome → ℕ → Option LogicalPort → List Setting → Type 0
AreInQuestionOf net o tree None settings = settings ≡ []
AreInQuestionOf net o tree (Some p) settings = AreInQuestionBy net o tree p (role_in net o tree p) settings

-- The settings that may bring about what is wanted: candidates, of which each is some settings that are made together.
use Rattle.std.specs.Prelude.{◌≡◌, List, [], ◌∷◌, map}
use Rattle.mst_net.specs.tables.Tables.{Net}
use Rattle.mst_roles.specs.forest.Outcome.{Outcome}
use Rattle.mst_advise.specs.Costs.{port_named}
use Rattle.mst_advise.specs.InQuestion.{AreInQuestionOf}
use Rattle.mst_advise.specs.Priorities.{root_settings}
use Rattle.mst_advise.specs.Settings.{alone}
use Rattle.mst_advise.specs.declared.goal.Goal.{Goal}
use Rattle.mst_advise.specs.declared.goal.Goal.TheVariants.{Root, Forward}
use Rattle.mst_advise.specs.declared.setting.Setting.{Setting}

-- the candidates for a goal in a network with this outcome, in the order in which they are tried: of a root there is one, and of a port
-- each is one setting
abbrev pub AreCandidates : Net → Outcome → Goal → List (List Setting) → Type 0
AreCandidates net o (Root tree bridge) candidates = candidates ≡ root_settings net o tree bridge ∷ []
AreCandidates net o (Forward tree port) candidates = (settings : List Setting) × AreInQuestionOf net o tree (port_named net port) settings × (candidates ≡ map alone settings)

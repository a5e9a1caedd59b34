-- What settings make of a network, and whether it has what is wanted.
use Rattle.std.specs.Prelude.{◌≡◌, List, [], Result, Ok, Err, fold}
use Rattle.mst_net.specs.tables.After.{after}
use Rattle.mst_net.specs.tables.Tables.{Net, IsNetwork}
use Rattle.mst_net.specs.tables.declared.refusal.Refusal.{Refusal}
use Rattle.mst_roles.specs.forest.Outcome.{Outcome, IsOutcome}
use Rattle.mst_verify.specs.tree_judges.judged.reasons.Holds.{Holds}
use Rattle.mst_verify.specs.tree_judges.judged.reasons.Named.{nothing_before}
use Rattle.mst_advise.specs.Goals.{expectation_of}
use Rattle.mst_advise.specs.Settings.{edit_of}
use Rattle.mst_advise.specs.declared.goal.Goal.{Goal}
use Rattle.mst_advise.specs.declared.setting.Setting.{Setting}

-- one more, unless one before is refused
abbrev pub then_set : Result Net Refusal → Setting → Result Net Refusal
then_set (Err refused) setting = Err refused
then_set (Ok net) setting = after (edit_of setting) net

-- settings, one after another
abbrev pub after_settings : Net → List Setting → Result Net Refusal
after_settings net settings = fold then_set (Ok net) settings

-- settings make this network, with this settled outcome
pub record Make (net : Net) (settings : List Setting) (now : Net) (p : Outcome) : Type 0 where
  pub is : after_settings net settings ≡ Ok now
  pub is_network : IsNetwork now
  pub is_outcome : IsOutcome now p

-- a goal holds in a network with a settled outcome
abbrev pub Has : Goal → Net → Outcome → Type 0
Has goal net o = Holds net o net [] nothing_before (expectation_of goal)

-- Which settings bring about what is wanted of a network: advice.
use Rattle.std.specs.Prelude.{◌≡◌, ◌⊎◌, ℕ, Bool, true, false, IsErr, fold, List, [], ◌∷◌, ◌++◌, length, map, Option, None, Some}
use Rattle.std.specs.List.{AllByRecursion}
use Rattle.mst_net.specs.tables.Tables.{Net}
use Rattle.mst_rows.specs.Rows.{Row}
use Rattle.mst_roles.specs.forest.Outcome.{Outcome, IsOutcome}
use Rattle.mst_sweeping.specs.StepText.{AreStepRows}
use Rattle.mst_sweeping.specs.declared.step.Deed.TheVariants as deed
use Rattle.mst_sweeping.specs.declared.step.Stepped.{Stepped}
use Rattle.mst_advise.specs.Told.{because_row, count_row, none_row, setting_row}
use Rattle.mst_advise.specs.Candidates.{AreCandidates}
use Rattle.mst_advise.specs.Hindrances.{apart_from, hindrance_of}
use Rattle.mst_advise.specs.Made.{Has, Make, after_settings}
use Rattle.mst_advise.specs.Settings.{alone}
use Rattle.mst_advise.specs.declared.goal.Goal.{Goal}
use Rattle.mst_advise.specs.declared.goal.Goal.TheVariants.{Root, Forward}
use Rattle.mst_advise.specs.declared.setting.Setting.{Setting}
use Rattle.mst_advise.specs.declared.advising.Advised.{Advised}
use Rattle.mst_advise.specs.declared.advising.Advised.TheVariants as advised

-- ---- what settings do
-- settings don't bring a goal about: one of them is refused, or the network that they make lacks it
pub record Lack (goal : Goal) (net : Net) (settings : List Setting) : Type 0 where
  pub now : Net
  pub outcome : Outcome
  pub made : Make net settings now outcome
  pub lacks : Has goal now outcome → ⊥

abbrev pub Fail : Goal → Net → List Setting → Type 0
Fail goal net settings = IsErr (after_settings net settings) ⊎ Lack goal net settings

-- they bring it about, and these rows tell them and what they do
pub record Bring (goal : Goal) (net : Net) (o : Outcome) (settings : List Setting) (rows : List Row) : Type 0 where
  pub now : Net
  pub outcome : Outcome
  pub made : Make net settings now outcome
  pub has : Has goal now outcome
  pub own : List Row
  pub does : Stepped
  pub told : AreStepRows [] net o now outcome deed.Edits own does
  pub are : rows ≡ map setting_row settings ++ own ++ count_row (length settings) ∷ []

-- trying settings: they bring it about, or don't, and nothing is told
abbrev pub Tries : Goal → Net → Outcome → List Setting → Bool → List Row → Type 0
Tries goal net o settings true rows = Bring goal net o settings rows
Tries goal net o settings false rows = Fail goal net settings × (rows ≡ [])

-- the bridges that have another root than B in the network that settings make
pub record LeaveApart (net : Net) (tree : ℕ) (b : List ℕ) (settings : List Setting) (apart : List (List ℕ)) : Type 0 where
  pub now : Net
  pub outcome : Outcome
  pub made : Make net settings now outcome
  pub are : apart ≡ apart_from now outcome tree b

-- none where one of the settings is refused, and none of a port
abbrev pub AreApart : Goal → Net → List Setting → List (List ℕ) → Type 0
AreApart (Root tree b) net settings apart = (IsErr (after_settings net settings) × (apart ≡ [])) ⊎ LeaveApart net tree b settings apart
AreApart (Forward tree port) net settings apart = apart ≡ []

-- ---- what is told
-- the first of the candidates that bring it about, which is of so many settings
pub record TellsFirst (goal : Goal) (net : Net) (o : Outcome) (candidates : List (List Setting)) (count : ℕ) (rows : List Row) : Type 0 where
  pub before : List (List Setting)
  pub settings : List Setting
  pub behind : List (List Setting)
  pub among : candidates ≡ before ++ settings ∷ behind
  pub fail : AllByRecursion (Fail goal net) before
  pub brings : Bring goal net o settings rows
  pub counted : count ≡ length settings

-- the last candidate, or nothing where there is none
abbrev pub last_of : List (List Setting) → List Setting
last_of candidates = fold (λ before settings. settings) [] candidates

-- that no candidate does, and why
pub record TellsNone (goal : Goal) (net : Net) (candidates : List (List Setting)) (rows : List Row) : Type 0 where
  pub fail : AllByRecursion (Fail goal net) candidates
  pub apart : List (List ℕ)
  pub are_apart : AreApart goal net (last_of candidates) apart
  pub are : rows ≡ because_row (hindrance_of net goal) apart (length candidates) ∷ none_row ∷ []

-- settings bring it about, or no candidate does
abbrev pub AdvisesIn : Goal → Net → Outcome → List (List Setting) → Advised → List Row → Type 0
AdvisesIn goal net o candidates advised.Already rows = ⊥
AdvisesIn goal net o candidates (advised.Edits count) rows = TellsFirst goal net o candidates count rows
AdvisesIn goal net o candidates advised.Nothing rows = TellsNone goal net candidates rows

-- or the goal holds already; else by its candidates
abbrev pub Tells : Goal → Net → Outcome → Advised → List Row → Type 0
Tells goal net o advised.Already rows = Has goal net o × (rows ≡ count_row 0 ∷ [])
Tells goal net o advice rows = (Has goal net o → ⊥) × (candidates : List (List Setting)) × AreCandidates net o goal candidates × AdvisesIn goal net o candidates advice rows

-- these rows are the advice, by a settled outcome of the network
pub record Advises (net : Net) (goal : Goal) (advice : Advised) (rows : List Row) : Type 0 where
  pub outcome : Outcome
  pub is_outcome : IsOutcome net outcome
  pub told : Tells goal net outcome advice rows

-- ---- on the way
-- settings of a root that are tried together: they bring it about, or these bridges are apart then
abbrev pub TriesRoot : ℕ → List ℕ → Net → Outcome → List Setting → Option (List (List ℕ)) → List Row → Type 0
TriesRoot tree b net o settings None rows = Bring (Root tree b) net o settings rows
TriesRoot tree b net o settings (Some apart) rows = Fail (Root tree b) net settings × AreApart (Root tree b) net settings apart × (rows ≡ [])

-- settings that are tried each by itself: the first that brings it about is told, or none does
abbrev pub TriesEach : Goal → Net → Outcome → List Setting → Bool → List Row → Type 0
TriesEach goal net o settings true rows = TellsFirst goal net o (map alone settings) 1 rows
TriesEach goal net o settings false rows = AllByRecursion (Fail goal net) (map alone settings) × (rows ≡ [])

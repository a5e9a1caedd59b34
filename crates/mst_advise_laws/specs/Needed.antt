-- Settings of which none can be left out.
use Rattle.std.specs.Prelude.{◌≡◌, ℕ, List, ◌∷◌, ◌++◌, length, map}
use Rattle.mst_tables.specs.Tables.{Net}
use Rattle.mst_rows.specs.Rows.{Row}
use Rattle.mst_forest.specs.Outcome.{Outcome}
use Rattle.mst_advise.specs.Made.{Has, Make}
use Rattle.mst_advise.specs.Told.{setting_row}
use Rattle.mst_advise.specs.declared.goal.Goal.{Goal}
use Rattle.mst_advise.specs.declared.setting.Setting.{Setting}

-- without any one of these settings the others don't bring a goal about, whichever settled outcome the network has that they make
abbrev pub AreNeeded : Goal → Net → List Setting → Type 0
AreNeeded goal net settings =
    (before behind : List Setting) (setting : Setting) → settings ≡ before ++ setting ∷ behind → (now : Net) (r : Outcome) → Make net (before ++ behind) now r → Has goal now r → ⊥

-- rows tell so many such settings first
pub record TellNeeded (goal : Goal) (net : Net) (count : ℕ) (rows : List Row) : Type 0 where
  pub settings : List Setting
  pub counted : length settings ≡ count
  pub behind : List Row
  pub tell : rows ≡ map setting_row settings ++ behind
  pub needed : AreNeeded goal net settings

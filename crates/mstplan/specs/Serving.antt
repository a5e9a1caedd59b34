-- What serving a word on the inputs of some names promises, and why it may not be served.
use Rattle.std.specs.Prelude.{◌≡◌, ℕ, List, Option, Some, None, Result, codes}
use Rattle.std.specs.Borrow.{Bor}
use Rattle.mst_command.specs.frame.hints.declared.whose.Script.{Script}
use Rattle.mst_command.specs.frame.hints.declared.whose.Script.TheVariants.{Policy}
use Rattle.mst_io.specs.declared.outcome.Outcome.{Outcome}
use Rattle.mst_io.specs.declared.outcome.RunFault.{RunFault}
use Rattle.mst_drive.specs.Words.{Inputs, Telling}
use Rattle.mst_command.specs.frame.Named.{AreNamed, IsWhyNone, word_of}
use Rattle.mst_command.specs.frame.Served.{EndsHinted, Outputs}
use Rattle.mst_command.specs.frame.declared.hinting.Scripts.{Scripts}
use Rattle.mst_command.specs.frame.declared.inputs.Unserved.{Unserved}
use Rattle.mst_command.specs.frame.declared.sources.Unopened.{Unopened as Why}
use Rattle.mstplan.specs.Endings.{stop_by}
use Rattle.mst_command.specs.declared.stop.Stop.{Stop}
use Rattle.mst_command.specs.declared.stop.Stop.TheVariants.{Told}
use Rattle.mst_command.specs.declared.flags.Flags.{Flags}

-- what the lines of a word's inputs have hints of
abbrev pub scripts : Script → Option Script → Option Script → Scripts
scripts first second third = record { first = first; second = second; third = third }

-- those of a policy, if one is named
abbrev pub policy_if : {A : Type 0} → Option A → Option Script
policy_if None = None
policy_if (Some name) = Some Policy

-- a word that tells this of so many inputs was served on those of these names, and the hints of their lines were told, where the flags
-- ask for them
abbrev pub ServesWord : (Option (List ℕ) → Type 0) → (List ℕ → Option (List ℕ) → Type 0) → Flags → Telling → ℕ → Scripts → List ℕ → Option (List ℕ) → Option (List ℕ) → Outputs → Outputs → Result Outcome RunFault → Result (Unit {0}) RunFault → Type 0
ServesWord IsGiven IsFile flags telling count scripts name other third old new answer hints =
    (given : Inputs) × AreNamed IsGiven IsFile name other third given × EndsHinted telling count scripts flags.hints given old new answer hints

-- why a word isn't served on the inputs of these names: one of theirs, and no other, couldn't be opened for the reason that is told, or
-- there is no memory
abbrev pub IsWhyUnread : (List ℕ → Why → Type 0) → Bor (List ℕ) → Option (Bor (List ℕ)) → Option (Bor (List ℕ)) → Stop → Type 0
IsWhyUnread IsUnopened name other third stop = (why : Unserved) × (stop ≡ stop_by why) × IsWhyNone IsUnopened name other third why

-- ---- what there is to be done

-- What is to be done: a word that tells this of so many inputs is served on those of these names, whose lines have these hints; or one of
-- three inputs, of which the second comes by standard input; or nothing, where the words ask nothing
pub data Task : Type 1 where
  serves : Telling → ℕ → Scripts → Bor (List ℕ) → Option (Bor (List ℕ)) → Option (Bor (List ℕ)) → Task
  stands : Telling → Scripts → Bor (List ℕ) → Option (Bor (List ℕ)) → Task
  nothing : Task

-- it was done with these flags, this came to the outputs, and this was answered
abbrev pub ServesTask : (Option (List ℕ) → Type 0) → (List ℕ → Option (List ℕ) → Type 0) → Flags → Task → Outputs → Outputs → Result Outcome RunFault → Result (Unit {0}) RunFault → Type 0
ServesTask IsGiven IsFile flags (serves telling count scripts name other third) old new answer hints = ServesWord IsGiven IsFile flags telling count scripts name.now (word_of other) (word_of third) old new answer hints
ServesTask IsGiven IsFile flags (stands telling scripts name third) old new answer hints = ServesWord IsGiven IsFile flags telling 3 scripts name.now (Some (codes "-")) (word_of third) old new answer hints
ServesTask IsGiven IsFile flags nothing old new answer hints = ⊥

-- why it wasn't: an input couldn't be opened, or there is no memory; words that ask nothing are told with status 2. What comes by
-- standard input is no file
abbrev pub IsWhyUndone : (List ℕ → Why → Type 0) → Task → Stop → Type 0
IsWhyUndone IsUnopened (serves telling count scripts name other third) stop = IsWhyUnread IsUnopened name other third stop
IsWhyUndone IsUnopened (stands telling scripts name third) stop = IsWhyUnread IsUnopened name None third stop
IsWhyUndone IsUnopened nothing stop = stop ≡ Told 2

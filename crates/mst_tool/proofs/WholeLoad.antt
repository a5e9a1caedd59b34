-- What asking the network of a script has printed, by what serving the script has.
use Rattle.std.proofs.Common.{◌≡◌, ℕ, List, [], Option, Err, inl}
use Rattle.std.specs.Io.KnownBytes.{Appends}
use Rattle.mst_lang.specs.Lines.{lines_of, ended_lines}
use Rattle.mst_engine.specs.report.State.{IsState, empty_state}
use Rattle.mst_engine.specs.Engine.{Tally}
use Rattle.mst_tool.specs.Load.{LoadsEnded, LoadsScript}
use Rattle.mst_engine.specs.Script.{LoadsAll, version_of, loading}
use Rattle.mst_engine.specs.Served.{Served, ServedEnded, Serves}
use Rattle.mst_engine.specs.Steps.{Step, left_by, lacking_of, differing_of}
use Rattle.mst_engine.specs.declared.engine.Input.TheVariants.{Network}
use Rattle.mst_engine.specs.print.declared.form.Shape.{Shape}
use Rattle.mst_io.specs.declared.outcome.RunFault.{RunFault}
use Rattle.mst_io.specs.declared.outcome.RunFault.TheVariants.{Read, Memory}
use Rattle.mst_drive.specs.Words.{Ended, Inputs, MayTell, Telling, Wrote, WroteFront}
use Rattle.mst_drive.proofs.Words.{ended_fault, front_as, wrote_as, wrote_front, wrote_still}
use Rattle.mst_engine.proofs.OneRun.{none_differ}

-- a script loads in one way by the lines that lack memory
abbrev pub OneLoad : Type 0
OneLoad = (shape : Shape) (lines : List (List ℕ)) (a b : List Step) → LoadsAll shape lines a → LoadsAll shape lines b → lacking_of a ≡ lacking_of b → a ≡ b

-- a script leaves a network
abbrev pub LoadsStates : Type 0
LoadsStates = (shape : Shape) (lines : List (List ℕ)) (steps : List Step) → LoadsAll shape lines steps → IsState (left_by empty_state steps)

module _ (one : OneLoad) (shape : Shape) where
  pub loads_ended : (reads left : Option (List ℕ)) (text : List ℕ) → ServedEnded (Network shape) empty_state reads left text → LoadsEnded shape reads left text
  loads_ended reads left text s = record { read = s.read; steps = s.steps; consumed = s.consumed; loads = s.runs; printed = s.printed; only = λ others loads. one shape (ended_lines s.read) others s.steps loads s.runs }

  pub loads_script : (reads : Option (List ℕ)) (text : List ℕ) → Serves (Network shape) empty_state reads text → LoadsScript shape reads text
  loads_script reads text (t, s) = record { script = s.bytes; steps = s.steps; read = s.read; loads = s.runs; printed = s.printed; only = λ others loads. one shape (lines_of s.bytes) others s.steps loads s.runs }

-- no line of a script is a message that differs
pub loads_same : (shape : Shape) (reads : Option (List ℕ)) (text : List ℕ) (t : Tally) (s : Served (Network shape) empty_state reads text t) → differing_of s.steps ≡ 0
loads_same shape reads text t s = none_differ shape loading (version_of (lines_of s.bytes)) 1 empty_state (lines_of s.bytes) s.steps s.runs

-- ---- a word that begins by loading a script, and prints no more before its answer
module _ (one : OneLoad) (shape : Shape) (telling : Telling) (given left : Inputs) (written now : Option (List ℕ))
    (begins : (text : List ℕ) → LoadsScript shape given.first text → telling.begins given text) where
  -- it was stopped in the script
  pub stopped_loading : ((text : List ℕ) → LoadsEnded shape given.first left.first text → telling.cut given left text) → (fault : RunFault) → WroteFront written now (Serves (Network shape) empty_state given.first)
      → (fault ≡ Read → Wrote written now (ServedEnded (Network shape) empty_state given.first left.first)) → (fault ≡ Memory → ⊥) → Ended telling given left written now (Err fault)
  stopped_loading cut fault front ended never =
      ended_fault telling given left written now fault
      (front_as written now _ (MayTell telling given) (λ text s. inl (begins text (loads_script one shape given.first text s))) front)
      (λ e. wrote_as written now _ (telling.cut given left) (λ text s. cut text (loads_ended one shape given.first left.first text s)) (ended e))
      (λ e. absurd (never e))

  -- or behind it, before the answer
  pub stopped_behind : ((text : List ℕ) → LoadsScript shape given.first text → telling.cut given left text) → ((text : List ℕ) → LoadsScript shape given.first text → telling.starved given text) → (t : Tally) (mid : Option (List ℕ)) (fault : RunFault)
      → Wrote written mid (λ text. Served (Network shape) empty_state given.first text t) → Appends mid now [] → Ended telling given left written now (Err fault)
  stopped_behind cut starved t mid fault w nothing =
      let all = wrote_as written now _ (LoadsScript shape given.first) (λ text s. loads_script one shape given.first text (t, s)) (wrote_still written mid now _ w nothing) in
      ended_fault telling given left written now fault
      (front_as written now _ (MayTell telling given) (λ text s. inl (begins text s)) (wrote_front written now _ all))
      (λ e. wrote_as written now _ (telling.cut given left) cut all)
      (λ e. wrote_as written now _ (telling.starved given) starved all)

  -- or there was no memory for the answer
  pub lacked_behind : ((text : List ℕ) → LoadsScript shape given.first text → telling.starved given text) → (t : Tally) → Wrote written now (λ text. Served (Network shape) empty_state given.first text t) → Ended telling given left written now (Err Memory)
  lacked_behind starved t w =
      let all = wrote_as written now _ (LoadsScript shape given.first) (λ text s. loads_script one shape given.first text (t, s)) w in
      (wrote_as written now _ (telling.starved given) starved all, front_as written now _ (MayTell telling given) (λ text s. inl (begins text s)) (wrote_front written now _ all))

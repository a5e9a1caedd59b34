-- What has gone out before each call of a source of a word.
use Rattle.std.proofs.Common.{◌≡◌, ℕ, List, ◌++◌, Option, None, refl, sym, ap, subst, ◌∙◌, append-nil}
use Rattle.mst_drive.specs.Turned.{Turned, Turning}
use Rattle.mst_drive.specs.Words.{HasTold, Unwritten, Wrote}
use Rattle.mst_drive.proofs.Words.{told_as, told_behind}
use Rattle.mst_engine.specs.Engine.{Tally}
use Rattle.mst_engine.specs.Served.{Served, ServedEnded}
use Rattle.mst_engine.specs.declared.engine.Input.{Input}
use Rattle.mst_engine.specs.declared.engine.Input.TheVariants.{Captures, Network, Script}
use Rattle.mst_engine.specs.report.State.{State, empty_state}
use Rattle.mst_io.specs.Devices.{HearsWhere, Seen}
use Rattle.mst_engine.specs.print.declared.form.Form.{Form}
use Rattle.mst_engine.specs.print.declared.form.Shape.{Shape}
use Rattle.mst_tool.specs.Check.{ComparesEnded}
use Rattle.mst_tool.specs.Load.{LoadsEnded, LoadsScript, ScriptEnded}
use Rattle.mst_tool.proofs.WholeCheck.{OneComparison, OneRun, States, compares_ended, prints_ended}
use Rattle.mst_tool.proofs.WholeLoad.{OneLoad, loads_ended, loads_script}

-- of a script what its lines print
script_ended : OneRun → OneLoad → (input : Input) → ((form : Form) → input ≡ Captures form → ⊥) → (reads left : Option (List ℕ)) (text : List ℕ) → ServedEnded input empty_state reads left text → ScriptEnded input reads left text
script_ended one_run one_load (Script form) other reads left text h = prints_ended one_run form reads left text h
script_ended one_run one_load (Network shape) other reads left text h = loads_ended one_load shape reads left text h
script_ended one_run one_load (Captures form) other reads left text h = absurd (other form refl)

module _ {S : Type 0} (does : S → S → List ℕ → Seen → Type 0) (remaining : S → Option (List ℕ)) (before : Seen) where
  pub script_told : OneRun → OneLoad → (input : Input) → ((form : Form) → input ≡ Captures form → ⊥) → (state : State) → state ≡ empty_state → (reads : Option (List ℕ)) (from now : S)
      → HearsWhere does (HasTold (ServedEnded input state reads) remaining before) from now → HearsWhere does (HasTold (ScriptEnded input reads) remaining before) from now
  script_told one_run one_load input other state empty reads from now calls =
      told_as does remaining before (ServedEnded input state reads) (ScriptEnded input reads) from now
      (λ left text h. script_ended one_run one_load input other reads left text (subst (λ (s : State). ServedEnded input s reads left text) empty h)) calls

  module _ (mid : Seen) (turns : ℕ) (sources : List Turning) (turned : Turned turns sources before mid None) (t : Tally) where
    -- behind a script that was loaded an input of which nothing is told while it is read
    pub none_behind : OneLoad → (shape : Shape) (scripts : Option (List ℕ)) (from now : S) → Wrote before.bytes mid.bytes (λ text. Served (Network shape) empty_state scripts text t)
        → HearsWhere does (HasTold Unwritten remaining mid) from now → HearsWhere does (HasTold (λ left. LoadsScript shape scripts) remaining before) from now
    none_behind one shape scripts from now went calls =
        told_behind does remaining before Unwritten (λ left. LoadsScript shape scripts) mid went.0 from now turns sources turned went.2
        (λ left more none. subst (LoadsScript shape scripts) (sym (ap (λ m. went.0 ++ m) none ∙ append-nil went.0)) (loads_script one shape scripts went.0 (t, went.1))) calls

    -- or captures
    pub captures_behind : OneRun → OneComparison → States → (form : Form) (scripts captures : Option (List ℕ)) (state : State) → state ≡ t.state → (from now : S) → Wrote before.bytes mid.bytes (λ text. Served (Script form) empty_state scripts text t)
        → HearsWhere does (HasTold (ServedEnded (Captures form) state captures) remaining mid) from now → HearsWhere does (HasTold (ComparesEnded form scripts captures) remaining before) from now
    captures_behind one one_compared states form scripts captures state same from now went calls =
        told_behind does remaining before (ServedEnded (Captures form) state captures) (ComparesEnded form scripts captures) mid went.0 from now turns sources turned went.2
        (λ left more h. compares_ended one one_compared states form scripts captures left went.0 more t went.1 (subst (λ (s : State). ServedEnded (Captures form) s captures left more) same h)) calls

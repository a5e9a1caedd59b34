-- What has gone out before each call of the source of a new script.
use Rattle.std.proofs.Common.{ℕ, List, Option, None}
use Rattle.mst_drive.specs.Turned.{Turned, Turning}
use Rattle.mst_drive.specs.Words.{HasTold, Wrote}
use Rattle.mst_drive.proofs.Words.{told_behind}
use Rattle.mst_tool.specs.engine.Engine.{Tally}
use Rattle.mst_tool.specs.engine.Served.{Served}
use Rattle.mst_tool.specs.engine.declared.engine.Input.TheVariants.{Network}
use Rattle.mst_tool.specs.engine.report.State.{empty_state}
use Rattle.mst_io.specs.Devices.{HearsWhere, Seen}
use Rattle.mst_tool.specs.engine.print.Shape.{of_new, of_old}
use Rattle.mst_tool.specs.engine.print.declared.form.Form.{Form}
use Rattle.mst_between.specs.Diff.{LoadsNewEnded}
use Rattle.mst_tool.specs.Load.{LoadsEnded}
use Rattle.mst_between.proofs.WholeDiff.{new_loads_ended}
use Rattle.mst_tool.proofs.WholeLoad.{OneLoad}

module _ {S : Type 0} (does : S → S → List ℕ → Seen → Type 0) (remaining : S → Option (List ℕ)) (before : Seen) where
  module _ (mid : Seen) (turns : ℕ) (sources : List Turning) (turned : Turned turns sources before mid None) (t : Tally) where
    -- behind an old script that was loaded what the lines of a new one print
    pub new_behind : OneLoad → (form : Form) (olds news : Option (List ℕ)) (from now : S) → Wrote before.bytes mid.bytes (λ text. Served (Network (of_old form)) empty_state olds text t)
        → HearsWhere does (HasTold (LoadsEnded (of_new form) news) remaining mid) from now → HearsWhere does (HasTold (LoadsNewEnded form olds news) remaining before) from now
    new_behind one form olds news from now went calls =
        told_behind does remaining before (LoadsEnded (of_new form) news) (LoadsNewEnded form olds news) mid went.0 from now turns sources turned went.2 (λ left more h. new_loads_ended one form olds news left went.0 more t went.1 h) calls

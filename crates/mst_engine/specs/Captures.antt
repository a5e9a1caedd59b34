-- What the lines of captured messages print: where each message differs from what the plan has for its sender. In JSON each row is a
-- record on a line of its own.
use Rattle.std.specs.Prelude.{◌≡◌, ℕ, Bool, true, false, not, ◌==◌, List, [], ◌∷◌, Option, Some, None, Result, Ok, Err, if◌then◌else◌}
use Rattle.std.specs.List.{find}
use Rattle.std.specs.Option.{option_map_or}
use Rattle.mst_ids.specs.declared.name.PortName.{PortName}
use Rattle.mst_bpdu.specs.Reading.{reading}
use Rattle.mst_bpdu.specs.CaptureText.{comparison_rows, fault_row}
use Rattle.mst_bpdu.specs.declared.bpdu.Bpdu.{Bpdu}
use Rattle.mst_bpdu.specs.declared.difference.Difference.{Difference}
use Rattle.mst_bpdu.specs.declared.fault.BpduFault.{BpduFault}
use Rattle.mst_bpdu.specs.declared.fault.BpduFault.TheVariants.{B07, B99}
use Rattle.mst_compare.specs.Comparison.{AreDifferences}
use Rattle.mst_compare.specs.Sender.{sender_of}
use Rattle.mst_report.specs.State.{State}
use Rattle.mst_lang.specs.Words.{is_blank}
use Rattle.mst_print.specs.Shape.{listed}
use Rattle.mst_print.specs.declared.form.Form.{Form}
use Rattle.mst_engine.specs.Steps.{Step, RunsBy, silent, printed}

-- a line of spaces and tabs, or one whose first other byte is `#`, is skipped, whatever its length
abbrev pub is_skipped : List ℕ → Bool
is_skipped line = option_map_or (λ b. b == 35) (find (λ b. not (is_blank b)) line) true

-- the message of a line, or the fault of it
abbrev pub capture_of : List ℕ → Option (Result Bpdu BpduFault)
capture_of line = if is_skipped line then None else Some (reading line)

-- a message that isn't read, or has no sender. No message changes the state
abbrev pub faulty : Form → ℕ → BpduFault → State → Step
faulty form number fault now = record { state = now; text = listed form (fault_row number fault ∷ []); refused = true; lacking = false; differs = false; answers = false }

-- a message that isn't compared, for want of memory
abbrev pub uncompared : Form → ℕ → State → Step
uncompared form number now = record { state = now; text = listed form (fault_row number B99 ∷ []); refused = false; lacking = true; differs = false; answers = false }

-- a message that differs
abbrev pub differing : State → List ℕ → Step
differing now text = record { state = now; text = text; refused = false; lacking = false; differs = true; answers = false }

-- a message of this port that has these differences: with none it agrees. For want of memory it isn't compared
abbrev pub compared : Form → Bool → ℕ → State → PortName → List Difference → Step
compared form true number now port found = uncompared form number now
compared form false number now port [] = printed now (listed form (comparison_rows number port []))
compared form false number now port (d ∷ ds) = differing now (listed form (comparison_rows number port (d ∷ ds)))

-- what a message does that this port sent, or none
abbrev pub ServesSent : Form → ℕ → State → Bpdu → Option PortName → Step → Type 0
ServesSent form number now bpdu None s = s ≡ faulty form number B07 now
ServesSent form number now bpdu (Some port) s = (found : List Difference) × AreDifferences now.net bpdu found × (s ≡ compared form s.lacking number now port found)

-- what a line does that has this message, this fault or none of both
abbrev pub ServesMessage : Form → ℕ → State → Option (Result Bpdu BpduFault) → Step → Type 0
ServesMessage form number now None s = s ≡ silent now
ServesMessage form number now (Some (Err fault)) s = s ≡ faulty form number fault now
ServesMessage form number now (Some (Ok bpdu)) s = ServesSent form number now bpdu (sender_of now.net bpdu) s

-- what the line of this number does in a state
abbrev pub ServesCapture : Form → ℕ → State → List ℕ → Step → Type 0
ServesCapture form number now line s = ServesMessage form number now (capture_of line) s

-- the lines of captured messages, the first of this number, do these steps one after another
abbrev pub Compares : Form → ℕ → State → List (List ℕ) → List Step → Type 0
Compares form = RunsBy (ServesCapture form)

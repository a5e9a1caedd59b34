-- What verifying the network of a script has printed, by what serving the script has.
use Rattle.std.proofs.Common.{◌≡◌, ℕ, ◌+◌, List, ◌++◌, Option, None, refl, ap, subst, arith}
use Rattle.mst_lang.specs.Lines.{lines_of}
use Rattle.mst_policy.specs.declared.policy.PolicyLine.{PolicyLine}
use Rattle.mst_tables.specs.Tables.{Net}
use Rattle.mst_tool.specs.engine.report.State.{State, empty_state}
use Rattle.mst_verdict.specs.Verifying as network
use Rattle.mst_verdict.specs.telling.Verified.{Counts}
use Rattle.mst_verdict.specs.Risking.{TellsRisks}
use Rattle.mst_verdict.specs.declared.risking.RiskCounts.{RiskCounts}
use Rattle.mst_tool.specs.engine.Engine.{Tally, outcome_of}
use Rattle.mst_tool.specs.engine.Served.{Served}
use Rattle.mst_tool.specs.engine.declared.engine.Input.TheVariants.{Network}
use Rattle.mst_tool.specs.engine.print.Shape.{of_script, shown}
use Rattle.mst_tool.specs.engine.print.declared.form.Form.{Form}
use Rattle.mst_rows.specs.Rows.{Row}
use Rattle.mst_inputs.specs.Lines.{AreLines}
use Rattle.mst_verifying.specs.Verify.{Told, TellsAnswer, Verifies, counted_with, risks_row, told_of_promises, told_of_risks, verify_row}
use Rattle.mst_verifying.specs.declared.question.PolicyQuestion.{PolicyQuestion}
use Rattle.mst_verifying.specs.declared.question.PolicyQuestion.TheVariants.{Promises, Risks}
use Rattle.mst_tool.proofs.WholeLoad.{OneLoad, loads_same}

-- what tells of the promises of a policy, or of its risks, and what shows it
pub promises_shown : (form : Form) (net settled : Net) (lines : List PolicyLine) (counts : Counts) (rows : List Row) (printed : List ℕ) → settled ≡ net → network.Verifies settled lines counts rows → printed ≡ shown form None verify_row rows
    → TellsAnswer form Promises net lines (told_of_promises counts) printed
promises_shown form net settled lines counts rows printed same h e = (counts, (rows, subst (λ net. network.Verifies net lines counts rows) same h, e), refl)

pub risks_shown : (form : Form) (net settled : Net) (lines : List PolicyLine) (counts : RiskCounts) (rows : List Row) (printed : List ℕ) → settled ≡ net → TellsRisks settled lines counts rows → printed ≡ shown form None risks_row rows
    → TellsAnswer form Risks net lines (told_of_risks counts) printed
risks_shown form net settled lines counts rows printed same h e = (counts, (rows, subst (λ net. TellsRisks net lines counts rows) same h, e), refl)

pub verifies : OneLoad → (form : Form) (question : PolicyQuestion) (scripts policies : Option (List ℕ)) (text : List ℕ) (t : Tally) (lines : List PolicyLine) (told : Told) (answer : List ℕ) → AreLines policies lines → TellsAnswer form question t.state.net lines told answer
    → Served (Network (of_script form)) empty_state scripts text t → Verifies form question scripts policies (text ++ answer) (counted_with (outcome_of t) told)
verifies one form question scripts policies text t lines told answer are h s = record {
  script = s.bytes;
  steps = s.steps;
  lines = lines;
  told = told;
  answer = answer;
  read = s.read;
  loads = s.runs;
  are_lines = are;
  tells = subst (λ (now : State). TellsAnswer form question now.net lines told answer) s.state h;
  printed = ap (λ l. l ++ answer) s.printed;
  memory = s.memory;
  refused = ap (λ n. n + told.refused) s.refused;
  differing = omega (arith, s.differing, loads_same (of_script form) scripts text t s);
  only = λ others loads. one (of_script form) (lines_of s.bytes) others s.steps loads s.runs;
}

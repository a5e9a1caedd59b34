-- What telling what the steps of a change do to the network of a script has printed, by what serving the script has.
use Rattle.std.proofs.Common.{◌≡◌, ℕ, ◌+◌, Bool, List, ◌++◌, Option, None, refl, ap, subst, arith}
use Rattle.mst_change.specs.Reading.{LineRead}
use Rattle.mst_lang.specs.Lines.{lines_of}
use Rattle.mst_policy.specs.declared.policy.PolicyLine.{PolicyLine}
use Rattle.mst_tables.specs.Tables.{Net}
use Rattle.mst_tool.specs.engine.report.State.{State, empty_state}
use Rattle.mst_verdict.specs.Stepping as network
use Rattle.mst_verdict.specs.declared.stepping.Course.{Course}
use Rattle.mst_tool.specs.engine.Engine.{Tally, outcome_of}
use Rattle.mst_tool.specs.engine.Served.{Served}
use Rattle.mst_tool.specs.engine.declared.engine.Input.TheVariants.{Network}
use Rattle.mst_tool.specs.engine.print.Shape.{of_script, shown}
use Rattle.mst_tool.specs.engine.print.declared.form.Form.{Form}
use Rattle.mst_rows.specs.Rows.{Row}
use Rattle.mst_altering.specs.Alter.{Alters, TellsSteps, counted_along, policy_if, refusals_in, steps_row}
use Rattle.mst_inputs.specs.Lines.{AreLines, AreSteps}
use Rattle.mst_tool.proofs.WholeLoad.{OneLoad, loads_same}

-- what tells of a change, and what shows it
pub steps_shown : (form : Form) (net settled : Net) (steps : List (List LineRead)) (policy given : Option (List PolicyLine)) (course : Course) (rows : List Row) (printed : List ℕ) → settled ≡ net → given ≡ policy → network.Steps settled steps given course rows
    → printed ≡ shown form None steps_row rows → TellsSteps form net steps policy course printed
steps_shown form net settled steps policy given course rows printed same judged h e =
    (rows, subst (λ net. network.Steps net steps policy course rows) same (subst (λ given. network.Steps settled steps given course rows) judged h), e)

pub alters : OneLoad → (form : Form) (judged : Bool) (scripts changes policies : Option (List ℕ)) (text : List ℕ) (t : Tally) (steps : List (List LineRead)) (lines : List PolicyLine) (course : Course) (answer : List ℕ) → AreSteps changes steps → AreLines policies lines
    → TellsSteps form t.state.net steps (policy_if judged lines) course answer → Served (Network (of_script form)) empty_state scripts text t → Alters form judged scripts changes policies (text ++ answer) (counted_along (outcome_of t) course)
alters one form judged scripts changes policies text t steps lines course answer are_steps are_lines h s = record {
  script = s.bytes;
  steps = s.steps;
  change = steps;
  policy = policy_if judged lines;
  course = course;
  answer = answer;
  read = s.read;
  loads = s.runs;
  are_steps = are_steps;
  is_policy = (lines, are_lines, refl);
  tells = subst (λ (now : State). TellsSteps form now.net steps (policy_if judged lines) course answer) s.state h;
  printed = ap (λ l. l ++ answer) s.printed;
  memory = s.memory;
  refused = ap (λ n. n + refusals_in course) s.refused;
  differing = omega (arith, s.differing, loads_same (of_script form) scripts text t s);
  only = λ others loads. one (of_script form) (lines_of s.bytes) others s.steps loads s.runs;
}

-- What is asked of the network that a whole script leaves, where a path is.
use Rattle.std.proofs.Common.{◌≡◌, ℕ, ◌+◌, Bool, List, Option, None, Some, refl, sym, ap, subst, ◌∙◌, ◌++◌, arith}
use Rattle.mst_lang.specs.Lines.{lines_of}
use Rattle.mst_net.specs.tables.Refusals as refusal
use Rattle.mst_net.specs.tables.Tables.{Net, IsNetwork}
use Rattle.mst_net.specs.tables.declared.refusal.Refusal.{Refusal}
use Rattle.mst_rows.specs.Rows.{Row}
use Rattle.mst_tool.specs.engine.Engine.{Tally, outcome_of}
use Rattle.mst_tool.specs.engine.Served.{Served}
use Rattle.mst_tool.specs.engine.Steps.{left_by}
use Rattle.mst_tool.specs.engine.declared.engine.Input.TheVariants.{Network}
use Rattle.mst_tool.specs.engine.print.Shape.{of_script, shown}
use Rattle.mst_tool.specs.engine.print.declared.form.Form.{Form}
use Rattle.mst_tool.specs.engine.report.State.{State, empty_state}
use Rattle.mst_tool.proofs.Shown.{one_shown}
use Rattle.mst_tool.proofs.WholeLoad.{LoadsStates, OneLoad, loads_same}
use Rattle.mst_tracing.specs.Ends.{untraced_of}
use Rattle.mst_tracing.specs.Trace.{AsksPath, IsAnswer, TellsPath, Told, counted_with, given, not_given, untraced_in}
use Rattle.mst_tracing.specs.Tracing.{Traces, asked_row}
use Rattle.mst_tracing.specs.declared.asked.Asked.{Asked}
use Rattle.mst_tracing.specs.declared.asked.PathQuestion.{PathQuestion}
use Rattle.mst_tracing.specs.declared.asked.PathQuestion.TheVariants.{Path, Unread}

-- a path is told in one way
abbrev pub OneTrace : Type 0
OneTrace = (net : Net) (asked : Asked) (broken other : Bool) (rows others : List Row) → IsNetwork net → Traces net asked broken rows → Traces net asked other others → (broken ≡ other) × (rows ≡ others)

-- so what is asked has one answer
pub one_traced : OneTrace → (form : Form) (net : Net) (question : PathQuestion) (x y : Told) (a b : List ℕ) → IsNetwork net → IsAnswer form net question x a → IsAnswer form net question y b → (y ≡ x) × (b ≡ a)
one_traced one form net (Unread f) x y a b is h k = (k.0 ∙ sym h.0, k.1 ∙ sym h.1)
one_traced one form net (Path asked) x y a b is h k = by (untraced_of net asked.trace) h k
  where
    by : (why : Option Refusal) → TellsPath form net asked why x a → TellsPath form net asked why y b → (y ≡ x) × (b ≡ a)
    by (Some why) h k = (k.0 ∙ sym h.0, k.1 ∙ sym h.1)
    by None h k =
        let same = one_shown form (asked_row asked) (Traces net asked k.0) (Traces net asked h.0) (k.0 ≡ h.0) (λ rows other p q. let both = one net asked k.0 h.0 rows other is p q in (both.1, both.0)) b a k.1 h.1 in
        (k.2 ∙ ap given same.1 ∙ sym h.2, same.0)

-- why a path isn't told, and rows that tell it with what shows them
pub untraced_told : (form : Form) (net : Net) (asked : Asked) (why : Refusal) → untraced_of net asked.trace ≡ Some why → IsAnswer form net (Path asked) not_given (untraced_in form (refusal.code_of why) (refusal.text_of why))
untraced_told form net asked why is = subst (λ reason. TellsPath form net asked reason not_given (untraced_in form (refusal.code_of why) (refusal.text_of why))) (sym is) (refl, refl)

pub trace_shown : (form : Form) (net settled : Net) (asked : Asked) (is_broken : Bool) (rows : List Row) (printed : List ℕ) → settled ≡ net → untraced_of net asked.trace ≡ None → Traces settled asked is_broken rows → printed ≡ shown form None (asked_row asked) rows
    → IsAnswer form net (Path asked) (given is_broken) printed
trace_shown form net settled asked is_broken rows printed same none h e =
    subst (λ why. TellsPath form net asked why (given is_broken) printed) (sym none) (is_broken, (rows, subst (λ net. Traces net asked is_broken rows) same h, e), refl)

-- the answer of the network that the script left
answer_left : (form : Form) (question : PathQuestion) (reads : Option (List ℕ)) (text : List ℕ) (t : Tally) (told : Told) (answer : List ℕ) (s : Served (Network (of_script form)) empty_state reads text t)
    → IsAnswer form t.state.net question told answer → IsAnswer form (left_by empty_state s.steps).net question told answer
answer_left form question reads text t told answer s h = subst (λ (now : State). IsAnswer form now.net question told answer) s.state h

pub asks : OneLoad → LoadsStates → OneTrace → (form : Form) (question : PathQuestion) (reads : Option (List ℕ)) (text : List ℕ) (t : Tally) (told : Told) (answer : List ℕ) → Served (Network (of_script form)) empty_state reads text t
    → IsAnswer form t.state.net question told answer → AsksPath form question reads (text ++ answer) (counted_with (outcome_of t) told)
asks one states one_trace form question reads text t told answer s h =
    let answers = answer_left form question reads text t told answer s h in
    record {
      script = s.bytes;
      steps = s.steps;
      told = told;
      answer = answer;
      read = s.read;
      loads = s.runs;
      answers = answers;
      printed = ap (λ l. l ++ answer) s.printed;
      memory = s.memory;
      refused = ap (λ n. n + told.refused) s.refused;
      differing = omega (arith, s.differing, loads_same (of_script form) reads text t s);
      only = λ others loads. one (of_script form) (lines_of s.bytes) others s.steps loads s.runs;
      only_answer = λ also other k. one_traced one_trace form (left_by empty_state s.steps).net question told also answer other (states (of_script form) (lines_of s.bytes) s.steps s.runs).network answers k;
    }

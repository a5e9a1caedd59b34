-- What is asked of the network that a whole script leaves.
use Rattle.std.proofs.Common.{◌≡◌, ℕ, ◌+◌, Bool, List, Option, None, Some, refl, sym, ap, subst, ◌∙◌, ◌++◌, arith}
use Rattle.mst_ids.specs.declared.name.PortName.{PortName}
use Rattle.mst_lang.specs.Lines.{lines_of}
use Rattle.mst_net.specs.tables.Tables.{Net, IsNetwork}
use Rattle.mst_advise.specs.declared.goal.Goal.{Goal}
use Rattle.mst_advise.specs.Advising.{Advises}
use Rattle.mst_questions.specs.Unadvised.{unadvised_of}
use Rattle.mst_questions.specs.Explaining.{Explains, unexplained_of}
use Rattle.mst_advise.specs.sweeping.Pairing.{SweepsPairs}
use Rattle.mst_questions.specs.Picturing.{Depicts, DepictsVlan}
use Rattle.mst_tool.specs.engine.report.State.{State, empty_state}
use Rattle.mst_questions.specs.Summarizing.{Summarizes}
use Rattle.mst_advise.specs.sweeping.Sweeping.{SweepsPart}
use Rattle.mst_advise.specs.declared.advising.Advised.{Advised}
use Rattle.mst_questions.specs.declared.explaining.Unexplained.{Unexplained}
use Rattle.mst_advise.specs.sweeping.sweep.SweepParts.{PartOf}
use Rattle.mst_questions.specs.Explaining as unexplained
use Rattle.mst_rows.specs.Rows.{Row}
use Rattle.mst_questions.specs.Ask.{Told, advised, given, is_nothing, not_given, swept, unadvised_in, unexplained_in, Tells, TellsAdvice, IsAnswer, Asks, counted_with}
use Rattle.mst_questions.specs.Shown.{advice_row, explain_row, pairs_row, summary_row, sweep_row}
use Rattle.mst_tool.specs.engine.Engine.{Tally, outcome_of}
use Rattle.mst_tool.specs.engine.Served.{Served}
use Rattle.mst_tool.specs.engine.print.Shape.{of_script, shown}
use Rattle.mst_tool.specs.engine.Steps.{left_by}
use Rattle.mst_questions.specs.declared.asked.Asked.{Asked}
use Rattle.mst_questions.specs.declared.asked.Question.{Question}
use Rattle.mst_questions.specs.declared.asked.Question.TheVariants.{Explain, Unread, Sweep, Pairs, Summary, Picture, VlanPicture, Undrawn, Advice, Unadvised}
use Rattle.mst_tool.specs.engine.declared.engine.Input.TheVariants.{Network}
use Rattle.mst_tool.specs.engine.print.declared.form.Form.{Form}
use Rattle.mst_tool.proofs.Shown.{one_shown, same_shown}
use Rattle.mst_tool.proofs.WholeLoad.{LoadsStates, OneLoad, loads_same}

-- a port is explained in one way
abbrev pub OneExplanation : Type 0
OneExplanation = (net : Net) (name : PortName) (tree : Option ℕ) (rows other : List Row) → IsNetwork net → Explains net name tree rows → Explains net name tree other → rows ≡ other

-- and what single failures of a part do is told in one way
abbrev pub OneSweep : Type 0
OneSweep = (net : Net) (part : PartOf) (rows other : List Row) (c d : ℕ) → IsNetwork net → SweepsPart part net c rows → SweepsPart part net d other → (rows ≡ other) × (c ≡ d)

-- and what pairs of failures of a part do
abbrev pub OnePairs : Type 0
OnePairs = (net : Net) (part : PartOf) (rows other : List Row) (c d : ℕ) → IsNetwork net → SweepsPairs part net c rows → SweepsPairs part net d other → (rows ≡ other) × (c ≡ d)

-- and the summary is one
abbrev pub OneSummary : Type 0
OneSummary = (net : Net) (rows other : List Row) → IsNetwork net → Summarizes net rows → Summarizes net other → rows ≡ other

-- and so is the picture with a tree
abbrev pub OnePicture : Type 0
OnePicture = (net : Net) (tree : ℕ) (text other : List ℕ) → IsNetwork net → Depicts net tree text → Depicts net tree other → text ≡ other

-- and the one with a VLAN
abbrev pub OneVlanPicture : Type 0
OneVlanPicture = (net : Net) (vid : ℕ) (text other : List ℕ) → IsNetwork net → DepictsVlan net vid text → DepictsVlan net vid other → text ≡ other

-- and so is the advice
abbrev pub OneAdvice : Type 0
OneAdvice = (net : Net) (goal : Goal) (a b : Advised) (rows other : List Row) → IsNetwork net → Advises net goal a rows → Advises net goal b other → (a ≡ b) × (rows ≡ other)

-- all of these
pub record OneOfEach : Type 0 where
  pub explanation : OneExplanation
  pub sweep : OneSweep
  pub pairs : OnePairs
  pub summary : OneSummary
  pub picture : OnePicture
  pub vlan_picture : OneVlanPicture
  pub advice : OneAdvice

turned : {A B : Type 0} → A × B → B × A
turned both = (both.1, both.0)

-- so what is asked has one answer
pub one_answer : OneOfEach → (form : Form) (net : Net) (question : Question) (x y : Told) (a b : List ℕ) → IsNetwork net → IsAnswer form net question x a → IsAnswer form net question y b → (y ≡ x) × (b ≡ a)
one_answer one form net (Unread f) x y a b is h k = (k.0 ∙ sym h.0, k.1 ∙ sym h.1)
one_answer one form net (Sweep part) x y a b is h k =
    let same = one_shown form (sweep_row part) (SweepsPart part net k.0) (SweepsPart part net h.0) (k.0 ≡ h.0) (λ rows other p q. one.sweep net part rows other k.0 h.0 is p q) b a k.1 h.1 in
    (k.2 ∙ ap swept same.1 ∙ sym h.2, same.0)
one_answer one form net (Pairs part) x y a b is h k =
    let same = one_shown form (pairs_row part) (SweepsPairs part net k.0) (SweepsPairs part net h.0) (k.0 ≡ h.0) (λ rows other p q. one.pairs net part rows other k.0 h.0 is p q) b a k.1 h.1 in
    (k.2 ∙ ap swept same.1 ∙ sym h.2, same.0)
one_answer one form net Summary x y a b is h k = (k.0 ∙ sym h.0, same_shown form summary_row (Summarizes net) (λ rows other p q. one.summary net rows other is p q) b a k.1 h.1)
one_answer one form net (Picture n) x y a b is h k = (k.0 ∙ sym h.0, one.picture net n b a is k.1 h.1)
one_answer one form net (VlanPicture n) x y a b is h k = (k.0 ∙ sym h.0, one.vlan_picture net n b a is k.1 h.1)
one_answer one form net (Undrawn f) x y a b is h k = (k.0 ∙ sym h.0, k.1 ∙ sym h.1)
one_answer one form net (Unadvised f) x y a b is h k = (k.0 ∙ sym h.0, k.1 ∙ sym h.1)
one_answer one form net (Advice goal) x y a b is h k = by (unadvised_of net goal) h k
  where
    by : (why : Option Unexplained) → TellsAdvice form net goal why x a → TellsAdvice form net goal why y b → (y ≡ x) × (b ≡ a)
    by (Some why) h k = (k.0 ∙ sym h.0, k.1 ∙ sym h.1)
    by None h k =
        let same = one_shown form (advice_row goal) (Advises net goal k.0) (Advises net goal h.0) (k.0 ≡ h.0) (λ rows other p q. turned (one.advice net goal k.0 h.0 rows other is p q)) b a k.1 h.1 in
        (k.2 ∙ ap (λ advice. advised (is_nothing advice)) same.1 ∙ sym h.2, same.0)
one_answer one form net (Explain asked) x y a b is h k = by (unexplained_of net asked.port asked.tree) h k
  where
    by : (why : Option Unexplained) → Tells form net asked why x a → Tells form net asked why y b → (y ≡ x) × (b ≡ a)
    by (Some why) h k = (k.0 ∙ sym h.0, k.1 ∙ sym h.1)
    by None h k = (k.0 ∙ sym h.0, same_shown form (explain_row asked) (Explains net asked.port asked.tree) (λ rows other p q. one.explanation net asked.port asked.tree rows other is p q) b a k.1 h.1)

-- why a port isn't explained, and rows that explain it with what shows them
pub unexplained_told : (form : Form) (net settled : Net) (asked : Asked) (why : Unexplained) → settled ≡ net → unexplained_of settled asked.port asked.tree ≡ Some why
    → IsAnswer form net (Explain asked) not_given (unexplained_in form (unexplained.code_of why) (unexplained.text_of why))
unexplained_told form net settled asked why same is =
    subst (λ net. IsAnswer form net (Explain asked) not_given (unexplained_in form (unexplained.code_of why) (unexplained.text_of why))) same
    (subst (λ reason. Tells form settled asked reason not_given (unexplained_in form (unexplained.code_of why) (unexplained.text_of why))) (sym is) (refl, refl))

pub explained_shown : (form : Form) (net settled : Net) (asked : Asked) (rows : List Row) (printed : List ℕ) → settled ≡ net → unexplained_of settled asked.port asked.tree ≡ None → Explains settled asked.port asked.tree rows → printed ≡ shown form None (explain_row asked) rows
    → IsAnswer form net (Explain asked) given printed
explained_shown form net settled asked rows printed same none h e =
    subst (λ net. IsAnswer form net (Explain asked) given printed) same
    (subst (λ why. Tells form settled asked why given printed) (sym none) (refl, (rows, h, e)))

-- and the same of advice
pub unadvised_told : (form : Form) (net settled : Net) (goal : Goal) (why : Unexplained) → settled ≡ net → unadvised_of settled goal ≡ Some why
    → IsAnswer form net (Advice goal) not_given (unadvised_in form (unexplained.code_of why) (unexplained.text_of why))
unadvised_told form net settled goal why same is =
    subst (λ net. IsAnswer form net (Advice goal) not_given (unadvised_in form (unexplained.code_of why) (unexplained.text_of why))) same
    (subst (λ reason. TellsAdvice form settled goal reason not_given (unadvised_in form (unexplained.code_of why) (unexplained.text_of why))) (sym is) (refl, refl))

pub advice_shown : (form : Form) (net settled : Net) (goal : Goal) (advice : Advised) (is_none : Bool) (rows : List Row) (printed : List ℕ) → settled ≡ net → unadvised_of settled goal ≡ None → Advises settled goal advice rows → printed ≡ shown form None (advice_row goal) rows
    → is_none ≡ is_nothing advice → IsAnswer form net (Advice goal) (advised is_none) printed
advice_shown form net settled goal advice is_none rows printed same none h e counts =
    subst (λ net. IsAnswer form net (Advice goal) (advised is_none) printed) same
    (subst (λ why. TellsAdvice form settled goal why (advised is_none) printed) (sym none) (advice, (rows, h, e), ap advised counts))

-- what tells of single failures and of pairs, and what summarizes
pub swept_shown : (form : Form) (part : PartOf) (net settled : Net) (cuts : ℕ) (rows : List Row) (printed : List ℕ) → settled ≡ net → SweepsPart part settled cuts rows → printed ≡ shown form None (sweep_row part) rows → IsAnswer form net (Sweep part) (swept cuts) printed
swept_shown form part net settled cuts rows printed same h e = subst (λ net. IsAnswer form net (Sweep part) (swept cuts) printed) same (cuts, (rows, h, e), refl)

pub paired_shown : (form : Form) (part : PartOf) (net settled : Net) (cuts : ℕ) (rows : List Row) (printed : List ℕ) → settled ≡ net → SweepsPairs part settled cuts rows → printed ≡ shown form None (pairs_row part) rows → IsAnswer form net (Pairs part) (swept cuts) printed
paired_shown form part net settled cuts rows printed same h e = subst (λ net. IsAnswer form net (Pairs part) (swept cuts) printed) same (cuts, (rows, h, e), refl)

pub summary_shown : (form : Form) (net settled : Net) (rows : List Row) (printed : List ℕ) → settled ≡ net → Summarizes settled rows → printed ≡ shown form None summary_row rows → IsAnswer form net Summary given printed
summary_shown form net settled rows printed same h e = subst (λ net. IsAnswer form net Summary given printed) same (refl, (rows, h, e))

-- the answer of the network that the script left
answer_left : (form : Form) (question : Question) (reads : Option (List ℕ)) (text : List ℕ) (t : Tally) (told : Told) (answer : List ℕ) (s : Served (Network (of_script form)) empty_state reads text t)
    → IsAnswer form t.state.net question told answer → IsAnswer form (left_by empty_state s.steps).net question told answer
answer_left form question reads text t told answer s h = subst (λ (now : State). IsAnswer form now.net question told answer) s.state h

pub asks : OneLoad → LoadsStates → OneOfEach → (form : Form) (question : Question) (reads : Option (List ℕ)) (text : List ℕ) (t : Tally) (told : Told) (answer : List ℕ) → Served (Network (of_script form)) empty_state reads text t
    → IsAnswer form t.state.net question told answer → Asks form question reads (text ++ answer) (counted_with (outcome_of t) told)
asks one states one_of_each form question reads text t told answer s h =
    let answers = answer_left form question reads text t told answer s h in
    record {
      script = s.bytes;
      steps = s.steps;
      told = told;
      answer = answer;
      read = s.read;
      loads = s.runs;
      answers = answers;
      printed = ap (λ l. l ++ answer) s.printed;
      memory = s.memory;
      refused = ap (λ n. n + told.refused) s.refused;
      differing = omega (arith, s.differing, loads_same (of_script form) reads text t s);
      only = λ others loads. one (of_script form) (lines_of s.bytes) others s.steps loads s.runs;
      only_answer = λ also other k. one_answer one_of_each form (left_by empty_state s.steps).net question told also answer other (states (of_script form) (lines_of s.bytes) s.steps s.runs).network answers k;
    }

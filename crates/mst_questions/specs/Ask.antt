-- What is asked of the network that a script leaves, and what asking it promises, where it prints in this form.
use Rattle.std.specs.Prelude.{◌≡◌, ◌+◌, ◌++◌, ◌==◌, ◌&&◌, not, ℕ, Bool, true, false, List, Option, None, Some, is_some, Result, Ok, Err, codes, if◌then◌else◌}
use Rattle.std.specs.FinMap as fin
use Rattle.std.specs.Option.{option_map, option_map_or}
use Rattle.std.specs.Str.{bytes_eq}
use Rattle.mst_drive.specs.Words.{Telling}
use Rattle.mst_ids.specs.declared.name.PortName.{PortName}
use Rattle.mst_lang.specs.Arguments.{tree, vid}
use Rattle.mst_lang.specs.Faults as fault
use Rattle.mst_lang.specs.Lines.{lines_of}
use Rattle.mst_lang.specs.declared.line.Fault.{Fault}
use Rattle.mst_kinds.specs.declared.refusal_line.RefusalLine.TheVariants as refusal
use Rattle.mst_advise.specs.declared.goal.Goal.{Goal}
use Rattle.mst_advise.specs.declared.goal.Goal.TheVariants as goal
use Rattle.mst_net.specs.tables.After.{has_bridge, is_plugged}
use Rattle.mst_net.specs.tables.Tables.{Net}
use Rattle.mst_advise.specs.Advising.{Advises}
use Rattle.mst_questions.specs.Unadvised.{unadvised_of, unrooted_of}
use Rattle.mst_questions.specs.Explaining.{Explains, has_asked, unexplained_of}
use Rattle.mst_questions.specs.Explaining as unexplained
use Rattle.mst_questions.specs.Picturing.{Depicts, DepictsVlan}
use Rattle.mst_tool.specs.engine.report.State.{empty_state}
use Rattle.mst_questions.specs.Summarizing.{Summarizes}
use Rattle.mst_advise.specs.sweeping.Pairing.{SweepsPairs}
use Rattle.mst_advise.specs.sweeping.Sweeping.{SweepsPart}
use Rattle.mst_advise.specs.sweeping.sweep.SweepParts.{whole_part}
use Rattle.mst_advise.specs.declared.advising.Advised.{Advised as WhatIsAdvised}
use Rattle.mst_advise.specs.declared.advising.Advised.TheVariants.{Already, Edits, Nothing}
use Rattle.mst_questions.specs.declared.explaining.Unexplained.{Unexplained}
use Rattle.mst_questions.specs.declared.explaining.Unexplained.TheVariants.{NoBridge, NoPort, NoTree}
use Rattle.mst_questions.specs.Asked.{asked_of, forward_of, part_value, root_of}
use Rattle.mst_tool.specs.Load.{LoadsEnded, LoadsScript}
use Rattle.mst_tool.specs.Shown.{IsShown}
use Rattle.mst_questions.specs.Shown.{advice_row, explain_row, pairs_row, summary_row, sweep_row}
use Rattle.mst_tool.specs.engine.Script.{LoadsAll}
use Rattle.mst_tool.specs.engine.print.Shape.{of_script, unanswered}
use Rattle.mst_tool.specs.engine.Steps.{Step, left_by, texts_of, refusals_of, lacks_of, lacking_of}
use Rattle.mst_io.specs.Written.{Reads}
use Rattle.mst_questions.specs.declared.asked.Asked.{Asked}
use Rattle.mst_questions.specs.declared.asked.Question.{Question}
use Rattle.mst_questions.specs.declared.asked.Question.TheVariants.{Explain, Unread as unread_question, Sweep, Pairs, Summary, Picture, VlanPicture, Undrawn as undrawn_question, Advice, Unadvised}
use Rattle.mst_questions.specs.declared.asks.Answer.{Answer}
use Rattle.mst_questions.specs.declared.asks.Answer.TheVariants.{Text, Unread, Refused, Swept, Undrawn, Advised, NotAdvised, UnreadGoal}
use Rattle.mst_tool.specs.engine.print.declared.form.Form.{Form}
use Rattle.mst_io.specs.declared.outcome.Outcome.{Outcome}

-- what words for a bridge, a port and, where there is one, a tree ask: to explain the port. Or they ask nothing, by their fault
abbrev pub question_of : Result Asked Fault → Question
question_of (Err f) = unread_question f
question_of (Ok asked) = Explain asked

abbrev pub explain_question : List ℕ → List ℕ → Option (List ℕ) → Question
explain_question bridge port tree = question_of (asked_of bridge port tree)

-- what a word for a tree asks: the picture with it. Or it asks nothing, by its fault
abbrev pub drawn_of : Result ℕ Fault → Question
drawn_of (Err f) = undrawn_question f
drawn_of (Ok n) = Picture n

abbrev pub picture_question : List ℕ → Question
picture_question word = drawn_of (tree word)

-- and of a VLAN
abbrev pub vlan_drawn_of : Result ℕ Fault → Question
vlan_drawn_of (Err f) = undrawn_question f
vlan_drawn_of (Ok n) = VlanPicture n

abbrev pub vlan_picture_question : List ℕ → Question
vlan_picture_question word = vlan_drawn_of (vid word)

-- what the words of a picture ask: a word for a tree alone, or `vlan` and a word for a VLAN
abbrev pub dot_question : List ℕ → Option (List ℕ) → Option Question
dot_question word None = Some (picture_question word)
dot_question word (Some behind) = if bytes_eq word (codes "vlan") then Some (vlan_picture_question behind) else None

-- what words for what is wanted ask: which settings bring it about. Or they ask nothing, by their fault. It is that a bridge is the root
-- of a tree, behind `root`, or, behind `forward`, that a port forwards there. There is no other word, nor these with or without a port
abbrev pub wanted_of : Result Goal Fault → Question
wanted_of (Err f) = Unadvised f
wanted_of (Ok goal) = Advice goal

abbrev pub advice_question : List ℕ → List ℕ → List ℕ → Option (List ℕ) → Option Question
advice_question goal number bridge None = if bytes_eq goal (codes "root") then Some (wanted_of (root_of number bridge)) else None
advice_question goal number bridge (Some port) = if bytes_eq goal (codes "forward") then Some (wanted_of (forward_of number bridge port)) else None

-- what is asked leaves the planner as it was: all but advice, for which edits are made
abbrev pub keeps : Question → Bool
keeps (Advice goal) = false
keeps other = true

-- what a word for a part, if there is one, asks behind `pairs`: what pairs of failures of the part do, or all. A word that is none
-- asks nothing
abbrev pub pairs_question : Option (List ℕ) → Option Question
pairs_question None = Some (Pairs whole_part)
pairs_question (Some word) = option_map Pairs (part_value word)

-- what a word for a part asks, if no other stands behind it: what single failures of the part do
abbrev pub part_asked : List ℕ → Option (List ℕ) → Option Question
part_asked word None = option_map Sweep (part_value word)
part_asked word (Some other) = None

-- what words behind a script ask, where there are some: pairs, or a part of single failures. Without a word it is all of these
abbrev pub sweep_by_word : List ℕ → Option (List ℕ) → Option Question
sweep_by_word word behind = if bytes_eq word (codes "pairs") then pairs_question behind else part_asked word behind

abbrev pub sweep_question : Option (List ℕ) → Option (List ℕ) → Option Question
sweep_question None behind = Some (Sweep whole_part)
sweep_question (Some word) behind = sweep_by_word word behind

-- what an answer counts: as a refused line, and as one that tells of a difference
pub record Told : Type 0 where
  pub refused : ℕ
  pub differing : ℕ

-- one that was to be given, and one that wasn't
abbrev pub given : Told
given = record { refused = 0; differing = 0 }

abbrev pub not_given : Told
not_given = record { refused = 1; differing = 0 }

-- one that tells of so many failures that cut some VID, or of so many pairs
abbrev pub swept : ℕ → Told
swept cuts = record { refused = 0; differing = if cuts == 0 then 0 else 1 }

-- advice, and that there is none, which counts as one that tells of a difference
abbrev pub is_nothing : WhatIsAdvised → Bool
is_nothing Already = false
is_nothing (Edits count) = false
is_nothing Nothing = true

abbrev pub advised : Bool → Told
advised is_none = record { refused = 0; differing = if is_none then 1 else 0 }

abbrev pub unexplained_in : Form → List ℕ → List ℕ → List ℕ
unexplained_in form = unanswered form refusal.Explain

abbrev pub undrawn_in : Form → List ℕ → List ℕ → List ℕ
undrawn_in form = unanswered form refusal.Dot

abbrev pub unadvised_in : Form → List ℕ → List ℕ → List ℕ
unadvised_in form = unanswered form refusal.Advise

-- what is printed of a port, by whether something is in the way: that, in a line, or the rows that explain it
abbrev pub Tells : Form → Net → Asked → Option Unexplained → Told → List ℕ → Type 0
Tells form net asked (Some why) told text = (told ≡ not_given) × (text ≡ unexplained_in form (unexplained.code_of why) (unexplained.text_of why))
Tells form net asked None told text = (told ≡ given) × IsShown form (explain_row asked) (Explains net asked.port asked.tree) text

-- what is printed of what is wanted, by whether something is in the way: that, in a line, or the rows that advise
abbrev pub TellsAdvice : Form → Net → Goal → Option Unexplained → Told → List ℕ → Type 0
TellsAdvice form net goal (Some why) told text = (told ≡ not_given) × (text ≡ unadvised_in form (unexplained.code_of why) (unexplained.text_of why))
TellsAdvice form net goal None told text = (advice : WhatIsAdvised) × IsShown form (advice_row goal) (Advises net goal advice) text × (told ≡ advised (is_nothing advice))

-- what is printed of what was asked of a network, and what that counts. Words that aren't in their forms come before all
-- else. A picture is a text in each form
abbrev pub IsAnswer : Form → Net → Question → Told → List ℕ → Type 0
IsAnswer form net (unread_question f) told text = (told ≡ not_given) × (text ≡ unexplained_in form (fault.code_of f) (fault.text_of f))
IsAnswer form net (Explain asked) told text = Tells form net asked (unexplained_of net asked.port asked.tree) told text
IsAnswer form net (Sweep part) told text = (cuts : ℕ) × IsShown form (sweep_row part) (SweepsPart part net cuts) text × (told ≡ swept cuts)
IsAnswer form net (Pairs part) told text = (cuts : ℕ) × IsShown form (pairs_row part) (SweepsPairs part net cuts) text × (told ≡ swept cuts)
IsAnswer form net Summary told text = (told ≡ given) × IsShown form summary_row (Summarizes net) text
IsAnswer form net (Picture n) told text = (told ≡ given) × Depicts net n text
IsAnswer form net (VlanPicture n) told text = (told ≡ given) × DepictsVlan net n text
IsAnswer form net (undrawn_question f) told text = (told ≡ not_given) × (text ≡ undrawn_in form (fault.code_of f) (fault.text_of f))
IsAnswer form net (Advice goal) told text = TellsAdvice form net goal (unadvised_of net goal) told text
IsAnswer form net (Unadvised f) told text = (told ≡ not_given) × (text ≡ unadvised_in form (fault.code_of f) (fault.text_of f))

-- ---- what is refused whatever memory there is
-- the port has no aggregation key, so that no other stands for it
abbrev pub is_keyless : Net → PortName → Bool
is_keyless net port = option_map_or (λ row. row.settings.key == 0) (fin.get net.ports port) false

-- why a port isn't explained, as far as the tables of the network tell it: there is no bridge of the name; there is no port of it, or the
-- port is in no LAN; or it has no key, and its bridge doesn't have the tree that is asked
abbrev pub unexplained_early : Net → PortName → Option ℕ → Option Unexplained
unexplained_early net port tree =
    if not (has_bridge port.bridge net) then Some NoBridge
    else (if not (is_plugged port net) then Some NoPort else (if is_keyless net port && not (has_asked net port.bridge tree) then Some NoTree else None))

-- and why there is no advice: of a root they tell all that is in the way
abbrev pub unadvised_early : Net → Goal → Option Unexplained
unadvised_early net (goal.Root tree bridge) = unrooted_of net tree bridge
unadvised_early net (goal.Forward tree port) = unexplained_early net port (Some tree)

-- words that ask nothing are refused, and what is asked where the tables of the network tell what is in the way
abbrev pub is_refused : Net → Question → Bool
is_refused net (unread_question f) = true
is_refused net (undrawn_question f) = true
is_refused net (Unadvised f) = true
is_refused net (Explain asked) = is_some (unexplained_early net asked.port asked.tree)
is_refused net (Advice goal) = is_some (unadvised_early net goal)
is_refused net other = false

-- what is counted of a script with what is asked of its network
abbrev pub counted_with : Outcome → Told → Outcome
counted_with script told = record script { refused = script.refused + told.refused; differing = script.differing + told.differing }

-- The edits of the script's lines were served, from the empty state on, and this is what they print, and after it the
-- answer of the network that they leave. The outcome counts the lines that were refused, as a run's does, and what the answer
-- counts. The script has no other steps that lack memory at the same lines, and the network no other answer
pub record Asks (form : Form) (question : Question) (reads : Option (List ℕ)) (text : List ℕ) (outcome : Outcome) : Type 0 where
  pub script : List ℕ
  pub steps : List Step
  pub told : Told
  pub answer : List ℕ
  pub read : Reads reads script
  pub loads : LoadsAll (of_script form) (lines_of script) steps
  pub answers : IsAnswer form (left_by empty_state steps).net question told answer
  pub printed : text ≡ texts_of steps ++ answer
  pub memory : outcome.memory ≡ lacks_of steps
  pub refused : outcome.refused ≡ refusals_of steps + told.refused
  pub differing : outcome.differing ≡ told.differing
  pub only : (others : List Step) → LoadsAll (of_script form) (lines_of script) others → lacking_of others ≡ lacking_of steps → others ≡ steps
  pub only_answer : (also : Told) (other : List ℕ) → IsAnswer form (left_by empty_state steps).net question also other → (also ≡ told) × (other ≡ answer)

-- what asking a script's network tells
abbrev pub asking : Form → Question → Telling
asking form question = record {
  tells = λ given text outcome. Asks form question given.first text outcome;
  begins = λ given text. LoadsScript (of_script form) given.first text;
  cut = λ given left text. LoadsEnded (of_script form) given.first left.first text;
  starved = λ given text. LoadsScript (of_script form) given.first text;
  told_first = λ given. LoadsEnded (of_script form) given.first;
  told_second = λ given left text. ⊥;
  told_third = λ given left text. ⊥;
}

-- what an answer prints, and what it counts
abbrev pub answer_text : Form → Answer → List ℕ
answer_text form (Text text) = text.items
answer_text form (Unread f) = unexplained_in form (fault.code_of f) (fault.text_of f)
answer_text form (Refused why) = unexplained_in form (unexplained.code_of why) (unexplained.text_of why)
answer_text form (Swept text cuts) = text.items
answer_text form (Undrawn f) = undrawn_in form (fault.code_of f) (fault.text_of f)
answer_text form (Advised text is_none) = text.items
answer_text form (NotAdvised why) = unadvised_in form (unexplained.code_of why) (unexplained.text_of why)
answer_text form (UnreadGoal f) = unadvised_in form (fault.code_of f) (fault.text_of f)

abbrev pub told_of : Answer → Told
told_of (Text text) = given
told_of (Unread f) = not_given
told_of (Refused why) = not_given
told_of (Swept text cuts) = swept cuts
told_of (Undrawn f) = not_given
told_of (Advised text is_none) = advised is_none
told_of (NotAdvised why) = not_given
told_of (UnreadGoal f) = not_given

-- What telling the networks of two scripts apart promises, where it prints in this form.
use Rattle.std.specs.Prelude.{◌≡◌, ◌+◌, ◌++◌, ◌⊎◌, ◌==◌, ◌&&◌, ℕ, Bool, not, List, Option, if◌then◌else◌, []}
use Rattle.std.specs.Io.KnownBytes.{Consumes}
use Rattle.mst_drive.specs.Words.{Telling}
use Rattle.mst_diff.specs.declared.diff.Differing.{Differing}
use Rattle.mst_lang.specs.Lines.{lines_of, ended_lines}
use Rattle.mst_tables.specs.Tables.{Net}
use Rattle.mst_between.specs.Differing.{Differs}
use Rattle.mst_between.specs.Editing.{EditsTo}
use Rattle.mst_tool.specs.engine.report.State.{empty_state}
use Rattle.mst_tool.specs.Load.{LoadsEnded}
use Rattle.mst_tool.specs.engine.Script.{LoadsAll}
use Rattle.mst_tool.specs.Shown.{IsShown, question_row}
use Rattle.mst_between.specs.declared.diffs.Between.{Between}
use Rattle.mst_between.specs.declared.diffs.Between.TheVariants.{Plans, Settings}
use Rattle.mst_tool.specs.engine.print.Shape.{of_old, of_new}
use Rattle.mst_tool.specs.engine.Steps.{Step, left_by, texts_of, refusals_of, lacks_of, lacking_of}
use Rattle.mst_io.specs.Written.{Reads}
use Rattle.mst_tool.specs.engine.print.declared.form.Form.{Form}
use Rattle.mst_io.specs.declared.outcome.Outcome.{Outcome}
use Rattle.mst_kinds.specs.declared.query.Query.TheVariants.{Diff, Edits}
use Rattle.mst_rows.specs.Rows.{Row}

-- whether nothing differs
abbrev pub is_nothing : Differing → Bool
is_nothing d = d.regions == 0 && d.roots == 0 && d.ports == 0 && d.vlans == 0

-- what is counted between two networks: of their plans how much of each differs, of their settings whether there is an edit
abbrev pub CountsOf : Between → Type 0
CountsOf Plans = Differing
CountsOf Settings = Bool

-- whether something differs
abbrev pub differs_by : (between : Between) → CountsOf between → Bool
differs_by Plans counts = not (is_nothing counts)
differs_by Settings differs = differs

-- 1 where something differs, else 0
abbrev pub differing_by : (between : Between) → CountsOf between → ℕ
differing_by between counts = if differs_by between counts then 1 else 0

-- what is counted of two scripts and of whether their networks differ. Of a script alone nothing differs
abbrev pub counted_both : Outcome → Outcome → Bool → Outcome
counted_both old new differs = record { refused = old.refused + new.refused; memory = old.memory + new.memory; differing = if differs then 1 else 0 }

-- both scripts, which the readers give, and what their lines do, from the empty state on, where their networks are loaded.
-- Neither has other steps that lack memory at the same lines
pub record LoadsBoth (form : Form) (olds news : Option (List ℕ)) : Type 0 where
  pub old : List ℕ
  pub new : List ℕ
  pub old_steps : List Step
  pub new_steps : List Step
  pub old_read : Reads olds old
  pub new_read : Reads news new
  pub old_loads : LoadsAll (of_old form) (lines_of old) old_steps
  pub new_loads : LoadsAll (of_new form) (lines_of new) new_steps
  pub only_old : (others : List Step) → LoadsAll (of_old form) (lines_of old) others → lacking_of others ≡ lacking_of old_steps → others ≡ old_steps
  pub only_new : (others : List Step) → LoadsAll (of_new form) (lines_of new) others → lacking_of others ≡ lacking_of new_steps → others ≡ new_steps

-- what the lines of both print, and the networks that they leave
abbrev pub both_texts : {form : Form} {olds news : Option (List ℕ)} → LoadsBoth form olds news → List ℕ
both_texts both = texts_of both.old_steps ++ texts_of both.new_steps

abbrev pub old_net : {form : Form} {olds news : Option (List ℕ)} → LoadsBoth form olds news → Net
old_net both = (left_by empty_state both.old_steps).net

abbrev pub new_net : {form : Form} {olds news : Option (List ℕ)} → LoadsBoth form olds news → Net
new_net both = (left_by empty_state both.new_steps).net

-- the questions as rows, in front of their rows
abbrev pub diff_row : Row
diff_row = question_row Diff []

abbrev pub edits_row : Row
edits_row = question_row Edits []

-- what tells how two networks differ, or which edits make the new one of the old one
abbrev pub TellsDifference : (between : Between) → Form → Net → Net → CountsOf between → List ℕ → Type 0
TellsDifference Plans form old new counts = IsShown form diff_row (Differs old new counts)
TellsDifference Settings form old new differs = IsShown form edits_row (EditsTo old new differs)

-- The edits of both scripts' lines were served, and this is what they print, that of the old one first, and after it how
-- the network that the new one leaves differs from the old one's. The outcome counts the lines of both that were refused, and
-- 1 where something differs. How both networks differ is one text
pub record Diffs (between : Between) (form : Form) (olds news : Option (List ℕ)) (text : List ℕ) (outcome : Outcome) : Type 0 where
  pub both : LoadsBoth form olds news
  pub counts : CountsOf between
  pub answer : List ℕ
  pub differs : TellsDifference between form (old_net both) (new_net both) counts answer
  pub printed : text ≡ both_texts both ++ answer
  pub memory : outcome.memory ≡ lacks_of both.old_steps + lacks_of both.new_steps
  pub refused : outcome.refused ≡ refusals_of both.old_steps + refusals_of both.new_steps
  pub differing : outcome.differing ≡ differing_by between counts
  pub only_difference : (also : CountsOf between) (other : List ℕ) → TellsDifference between form (old_net both) (new_net both) also other → (also ≡ counts) × (other ≡ answer)

-- The edits of the whole of the old script were served, and the reader of the new one has given these bytes, as far as it
-- tells, and has some left. Those of the lines that they complete were served too, and this is the whole of what all these print
pub record LoadsNewEnded (form : Form) (olds news left : Option (List ℕ)) (text : List ℕ) : Type 0 where
  pub old : List ℕ
  pub read : List ℕ
  pub old_steps : List Step
  pub new_steps : List Step
  pub old_read : Reads olds old
  pub consumed : Consumes news left read
  pub old_loads : LoadsAll (of_old form) (lines_of old) old_steps
  pub new_loads : LoadsAll (of_new form) (ended_lines read) new_steps
  pub printed : text ≡ texts_of old_steps ++ texts_of new_steps
  pub only_old : (others : List Step) → LoadsAll (of_old form) (lines_of old) others → lacking_of others ≡ lacking_of old_steps → others ≡ old_steps
  pub only_new : (others : List Step) → LoadsAll (of_new form) (ended_lines read) others → lacking_of others ≡ lacking_of new_steps → others ≡ new_steps

-- the edits of both scripts' lines were served, and this is the whole of what they print
pub record DiffsScripts (form : Form) (olds news : Option (List ℕ)) (text : List ℕ) : Type 0 where
  pub both : LoadsBoth form olds news
  pub printed : text ≡ both_texts both

-- What telling two scripts apart tells. Where a reader failed that is the old script's, so that no line of the new one was served, or
-- that of the new one
abbrev pub differing : Between → Form → Telling
differing between form = record {
  tells = λ given text outcome. Diffs between form given.first given.second text outcome;
  begins = λ given text. ⊥;
  cut = λ given left text. LoadsEnded (of_old form) given.first left.first text ⊎ LoadsNewEnded form given.first given.second left.second text;
  starved = λ given text. DiffsScripts form given.first given.second text;
  told_first = λ given. LoadsEnded (of_old form) given.first;
  told_second = λ given. LoadsNewEnded form given.first given.second;
  told_third = λ given left text. ⊥;
}

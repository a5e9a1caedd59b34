-- What the program does and how it ends, by what its words ask for.
use Rattle.std.specs.Prelude.{◌≡◌, ℕ, Bool, true, false, List, drop, length, is_some, Option, Some, None, Result, Ok, Err, IfOk, IfErr, IfSome, IsErrAnd}
use Rattle.std.specs.Borrow.{Bor}
use Rattle.mst_ask.specs.Asking.{standing}
use Rattle.mst_altering.specs.Alter.{altering}
use Rattle.mst_ask.specs.questions.Ask.{asking}
use Rattle.mst_ask.specs.questions.tool.Check.{checking}
use Rattle.mst_between.specs.Diff.{differing}
use Rattle.mst_ask.specs.questions.tool.Run.{running}
use Rattle.mst_ask.specs.tracing.Trace.{tracing}
use Rattle.mst_ask.specs.tracing.declared.asked.PathQuestion.{PathQuestion}
use Rattle.mst_ask.specs.questions.Asked.{names_policy}
use Rattle.mst_ask.specs.verifying.Verify.{verifying}
use Rattle.mst_ask.specs.verifying.declared.question.PolicyQuestion.{PolicyQuestion}
use Rattle.mst_ask.specs.verifying.declared.question.PolicyQuestion.TheVariants.{Promises, Risks}
use Rattle.mst_ask.specs.questions.declared.asked.Question.{Question}
use Rattle.mst_ask.specs.questions.tool.engine.print.declared.form.Form.{Form}
use Rattle.mst_io.specs.Devices.{Seen}
use Rattle.mst_io.specs.declared.outcome.Outcome.{Outcome}
use Rattle.mst_io.specs.declared.outcome.RunFault.{RunFault}
use Rattle.mst_command.specs.declared.stop.Stop.{Stop}
use Rattle.mst_command.specs.declared.words.Asked.{Asked}
use Rattle.mst_command.specs.declared.words.Behind.{Behind}
use Rattle.mst_command.specs.declared.table.Verb.{Verb}
use Rattle.mst_command.specs.declared.table.Verb.TheVariants.{Run, Check, Explain, Diff, Sweep, Summary, Dot, Ask, Verify, Edits, Steps, Advise, Path}
use Rattle.mst_between.specs.declared.diffs.Between.TheVariants.{Plans, Settings}
use Rattle.mst_command.specs.declared.flags.Flags.{Flags}
use Rattle.mstplan.specs.declared.piped.Piped.{Piped}
use Rattle.mst_command.specs.frame.declared.sources.Unopened.{Unopened as Why}
use Rattle.mst_command.specs.frame.Served.{Outputs}
use Rattle.mst_command.specs.frame.hints.declared.whose.Script.TheVariants as kind
use Rattle.mstplan.specs.Endings.{told_of, told_of_hints, said_of, line_of, status_after, status_of_stop, status_with}
use Rattle.mst_command.specs.Flags.{form_of}
use Rattle.mstplan.specs.Flags.{asked_with}
use Rattle.mstplan.specs.Invites.{invitation}
use Rattle.mstplan.specs.Said.{IsSaid}
use Rattle.mstplan.specs.Serving.{IsWhyUndone, ServesTask, Task, nothing, policy_if, scripts, serves, stands}
use Rattle.mstplan.specs.Words.{path_by, question_by}
use Rattle.mst_command.specs.Strays.{first_unknown}
use Rattle.mst_command.specs.Words.{texts_of, words_of, are_plain, without_dashes, is_help, is_version, IsAnswer, IsNoWord, IsRefusal}

-- what is to be done where the network of the script of this name is asked something, if words ask it
abbrev pub asking_of : Form → Option Question → Bor (List ℕ) → Task
asking_of form None script = nothing
asking_of form (Some question) script = serves (asking form question) 1 (scripts kind.Loaded None None) script None None

-- and where a path of it is asked for, if words ask for one
abbrev pub tracing_of : Form → Option PathQuestion → Bor (List ℕ) → Task
tracing_of form None script = nothing
tracing_of form (Some question) script = serves (tracing form question) 1 (scripts kind.Loaded None None) script None None

-- what is to be done with the network of a script and a policy, if one is named
abbrev pub judging_of : Form → PolicyQuestion → Behind → Task
judging_of form question behind = serves (verifying form question) 2 (scripts kind.Loaded (Some kind.Policy) None) behind.first behind.second None

-- and with its failures, or with the risks of a policy, by whether the words name one
abbrev pub sweeping_by : Form → Bool → Behind → Task
sweeping_by form true behind = judging_of form Risks behind
sweeping_by form false behind = asking_of form (question_by Sweep (texts_of behind)) behind.first

abbrev pub sweeping_of : Form → Behind → Task
sweeping_of form behind = sweeping_by form (names_policy (texts_of behind).second (texts_of behind).third) behind

-- What there is to be done by what the words ask for, printing in this form: the script is run; or the captures are compared with its plan;
-- or the network that it leaves is asked of a port, of its failures or pairs of them, for its summary, for its picture, for advice or for a path; or the
-- networks of two scripts are told apart; or the questions that come by standard input are answered, of which there are none where the
-- script comes there, with a policy, if one is named; or the network is verified by a policy, or asked what the risks of one do to it; or the edits are told that make the network
-- of the second script of that of the first; or what the steps of a change do, with a policy, if one is named
abbrev pub task_of : Form → Verb → Behind → Task
task_of form Run behind = serves (running form) 1 (scripts kind.Run None None) behind.first None None
task_of form Check behind = serves (checking form) 2 (scripts kind.Run None None) behind.first behind.second None
task_of form Explain behind = asking_of form (question_by Explain (texts_of behind)) behind.first
task_of form Diff behind = serves (differing Plans form) 2 (scripts kind.Old (Some kind.New) None) behind.first behind.second None
task_of form Sweep behind = sweeping_of form behind
task_of form Summary behind = asking_of form (question_by Summary (texts_of behind)) behind.first
task_of form Dot behind = asking_of form (question_by Dot (texts_of behind)) behind.first
task_of form Ask behind = stands (standing form) (scripts kind.Loaded None (policy_if behind.second)) behind.first behind.second
task_of form Verify behind = judging_of form Promises behind
task_of form Edits behind = serves (differing Settings form) 2 (scripts kind.Old (Some kind.New) None) behind.first behind.second None
task_of form Steps behind = serves (altering form (is_some behind.third)) 3 (scripts kind.Loaded (Some kind.Change) (policy_if behind.third)) behind.first behind.second behind.third
task_of form Advise behind = asking_of form (question_by Advise (texts_of behind)) behind.first
task_of form Path behind = tracing_of form (path_by (texts_of behind)) behind.first

-- what the words ask for was done with these flags, of the inputs that they name, this came to the outputs, and this was answered
abbrev pub Serves : (Option (List ℕ) → Type 0) → (List ℕ → Option (List ℕ) → Type 0) → Flags → Asked → Outputs → Outputs → Result Outcome RunFault → Result (Unit {0}) RunFault → Type 0
Serves IsGiven IsFile flags asked old new answer hints = ServesTask IsGiven IsFile flags (task_of (form_of flags) asked.verb asked.behind) old new answer hints

-- why nothing was done with the inputs of these names
abbrev pub IsWhyUnserved : (List ℕ → Why → Type 0) → Flags → Asked → Stop → Type 0
IsWhyUnserved IsUnopened flags asked stop = IsWhyUndone IsUnopened (task_of (form_of flags) asked.verb asked.behind) stop

-- why nothing was run: what the words said, or what kept that which they ask for from being run
abbrev pub IsReason : (List ℕ → Why → Type 0) → Flags → Result Asked Stop → Stop → Type 0
IsReason IsUnopened flags (Err said) stop = stop ≡ said
IsReason IsUnopened flags (Ok asked) stop = IsWhyUnserved IsUnopened flags asked stop

-- standard output: what it has, as far as it tells, and whether who read it has closed it
pub record Output : Type 0 where
  pub bytes : Option (List ℕ)
  pub closed : Bool

abbrev pub output_of : {W : Type 0} → (W → Option (List ℕ)) → Piped W → Output
output_of contents output = record { bytes = contents output.writer; closed = output.is_closed }

-- How the program ends where it served what was asked for: the words ask for it, and the exit status and what
-- is told are those of its answer, and then of its hints. What was stopped since the output was closed is no fault
pub record IsAfterRun (IsGiven : Option (List ℕ) → Type 0) (IsFile : List ℕ → Option (List ℕ) → Type 0) (flags : Flags) (asked : Result Asked Stop) (written : Option (List ℕ)) (output : Output) (errors now : Seen) (status : ℕ) : Type 0 where
  pub words : Asked
  pub answer : Result Outcome RunFault
  pub hints : Result (Unit {0}) RunFault
  pub hinted : Seen
  pub told : Seen
  pub are_asked : asked ≡ Ok words
  pub serves : Serves IsGiven IsFile flags words (record { written = written; errors = errors }) (record { written = output.bytes; errors = hinted }) answer hints
  pub ends : status ≡ status_with (status_after output.closed answer) hints
  pub says : IsSaid hinted told (said_of (told_of output.closed answer))
  pub says_of_hints : IsSaid told now (said_of (told_of_hints hints))

-- how it ends where nothing was run: the exit status and what is told are those of the reason
pub record IsAfterStop (IsUnopened : List ℕ → Why → Type 0) (flags : Flags) (asked : Result Asked Stop) (errors now : Seen) (status : ℕ) : Type 0 where
  pub stop : Stop
  pub reason : IsReason IsUnopened flags asked stop
  pub ends : status ≡ status_of_stop stop
  pub told : IsSaid errors now (line_of stop)

-- one of the two, by whether there is an output that something was run to
abbrev pub IsCarriedOut : (Option (List ℕ) → Type 0) → (List ℕ → Option (List ℕ) → Type 0) → (List ℕ → Why → Type 0) → Flags → Result Asked Stop → Option (List ℕ) → Option Output → Seen → Seen → ℕ → Type 0
IsCarriedOut IsGiven IsFile IsUnopened flags asked written None errors now status = IsAfterStop IsUnopened flags asked errors now status
IsCarriedOut IsGiven IsFile IsUnopened flags asked written (Some output) errors now status = IsAfterRun IsGiven IsFile flags asked written output errors now status

-- what words behind the program's name ask for with these flags, where none of them is an option; what comes of those that
-- ask for help or for the version; and that a word of one hyphen which the program doesn't know is told before anything else
pub record IsAskedBy (IsThere : List ℕ → Type 0) (flags : Flags) (words : List (List ℕ)) (asked : Result Asked Stop) : Type 0 where
  pub asked_for : are_plain words ≡ true → IfOk asked (λ a. asked_with flags (without_dashes words) ≡ Some (words_of a))
  pub refused : are_plain words ≡ true → IfErr asked (IsRefusal IsThere words (asked_with flags (without_dashes words)))
  pub help : is_help words ≡ true → IsErrAnd asked IsAnswer
  pub version : is_version words ≡ true → IsErrAnd asked IsAnswer
  pub unknown : IfSome (first_unknown words) (λ word. IsErrAnd asked (IsNoWord word))

-- All that the program does with these words, its name first, from which these flags were taken out: who waits at a terminal is told
-- so, and what they ask for is carried out, with the flags
pub record IsProgram (IsGiven : Option (List ℕ) → Type 0) (IsFile : List ℕ → Option (List ℕ) → Type 0) (IsUnopened : List ℕ → Why → Type 0) (IsThere : List ℕ → Type 0) (flags : Flags) (words : List (List ℕ)) (is_terminal : Bool)
    (written : Option (List ℕ)) (output : Option Output) (errors now : Seen) (status : ℕ) : Type 0 where
  pub asked : Result Asked Stop
  pub is_asked : IsAskedBy IsThere flags (drop 1 words) asked
  pub invited : Seen
  pub invites : IsSaid errors invited (invitation is_terminal (length words) asked)
  pub serves : IsCarriedOut IsGiven IsFile IsUnopened flags asked written output invited now status

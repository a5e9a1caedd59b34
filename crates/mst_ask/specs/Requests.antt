-- What a line asks of a standing planner: what it says as a line of a script, or what a word of the program asks.
use Rattle.std.specs.Prelude.{◌≡◌, ℕ, ◌==◌, ◌&&◌, Bool, true, not, nat_lt, List, [], ◌∷◌, length, codes, Option, None, Some, Result, Ok, Err, if◌then◌else◌}
use Rattle.std.specs.List.{list_all}
use Rattle.std.specs.Option.{option_map_or}
use Rattle.std.specs.Str.{bytes_eq}
use Rattle.mst_lang.specs.Arguments.{number_value}
use Rattle.mst_lang.specs.Reading.{reading_as}
use Rattle.mst_lang.specs.Words.{words, is_plain}
use Rattle.mst_lang.specs.declared.line.Fault.{Fault}
use Rattle.mst_lang.specs.declared.line.Fault.TheVariants.{E01, E02}
use Rattle.mst_lang.specs.declared.line.Line.{Line}
use Rattle.mst_lang.specs.declared.line.Version.{Version}
use Rattle.mst_questions.specs.Ask.{dot_question, explain_question, keeps, sweep_question}
use Rattle.mst_questions.specs.declared.asked.Question.{Question}
use Rattle.mst_questions.specs.declared.asked.Question.TheVariants.{Summary}
use Rattle.mst_tracing.specs.Asked.{path_question}
use Rattle.mst_tracing.specs.declared.asked.PathQuestion.{PathQuestion}
use Rattle.mst_ask.specs.declared.request.Request.{Request}
use Rattle.mst_ask.specs.declared.request.Request.TheVariants.{Script, Word, Undo, Policy, Path}
use Rattle.mst_verifying.specs.declared.question.PolicyQuestion.TheVariants.{Promises, Risks}

-- what stands behind `explain`: B and P, or B, P and TREE. With another number of words there is no such command
abbrev pub explain_words : List (List ℕ) → Result Request Fault
explain_words (bridge ∷ port ∷ []) = Ok (Word (explain_question bridge port None))
explain_words (bridge ∷ port ∷ tree ∷ []) = Ok (Word (explain_question bridge port (Some tree)))
explain_words _ = Err E01

-- behind `summary`: nothing
abbrev pub summary_words : List (List ℕ) → Result Request Fault
summary_words [] = Ok (Word Summary)
summary_words _ = Err E01

-- behind `sweep`: nothing, `risks` for those of the policy, a part, or `pairs` and a part, if one is asked of. Words that name no part are bad
-- arguments
abbrev pub sweep_of : Option Question → Result Request Fault
sweep_of (Some question) = Ok (Word question)
sweep_of None = Err E02

abbrev pub sweep_words : List (List ℕ) → Result Request Fault
sweep_words [] = sweep_of (sweep_question None None)
sweep_words (word ∷ []) = if bytes_eq word (codes "risks") then Ok (Policy Risks) else sweep_of (sweep_question (Some word) None)
sweep_words (word ∷ part ∷ []) = sweep_of (sweep_question (Some word) (Some part))
sweep_words _ = Err E01

-- behind `dot`: TREE, or `vlan` and VID
abbrev pub dot_of : Option Question → Result Request Fault
dot_of (Some question) = Ok (Word question)
dot_of None = Err E01

abbrev pub dot_words : List (List ℕ) → Result Request Fault
dot_words (word ∷ []) = dot_of (dot_question word None)
dot_words (word ∷ vid ∷ []) = dot_of (dot_question word (Some vid))
dot_words _ = Err E01

-- behind `path`: VID, A and B, or these and `always`
abbrev pub path_of : Option PathQuestion → Result Request Fault
path_of (Some question) = Ok (Path question)
path_of None = Err E01

abbrev pub path_words : List (List ℕ) → Result Request Fault
path_words (vid ∷ from ∷ to ∷ []) = path_of (path_question vid from to None)
path_words (vid ∷ from ∷ to ∷ behind ∷ []) = path_of (path_question vid from to (Some behind))
path_words _ = Err E01

-- behind `undo`: nothing, for the last edit, or how many of the last ones, from 1
abbrev pub counted : Option ℕ → Result Request Fault
counted None = Err E02
counted (Some n) = if n == 0 then Err E02 else Ok (Undo n)

abbrev pub count_of : List ℕ → Result Request Fault
count_of word = counted (number_value word)

abbrev pub undo_words : List (List ℕ) → Result Request Fault
undo_words [] = Ok (Undo 1)
undo_words (word ∷ []) = count_of word
undo_words _ = Err E01

-- behind `verify`: nothing
abbrev pub verify_words : List (List ℕ) → Result Request Fault
verify_words [] = Ok (Policy Promises)
verify_words _ = Err E01

-- what words ask of which the first is one of these
abbrev pub asked_as : List ℕ → List (List ℕ) → Option (Result Request Fault)
asked_as word behind =
    if bytes_eq word (codes "explain") then Some (explain_words behind)
    else (if bytes_eq word (codes "summary") then Some (summary_words behind)
    else (if bytes_eq word (codes "sweep") then Some (sweep_words behind)
    else (if bytes_eq word (codes "dot") then Some (dot_words behind)
    else (if bytes_eq word (codes "undo") then Some (undo_words behind)
    else (if bytes_eq word (codes "verify") then Some (verify_words behind)
    else (if bytes_eq word (codes "path") then Some (path_words behind) else None))))))

abbrev pub asked_by : List (List ℕ) → Option (Result Request Fault)
asked_by [] = None
asked_by (word ∷ behind) = asked_as word behind

-- what a line asks that begins with one of these words, if it has at most 4,096 bytes, and those alone that a line may hold
abbrev pub is_readable : List ℕ → Bool
is_readable line = not (nat_lt 4096 (length line)) && list_all is_plain line

abbrev pub asked_in : List ℕ → Option (Result Request Fault)
asked_in line = if is_readable line then asked_by (words line) else None

-- what it says as a line of a script
abbrev pub said_of : Result Line Fault → Result Request Fault
said_of (Ok line) = Ok (Script line)
said_of (Err fault) = Err fault

-- what a line asks, or the least fault of it, where scripts' lines are of this version
abbrev pub request_of : Version → List ℕ → Result Request Fault
request_of version line = option_map_or (λ request. request) (asked_in line) (said_of (reading_as version line))

-- the planner stays as it was where its network is asked this
abbrev pub Stays : Request → Type 0
Stays (Script line) = Unit {0}
Stays (Word question) = keeps question ≡ true
Stays (Undo count) = Unit {0}
Stays (Policy question) = Unit {0}
Stays (Path question) = Unit {0}

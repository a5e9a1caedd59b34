-- Which path words ask for.
use Rattle.std.specs.Prelude.{Bool, true, false, ℕ, List, Option, None, Some, Result, Ok, Err, codes, if◌then◌else◌}
use Rattle.std.specs.Option.{option_map}
use Rattle.std.specs.Str.{bytes_eq}
use Rattle.mst_lang.specs.Arguments.{name, vid}
use Rattle.mst_lang.specs.declared.line.Fault.{Fault}
use Rattle.mst_path.specs.declared.trace.Trace.{Trace}
use Rattle.mst_tracing.specs.declared.asked.PathQuestion.{PathQuestion}
use Rattle.mst_tracing.specs.declared.asked.PathQuestion.TheVariants.{Path, Unread}

-- a VLAN and two bridges, or the first fault of them: of the names first
abbrev pub trace_in : Result ℕ Fault → Result (List ℕ) Fault → Result (List ℕ) Fault → Result Trace Fault
trace_in vid (Err fault) to = Err fault
trace_in vid (Ok from) (Err fault) = Err fault
trace_in (Err fault) (Ok from) (Ok to) = Err fault
trace_in (Ok vid) (Ok from) (Ok to) = Ok (record { vid = vid; from = from; to = to })

-- what the words VID, A and B name, if they have the forms that a script's have. Else it is the fault of a script: E02 for A and B, which
-- comes first, and E03 for VID
abbrev pub trace_of : List ℕ → List ℕ → List ℕ → Result Trace Fault
trace_of number from to = trace_in (vid number) (name from) (name to)

abbrev pub question_of : Result Trace Fault → Bool → PathQuestion
question_of (Err fault) is_always = Unread fault
question_of (Ok trace) is_always = Path (record { trace = trace; is_always = is_always })

-- whether the path after failures is asked for, too: behind `always`. Another word there asks nothing
abbrev pub scope_of : Option (List ℕ) → Option Bool
scope_of None = Some false
scope_of (Some word) = if bytes_eq word (codes "always") then Some true else None

abbrev pub path_question : List ℕ → List ℕ → List ℕ → Option (List ℕ) → Option PathQuestion
path_question number from to behind = option_map (question_of (trace_of number from to)) (scope_of behind)

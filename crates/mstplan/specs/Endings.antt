-- How the program ends: its exit status, and what is told on standard error.
use Rattle.std.specs.Prelude.{ℕ, ◌==◌, ◌++◌, ◌&&◌, Bool, List, [], Option, Some, None, Result, Ok, Err, codes, option_map, if◌then◌else◌}
use Rattle.mst_io.specs.declared.outcome.Outcome.{Outcome}
use Rattle.mst_io.specs.declared.outcome.RunFault.{RunFault}
use Rattle.mst_io.specs.declared.outcome.RunFault.TheVariants.{Read, Write, Memory}
use Rattle.mst_ask.specs.questions.tool.Run.{status_of}
use Rattle.mst_command.specs.frame.Framed.{is_broken}
use Rattle.mst_command.specs.frame.declared.inputs.Unserved.{Unserved}
use Rattle.mst_command.specs.frame.declared.inputs.Unserved.TheVariants.{Unopened as not_opened, Starved}
use Rattle.mst_command.specs.frame.declared.sources.Unopened.{Unopened as Why}
use Rattle.mst_command.specs.frame.declared.sources.Unopened.TheVariants.{Missing, Denied, Folder, Other}
use Rattle.mstplan.specs.Said.{shown}
use Rattle.mst_command.specs.declared.stop.Stop.{Stop}
use Rattle.mst_command.specs.declared.stop.Stop.TheVariants.{Told, NoWord, Unopened, Fault}
use Rattle.mst_command.specs.declared.strays.Meant.{Meant}
use Rattle.mst_command.specs.declared.strays.Meant.TheVariants.{File, Json, Hints, Help, Version, Flag}

-- why a word wasn't served
abbrev pub stop_by : Unserved → Stop
stop_by (not_opened name why) = Unopened name why
stop_by Starved = Fault Memory

-- what stopped the run, or want of memory where that refused a line
abbrev pub told_fault : Result Outcome RunFault → Option RunFault
told_fault (Err fault) = Some fault
told_fault (Ok outcome) = if outcome.memory == 0 then None else Some Memory

-- who read the output has closed it, which stopped the run: that is no fault
abbrev pub is_left : Bool → Result Outcome RunFault → Bool
is_left closed ended = closed && is_broken ended

-- what is told after a run
abbrev pub told_of : Bool → Result Outcome RunFault → Option Stop
told_of closed ended = if is_left closed ended then None else option_map (λ fault. Fault fault) (told_fault ended)

-- the exit status after a run
abbrev pub status_after : Bool → Result Outcome RunFault → ℕ
status_after closed ended = if is_left closed ended then 0 else status_of ended

-- what is told of hints that didn't come to their end
abbrev pub told_of_hints : Result (Unit {0}) RunFault → Option Stop
told_of_hints (Ok x) = None
told_of_hints (Err fault) = Some (Fault fault)

-- the exit status with them: 3 where they didn't
abbrev pub status_with : ℕ → Result (Unit {0}) RunFault → ℕ
status_with status (Ok x) = status
status_with status (Err fault) = 3

-- the line that tells a fault
abbrev pub message_of : RunFault → List ℕ
message_of Read = codes "mstplan: read fault"
message_of Write = codes "mstplan: write fault"
message_of Memory = codes "mstplan: out of memory"

-- what stands before the name of a file that can't be opened, and behind it
abbrev pub before_name : Why → List ℕ
before_name Missing = codes "mstplan: cannot open "
before_name Denied = codes "mstplan: cannot open "
before_name Folder = codes "mstplan: "
before_name Other = codes "mstplan: cannot open "

abbrev pub behind_name : Why → List ℕ
behind_name Missing = codes ": no such file"
behind_name Denied = codes ": permission denied"
behind_name Folder = codes " is a folder"
behind_name Other = []

-- what stands behind a word that the program hasn't: what it was meant for
abbrev pub behind_word : List ℕ → Meant → List ℕ
behind_word word File = codes "; mstplan run " ++ (shown word ++ codes "?\n")
behind_word word Json = codes "; --json?\n"
behind_word word Hints = codes "; --hints?\n"
behind_word word Help = codes "; mstplan --help?\n"
behind_word word Version = codes "; mstplan --version?\n"
behind_word word Flag = codes "; flags are --json and --hints, what a command takes stands without --\n"

-- what standard error gets. The words of the program were told before
abbrev pub line_of : Stop → List ℕ
line_of (Told status) = []
line_of (NoWord word meant) = codes "error: no such word " ++ (shown word.now ++ behind_word word.now meant)
line_of (Unopened name why) = before_name why ++ (shown name.now ++ (behind_name why ++ codes "\n"))
line_of (Fault fault) = message_of fault ++ codes "\n"

-- what standard error gets, if anything is told
abbrev pub said_of : Option Stop → List ℕ
said_of None = []
said_of (Some stop) = line_of stop

-- 2 for a file without a command, and 3 where a file can't be opened, a device failed or memory was wanted
abbrev pub status_of_stop : Stop → ℕ
status_of_stop (Told status) = status
status_of_stop (NoWord word meant) = 2
status_of_stop (Unopened name why) = 3
status_of_stop (Fault fault) = 3

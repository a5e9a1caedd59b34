-- How a standing planner is kept: it has the script and the lines of the edits, and can make each network again.
use Rattle.std.specs.Prelude.{◌≡◌, ◌<◌, ◌^◌, ◌++◌, ℕ, ◌+◌, List, [], ◌∷◌, length, map, Result, Ok, Err, Vec, reverse}
use Rattle.std.specs.Global.{Global}
use Rattle.mst_lang.specs.Lines.{lines_of}
use Rattle.mst_lang.specs.Reading.{reading_as}
use Rattle.mst_lang.specs.declared.line.Fault.{Fault}
use Rattle.mst_lang.specs.declared.line.Line.{Line}
use Rattle.mst_lang.specs.declared.line.Line.TheVariants.{Blank, Mark, Edit as edit, Query as query}
use Rattle.mst_lang.specs.declared.line.Version.{Version}
use Rattle.mst_net.specs.tables.After.{after}
use Rattle.mst_net.specs.tables.Tables.{Net, empty_net}
use Rattle.mst_net.specs.tables.declared.refusal.Refusal.{Refusal}
use Rattle.mst_questions.specs.tool.engine.Script.{reading_at, version_of}
use Rattle.mst_questions.specs.tool.engine.report.Planned.{planned_state}
use Rattle.mst_kinds.specs.declared.ask_line.AskLine.TheVariants.{Undone}
use Rattle.mst_kinds.specs.declared.kind.Kind.TheVariants as kind
use Rattle.mst_rows.specs.Cells.{word}
use Rattle.mst_rows.specs.Rows.{Row, row_of}
use Rattle.mst_ask.specs.Standing.{Made, Standing as What}
use Rattle.mst_ask.specs.declared.standing.Standing.{Standing}

-- what an edit makes of a network: the same, where it is refused
abbrev pub net_or : Net → Result Net Refusal → Net
net_or net (Ok new) = new
net_or net (Err r) = net

-- what a line makes of it that is read in this way
abbrev pub made_by : Result Line Fault → Net → Net
made_by (Err f) net = net
made_by (Ok Blank) net = net
made_by (Ok Mark) net = net
made_by (Ok (query q)) net = net
made_by (Ok (edit e)) net = net_or net (after e net)

-- what the lines of a script make of it, the first of this number
abbrev pub script_net : Version → ℕ → Net → List (List ℕ) → Net
script_net version number net [] = net
script_net version number net (line ∷ lines) = script_net version (number + 1) (made_by (reading_at version number line) net) lines

-- what lines make of it that are read whatever their numbers
abbrev pub lines_net : Version → Net → List (List ℕ) → Net
lines_net version net [] = net
lines_net version net (line ∷ lines) = lines_net version (made_by (reading_as version line) net) lines

-- the network of a script
abbrev pub net_of_script : List ℕ → Net
net_of_script script = script_net (version_of (lines_of script)) 1 empty_net (lines_of script)

-- the edits of these lines, the newest first, from this network on
abbrev pub made_in : Version → Net → List (List ℕ) → List Made
made_in version net [] = []
made_in version net (line ∷ older) = record { line = line; before = lines_net version net (reverse older) } ∷ made_in version net older

-- `undone LINE` for each of these lines, the last one first
abbrev pub line_row : List ℕ → Row
line_row line = row_of (kind.Ask Undone) (word line ∷ [])

abbrev pub rows_of : List (Vec ℕ Global) → List Row
rows_of lines = map line_row (reverse (map (λ line. line.items) lines))

-- the lines that are kept, the oldest first
abbrev pub lines_kept : Standing → List (List ℕ)
lines_kept kept = map (λ line. line.items) kept.made.items

-- what stands
abbrev pub standing_of : Standing → What
standing_of kept = record { state = planned_state kept.planner; policy = kept.policy; made = made_in kept.version (net_of_script kept.script.items) (reverse (lines_kept kept)) }

-- lines are read by the version of the script, and the network is the one that the script and the lines make
pub record IsKept (kept : Standing) : Type 0 where
  pub version : kept.version ≡ version_of (lines_of kept.script.items)
  pub few : length kept.script.items < 2 ^ 59
  pub net : (planned_state kept.planner).net ≡ lines_net kept.version (net_of_script kept.script.items) (lines_kept kept)

-- a line was kept behind the others
abbrev pub Keeps : List (Vec ℕ Global) → List ℕ → List (Vec ℕ Global) → Type 0
Keeps old line new = (kept : Vec ℕ Global) × (kept.items ≡ line) × (new ≡ old ++ kept ∷ [])

-- the script stays, and how is printed
pub record SameScript (old new : Standing) : Type 0 where
  pub form : new.form ≡ old.form
  pub version : new.version ≡ old.version
  pub script : new.script ≡ old.script

-- What is kept of the lines of a policy that were judged, and the rows of each.
use Rattle.std.specs.Prelude.{◌≡◌, ◌+◌, ◌<◌, ◌||◌, ◌++◌, ℕ, Bool, false, List, [], ◌∷◌, Option, None, Result, Ok, Err, MatchBool, Vec, count_by, filter, get_or, is_none, length, map, nat_lt, slice_index_or, if◌then◌else◌}
use Rattle.std.specs.declared.alloc.Global.{Global}
use Rattle.std.specs.List.{list_any}
use Rattle.std.specs.Option.{option_map_or}
use Rattle.mst_rows.specs.Lines.{row_line}
use Rattle.mst_rows.specs.Rows.{Row}
use Rattle.mst_lang.specs.declared.line.Fault.{Fault}
use Rattle.mst_policy.specs.Lines.{promise_in}
use Rattle.mst_policy.specs.declared.expectation.Scope.{Scope}
use Rattle.mst_reasons.specs.sweep.Failures.{Event}
use Rattle.mst_reasons.specs.Judged.{asks_at, places}
use Rattle.mst_reasons.specs.Risks.{events}
use Rattle.mst_tables.specs.Tables.{Net}
use Rattle.mst_roles.specs.forest.Outcome.{Outcome}
use Rattle.mst_policy.specs.declared.policy.PolicyLine.{PolicyLine}
use Rattle.mst_policy.specs.declared.risk.Said.{Said}
use Rattle.mst_reasons.specs.Named.{Prior}
use Rattle.mst_reasons.specs.declared.missing.Missing.{Missing}
use Rattle.mst_reasons.specs.declared.reason.Reason.{Reason}
use Rattle.mst_telling.specs.Lines.{unkept_by}
use Rattle.mst_telling.specs.Once.{rows_now}
use Rattle.mst_telling.specs.Told.{AreFound, Found, has_reason, is_judged_at, lacked, missing_rows, unread_by}
use Rattle.mst_telling.specs.Steps.{Change}
use Rattle.mst_telling.specs.Texts.{same_line}
use Rattle.mst_telling.specs.Verified.{Counts, joined, rows_of_read}
use Rattle.mst_telling.specs.declared.judgement.Finding.{Finding}
use Rattle.mst_telling.specs.declared.judgement.Judgement.{Judgement}
use Rattle.mst_telling.specs.declared.once.Folding.{Folding}
use Rattle.mst_telling.specs.declared.reason.At.{At}
use Rattle.mst_telling.specs.declared.texts.Texts.{Texts}
use Rattle.mst_telling.specs.declared.verified.Verdict.{Verdict}

-- something of each thing of a list, by its place from this one on
abbrev pub each_from : {A B : Type 0} → (ℕ → A → B) → ℕ → List A → List B
each_from f n [] = []
each_from f n (x ∷ xs) = f n x ∷ each_from f (n + 1) xs

-- the reasons of each line in a place
abbrev pub reasons_in : Vec (Vec Reason Global) Global → List (List Reason)
reasons_in reasons = map (λ those. those.items) reasons.items

-- those of the line at a place of the list
abbrev pub found_at : ℕ → Finding → Found
found_at n f = record { place = f.place; reasons = slice_index_or (reasons_in f.reasons) n [] }

-- the places where the line at a place of the list isn't kept, and why
abbrev pub line_found : ℕ → List Finding → List Found
line_found n findings = filter has_reason (map (found_at n) findings)

-- what it lacks
abbrev pub line_lacks : ℕ → Judgement → Option Missing
line_lacks n judgement = slice_index_or judgement.missing.items n None

-- its rows
abbrev pub line_rows : ℕ → PolicyLine → Judgement → List Row
line_rows n line judgement = missing_rows line.number (line_lacks n judgement) ++ unkept_by line.number line.read (line_found n judgement.found.items)

-- those of each line
abbrev pub told_in : List PolicyLine → Judgement → List (List Row)
told_in lines judgement = each_from (λ n line. line_rows n line judgement) 0 lines

-- the line at a place with its rows in the network before and in this one
abbrev pub change_at : ℕ → PolicyLine → Judgement → Judgement → Change
change_at n line before now = record { line = line; before = line_rows n line before; now = line_rows n line now }

-- the row that a line is refused by, if it is: it can't be read, or lacks something; and those of all lines
abbrev pub refused_at : ℕ → Result Said Fault → Option Missing → List Row
refused_at n (Err fault) what = unread_by n (Err fault)
refused_at n (Ok said) what = missing_rows n what

abbrev pub refused_by : List PolicyLine → Judgement → List Row
refused_by lines judgement = joined (each_from (λ n line. refused_at line.number line.read (line_lacks n judgement)) 0 lines)

-- and why each isn't kept, what is told once in front
abbrev pub verdicts_by : List PolicyLine → Judgement → List (List Row)
verdicts_by lines judgement = each_from (λ n line. rows_of_read line.number line.read (line_found n judgement.found.items)) 0 lines

-- in how many networks a line is judged that lacks nothing, by the events of the network; and each line
abbrev pub count_by_read : Result Said Fault → Bool → List Event → ℕ
count_by_read read is_whole events = option_map_or (λ promise. if is_whole then count_by (asks_at false promise) (places events) else 0) (promise_in read) 0

abbrev pub network_counts : List PolicyLine → List Event → Judgement → List ℕ
network_counts lines events judgement = each_from (λ n line. count_by_read line.read (is_none (line_lacks n judgement)) events) 0 lines

-- ---- lines of text
-- these are the lines of text of some rows
abbrev pub AreTexts : List Row → Texts → Type 0
AreTexts rows texts = (text : List ℕ) → list_any (λ key. same_line text key.items) texts.lines.keys ≡ list_any (λ row. same_line text (row_line row)) rows

-- what is told of a line by its number and its scope, and the lines of text of what the network itself gives, which are those of these rows
abbrev pub FoldsBy : List Row → Folding → Type 0
FoldsBy nows folding = AreTexts nows folding.nows

-- so of a line with this scope of which this was found. Its rows stand there, and those of these texts aren't put again
pub record IsFoldingOf (at : At) (scope : Scope) (found : List Found) (told : Texts) (folding : Folding) : Type 0 where
  pub step : folding.step ≡ at.step
  pub number : folding.number ≡ at.number
  pub scope_is : folding.scope.now ≡ scope
  pub told_is : folding.told.now ≡ told
  pub folds : FoldsBy (rows_now at.number found) folding

-- ---- what was judged
-- this line stands at this place
pub record StandsAt (lines : List PolicyLine) (n : ℕ) (line : PolicyLine) : Type 0 where
  pub below : n < length lines
  pub is : get_or lines n line ≡ line

-- what is kept of a line is what the network tells of it
pub record IsKeptOf (net : Net) (o : Outcome) (prior : Prior) (events : List Event) (n : ℕ) (line : PolicyLine) (judgement : Judgement) : Type 0 where
  pub lacks : line_lacks n judgement ≡ lacked net events line.read
  pub found : AreFound net o prior events line (line_found n judgement.found.items)

-- nothing is kept of one
pub record NoneIsKeptOf (n : ℕ) (judgement : Judgement) : Type 0 where
  pub lacks : line_lacks n judgement ≡ None
  pub found : line_found n judgement.found.items ≡ []

-- all of the lines were judged in a network, each that is judged there
abbrev pub AreLinesJudged : Net → Outcome → Prior → Bool → List PolicyLine → Judgement → Type 0
AreLinesJudged net o prior is_last lines judgement =
    (n : ℕ) (line : PolicyLine) → StandsAt lines n line → MatchBool (is_judged_at is_last line) (IsKeptOf net o prior (events net lines) n line judgement) (NoneIsKeptOf n judgement)

-- ---- rows that were put
-- a printer grew by these rows
abbrev pub Puts : {R : Type 0} → (R → R → List Row → Type 0) → R → R → List Row → Type 0
Puts grew old new rows = (first : _) (before : List Row) → grew first old before → grew first new (before ++ rows)

abbrev pub counts_of : Verdict → Counts
counts_of v = record { refused = v.refused; judged = v.judged; failing = v.failing }

-- some line is refused, or isn't kept
abbrev pub tells_some : Counts → Bool
tells_some counts = nat_lt 0 counts.refused || nat_lt 0 counts.failing

-- The rows of a policy in front of the steps of a change and behind each.
use Rattle.std.specs.Prelude.{◌&&◌, ◌==◌, not, Bool, true, false, ℕ, List, [], ◌∷◌, ◌++◌, Result, count_by, is_some, filter, map, nat_lt, if◌then◌else◌}
use Rattle.std.specs.List.{flat_map, list_all, list_any}
use Rattle.std.specs.Option.{option_map_or}
use Rattle.mst_rows.specs.Rows.{Row}
use Rattle.mst_graph.specs.Lists.{has_any}
use Rattle.mst_lang.specs.declared.line.Fault.{Fault}
use Rattle.mst_policy.specs.Lines.{promise_in, risk_in}
use Rattle.mst_policy.specs.declared.policy.PolicyLine.{PolicyLine}
use Rattle.mst_policy.specs.declared.risk.Said.{Said}
use Rattle.mst_telling.specs.Rows.{behind, is_refusal, mends_row, nothing_row, start_row}
use Rattle.mst_telling.specs.Texts.{news}
use Rattle.mst_telling.specs.Told.{unread_rows}

-- ---- in front of all
-- that a policy has no line but those of risks, and then the rows of those that can't be read
abbrev pub nothing_rows : List PolicyLine → List Row
nothing_rows lines = if list_all (λ line. is_some (risk_in line.read)) lines then nothing_row ∷ [] else []

abbrev pub front_rows : List PolicyLine → List Row
front_rows lines = map (behind 0) (nothing_rows lines ++ flat_map unread_rows lines)

-- ---- two networks
-- a line, and its rows in the network before and in this one
pub record Change : Type 0 where
  pub line : PolicyLine
  pub before : List Row
  pub now : List Row

-- of each line, by its rows there
abbrev pub changes : List PolicyLine → List (List Row) → List (List Row) → List Change
changes [] befores nows = []
changes (line ∷ lines) [] nows = []
changes (line ∷ lines) (before ∷ befores) [] = []
changes (line ∷ lines) (before ∷ befores) (now ∷ nows) = record { line = line; before = before; now = now } ∷ changes lines befores nows

-- those of its rows that are new: that it is refused, or why it isn't kept
abbrev pub new_refused : Change → List Row
new_refused c = filter is_refusal (news c.before c.now)

abbrev pub new_fails : Change → List Row
new_fails c = filter (λ row. not (is_refusal row)) (news c.before c.now)

-- a line that was unkept, and isn't now
abbrev pub mends : ℕ → Change → List Row
mends step c = if has_any c.before && not (has_any c.now) then mends_row step c.line.number ∷ [] else []

-- and one that is unkept, and wasn't
abbrev pub is_broken : Change → Bool
is_broken c = not (has_any c.before) && has_any c.now

-- ---- behind a step
-- what is new of the lines, each by number: those that are refused, why others aren't kept, and those that are kept again
abbrev pub judged_rows : ℕ → List Change → List Row
judged_rows step all = map (behind step) (flat_map new_refused all ++ flat_map new_fails all) ++ flat_map (mends step) all

-- a line with `finally` is a promise of the end alone
abbrev pub is_final : Result Said Fault → Bool
is_final read = option_map_or (λ promise. promise.is_final) (promise_in read) false

-- a step breaks a promise: some line is unkept that wasn't so before, and it isn't one of the end alone, of which nobody knows the step that broke it
abbrev pub is_broken_by_step : Change → Bool
is_broken_by_step c = not (is_final c.line.read) && is_broken c

abbrev pub breaks : List Change → Bool
breaks all = list_any is_broken_by_step all

-- how many lines are unkept in a network
abbrev pub unkept_count : List (List Row) → ℕ
unkept_count told = count_by has_any told

-- ---- in front of the first step
-- no rows of any line
abbrev pub no_rows : List PolicyLine → List (List Row)
no_rows lines = map (λ line. []) lines

-- where lines are unkept how many, and why
abbrev pub start_rows : List PolicyLine → List (List Row) → List Row
start_rows lines told = if unkept_count told == 0 then [] else start_row (unkept_count told) ∷ judged_rows 0 (changes lines (no_rows lines) told)

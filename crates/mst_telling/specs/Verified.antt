-- The rows of a whole policy of a network: its refused lines, why each other one isn't kept, and how many are.
use Rattle.std.specs.Prelude.{◌≡◌, ◌↔◌, ◌&&◌, ◌||◌, ◌==◌, not, Bool, true, false, ℕ, List, [], ◌∷◌, ◌++◌, Option, None, Some, Result, MatchOption, count_by, length, map, if◌then◌else◌}
use Rattle.std.specs.List.{AllZip, flat_map}
use Rattle.std.specs.Option.{option_map_or}
use Rattle.mst_lang.specs.declared.line.Fault.{Fault}
use Rattle.mst_rows.specs.Cells.{PromiseSaid}
use Rattle.mst_rows.specs.Rows.{Row}
use Rattle.mst_rows.specs.declared.value.PromiseScope.{PromiseScope}
use Rattle.mst_rows.specs.declared.value.PromiseScope.TheVariants as told_scope
use Rattle.mst_graph.specs.Lists.{has_any}
use Rattle.mst_tables.specs.Tables.{Net}
use Rattle.mst_roles.specs.forest.Outcome.{Outcome}
use Rattle.mst_policy.specs.Lines.{promise_in}
use Rattle.mst_policy.specs.declared.expectation.Promise.{Promise}
use Rattle.mst_policy.specs.declared.expectation.Scope.{Scope}
use Rattle.mst_policy.specs.declared.expectation.Scope.TheVariants as scope
use Rattle.mst_policy.specs.declared.policy.PolicyLine.{PolicyLine}
use Rattle.mst_policy.specs.declared.risk.Said.{Said}
use Rattle.mst_reasons.specs.Judged.{IsKept, asks_at, has_now, places}
use Rattle.mst_reasons.specs.Named.{nothing_before}
use Rattle.mst_reasons.specs.Risks.{events}
use Rattle.mst_reasons.specs.sweep.Failures.{Event}
use Rattle.mst_telling.specs.Once.{once_rows, rows_now}
use Rattle.mst_telling.specs.Rows.{nothing_row, verified_row}
use Rattle.mst_telling.specs.Told.{AreFound, Found, found_rows, has_reason, is_now, judged, lacking_rows, tells_once, unread_rows}

-- ---- a line
-- why a promise isn't kept, by all that was found of it: what is told once stands in front
abbrev pub verdict_rows : ℕ → Promise → List Found → List Row
verdict_rows n promise found = if tells_once promise.scope then once_rows n promise.scope (rows_now n found) found else found_rows n found

-- it isn't kept in a place: it has a reason there, and the place isn't the network itself where that is only looked at
abbrev pub is_broken_by : Scope → Found → Bool
is_broken_by scope f = has_reason f && ((not (tells_once scope) || has_now scope) || not (is_now f.place))

abbrev pub rows_of_read : ℕ → Result Said Fault → List Found → List Row
rows_of_read n read found = option_map_or (λ promise. verdict_rows n promise found) (promise_in read) []

-- these rows tell why a line isn't kept
pub record IsVerdict (net : Net) (o : Outcome) (events : List Event) (line : PolicyLine) (rows : List Row) : Type 0 where
  pub found : List Found
  pub are_found : AreFound net o nothing_before events line found
  pub are : rows ≡ rows_of_read line.number line.read found

-- a line that is judged has no rows just where its promise is kept. One that isn't has none
abbrev pub IsToldWhereBroken : Net → Outcome → List Event → PolicyLine → List Row → Type 0
IsToldWhereBroken net o events line rows = MatchOption (judged net events line) (rows ≡ []) (λ promise. (rows ≡ []) ↔ IsKept net o nothing_before events promise)

-- ---- the promises
-- in how many networks a line is judged: in none, where it is refused, or is of a risk
abbrev pub network_count : Net → List Event → PolicyLine → ℕ
network_count net events line = option_map_or (λ promise. count_by (asks_at false promise) (places events)) (judged net events line) 0

-- how many lines are judged in some
abbrev pub judged_count : List ℕ → ℕ
judged_count counts = count_by (λ networks. not (networks == 0)) counts

abbrev pub judged_in : Net → List PolicyLine → ℕ
judged_in net lines = judged_count (map (network_count net (events net lines)) lines)

-- of a line that is judged in some network, whether it holds
abbrev pub holds_of : ℕ → Bool → Option Bool
holds_of networks is_unkept = if networks == 0 then None else Some (not is_unkept)

abbrev pub scope_told : Scope → PromiseScope
scope_told scope.Now = told_scope.Now
scope_told (scope.AfterLan names) = told_scope.AfterLan
scope_told (scope.AfterBridge names) = told_scope.AfterBridge
scope_told (scope.AfterRisk names) = told_scope.AfterRisk
scope_told scope.Always = told_scope.Always

-- what is told of the promise of a line: its words, in how many networks it is judged, and whether it holds
abbrev pub told_promise : PolicyLine → ℕ → Bool → Promise → PromiseSaid
told_promise line networks is_unkept promise =
    record { line = line.number; promise = line.words; scope = scope_told promise.scope; is_final = promise.is_final; networks = networks; holds = holds_of networks is_unkept }

abbrev pub promise_of : PolicyLine → ℕ → Bool → List PromiseSaid
promise_of line networks is_unkept = option_map_or (λ promise. told_promise line networks is_unkept promise ∷ []) (promise_in line.read) []

-- and of each, by number
abbrev pub promises_of : List PolicyLine → List ℕ → List Bool → List PromiseSaid
promises_of [] counts flags = []
promises_of (line ∷ lines) [] flags = []
promises_of (line ∷ lines) (networks ∷ counts) [] = []
promises_of (line ∷ lines) (networks ∷ counts) (is_unkept ∷ flags) = promise_of line networks is_unkept ++ promises_of lines counts flags

-- those of a network, in which these rows tell why each line isn't kept: a line holds that has none
abbrev pub promises_in : Net → List PolicyLine → List (List Row) → List PromiseSaid
promises_in net lines told = promises_of lines (map (network_count net (events net lines)) lines) (map has_any told)

-- a promise that holds
abbrev pub does_hold : PromiseSaid → Bool
does_hold promise = option_map_or (λ holds. holds) promise.holds false

-- ---- the whole
-- the row of a line that is refused: it can't be read, or the network hasn't what it names, or nothing is judged of it there
abbrev pub refused_rows : Net → List Event → PolicyLine → List Row
refused_rows net events line = unread_rows line ++ lacking_rows net events line

-- that of a policy as a whole, where no line is judged in any network, and none is refused
abbrev pub whole_rows : ℕ → List Row → List Row
whole_rows judged_count refused = if judged_count == 0 && not (has_any refused) then nothing_row ∷ [] else []

-- rows one after another
abbrev pub joined : List (List Row) → List Row
joined = flat_map (λ rows. rows)

-- what is counted of the lines: how many are refused, how many are judged, and how many of these aren't kept
pub record Counts : Type 0 where
  pub refused : ℕ
  pub judged : ℕ
  pub failing : ℕ

-- all rows that tell that something is refused
abbrev pub all_refused : Net → List PolicyLine → List Row
all_refused net lines =
    let refused = flat_map (refused_rows net (events net lines)) lines in refused ++ whole_rows (judged_in net lines) refused

abbrev pub counts_in : Net → List PolicyLine → List (List Row) → Counts
counts_in net lines told = record {
  refused = length (all_refused net lines);
  judged = judged_in net lines;
  failing = count_by has_any told;
}

-- the row behind all others
abbrev pub last_row : ℕ → List PromiseSaid → Row
last_row judged promises = verified_row judged (count_by does_hold promises) promises

-- These are the rows of a policy of a network, and this is counted of it: all refused lines, then the rows of each other one, and the last row
pub record IsVerified (net : Net) (o : Outcome) (lines : List PolicyLine) (counts : Counts) (rows : List Row) : Type 0 where
  pub told : List (List Row)
  pub each : AllZip (IsVerdict net o (events net lines)) lines told
  pub counted : counts ≡ counts_in net lines told
  pub are : rows ≡ all_refused net lines ++ joined told ++ last_row (judged_in net lines) (promises_in net lines told) ∷ []

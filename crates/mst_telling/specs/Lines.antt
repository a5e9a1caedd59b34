-- The rows of a line of a policy in one of several networks.
use Rattle.std.specs.Prelude.{◌≡◌, ◌↔◌, ◌++◌, Bool, ℕ, List, [], Option, Result, MatchBool, MatchOption, if◌then◌else◌}
use Rattle.std.specs.List.{AllZip}
use Rattle.std.specs.Option.{option_map_or}
use Rattle.mst_lang.specs.declared.line.Fault.{Fault}
use Rattle.mst_rows.specs.Rows.{Row}
use Rattle.mst_tables.specs.Tables.{Net}
use Rattle.mst_roles.specs.forest.Outcome.{Outcome}
use Rattle.mst_policy.specs.declared.expectation.Promise.{Promise}
use Rattle.mst_policy.specs.Lines.{promise_in}
use Rattle.mst_policy.specs.declared.policy.PolicyLine.{PolicyLine}
use Rattle.mst_policy.specs.declared.risk.Said.{Said}
use Rattle.mst_reasons.specs.Judged.{IsKept}
use Rattle.mst_reasons.specs.Named.{Prior}
use Rattle.mst_reasons.specs.Risks.{events}
use Rattle.mst_reasons.specs.sweep.Failures.{Event}
use Rattle.mst_telling.specs.Once.{folded_rows, rows_now}
use Rattle.mst_telling.specs.Told.{AreFound, Found, found_rows, is_judged_at, judged, lacking_rows, tells_once}

-- ---- a line
-- why a promise isn't kept, by all that was found of it: what `verify` tells, but not after how many failures something is left out
abbrev pub unkept_rows : ℕ → Promise → List Found → List Row
unkept_rows n promise found = if tells_once promise.scope then folded_rows n promise.scope (rows_now n found) found else found_rows n found

abbrev pub unkept_by : ℕ → Result Said Fault → List Found → List Row
unkept_by n read found = option_map_or (λ promise. unkept_rows n promise found) (promise_in read) []

-- these rows tell that a line is refused, or why it isn't kept
pub record IsLineTold (net : Net) (o : Outcome) (prior : Prior) (events : List Event) (line : PolicyLine) (rows : List Row) : Type 0 where
  pub found : List Found
  pub are_found : AreFound net o prior events line found
  pub are : rows ≡ lacking_rows net events line ++ unkept_by line.number line.read found

-- a line that is judged has no rows just where its promise is kept. One that isn't has no more than the row that refuses it
abbrev pub IsToldWhereUnkept : Net → Outcome → Prior → List Event → PolicyLine → List Row → Type 0
IsToldWhereUnkept net o prior events line rows =
    MatchOption (judged net events line) (rows ≡ lacking_rows net events line) (λ promise. (rows ≡ []) ↔ IsKept net o prior events promise)

-- ---- there
-- these rows are told of a line in one of several networks, which may be the last
abbrev pub IsToldThere : Bool → Net → Outcome → Prior → List Event → PolicyLine → List Row → Type 0
IsToldThere is_last net o prior events line rows = MatchBool (is_judged_at is_last line) (IsLineTold net o prior events line rows) (rows ≡ [])

-- and these of each line, by the events of the network and of the risks that they say
abbrev pub AreLinesTold : Net → Outcome → Prior → Bool → List PolicyLine → List (List Row) → Type 0
AreLinesTold net o prior is_last lines told = AllZip (IsToldThere is_last net o prior (events net lines)) lines told

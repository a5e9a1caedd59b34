-- The rows of a line of a policy in a network.
use Rattle.std.specs.Prelude.{◌≡◌, ◌&&◌, ◌||◌, not, is_none, is_some, Bool, true, false, ℕ, List, [], ◌∷◌, ◌++◌, Option, None, Some, Result, Ok, Err, MatchOption, filter, map, if◌then◌else◌}
use Rattle.std.specs.List.{AllZip, flat_map, list_any}
use Rattle.std.specs.Option.{option_and_then, option_map}
use Rattle.mst_lang.specs.Faults as scripts
use Rattle.mst_lang.specs.declared.line.Fault.{Fault}
use Rattle.mst_rows.specs.Rows.{Row}
use Rattle.mst_graph.specs.Lists.{has_any}
use Rattle.mst_tables.specs.Tables.{Net}
use Rattle.mst_roles.specs.forest.Outcome.{Outcome}
use Rattle.mst_reasons.specs.sweep.declared.event.Cause.{Cause}
use Rattle.mst_reasons.specs.sweep.Failures.{Event}
use Rattle.mst_policy.specs.Faults as policies
use Rattle.mst_policy.specs.declared.expectation.Expectation.{Expectation}
use Rattle.mst_policy.specs.Lines.{promise_in}
use Rattle.mst_policy.specs.declared.expectation.Promise.{Promise}
use Rattle.mst_policy.specs.declared.expectation.Scope.{Scope}
use Rattle.mst_policy.specs.declared.expectation.Scope.TheVariants as scope
use Rattle.mst_policy.specs.declared.item.NameItem.{NameItem}
use Rattle.mst_policy.specs.declared.item.NameItem.TheVariants.{Is, Begins, Any}
use Rattle.mst_policy.specs.declared.policy.PolicyLine.{PolicyLine}
use Rattle.mst_policy.specs.declared.risk.Said.{Said}
use Rattle.mst_policy.specs.declared.risk.Said.TheVariants as says
use Rattle.mst_reasons.specs.Judged.{asks_at, places}
use Rattle.mst_reasons.specs.Missing.{missing}
use Rattle.mst_reasons.specs.Named.{Prior}
use Rattle.mst_reasons.specs.Placed.{AreReasonsAt}
use Rattle.mst_reasons.specs.Risks.{items_lack}
use Rattle.mst_reasons.specs.declared.missing.Missing.{Missing}
use Rattle.mst_reasons.specs.declared.reason.Reason.{Reason}
use Rattle.mst_telling.specs.Rows.{missing_row, reason_row, refused_row}

-- ---- lines that are refused
-- the row of a line that can't be read
abbrev pub unread_by : ℕ → Result Said Fault → List Row
unread_by n (Err fault) = refused_row n (scripts.code_of fault) (policies.text_of fault) ∷ []
unread_by n (Ok said) = []

abbrev pub unread_rows : PolicyLine → List Row
unread_rows line = unread_by line.number line.read

-- that of one of which the network hasn't what it names, or of which nothing is judged there
abbrev pub missing_rows : ℕ → Option Missing → List Row
missing_rows n None = []
missing_rows n (Some what) = missing_row n what ∷ []

-- what a line that can be read lacks in a network with these events: one of a risk what its items name, a promise what it does
abbrev pub lacked_by : Net → List Event → Said → Option Missing
lacked_by net events (says.Risk line) = items_lack net line.items
lacked_by net events (says.Promise promise) = missing net events promise

abbrev pub lacked : Net → List Event → Result Said Fault → Option Missing
lacked net events (Err fault) = None
lacked net events (Ok said) = lacked_by net events said

abbrev pub lacking_rows : Net → List Event → PolicyLine → List Row
lacking_rows net events line = missing_rows line.number (lacked net events line.read)

-- ---- lines that are judged
-- a promise of which the network lacks nothing
abbrev pub lacks_nothing : Net → List Event → Promise → Bool
lacks_nothing net events promise = is_none (missing net events promise)

-- the promise of a line that isn't refused, if it is one
abbrev pub judged : Net → List Event → PolicyLine → Option Promise
judged net events line = option_and_then (λ promise. if lacks_nothing net events promise then Some promise else None) (promise_in line.read)

-- ---- what is told once
-- an item has a `*`
abbrev pub is_open : NameItem → Bool
is_open (Is name) = false
is_open (Begins front) = true
is_open Any = true

-- what the network itself tells of a line isn't told again of failures: it has `always`, or a scope that has an item with `*`
abbrev pub tells_once : Scope → Bool
tells_once scope.Now = false
tells_once (scope.AfterLan names) = list_any is_open names
tells_once (scope.AfterBridge names) = list_any is_open names
tells_once (scope.AfterRisk names) = list_any is_open names
tells_once scope.Always = true

-- the network itself
abbrev pub is_now : {A : Type 0} → Option A → Bool
is_now None = true
is_now (Some what) = false

-- ---- where a line isn't kept
-- a place is looked at for a line: the line is judged there, or what the network itself gives isn't told again of failures, and that is the place
abbrev pub looks_at : Bool → Promise → Option Event → Bool
looks_at has_prior promise place = tells_once promise.scope && is_now place || asks_at has_prior promise place

-- what a line expects there, if it is looked at
abbrev pub expected_at : Net → List Event → Bool → PolicyLine → Option Event → Option Expectation
expected_at net events has_prior line place = option_and_then (λ promise. if looks_at has_prior promise place then Some promise.expectation else None) (judged net events line)

-- why it doesn't hold there: for no reason, where the place isn't looked at
abbrev pub AreLineReasons : Net → Outcome → Prior → List Event → PolicyLine → Option Event → List Reason → Type 0
AreLineReasons net o prior events line place reasons =
    MatchOption (expected_at net events (is_some prior.before) line place) (reasons ≡ []) (λ expectation. AreReasonsAt net o prior place expectation reasons)

-- a place, by what its event is told by, and why a line isn't kept there
pub record Found : Type 0 where
  pub place : Option Cause
  pub reasons : List Reason

abbrev pub cause_at : Option Event → Option Cause
cause_at place = option_map (λ event. event.cause) place

abbrev pub has_reason : Found → Bool
has_reason f = has_any f.reasons

pub record IsFoundAt (net : Net) (o : Outcome) (prior : Prior) (events : List Event) (line : PolicyLine) (place : Option Event) (f : Found) : Type 0 where
  pub at : f.place ≡ cause_at place
  pub are : AreLineReasons net o prior events line place f.reasons

-- of some places those at which a line isn't kept, in their order, and why
pub record AreFoundIn (net : Net) (o : Outcome) (prior : Prior) (events : List Event) (line : PolicyLine) (some : List (Option Event)) (found : List Found) : Type 0 where
  pub all : List Found
  pub each : AllZip (IsFoundAt net o prior events line) some all
  pub are : found ≡ filter has_reason all

-- and of all places: the network itself, and then that of each event
abbrev pub AreFound : Net → Outcome → Prior → List Event → PolicyLine → List Found → Type 0
AreFound net o prior events line found = AreFoundIn net o prior events line (places events) found

-- the rows of reasons in a place, and of all that was found
abbrev pub reason_rows : ℕ → Option Cause → List Reason → List Row
reason_rows n place reasons = map (reason_row n place) reasons

abbrev pub found_rows : ℕ → List Found → List Row
found_rows n found = flat_map (λ f. reason_rows n f.place f.reasons) found

-- ---- several networks
-- a line is looked at in one of several networks: it can be read, and is no promise of the last of them alone, unless this is the last. One of a risk
-- may be refused in each
abbrev pub says_due : Bool → Said → Bool
says_due is_last (says.Risk line) = true
says_due is_last (says.Promise promise) = is_last || not promise.is_final

abbrev pub is_due : Bool → Result Said Fault → Bool
is_due is_last (Err fault) = false
is_due is_last (Ok said) = says_due is_last said

abbrev pub is_judged_at : Bool → PolicyLine → Bool
is_judged_at is_last line = is_due is_last line.read

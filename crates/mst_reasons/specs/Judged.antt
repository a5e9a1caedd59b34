-- In which networks a promise is judged, and that it is kept.
use Rattle.std.specs.Prelude.{◌≡◌, ℕ, ◌&&◌, ◌||◌, not, Bool, true, false, List, [], ◌∷◌, Option, None, Some, is_some, map}
use Rattle.std.specs.List.{Contains, list_any}
use Rattle.std.specs.Option.{option_map_or}
use Rattle.mst_tables.specs.Tables.{Net}
use Rattle.mst_view.specs.Aggregation.{same_name}
use Rattle.mst_roles.specs.forest.Outcome.{Outcome, IsOutcome}
use Rattle.mst_sweep.specs.Failures.{Event, failed}
use Rattle.mst_sweep.specs.declared.event.Cause.{Cause}
use Rattle.mst_sweep.specs.declared.event.Cause.TheVariants as cause
use Rattle.mst_sweep.specs.declared.failure.Failure.{Failure}
use Rattle.mst_sweep.specs.declared.failure.Failure.TheVariants as failing
use Rattle.mst_policy.specs.Items.{has, lists}
use Rattle.mst_policy.specs.declared.item.NameItem.{NameItem}
use Rattle.mst_policy.specs.declared.expectation.Expectation.{Expectation}
use Rattle.mst_policy.specs.declared.expectation.Expectation.TheVariants as expect
use Rattle.mst_policy.specs.declared.expectation.Scope.{Scope}
use Rattle.mst_policy.specs.declared.expectation.Scope.TheVariants as scope
use Rattle.mst_policy.specs.declared.expectation.Promise.{Promise}
use Rattle.mst_reasons.specs.Named.{Prior, with_before}
use Rattle.mst_reasons.specs.Holds.{Holds}

-- a bridge is one that the expectation names by itself: the B or the C of `root`, the A, B or C of `via`. And a LAN is its LAN
abbrev pub is_its_bridge : Expectation → List ℕ → Bool
is_its_bridge (expect.Root tree b next) bridge = same_name b bridge || option_map_or (λ c. same_name c bridge) next false
is_its_bridge (expect.Via vids a b c) bridge = same_name a bridge || (same_name b bridge || same_name c bridge)
is_its_bridge _ bridge = false

abbrev pub is_its_lan : Expectation → List ℕ → Bool
is_its_lan (expect.Carries own vids) lan = same_name own lan
is_its_lan (expect.Avoids own vids) lan = same_name own lan
is_its_lan _ lan = false

-- a failure is of one of these
abbrev pub fails_its_own : Expectation → Failure → Bool
fails_its_own expectation (failing.Lan lan) = is_its_lan expectation lan
fails_its_own expectation (failing.Bridge bridge) = is_its_bridge expectation bridge

-- an event is the expectation's own: one of its failures is
abbrev pub is_its_own : Expectation → Event → Bool
is_its_own expectation event = list_any (fails_its_own expectation) event.failures

-- a list asks for an event: it has the name, and where the event is the expectation's own, the name itself is an item
abbrev pub asks_for : List NameItem → List ℕ → Bool → Bool
asks_for names name is_own = has names name && (not is_own || lists names name)

-- a scope has the network itself
abbrev pub has_now : Scope → Bool
has_now scope.Now = true
has_now (scope.AfterLan names) = false
has_now (scope.AfterBridge names) = false
has_now (scope.AfterRisk names) = false
has_now scope.Always = true

-- an expectation looks back at the network before
abbrev pub looks_back : Expectation → Bool
looks_back (expect.Together vids names) = true
looks_back _ = false

-- the network itself is judged, where it is said whether a network is before it: of what looks back, only then
abbrev pub asks_now : Bool → Promise → Bool
asks_now has_prior promise = has_now promise.scope && (has_prior || not (looks_back promise.expectation))

-- that of an event is judged, by what that is told by
abbrev pub scope_asks : Scope → Cause → Bool → Bool
scope_asks (scope.AfterLan names) (cause.One (failing.Lan lan)) is_own = asks_for names lan is_own
scope_asks (scope.AfterBridge names) (cause.One (failing.Bridge bridge)) is_own = asks_for names bridge is_own
scope_asks (scope.AfterRisk names) (cause.Risk name) is_own = asks_for names name is_own
scope_asks scope.Always cause is_own = not is_own
scope_asks _ cause is_own = false

abbrev pub asks : Promise → Event → Bool
asks promise event = scope_asks promise.scope event.cause (is_its_own promise.expectation event)

-- where promises can be judged: in the network itself, and in that of each event
abbrev pub places : List Event → List (Option Event)
places events = None ∷ map Some events

-- one is judged there
abbrev pub asks_at : Bool → Promise → Option Event → Bool
asks_at has_prior promise None = asks_now has_prior promise
asks_at has_prior promise (Some event) = asks promise event

-- it is judged somewhere
pub record IsJudgedSomewhere (events : List Event) (has_prior : Bool) (promise : Promise) : Type 0 where
  pub place : Option Event
  pub there : Contains (places events) place
  pub is_asked : asks_at has_prior promise place ≡ true

-- the expectation holds in the network with some failures: before that is the network itself
abbrev pub HoldsAfter : Net → Outcome → Prior → List Failure → Expectation → Type 0
HoldsAfter net o prior failures expectation =
    (p : Outcome) → IsOutcome (failed failures net) p → Holds (failed failures net) p net failures (with_before net o prior) expectation

-- the promise is kept: the expectation holds in each network in which it is judged
pub record IsKept (net : Net) (o : Outcome) (prior : Prior) (events : List Event) (promise : Promise) : Type 0 where
  pub now : asks_now (is_some prior.before) promise ≡ true → Holds net o net [] prior promise.expectation
  pub failed : (event : Event) → Contains events event → asks promise event ≡ true → HoldsAfter net o prior event.failures promise.expectation

-- Whether a network does what a policy promises, and what is kept of its lines while they are judged.
use Rattle.std.specs.Prelude.{◌≡◌, ◌++◌, ◌&&◌, not, is_some, ℕ, Bool, List, [], ◌∷◌, Option, None, Some, MatchOption, filter, map, slice_index_or, if◌then◌else◌, ⊤}
use Rattle.std.specs.Bool.{MatchBool}
use Rattle.std.specs.List.{AllZip}
use Rattle.std.specs.Option.{option_and_then, option_map}
use Rattle.mst_sweeping.specs.sweep.vlan.Carried.{ViewWithTrees}
use Rattle.mst_net.specs.tables.Tables.{Net, Numbers, IsNetwork}
use Rattle.mst_rows.specs.Rows.{Row}
use Rattle.mst_policy.specs.declared.expectation.Expectation.{Expectation}
use Rattle.mst_policy.specs.declared.expectation.Promise.{Promise}
use Rattle.mst_policy.specs.Leaving.{Leaving, sets_of}
use Rattle.mst_policy.specs.Lines.{promise_in}
use Rattle.mst_policy.specs.declared.policy.PolicyLine.{PolicyLine}
use Rattle.mst_policy.specs.declared.risk.Said.TheVariants as says
use Rattle.mst_forest.specs.Outcome.{Outcome, IsOutcome}
use Rattle.mst_forest.specs.Settled.{SettledNet, outcome_of}
use Rattle.mst_sweeping.specs.sweep.vlan.classes.Classes.{AreClasses, AreInSame}
use Rattle.mst_sweeping.specs.sweep.Failures.{Event}
use Rattle.mst_sweeping.specs.sweep.declared.event.Cause.{Cause}
use Rattle.mst_sweeping.specs.sweep.declared.failure.Failure.{Failure}
use Rattle.mst_verify.specs.tree_judges.judged.Islands.{HasIslandsOf, IsOneOf}
use Rattle.mst_verify.specs.tree_judges.judged.reasons.Named.{Prior}
use Rattle.mst_verify.specs.tree_judges.judged.reasons.Over.{HasItsLan}
use Rattle.mst_verify.specs.tree_judges.judged.reasons.Placed.{AreReasonsAt}
use Rattle.mst_verify.specs.tree_judges.judged.reasons.Reasons.{AreReasons}
use Rattle.mst_verify.specs.tree_judges.judged.reasons.Risks.{events}
use Rattle.mst_verify.specs.tree_judges.judged.Seen.{IsBefore}
use Rattle.mst_verify.specs.tree_judges.judged.reasons.declared.missing.Missing.{Missing}
use Rattle.mst_verify.specs.tree_judges.judged.reasons.declared.reason.Reason.{Reason}
use Rattle.mst_telling.specs.Judged.{StandsAt, line_found}
use Rattle.mst_telling.specs.Lines.{AreLinesTold, IsToldWhereUnkept}
use Rattle.mst_telling.specs.Told.{Found, cause_at, expected_at, has_reason, is_judged_at, lacked, looks_at, says_due}
use Rattle.mst_telling.specs.Verified.{Counts, IsToldWhereBroken, IsVerified}
use Rattle.mst_telling.specs.declared.judgement.Finding.{Finding}
use Rattle.mst_verdict.specs.declared.judging.Judging.{Judging}
use Rattle.mst_verdict.specs.declared.judging.Opened.{Opened}
use Rattle.mst_sweeping.specs.plan.declared.plan.Plan.{Plan}

-- these are the rows of a policy of the network, and this is counted of it, by a settled outcome of the network: a line has rows just where
-- its promise isn't kept
pub record Verifies (net : Net) (lines : List PolicyLine) (counts : Counts) (rows : List Row) : Type 0 where
  pub outcome : Outcome
  pub is_outcome : IsOutcome net outcome
  pub told : IsVerified net outcome lines counts rows
  pub broken : AllZip (IsToldWhereBroken net outcome (events net lines)) lines told.told

-- a line that is judged in one of several networks has rows just where its promise isn't kept there, and one that isn't has none
abbrev pub IsToldWhereDue : Bool → Net → Outcome → Prior → List Event → PolicyLine → List Row → Type 0
IsToldWhereDue is_last net o prior events line rows = MatchBool (is_judged_at is_last line) (IsToldWhereUnkept net o prior events line rows) (rows ≡ [])

-- these are the rows of each of its lines in one of several networks, by what is before that one and whether it is the last
pub record Judges (net : Net) (prior : Prior) (is_last : Bool) (lines : List PolicyLine) (told : List (List Row)) : Type 0 where
  pub outcome : Outcome
  pub is_outcome : IsOutcome net outcome
  pub are : AreLinesTold net outcome prior is_last lines told
  pub unkept : AllZip (IsToldWhereDue is_last net outcome prior (events net lines)) lines told

-- what is before a network is one with a settled outcome
abbrev pub IsPriorNetwork : Prior → Type 0
IsPriorNetwork prior = MatchOption prior.before ⊤ (λ before. IsNetwork before.0 × IsOutcome before.0 before.1)

-- the outcome that a plan of these tables has
abbrev pub plan_outcome : Net → Numbers → Plan → Outcome
plan_outcome net numbers p = outcome_of (record { net = net; numbers = numbers; view = p.view; forest = p.forest })

-- the view and the trees are those of a plan
abbrev pub IsCarriage : Plan → ViewWithTrees → Type 0
IsCarriage p c = c ≡ record { view = p.view; forest = p.forest }

-- ---- the network before
-- a network with an outcome is one that has this view and these trees
abbrev pub IsPriorOf : ViewWithTrees → Net × Outcome → Type 0
IsPriorOf c prior = IsOneOf prior.0 prior.1 c

-- there is one before just where there is a view with trees, and it is one of these
abbrev pub IsBeforeOf : Option ViewWithTrees → Option (Net × Outcome) → Type 0
IsBeforeOf None None = ⊤
IsBeforeOf (Some c) (Some before) = IsPriorOf c before
IsBeforeOf _ _ = ⊥

-- and these bridges are meant to leave
abbrev pub IsPrior : Option ViewWithTrees → Leaving → Prior → Type 0
IsPrior c leaving prior = IsBeforeOf c prior.before × (prior.leaving ≡ leaving)

-- ---- lines
-- what a line lacks in one of several networks, if it is judged there
abbrev pub lacks_in : Net → List Event → Bool → PolicyLine → Option Missing
lacks_in net events is_last line = if is_judged_at is_last line then lacked net events line.read else None

-- and each line
abbrev pub AreLacking : Net → Bool → List PolicyLine → List (Option Missing) → Type 0
AreLacking net is_last lines missing = missing ≡ map (lacks_in net (events net lines) is_last) lines

-- a place is looked at for a promise, by what it lacks
abbrev pub is_asked_by : Judging → Option Missing → Promise → Option Event → Bool
is_asked_by j lacks promise place = says_due j.is_last (says.Promise promise) && (not (is_some lacks) && looks_at (is_some j.prior) promise place)

-- what a line expects in a place, if that is looked at for it
abbrev pub asked_by : Judging → Option Missing → Promise → Option Event → Option Expectation
asked_by j lacks promise place = if is_asked_by j lacks promise place then Some promise.expectation else None

abbrev pub expected_by : Judging → PolicyLine → Option Missing → Option Event → Option Expectation
expected_by j line lacks place = option_and_then (λ promise. asked_by j lacks promise place) (promise_in line.read)

-- and by the network: nothing, where the line isn't judged in it
abbrev pub expected_in : Judging → Net → PolicyLine → Option Event → Option Expectation
expected_in j net line place = if is_judged_at j.is_last line then expected_at net (events net j.lines.now) (is_some j.prior) line place else None

-- whatever a line of a network expects in a place, its LAN is in the network there
abbrev pub HaveLans : Judging → Net → Net → Option Event → Type 0
HaveLans j net there place = (line : PolicyLine) (expectation : Expectation) → expected_in j net line place ≡ Some expectation → HasItsLan there expectation

-- what lines are judged by is that of the network whose records have these numbers: what they lack, what carries its VIDs, and what is kept of
-- it for all failures
pub record IsJudging (net : Net) (numbers : Numbers) (j : Judging) : Type 0 where
  pub lacking : AreLacking net j.is_last j.lines.now j.missing.now
  pub carriage : IsCarriage j.plan.now j.carriage.now
  pub classes : AreClasses j.plan.now.view j.before.now.classes
  pub before : IsBefore net j.before.now
  pub islands : HasIslandsOf j.carriage.now numbers j.before.now
  pub same : AreInSame (sets_of j.leaving.now) j.before.now.classes

-- ---- reasons
-- why what is expected doesn't hold in a network: for no reason, where nothing is
abbrev pub AreReasonsIf : Net → Outcome → Net → List Failure → Prior → Option Expectation → List Reason → Type 0
AreReasonsIf net o before lost prior expected reasons = MatchOption expected (reasons ≡ []) (λ expectation. AreReasons net o before lost prior expectation reasons)

-- of each line, by what is expected of it in a network that is judged
abbrev pub AreReasonsThere : Judging → Net → SettledNet → Net → List Failure → Prior → Option Event → List (List Reason) → Type 0
AreReasonsThere j net s before lost prior place reasons =
    AllZip (λ line those. AreReasonsIf s.net (outcome_of s) before lost prior (expected_in j net line place) those) j.lines.now reasons

-- a network that is judged: its outcome, what is before it, whether it is the last of several, and after what promises are judged
pub record Sitting : Type 0 where
  pub net : Net
  pub outcome : Outcome
  pub prior : Prior
  pub is_last : Bool
  pub events : List Event

-- that of a plan
abbrev pub sitting_of : Net → Numbers → Judging → Prior → Sitting
sitting_of net numbers j prior = record { net = net; outcome = plan_outcome net numbers j.plan.now; prior = prior; is_last = j.is_last; events = events net j.lines.now }

-- so for whatever is before, of which that is known by which lines are judged
abbrev pub OfSittings : Net → Numbers → Judging → (Sitting → Type 0) → Type 0
OfSittings net numbers j Says = (prior : Prior) → IsPrior (option_map (λ c. c.now) j.prior) j.leaving.now prior → Says (sitting_of net numbers j prior)

-- what a line expects there in a place
abbrev pub expected_of : Sitting → PolicyLine → Option Event → Option Expectation
expected_of s line place = if is_judged_at s.is_last line then expected_at s.net s.events (is_some s.prior.before) line place else None

-- why it doesn't hold
abbrev pub AreReasonsOf : Sitting → PolicyLine → Option Event → List Reason → Type 0
AreReasonsOf s line place reasons = MatchOption (expected_of s line place) (reasons ≡ []) (λ expectation. AreReasonsAt s.net s.outcome s.prior place expectation reasons)

-- for each line
abbrev pub AreReasonsEach : Sitting → List PolicyLine → Option Event → List (List Reason) → Type 0
AreReasonsEach s lines place reasons = AllZip (λ line those. AreReasonsOf s line place those) lines reasons

-- ---- findings
-- a place, and why a line isn't kept there
pub record IsFoundOf (s : Sitting) (line : PolicyLine) (place : Option Event) (f : Found) : Type 0 where
  pub at : f.place ≡ cause_at place
  pub are : AreReasonsOf s line place f.reasons

-- the reasons of the line at a place of the list, in a place
abbrev pub found_of : Option Cause → List (List Reason) → ℕ → Found
found_of place reasons n = record { place = place; reasons = slice_index_or reasons n [] }

-- behind what was found, this has what is found of each line in one place more
pub record FindsMore (s : Sitting) (line : PolicyLine) (place : Option Event) (old new : List Found) : Type 0 where
  pub found : Found
  pub is : IsFoundOf s line place found
  pub added : new ≡ old ++ filter has_reason (found ∷ [])

abbrev pub FindsAt : Sitting → List PolicyLine → Option Event → List Finding → List Finding → Type 0
FindsAt s lines place old new = (n : ℕ) (line : PolicyLine) → StandsAt lines n line → FindsMore s line place (line_found n old) (line_found n new)

-- of some places those at which a line isn't kept, in their order
pub record AreFoundOf (s : Sitting) (line : PolicyLine) (some : List (Option Event)) (found : List Found) : Type 0 where
  pub all : List Found
  pub each : AllZip (IsFoundOf s line) some all
  pub are : found ≡ filter has_reason all

-- and of each line
abbrev pub FoundIn : Sitting → List PolicyLine → List (Option Event) → List Finding → Type 0
FoundIn s lines some found = (n : ℕ) (line : PolicyLine) → StandsAt lines n line → AreFoundOf s line some (line_found n found)

-- what is known of a policy before a line is judged is that of the network
pub record IsOpened (net : Net) (plan : Plan) (is_last : Bool) (lines : List PolicyLine) (opened : Opened) : Type 0 where
  pub lacking : AreLacking net is_last lines opened.missing.items
  pub classes : AreClasses plan.view opened.before.classes
  pub before : IsBefore net opened.before

-- Why an expectation doesn't hold in a network, or in that with some failures.
use Rattle.std.specs.Prelude.{List, [], Option, None, Some}
use Rattle.mst_tables.specs.Tables.{Net}
use Rattle.mst_roles.specs.forest.Outcome.{Outcome, IsOutcome}
use Rattle.mst_sweep.specs.Failures.{Event, failed}
use Rattle.mst_sweep.specs.declared.failure.Failure.{Failure}
use Rattle.mst_policy.specs.declared.expectation.Expectation.{Expectation}
use Rattle.mst_reasons.specs.Named.{Prior, with_before}
use Rattle.mst_reasons.specs.Reasons.{AreReasons}
use Rattle.mst_reasons.specs.declared.reason.Reason.{Reason}

-- why an expectation doesn't hold in the network with these failures, by its settled outcome: before that is the network itself
pub record AreReasonsAfter (net : Net) (o : Outcome) (prior : Prior) (failures : List Failure) (expectation : Expectation) (reasons : List Reason) : Type 0 where
  pub outcome : Outcome
  pub is_outcome : IsOutcome (failed failures net) outcome
  pub are : AreReasons (failed failures net) outcome net failures (with_before net o prior) expectation reasons

-- why one doesn't hold in either kind of place. What an event is called has no part in that
abbrev pub AreReasonsAt : Net → Outcome → Prior → Option Event → Expectation → List Reason → Type 0
AreReasonsAt net o prior None expectation reasons = AreReasons net o net [] prior expectation reasons
AreReasonsAt net o prior (Some event) expectation reasons = AreReasonsAfter net o prior event.failures expectation reasons

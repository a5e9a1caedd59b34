use Rattle.std.proofs.Common.{subst}
use Rattle.mst_net.specs.tables.Tables.{Net}
use Rattle.mst_changes.specs.Stored.{kept_entries}
use Rattle.mst_plan_text.specs.forest.Settled.{outcome_of}
use Rattle.mst_report.specs.State.{IsMarkNow}
use Rattle.mst_report.proofs.planner.Planner.entries.Goals as goal

pub returns : goal.returns
returns c =
    subst (λ (net : Net). IsMarkNow net (kept_entries c.in_ok-entries.entries)) c.settled-plan.ensures (outcome_of c.settled-plan.result, c.known.ensures.is_outcome, c.in_ok-entries.ensures)

use Rattle.std.proofs.Common.{refl, subst}
use Rattle.std.specs.Prelude.{Ok}
use Rattle.std.proofs.lemmas.Result.{on_ok_weaker}
use Rattle.mst_net.specs.tables.Tables.{Net}
use Rattle.mst_changes.specs.ChangesText.{all_changes}
use Rattle.mst_changes.specs.Kept.{entries_of}
use Rattle.mst_changes.specs.Stored.{kept_entries}
use Rattle.mst_plan_text.specs.forest.Settled.{outcome_of}
use Rattle.mst_report.specs.Answers.{TellsChanges}
use Rattle.mst_report.specs.Planned.{planned_state}
use Rattle.mst_report.proofs.Answering.{was_marked, changes_are}
use Rattle.mst_report.proofs.planner.Planner.changes_from.Goals as goal

pub returns : goal.returns
returns g c first before grew =
    let s = planned_state c.args.self.now in
    let entries = kept_entries c.args.mark.now in
    let was = was_marked s.net s.mark entries c.requires.marked c.requires.rows in
    let plan = c.settled-plan.result in
    let o = outcome_of plan in
    let own = all_changes was.net was.outcome plan.net o in
    on_ok_weaker c.put_changes.result
    (λ grown. (
      own,
      subst (λ (net : Net). TellsChanges s.mark net (Ok own)) c.settled-plan.ensures (changes_are plan.net s.mark entries (entries_of plan.net o) c.requires.marked was (o, c.known.ensures.is_outcome, refl)),
      grown,
    ))
    (c.put_changes.ensures was.net was.outcome was.are_entries first before grew)

use Rattle.std.proofs.lemmas.Result.{on_ok_weaker}
use Rattle.mst_note_text.specs.NotesText.{AreNoteRows}
use Rattle.mst_plan_text.specs.forest.Settled.{outcome_of}
use Rattle.mst_report.proofs.Told.{tells}
use Rattle.mst_report.proofs.planner.Planner.notes.Goals as goal

pub returns : goal.returns
returns g c first before grew =
    let plan = c.settled-plan.result in
    let is = c.known.ensures in
    let said = c.notes.ensures.some_rows plan.net (outcome_of plan) is.of.network is.is_outcome in
    on_ok_weaker c.put_notes.result (λ grown. (said.0, tells c.args.self.now.contents.net plan c.settled-plan.ensures is AreNoteRows said.0 said.1, grown)) (c.put_notes.ensures said.0 said.1 first before grew)

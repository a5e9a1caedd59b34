use Rattle.mst_report.specs.Planned.{planned_state}
use Rattle.mst_engine.proofs.Told.{rows_told, rows_starved}
use Rattle.mst_engine.proofs.engine.told.Goals as goal

pub returns-in-Err : goal.returns-in-Err
returns-in-Err c =
    rows_starved c.args.shape c.args.number (planned_state c.args.planner.now) (planned_state c.text_of.new.planner) c.text_of.ensures.state c.args.asked.now c.requires.0 c.requires.1

pub returns-in-Ok : goal.returns-in-Ok
returns-in-Ok c =
    let told = c.in-Ok.ensures.text in
    rows_told c.args.shape c.args.number (planned_state c.args.planner.now) (planned_state c.text_of.new.planner) c.text_of.ensures.state c.args.asked.now told.0 told.1 c.in-Ok.text.items told.2

use Rattle.std.proofs.Common.{[], None, ap}
use Rattle.mst_net.specs.tables.Contents.{Contents}
use Rattle.mst_tool.proofs.engine_lemmas.print_lemmas.Shown.{grew_none}
use Rattle.mst_tracing.specs.Tracing.{asked_row}
use Rattle.mst_tracing.proofs.WholeTrace.{trace_shown}
use Rattle.mst_tracing.proofs.traces.told_by_plan.Goals as goal

pub returns-clause-answer : goal.returns-clause-answer
returns-clause-answer c =
    let printer = c.in_ok-printer.printer in
    let put = c.in_ok-is_broken.ensures printer [] (grew_none printer) in
    trace_shown c.args.form c.args.planner.now.contents.net c.settle.new.self.contents.net c.args.asked.now c.in_ok-is_broken.is_broken put.0 c.in_ok-text.text.items
    (ap (λ (k : Contents). k.net) c.settle.ensures.same) c.requires.there put.1
    (c.in_ok-text.ensures c.args.form None (asked_row c.args.asked.now) printer put.0 c.in_ok-printer.ensures put.2)

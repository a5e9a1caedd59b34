use Rattle.std.proofs.Common.{Some, []}
use Rattle.mst_print.specs.Shape.{query_row}
use Rattle.mst_print.proofs.Shown.{grew_none}
use Rattle.mst_engine.proofs.engine.print_answer.Goals as goal

pub returns : goal.returns
returns c =
    let first = c.in_ok-printer.printer in
    let told = c.in_ok-put.ensures first [] (grew_none first) in
    (told.0, told.1, c.in_ok-text.ensures c.args.form (Some c.args.number) (query_row c.args.asked.now) first told.0 c.in_ok-printer.ensures told.2)

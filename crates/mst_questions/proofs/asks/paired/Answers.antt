use Rattle.std.proofs.Common.{[], None, ap}
use Rattle.mst_net.specs.tables.Contents.{Contents}
use Rattle.mst_tool.proofs.engine_lemmas.print_lemmas.Shown.{grew_none}
use Rattle.mst_questions.specs.Shown.{pairs_row}
use Rattle.mst_questions.proofs.WholeAsk.{paired_shown}
use Rattle.mst_questions.proofs.asks.paired.Goals as goal

pub returns-clause-answer : goal.returns-clause-answer
returns-clause-answer c =
    let printer = c.in_ok-printer.printer in
    let put = c.in_ok-cuts.ensures printer [] (grew_none printer) in
    paired_shown c.args.form c.args.part c.args.planner.now.contents.net c.settle.new.self.contents.net c.in_ok-cuts.cuts put.0 c.in_ok-text.text.items
    (ap (λ (k : Contents). k.net) c.settle.ensures.same) put.1
    (c.in_ok-text.ensures c.args.form None (pairs_row c.args.part) printer put.0 c.in_ok-printer.ensures put.2)

use Rattle.std.proofs.Common.{[], None, ap, sym, ◌∙◌}
use Rattle.mst_net.specs.tables.Contents.{Contents}
use Rattle.mst_tool.proofs.engine_lemmas.print_lemmas.Shown.{grew_none}
use Rattle.mst_questions.specs.Shown.{explain_row}
use Rattle.mst_questions.proofs.WholeAsk.{explained_shown, unexplained_told}
use Rattle.mst_questions.proofs.asks.explained_by_plan.Goals as goal

pub returns-in-Some-clause-answer : goal.returns-in-Some-clause-answer
returns-in-Some-clause-answer c =
    unexplained_told c.args.form c.args.planner.now.contents.net c.settle.new.self.contents.net c.args.asked.now c.in-Some.why
    (ap (λ (k : Contents). k.net) c.settle.ensures.same) (sym c.unexplained_in.ensures ∙ c.in-Some.is)

pub returns-in_ok-text-in-None-clause-answer : goal.returns-in_ok-text-in-None-clause-answer
returns-in_ok-text-in-None-clause-answer c =
    let printer = c.in_ok-printer-in-None.printer in
    let put = c.in_ok-put_explanation_of-in-None.ensures printer [] (grew_none printer) in
    explained_shown c.args.form c.args.planner.now.contents.net c.settle.new.self.contents.net c.args.asked.now put.0 c.in_ok-text-in-None.text.items
    (ap (λ (k : Contents). k.net) c.settle.ensures.same) (sym c.unexplained_in.ensures ∙ c.in-None.is) put.1
    (c.in_ok-text-in-None.ensures c.args.form None (explain_row c.args.asked.now) printer put.0 c.in_ok-printer-in-None.ensures put.2)

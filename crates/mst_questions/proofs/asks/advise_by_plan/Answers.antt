use Rattle.std.proofs.Common.{[], None, ap, sym, ◌∙◌}
use Rattle.mst_net.specs.tables.Contents.{Contents}
use Rattle.mst_tool.proofs.engine_lemmas.print_lemmas.Shown.{grew_none}
use Rattle.mst_questions.specs.Shown.{advice_row}
use Rattle.mst_questions.proofs.WholeAsk.{advice_shown, unadvised_told}
use Rattle.mst_questions.proofs.asks.advise_by_plan.Goals as goal

pub returns-in-Some : goal.returns-in-Some
returns-in-Some c =
    unadvised_told c.args.form c.args.planner.now.contents.net c.settle.new.self.contents.net c.args.goal.now c.in-Some.why
    (ap (λ (k : Contents). k.net) c.settle.ensures.same) (sym c.unadvised_in.ensures ∙ c.in-Some.is)

pub returns-in_ok-text-in-None : goal.returns-in_ok-text-in-None
returns-in_ok-text-in-None c =
    let printer = c.in_ok-printer-in-None.printer in
    let put = c.in_ok-told-in-None.ensures.told printer [] (grew_none printer) in
    advice_shown c.args.form c.args.planner.now.contents.net c.settle.new.self.contents.net c.args.goal.now c.in_ok-told-in-None.told c.is_nothing.result put.0 c.in_ok-text-in-None.text.items
    (ap (λ (k : Contents). k.net) c.settle.ensures.same) (sym c.unadvised_in.ensures ∙ c.in-None.is) put.1
    (c.in_ok-text-in-None.ensures c.args.form None (advice_row c.args.goal.now) printer put.0 c.in_ok-printer-in-None.ensures put.2) c.is_nothing.ensures

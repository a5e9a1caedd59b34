use Rattle.std.proofs.Common.{◌≡◌, None, ap, refl, sym, ◌∙◌}
use Rattle.mst_net.specs.tables.Contents.{Contents}
use Rattle.mst_questions.specs.Ask.{unadvised_early}
use Rattle.mst_questions.proofs.EarlyRefusals.{unadvised_so, whatever}
use Rattle.mst_questions.proofs.WholeAsk.{unadvised_told}
use Rattle.mst_questions.proofs.asks.advise.Goals as goal

pub returns-in-Some-clause-answer : goal.returns-in-Some-clause-answer
returns-in-Some-clause-answer c =
    let net = c.args.planner.now.contents.net in
    let wanted = c.args.goal.now in
    let early = sym (c.why_unadvised.ensures ∙ ap (λ (k : Contents). unadvised_early k.net wanted) c.network.ensures) ∙ c.in-Some.is in
    unadvised_told c.args.form net net wanted c.in-Some.why refl (unadvised_so net wanted c.in-Some.why early)

pub returns-in-None-clause-memory : goal.returns-in-None-clause-memory
returns-in-None-clause-memory c =
    let net = c.args.planner.now.contents.net in
    let wanted = c.args.goal.now in
    whatever c.advise_by_plan.result (unadvised_early net wanted ≡ None) (sym (c.why_unadvised.ensures ∙ ap (λ (k : Contents). unadvised_early k.net wanted) c.network.ensures) ∙ c.in-None.is)

use Rattle.std.proofs.Common.{◌≡◌, None, ap, refl, sym, ◌∙◌}
use Rattle.mst_net.specs.tables.Contents.{Contents}
use Rattle.mst_questions.specs.Ask.{unexplained_early}
use Rattle.mst_questions.proofs.EarlyRefusals.{unexplained_so, whatever}
use Rattle.mst_questions.proofs.WholeAsk.{unexplained_told}
use Rattle.mst_questions.proofs.asks.explained.Goals as goal

pub returns-in-Some-clause-answer : goal.returns-in-Some-clause-answer
returns-in-Some-clause-answer c =
    let net = c.args.planner.now.contents.net in
    let asked = c.args.asked.now in
    let early = sym (c.why_unexplained.ensures ∙ ap (λ (k : Contents). unexplained_early k.net asked.port asked.tree) c.network.ensures) ∙ c.in-Some.is in
    unexplained_told c.args.form net net asked c.in-Some.why refl (unexplained_so net asked.port asked.tree c.in-Some.why early)

pub returns-in-None-clause-memory : goal.returns-in-None-clause-memory
returns-in-None-clause-memory c =
    let net = c.args.planner.now.contents.net in
    let asked = c.args.asked.now in
    whatever c.explained_by_plan.result (unexplained_early net asked.port asked.tree ≡ None) (sym (c.why_unexplained.ensures ∙ ap (λ (k : Contents). unexplained_early k.net asked.port asked.tree) c.network.ensures) ∙ c.in-None.is)

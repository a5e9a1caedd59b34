use Rattle.std.proofs.Common.{ap, sym, ◌∙◌}
use Rattle.mst_net.specs.tables.Contents.{Contents}
use Rattle.mst_tracing.specs.Ends.{untraced_of}
use Rattle.mst_tracing.proofs.WholeTrace.{untraced_told}
use Rattle.mst_tracing.proofs.traces.told.Goals as goal

pub returns-in-Some-clause-answer : goal.returns-in-Some-clause-answer
returns-in-Some-clause-answer c =
    let net = c.args.planner.now.contents.net in
    let asked = c.args.asked.now in
    untraced_told c.args.form net asked c.in-Some.why (sym (c.why_untraced.ensures ∙ ap (λ (k : Contents). untraced_of k.net asked.trace) c.network.ensures) ∙ c.in-Some.is)

use Rattle.std.proofs.lemmas.Result.{IfOk-weaker}
use Rattle.mst_inputs.proofs.PolicyLines.{are_lines, few_lines}
use Rattle.mst_inputs.proofs.policies.read_policy.Goals as goal

pub returns-clause-ok : goal.returns-clause-ok
returns-clause-ok g c = IfOk-weaker c.read_lines.result _ _ (λ policy taken. are_lines c.new.result (g.S.Source.remaining c.args.source.now) policy c.new.ensures taken) c.read_lines.ensures.ok

pub returns-clause-few : goal.returns-clause-few
returns-clause-few g c = IfOk-weaker c.read_lines.result _ _ (λ policy taken. few_lines c.new.result (g.S.Source.remaining c.args.source.now) policy c.new.ensures taken) c.read_lines.ensures.ok

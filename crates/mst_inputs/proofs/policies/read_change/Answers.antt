use Rattle.std.proofs.Common.{ap}
use Rattle.mst_change.specs.Steps.{ReadSoFar}
use Rattle.mst_drive.proofs.Turned.{turned_lacking}
use Rattle.mst_inputs.proofs.ChangeLines.{are_steps, few_steps}
use Rattle.mst_inputs.proofs.policies.read_change.Goals as goal

pub returns-in-Ok-end-clause-ok : goal.returns-in-Ok-end-clause-ok
returns-in-Ok-end-clause-ok g c = are_steps c.new.result (g.S.Source.remaining c.args.source.now) c.in-Ok.change c.new.ensures c.in-Ok.ensures.ok c.end.new.self.ended (ap (λ (r : ReadSoFar). r.ended) c.in-Ok-end.ensures)

pub returns-in-Ok-end-clause-few : goal.returns-in-Ok-end-clause-few
returns-in-Ok-end-clause-few g c = few_steps c.new.result (g.S.Source.remaining c.args.source.now) c.in-Ok.change c.new.ensures c.in-Ok.ensures.ok c.end.new.self.ended (ap (λ (r : ReadSoFar). r.ended) c.in-Ok-end.ensures)

pub returns-in-Err-end-clause-turned : goal.returns-in-Err-end-clause-turned
returns-in-Err-end-clause-turned g c = turned_lacking c.args.turns _ _ _ c.in-Ok.ensures.turned

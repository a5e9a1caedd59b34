use Rattle.std.proofs.Common.{refl, rules}
use Rattle.mst_drive.specs.Words.{inputs}
use Rattle.mst_altering.specs.Alter.{altering}
use Rattle.mst_tool.proofs.Moved.{ended_moved}
use Rattle.mst_altering.proofs.alters.steps.Goals as goal

pub returns : goal.returns
returns g c =
    let left = inputs (g.S.Read.remaining c.steps_within.new.script.reader.now) (g.C.Read.remaining c.steps_within.new.change.reader.now) (g.P.Read.remaining c.steps_within.new.policy.reader.now) in
    record {
      ended = (left, ended_moved (altering c.args.form c.args.is_judged) _ _ left left _ _ _ _ c.steps_within.result (λ i. inputs (c.new-script_source.ensures.bytes i) (c.new-change_source.ensures.bytes i) (c.new-policy_source.ensures.bytes i)) refl c.new-sink.ensures.bytes (search rules) c.steps_within.ensures.ended);
    }

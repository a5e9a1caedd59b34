use Rattle.std.proofs.Common.{refl, rules}
use Rattle.mst_drive.specs.Words.{two_inputs}
use Rattle.mst_verifying.specs.Verify.{verifying}
use Rattle.mst_verifying.specs.declared.question.PolicyQuestion.TheVariants.{Promises}
use Rattle.mst_tool.proofs.Moved.{ended_moved}
use Rattle.mst_verifying.proofs.verifies.verify.Goals as goal

pub returns : goal.returns
returns g c =
    let left = two_inputs (g.S.Read.remaining c.verify_within.new.script.reader.now) (g.P.Read.remaining c.verify_within.new.policy.reader.now) in
    record {
      ended = (left, ended_moved (verifying c.args.form Promises) _ _ left left _ _ _ _ c.verify_within.result (λ i. two_inputs (c.new-script_source.ensures.bytes i) (c.new-policy_source.ensures.bytes i)) refl c.new-sink.ensures.bytes (search rules) c.verify_within.ensures.ended);
    }

use Rattle.std.proofs.Common.{refl, rules}
use Rattle.mst_drive.specs.Words.{one_input}
use Rattle.mst_tracing.specs.Trace.{tracing}
use Rattle.mst_tool.proofs.Moved.{ended_moved}
use Rattle.mst_tracing.proofs.traces.trace.Goals as goal

pub returns : goal.returns
returns g c =
    let left = g.R.Read.remaining c.trace_within.new.source.reader.now in
    record {
      ended = (left, ended_moved (tracing c.args.form c.args.question.now) _ _ (one_input left) (one_input left) _ _ _ _ c.trace_within.result (λ i. one_input (c.new-source.ensures.bytes i)) refl c.new-sink.ensures.bytes (search rules) c.trace_within.ensures.ended);
    }

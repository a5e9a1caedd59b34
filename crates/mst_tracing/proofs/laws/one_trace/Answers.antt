use Rattle.mst_tracing.proofs.OneTraced.{one_told, trace_there}
use Rattle.mst_tracing.proofs.laws.one_trace.Goals as goal

pub returns : goal.returns
returns c = record {
  some = λ net asked is. trace_there c.has_outcome.ensures c.one_path.ensures.some net asked is;
  one = λ net asked broken other rows others is p q. one_told c.one_outcome.ensures c.one_path.ensures.one net asked is broken other rows others p q;
}

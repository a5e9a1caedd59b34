use Rattle.std.proofs.Common.{ap, map, ◌∙◌}
use Rattle.mst_graph.specs.Lists.{has_any}
use Rattle.mst_sweep.specs.Cuts.{names_of}
use Rattle.mst_sweeping.proofs.fate.fate_but.Goals as goal

pub returns-clause-joins : goal.returns-clause-joins
returns-clause-joins c a b n k is are of so homes others = (
  names_of c.in_ok-joined.joined,
  c.in_ok-joined.ensures b a k n are is so of others homes,
  c.is_any.ensures ∙ ap (λ ps. has_any (map (λ names. names.items) ps)) c.as_slice.ensures.value,
)

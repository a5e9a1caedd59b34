use Rattle.std.proofs.Common.{IsTrue}
use Rattle.mst_graph.proofs.Climb.{joined}
use Rattle.mst_graph.proofs.Cut.{no_loop}
use Rattle.mst_graph.proofs.Walks.{replaced}
use Rattle.mst_graph.proofs.laws.trees_in_parts.Goals as goal

pub returns : goal.returns
returns t c = record {
  no_loop = λ g active s ok. no_loop g (λ e. IsTrue (active e)) s ok;
  joined = λ g enabled active s is_root is_top ok tops. joined g (λ e. IsTrue (enabled e)) (λ e. IsTrue (active e)) s (λ x. IsTrue (is_root x)) (λ x. IsTrue (is_top x)) ok tops;
  sets = λ g enabled active x y joined w. replaced g joined w;
}

use Rattle.mst_graph.proofs.ByBody.{bodies_by_signature}
use Rattle.mst_graph.proofs.laws.signatures.Goals as goal

pub returns : goal.returns
returns g c = λ same alike signature body things numbers firsts bodies equal are has. bodies_by_signature same alike signature body things numbers firsts bodies equal are has

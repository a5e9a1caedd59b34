use Rattle.mst_nested.proofs.Inside.{inside_joined, inside_no_loop}
use Rattle.mst_nested.proofs.laws.inside.Goals as goal

pub returns-clause-joined : goal.returns-clause-joined
returns-clause-joined g c = λ f tests ok free i n y has walk. inside_joined f tests ok free i n y has walk

pub returns-clause-no_loop : goal.returns-clause-no_loop
returns-clause-no_loop g c = λ f tests ok free i. inside_no_loop f tests ok free i

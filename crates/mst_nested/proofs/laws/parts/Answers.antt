use Rattle.mst_nested.specs.Ports.{port_ends}
use Rattle.mst_graph.proofs.Walks.{joined_to, back}
use Rattle.mst_nested.proofs.Facts.{lan_in_part, one_region, by_regional, one_roots}
use Rattle.mst_nested.proofs.laws.parts.Goals as goal

pub returns-clause-one : goal.returns-clause-one
returns-clause-one g c = λ f x y z v w. joined_to port_ends (back port_ends v) w

pub returns-clause-lans : goal.returns-clause-lans
returns-clause-lans g c = λ f tests ok p on. lan_in_part f tests ok p on

pub returns-clause-regions : goal.returns-clause-regions
returns-clause-regions g c = λ f tests ok n k b has walk. one_region f tests ok n k b has walk

pub returns-clause-values : goal.returns-clause-values
returns-clause-values g c = λ f tests ok free n k x y e h walk. one_roots f tests ok free n k x y e h walk

pub returns-clause-by_root : goal.returns-clause-by_root
returns-clause-by_root g c = λ f tests ok n k x y e h r. by_regional f tests ok n k x y e h r

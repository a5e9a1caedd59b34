-- What settled vectors depend on: the bridges of a topology, and those of its ports that take part in the tree.
use Rattle.std.specs.Prelude.{◌↔◌, IsTrue}
use Rattle.mst_topology.specs.Topology.{TreePort, Topology, HasBridge, HasPort}

-- two topologies have the same bridges, and the same ports that take part in the tree, in whatever order
pub record SameParts {N L K B P : Type 0} (t u : Topology N L K B P) : Type 0 where
  pub bridges : (n : N) (b : B) → HasBridge t n b ↔ HasBridge u n b
  pub ports : (p : TreePort N L K P) → IsTrue p.is_part → HasPort t p ↔ HasPort u p

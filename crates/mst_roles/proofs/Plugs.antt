-- The enabled ports of a network are the plugs of its CIST.
use Rattle.std.proofs.Common.{ℕ, Bool, List, Some, None, refl, ap}
use Rattle.std.specs.Prelude.{if◌then◌else◌}
use Rattle.mst_ids.specs.declared.name.PortName.{PortName}
use Rattle.mst_vector.specs.Cist.{cist_rules}
use Rattle.mst_vector.specs.declared.cist.CistPort.{CistPort}
use Rattle.mst_forest.specs.topology.Topology.{TreePort}
use Rattle.mst_forest.specs.nested.Trees.{TakesPart}
use Rattle.mst_tables.specs.Tables.{Net, IsNetwork}
use Rattle.mst_tables.specs.ByTree.{by_tree}
use Rattle.mst_view.specs.View.{LogicalPort}
use Rattle.mst_forest.specs.Sight.{tree_port}
use Rattle.mst_forest.specs.Cist.{cist_port, cist_sight, cist_of}
use Rattle.mst_forest.proofs.CistTopology.{cist_is_sight}
use Rattle.mst_forest.proofs.Sights.{port_in}
use Rattle.mst_roles.specs.Active.{IsEnabled}

abbrev pub plug : Net → LogicalPort → TreePort (List ℕ) (List ℕ) PortName CistPort
plug net p = tree_port p (cist_port (by_tree net) p)

pub enabled_plug : (net : Net) → IsNetwork net → (p : LogicalPort) → IsEnabled net p → TakesPart (cist_of net) (plug net p)
enabled_plug net ok p h = (
  port_in net ok cist_rules (cist_sight net) (cist_is_sight net ok) p (cist_port (by_tree net) p) h.0 (ap (λ (t : Bool). if t then Some (cist_port (by_tree net) p) else None) h.1),
  refl,
)

-- Root and designated ports of one settled tree, within a region.
use Rattle.std.proofs.Common.{◌≡◌, sym, ◌∙◌, ap, ℕ, ◌<◌, Option, Some, None, IsTrue, arith}
use Rattle.mst_topology.specs.Topology.{TreePort}
use Rattle.mst_graph.specs.Walks.{Node, bridge_at, lan_at}
use Rattle.mst_nested.proofs.Settled.{SettledTree}
use Rattle.mst_nested.proofs.Ports.{Placed, Heard, node_vector, lan_vector_is, some_is}
use Rattle.mst_nested.proofs.Origins.{Took, on_same_lan, took_along, names_port, near_step}
use Rattle.mst_nested.specs.Roles.{IsRootPort, IsDesignatedPort}

module _ {N L K B P V : Type 0} (tree : SettledTree N L K B P V) where
  open tree use {rules as m, lawful as law, topology as t, vector as v, is_tree.{topology as ok, settled, port_ids}, tests, within as w, is_within as within}

  -- a bridge has one root port
  pub one_root_port : (p q : TreePort N L K P) → IsRootPort m t v w.receiver p → IsRootPort m t v w.receiver q → p.bridge ≡ q.bridge → p ≡ q
  one_root_port p q r s e =
      let same : r.vector ≡ s.vector = some_is (sym r.is_vector ∙ (ap v e ∙ s.is_vector)) in
      ok.port_ids p q r.part.0 r.part.1 s.part.0 s.part.1 e (sym r.came_by ∙ (ap w.receiver same ∙ s.came_by))

  -- a step comes by a root port
  pub took_root : (n : N) (a : Placed tree n) (k : Took tree n a) → IsRootPort m t v w.receiver k.port
  took_root n a k = record {
    part = k.part;
    vector = a.vector;
    is_vector = ap v k.on_bridge ∙ a.is_vector;
    came_by = names_port tree n a k;
  }

  -- the internal root path cost of a bridge, and of a LAN's designated bridge
  abbrev pub cost_of : Option V → ℕ
  cost_of None = 0
  cost_of (Some x) = w.internal x

  abbrev pub cost_at : Node N L → ℕ
  cost_at x = cost_of (node_vector tree x)

  pub designated_cost : (p : TreePort N L K P) → IsDesignatedPort m t v p → cost_at (lan_at p.lan) ≡ cost_at (bridge_at p.bridge)
  designated_cost p d = ap cost_of (lan_vector_is tree p.lan (record { port = p; message = d.message; designates = d.designates }))

  -- it rises along a root port within a region
  pub root_cost : (p : TreePort N L K P) → IsRootPort m t v w.receiver p → ((a : Placed tree p.bridge) (d : Heard tree p.lan) → IsTrue (w.is_near d.designates.says.bridge a.bridge)) → cost_at (lan_at p.lan) < cost_at (bridge_at p.bridge)
  root_cost p r near = go (took_along tree p r.part at r.came_by)
    where
      at : Placed tree p.bridge
      at = let b = ok.has_bridge p r.part.0 r.part.1 in record { bridge = b.0; has_bridge = b.1; vector = r.vector; is_vector = r.is_vector }

      go : (k : Took tree p.bridge at) × (k.port ≡ p) → cost_at (lan_at p.lan) < cost_at (bridge_at p.bridge)
      go k =
          let d : Heard tree p.lan = on_same_lan (ap (λ (q : TreePort N L K P). q.lan) k.1) k.0.heard in
          let h = near_step tree p.bridge at k.0 (near at d) in
          let c = h.costs in
          let one = h.positive in
          let here : cost_at (bridge_at p.bridge) ≡ w.internal at.vector = ap cost_of at.is_vector in
          let there : cost_at (lan_at p.lan) ≡ w.internal k.0.heard.designates.says.root = ap cost_of (lan_vector_is tree p.lan d ∙ k.0.heard.designates.says.is_root) in
          omega arith

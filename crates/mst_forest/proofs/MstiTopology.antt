-- Each MSTI of a network is a topology, whatever ports are designated in the CIST.
use Rattle.std.proofs.Common.{◌≡◌, ℕ, ◌&&◌, max, List, Option, Some, None, Bool, true, IsTrue, sym, ap, subst, ◌∙◌}
use Rattle.std.specs.Prelude.{if◌then◌else◌}
use Rattle.std.proofs.lemmas.Bool.{and_parts}
use Rattle.mst_ids.specs.declared.name.PortName.{PortName}
use Rattle.mst_vector.specs.Msti.{msti_rules}
use Rattle.mst_vector.specs.declared.msti.MstiBridge.{MstiBridge}
use Rattle.mst_vector.specs.declared.msti.MstiPort.{MstiPort}
use Rattle.mst_topology.specs.Topology.{IsTopology}
use Rattle.mst_net.specs.tables.Tables.{Net, IsNetwork}
use Rattle.mst_net.specs.tables.ByTree.{by_tree}
use Rattle.mst_net.specs.tables.Contents.{priority_of, port_priority_of, port_cost_of}
use Rattle.mst_view.specs.View.{LogicalPort}
use Rattle.mst_forest.specs.Msti.{msti_bridge, msti_port, has_msti, is_internal, msti_sight, msti_of}
use Rattle.mst_forest.proofs.Views.{row_on, same_mac, same_port_number, cost_or_automatic}
use Rattle.mst_forest.proofs.CistTopology.{given, port_id_above}
use Rattle.mst_forest.proofs.Sights.{IsSight, is_topology}

-- the cost of any logical port in a tree is in range
pub msti_in_range : (net : Net) (ok : IsNetwork net) (tree : ℕ) (p : LogicalPort) → IsTrue (msti_rules.in_range (msti_port (by_tree net) tree p))
msti_in_range net ok tree p = cost_or_automatic (port_cost_of net p.name tree) (max 1 p.speed) (λ k f. (ok.port_costs (record { port = p.name; tree = tree }) k f).2)

module _ (net : Net) (ok : IsNetwork net) (tree : ℕ) (designated : List ℕ → Option PortName) where
  -- what a port's part in the tree says of it
  pub record IsMstiPort (p : LogicalPort) (c : MstiPort) : Type 0 where
    pub is_enabled : p.is_enabled ≡ true
    pub internal : is_internal net designated p ≡ true
    pub has_tree : has_msti net tree p.name.bridge ≡ true
    pub is : msti_port (by_tree net) tree p ≡ c

  pub msti_port_is : (p : LogicalPort) (c : MstiPort) → (msti_sight net tree designated).port p ≡ Some c → IsMstiPort p c
  msti_port_is p c e =
      let a = given (p.is_enabled && is_internal net designated p && has_msti net tree p.name.bridge) (msti_port (by_tree net) tree p) c e in
      let parts = and_parts (p.is_enabled && is_internal net designated p) (has_msti net tree p.name.bridge) a.0 in
      let first = and_parts p.is_enabled (is_internal net designated p) parts.0 in
      record { is_enabled = first.0; internal = first.1; has_tree = parts.1; is = a.1 }

  pub msti_is_sight : IsSight net msti_rules (msti_sight net tree designated)
  msti_is_sight = record {
    macs = λ a b c d x y e.
        let p = given (x.row.is_on && has_msti net tree a) (msti_bridge (by_tree net) tree a x.row) c x.seen in
        let q = given (y.row.is_on && has_msti net tree b) (msti_bridge (by_tree net) tree b y.row) d y.seen in
        same_mac tree x.row.mac y.row.mac (priority_of net a tree) (priority_of net b tree) (ok.bridges.mac_fits a x.row x.has_row) (ok.bridges.mac_fits b y.row y.has_row)
        (ap (λ (z : MstiBridge). z.id) p.1 ∙ e ∙ sym (ap (λ (z : MstiBridge). z.id) q.1));
    port_numbers = λ p q c d x y e f g.
        let a = msti_port_is p c e in
        let b = msti_port_is q d f in
        same_port_number p.name.number q.name.number (port_priority_of net p.name tree) (port_priority_of net q.name tree)
        (ok.ports.number_fits p.name x.row x.is_row).1 (ok.ports.number_fits q.name y.row y.is_row).1
        (ap (λ (z : MstiPort). z.id) a.is ∙ g ∙ sym (ap (λ (z : MstiPort). z.id) b.is));
    port_ids = λ p c x e zero.
        port_id_above (port_priority_of net p.name tree) p.name.number (ok.ports.number_fits p.name x.row x.is_row).0 (ap (λ (z : MstiPort). z.id) (msti_port_is p c e).is ∙ zero);
    in_range = λ p c x e. subst (λ z. IsTrue (msti_rules.in_range z)) (msti_port_is p c e).is (msti_in_range net ok tree p);
    own_bridge = λ p c x e.
        let a = msti_port_is p c e in
        let on = row_on net p.name.bridge (x.bridge_on a.is_enabled) in
        let b = msti_bridge (by_tree net) tree p.name.bridge on.row in (
          b,
          record {
            row = on.row;
            has_row = on.is_row;
            seen = ap (λ (t : Bool). if t && has_msti net tree p.name.bridge then Some b else None) on.is_power ∙ ap (λ (t : Bool). if t then Some b else None) a.has_tree;
          },
        );
  }

  pub msti_topology : IsTopology msti_rules (msti_of net tree designated)
  msti_topology = is_topology net ok msti_rules (msti_sight net tree designated) msti_is_sight

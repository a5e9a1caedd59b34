-- What one tree takes of a network is a topology.
use Rattle.std.proofs.Common.{◌≡◌, ◌≢◌, ℕ, List, Option, Some, None, IsTrue, refl, sym, ap, subst, ◌∙◌, Less, inl, inr}
use Rattle.std.specs.List.{Contains}
use Rattle.std.specs.Option.{option_map}
use Rattle.std.specs.FinMap as fin
use Rattle.mst_ids.specs.Names.{port_cmp}
use Rattle.mst_ids.specs.declared.name.PortName.{PortName}
use Rattle.mst_vector.specs.Rules.{Rules}
use Rattle.mst_topology.specs.Topology.{TreePort, IsTopology, HasBridge, HasPort}
use Rattle.mst_net.specs.tables.Tables.{Net, BridgeRow, IsNetwork}
use Rattle.mst_view.specs.View.{LogicalPort, view_ports}
use Rattle.mst_forest.specs.Apart.{Apart}
use Rattle.mst_forest.specs.Sight.{Sight, named_bridge, named_port, tree_port, tree_of}
use Rattle.mst_forest.proofs.Lists.{some_is, no_some, all_contained, apart_kept, apart_cases, kept_in, kept_from}
use Rattle.mst_forest.proofs.Views.{IsPort, ports_are, bridges_are, ports_rise, entry_there, port_names_differ}

-- a value that an option was changed into comes of one
pub changed_from : {A B : Type 0} (f : A → B) (o : Option A) (y : B) → option_map f o ≡ Some y → (x : A) × (o ≡ Some x) × (f x ≡ y)
changed_from f None y e = absurd (no_some y e)
changed_from f (Some x) y e = (x, refl, some_is (f x) y e)

-- the bridge of this name is in the tree, with these settings
pub record BridgeOf {B P : Type 0} (net : Net) (s : Sight B P) (n : List ℕ) (b : B) : Type 0 where
  pub row : BridgeRow
  pub has_row : fin.get net.bridges n ≡ Some row
  pub seen : s.bridge n row ≡ Some b

-- the port of a tree is a logical port
pub record PortOf {B P : Type 0} (net : Net) (s : Sight B P) (q : TreePort (List ℕ) (List ℕ) PortName P) : Type 0 where
  pub port : LogicalPort
  pub there : Contains (view_ports net) port
  pub is_port : IsPort net port
  pub settings : P
  pub seen : s.port port ≡ Some settings
  pub is : tree_port port settings ≡ q

-- identifiers tell MACs and port numbers, costs are in range, and the bridge of a port is in the tree
pub record IsSight {B P V : Type 0} (net : Net) (m : Rules B P V) (s : Sight B P) : Type 0 where
  pub macs : (a b : List ℕ) (c d : B) (x : BridgeOf net s a c) (y : BridgeOf net s b d) → m.bridge_id c ≡ m.bridge_id d → x.row.mac ≡ y.row.mac
  pub port_numbers : (p q : LogicalPort) (c d : P) → IsPort net p → IsPort net q → s.port p ≡ Some c → s.port q ≡ Some d → m.port_id c ≡ m.port_id d → p.name.number ≡ q.name.number
  pub port_ids : (p : LogicalPort) (c : P) → IsPort net p → s.port p ≡ Some c → m.port_id c ≢ 0
  pub in_range : (p : LogicalPort) (c : P) → IsPort net p → s.port p ≡ Some c → IsTrue (m.in_range c)
  pub own_bridge : (p : LogicalPort) (c : P) → IsPort net p → s.port p ≡ Some c → (b : B) × BridgeOf net s p.name.bridge b

module _ {B P V : Type 0} (net : Net) (ok : IsNetwork net) (m : Rules B P V) (s : Sight B P) (sight : IsSight net m s) where
  pub bridge_from : (n : List ℕ) (b : B) → HasBridge (tree_of net s) n b → BridgeOf net s n b
  bridge_from n b h =
      let e = kept_from (named_bridge s) (fin.entries net.bridges) (n, b) h in
      let row = all_contained (λ (e : List ℕ × BridgeRow). fin.get net.bridges e.0 ≡ Some e.1) (fin.entries net.bridges) e.0 (bridges_are net) e.1 in
      let c = changed_from (λ b. (e.0.0, b)) (s.bridge e.0.0 e.0.1) (n, b) e.2 in
      let name : e.0.0 ≡ n = ap (λ (q : List ℕ × B). q.0) c.2 in
      let settings : c.0 ≡ b = ap (λ (q : List ℕ × B). q.1) c.2 in
      record { row = e.0.1; has_row = ap (fin.get net.bridges) (sym name) ∙ row; seen = ap (λ k. s.bridge k e.0.1) (sym name) ∙ c.1 ∙ ap Some settings }

  pub bridge_in : (n : List ℕ) (b : B) → BridgeOf net s n b → HasBridge (tree_of net s) n b
  bridge_in n b x = kept_in (named_bridge s) (fin.entries net.bridges) (n, x.row) (n, b) (entry_there net n x.row x.has_row) (ap (option_map (λ b. (n, b))) x.seen)

  pub port_from : (q : TreePort (List ℕ) (List ℕ) PortName P) → HasPort (tree_of net s) q → PortOf net s q
  port_from q h =
      let e = kept_from (named_port s) (view_ports net) q h in
      let c = changed_from (tree_port e.0) (s.port e.0) q e.2 in
      record { port = e.0; there = e.1; is_port = all_contained (IsPort net) (view_ports net) e.0 (ports_are net) e.1; settings = c.0; seen = c.1; is = c.2 }

  pub port_in : (p : LogicalPort) (settings : P) → Contains (view_ports net) p → s.port p ≡ Some settings → HasPort (tree_of net s) (tree_port p settings)
  port_in p settings there seen = kept_in (named_port s) (view_ports net) p (tree_port p settings) there (ap (option_map (tree_port p)) seen)

  one_bridge : (n : List ℕ) (a b : B) → HasBridge (tree_of net s) n a → HasBridge (tree_of net s) n b → a ≡ b
  one_bridge n a b h j =
      let x = bridge_from n a h in
      let y = bridge_from n b j in
      let rows : x.row ≡ y.row = some_is x.row y.row (sym x.has_row ∙ y.has_row) in
      some_is a b (sym x.seen ∙ ap (s.bridge n) rows ∙ y.seen)

  -- names rise, so no two are the same
  ports_apart : Apart (λ (p q : TreePort (List ℕ) (List ℕ) PortName P). port_cmp p.number q.number ≡ Less) (tree_of net s).ports
  ports_apart =
      apart_kept (λ (p q : LogicalPort). port_cmp p.name q.name ≡ Less) (λ (p q : TreePort (List ℕ) (List ℕ) PortName P). port_cmp p.number q.number ≡ Less) (named_port s)
      (λ x y p q l e f.
      let a = changed_from (tree_port x) (s.port x) p e in
      let b = changed_from (tree_port y) (s.port y) q f in
      (λ i. port_cmp (sym (ap (λ (r : TreePort (List ℕ) (List ℕ) PortName P). r.number) a.2) i) (sym (ap (λ (r : TreePort (List ℕ) (List ℕ) PortName P). r.number) b.2) i)) ∙ l)
      (view_ports net) (ports_rise net)

  one_port : (p q : TreePort (List ℕ) (List ℕ) PortName P) → HasPort (tree_of net s) p → HasPort (tree_of net s) q → p.number ≡ q.number → p ≡ q
  one_port p q h j e =
      elim (apart_cases (λ (p q : TreePort (List ℕ) (List ℕ) PortName P). port_cmp p.number q.number ≡ Less) (tree_of net s).ports p q ports_apart h j) [
        | inl same ↦ same
        | inr apart ↦ absurd (elim apart [ inl l ↦ port_names_differ p.number q.number l e | inr l ↦ port_names_differ q.number p.number l (sym e) ])
      ]

  port_ids : (p q : TreePort (List ℕ) (List ℕ) PortName P) → HasPort (tree_of net s) p → HasPort (tree_of net s) q → p.bridge ≡ q.bridge → m.port_id p.settings ≡ m.port_id q.settings → p ≡ q
  port_ids p q h j e f =
      let x = port_from p h in
      let y = port_from q j in
      let settings_of : TreePort (List ℕ) (List ℕ) PortName P → P = λ r. r.settings in
      let ids : m.port_id x.settings ≡ m.port_id y.settings = ap (λ r. m.port_id (settings_of r)) x.is ∙ f ∙ sym (ap (λ r. m.port_id (settings_of r)) y.is) in
      let at : x.port.name.number ≡ y.port.name.number = sight.port_numbers x.port y.port x.settings y.settings x.is_port y.is_port x.seen y.seen ids in
      let on : x.port.name.bridge ≡ y.port.name.bridge =
      ap (λ (r : TreePort (List ℕ) (List ℕ) PortName P). r.bridge) x.is ∙ e ∙ sym (ap (λ (r : TreePort (List ℕ) (List ℕ) PortName P). r.bridge) y.is) in
      let names : x.port.name ≡ y.port.name = λ i. record { bridge = on i; number = at i } in
      one_port p q h j (sym (ap (λ (r : TreePort (List ℕ) (List ℕ) PortName P). r.number) x.is) ∙ names ∙ ap (λ (r : TreePort (List ℕ) (List ℕ) PortName P). r.number) y.is)

  pub is_topology : IsTopology m (tree_of net s)
  is_topology = record {
    one_bridge = one_bridge;
    one_port = one_port;
    has_bridge = λ p h _.
        let x = port_from p h in
        let b = sight.own_bridge x.port x.settings x.is_port x.seen in
        (b.0, subst (λ n. HasBridge (tree_of net s) n b.0) (ap (λ (r : TreePort (List ℕ) (List ℕ) PortName P). r.bridge) x.is) (bridge_in x.port.name.bridge b.0 b.1));
    in_range = λ p h.
        let x = port_from p h in
        subst (λ (r : TreePort (List ℕ) (List ℕ) PortName P). IsTrue (m.in_range r.settings)) x.is (sight.in_range x.port x.settings x.is_port x.seen);
    bridge_ids = λ n k a b h j e.
        let x = bridge_from n a h in
        let y = bridge_from k b j in
        ok.bridges.macs_differ n k x.row y.row x.has_row y.has_row (sight.macs n k a b x y e);
    port_ids = λ p q h _ j _. port_ids p q h j;
  }

  -- no port has the identifier 0
  pub has_port_ids : (p : TreePort (List ℕ) (List ℕ) PortName P) → HasPort (tree_of net s) p → m.port_id p.settings ≢ 0
  has_port_ids p h =
      let x = port_from p h in
      subst (λ (r : TreePort (List ℕ) (List ℕ) PortName P). m.port_id r.settings ≢ 0) x.is (sight.port_ids x.port x.settings x.is_port x.seen)

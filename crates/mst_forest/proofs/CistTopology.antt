-- The CIST of a network is a topology.
use Rattle.std.proofs.Common.{◌≡◌, ◌≢◌, ℕ, ◌+◌, ◌*◌, ◌≤◌, max, Some, None, Bool, true, false, IsTrue, refl, sym, ap, subst, ◌∙◌, arith}
use Rattle.std.specs.Prelude.{if◌then◌else◌}
use Rattle.std.proofs.lemmas.Bool.{and_from}
use Rattle.mst_ids.specs.Identifiers.{port_id}
use Rattle.mst_vector.specs.Rules.{is_cost}
use Rattle.mst_vector.specs.Cist.{cist_rules}
use Rattle.mst_vector.specs.declared.cist.CistBridge.{CistBridge}
use Rattle.mst_vector.specs.declared.cist.CistPort.{CistPort}
use Rattle.mst_topology.specs.Topology.{IsTopology}
use Rattle.mst_net.specs.tables.Tables.{Net, IsNetwork}
use Rattle.mst_net.specs.tables.declared.settings.PortSettings.{PortSettings}
use Rattle.mst_net.specs.tables.ByTree.{by_tree}
use Rattle.mst_net.specs.tables.Contents.{priority_of, port_priority_of, port_cost_of}
use Rattle.mst_config.specs.Regions.{region_of}
use Rattle.mst_forest.specs.Cist.{cist_bridge, cist_port, cist_sight, cist_of}
use Rattle.mst_forest.proofs.Lists.{some_is, no_some}
use Rattle.mst_forest.proofs.Views.{row_on, same_mac, same_port_number, cost_or_automatic}
use Rattle.mst_forest.proofs.Sights.{IsSight, is_topology}

-- a value that is there by a test: the test passes, and it is this value
pub given : {A : Type 0} (b : Bool) (x y : A) → (if b then Some x else None) ≡ Some y → (b ≡ true) × (x ≡ y)
given true x y e = (refl, some_is x y e)
given false x y e = absurd (no_some y e)

-- a port identifier isn't 0, as port numbers begin with 1
pub port_id_above : (priority number : ℕ) → 1 ≤ number → port_id priority number ≢ 0
port_id_above priority number l e = by priority l e
  where
    by : (x : ℕ) → 1 ≤ number → x * 4096 + number ≡ 0 → ⊥
    by x l e = omega arith

module _ (net : Net) (ok : IsNetwork net) where
  pub cist_is_sight : IsSight net cist_rules (cist_sight net)
  cist_is_sight = record {
    macs = λ a b c d x y e.
        let p = given x.row.is_on (cist_bridge (by_tree net) (region_of net a) a x.row) c x.seen in
        let q = given y.row.is_on (cist_bridge (by_tree net) (region_of net b) b y.row) d y.seen in
        same_mac 0 x.row.mac y.row.mac (priority_of net a 0) (priority_of net b 0) (ok.bridges.mac_fits a x.row x.has_row) (ok.bridges.mac_fits b y.row y.has_row)
        (ap (λ (z : CistBridge). z.id) p.1 ∙ e ∙ sym (ap (λ (z : CistBridge). z.id) q.1));
    port_numbers = λ p q c d x y e f g.
        let a = given p.is_enabled (cist_port (by_tree net) p) c e in
        let b = given q.is_enabled (cist_port (by_tree net) q) d f in
        same_port_number p.name.number q.name.number (port_priority_of net p.name 0) (port_priority_of net q.name 0)
        (ok.ports.number_fits p.name x.row x.is_row).1 (ok.ports.number_fits q.name y.row y.is_row).1
        (ap (λ (z : CistPort). z.id) a.1 ∙ g ∙ sym (ap (λ (z : CistPort). z.id) b.1));
    port_ids = λ p c x e zero.
        let a = given p.is_enabled (cist_port (by_tree net) p) c e in
        port_id_above (port_priority_of net p.name 0) p.name.number (ok.ports.number_fits p.name x.row x.is_row).0 (ap (λ (z : CistPort). z.id) a.1 ∙ zero);
    in_range = λ p c x e.
        let a = given p.is_enabled (cist_port (by_tree net) p) c e in
        subst (λ z. IsTrue (cist_rules.in_range z)) a.1
        (and_from (is_cost (cist_port (by_tree net) p).external) (is_cost (cist_port (by_tree net) p).internal)
        (cost_or_automatic p.settings.external (max 1 p.speed) (λ k f. ok.ports.cost_fits p.name x.row k x.is_row (ap (λ (s : PortSettings). s.external) x.is_settings ∙ f)))
        (cost_or_automatic (port_cost_of net p.name 0) (max 1 p.speed) (λ k f. (ok.port_costs (record { port = p.name; tree = 0 }) k f).2)));
    own_bridge = λ p c x e.
        let a = given p.is_enabled (cist_port (by_tree net) p) c e in
        let on = row_on net p.name.bridge (x.bridge_on a.0) in
        let b = cist_bridge (by_tree net) (region_of net p.name.bridge) p.name.bridge on.row in
        (b, record { row = on.row; has_row = on.is_row; seen = ap (λ (t : Bool). if t then Some b else None) on.is_power });
  }

  pub cist_topology : IsTopology cist_rules (cist_of net)
  cist_topology = is_topology net ok cist_rules (cist_sight net) cist_is_sight

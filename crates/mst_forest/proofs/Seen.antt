-- The bridges and the logical ports of a view, under names and under numbers.
use Rattle.std.proofs.Common.{◌≡◌, ℕ, ◌≤◌, List, length, Some, sym, ap, subst, arith, Less}
use Rattle.std.specs.List.{AllByRecursion, Contains}
use Rattle.std.proofs.lemmas.List.{length-map}
use Rattle.std.specs.FinMap as fin
use Rattle.std.specs.FinMap.{len-entries}
use Rattle.mst_ids.specs.Names.{name_cmp, port_cmp}
use Rattle.mst_net.specs.tables.Tables.{Net, Numbers, BridgeRow, IsNetwork}
use Rattle.mst_net.specs.tables.Seen.{bridge_row}
use Rattle.mst_view.specs.View.{LogicalPort, view_ports}
use Rattle.mst_view.specs.Viewed.{Viewed, IsView, HasNumbers, named_bridge, named_port}
use Rattle.mst_view.specs.declared.in_view.BridgeInView.{BridgeInView}
use Rattle.mst_view.specs.declared.in_view.PortInView.{PortInView}
use Rattle.mst_forest.specs.Apart.{Apart}
use Rattle.mst_forest.proofs.Entries.{all_both}
use Rattle.mst_forest.proofs.Lists.{all_contained, all_unmapped, apart_unmapped, apart_with, contains_mapped, contains_unmapped}
use Rattle.mst_forest.proofs.Views.{IsPort, ports_are, bridges_are, bridges_rise, ports_rise, entry_there}

module _ (net : Net) (numbers : Numbers) where
  -- a bridge has its row and its number
  pub record SeenBridge (b : BridgeInView) : Type 0 where
    pub has_row : fin.get net.bridges b.name ≡ Some (bridge_row b.bridge)
    pub has_number : fin.get numbers.bridges b.name ≡ Some b.bridge.number

  -- a logical port is one of the network, with its numbers
  pub record SeenPort (p : PortInView) : Type 0 where
    pub is_port : IsPort net (named_port p)
    pub has_numbers : HasNumbers numbers p

  -- the names of two rise
  pub record BridgesRise (a b : BridgeInView) : Type 0 where
    pub less : name_cmp a.name b.name ≡ Less
    pub first : SeenBridge a
    pub second : SeenBridge b

  pub record PortsRise (p q : PortInView) : Type 0 where
    pub less : port_cmp p.name q.name ≡ Less
    pub first : SeenPort p
    pub second : SeenPort q

  module _ (v : Viewed) (view : IsView net numbers v) where
    pub bridges_seen : AllByRecursion SeenBridge v.bridges
    bridges_seen =
        all_both _ _ SeenBridge (λ b r n. record { has_row = r; has_number = n }) v.bridges
        (all_unmapped (λ (e : List ℕ × BridgeRow). fin.get net.bridges e.0 ≡ Some e.1) named_bridge v.bridges
        (subst (AllByRecursion (λ (e : List ℕ × BridgeRow). fin.get net.bridges e.0 ≡ Some e.1)) (sym view.bridges) (bridges_are net)))
        view.bridge_numbers

    pub ports_seen : AllByRecursion SeenPort v.ports
    ports_seen =
        all_both _ _ SeenPort (λ p i n. record { is_port = i; has_numbers = n }) v.ports
        (all_unmapped (IsPort net) named_port v.ports (subst (AllByRecursion (IsPort net)) (sym view.ports) (ports_are net)))
        view.port_numbers

    pub bridge_seen : (b : BridgeInView) → Contains v.bridges b → SeenBridge b
    bridge_seen b there = all_contained SeenBridge v.bridges b bridges_seen there

    pub port_seen : (p : PortInView) → Contains v.ports p → SeenPort p
    port_seen p there = all_contained SeenPort v.ports p ports_seen there

    pub bridges_apart : Apart BridgesRise v.bridges
    bridges_apart =
        apart_with (λ (a b : BridgeInView). name_cmp a.name b.name ≡ Less) SeenBridge BridgesRise (λ a b l x y. record { less = l; first = x; second = y }) v.bridges
        (apart_unmapped (λ (e f : List ℕ × BridgeRow). name_cmp e.0 f.0 ≡ Less) named_bridge v.bridges
        (subst (Apart (λ (e f : List ℕ × BridgeRow). name_cmp e.0 f.0 ≡ Less)) (sym view.bridges) (bridges_rise net)))
        bridges_seen

    pub ports_apart : Apart PortsRise v.ports
    ports_apart =
        apart_with (λ (p q : PortInView). port_cmp p.name q.name ≡ Less) SeenPort PortsRise (λ p q l x y. record { less = l; first = x; second = y }) v.ports
        (apart_unmapped (λ (p q : LogicalPort). port_cmp p.name q.name ≡ Less) named_port v.ports
        (subst (Apart (λ (p q : LogicalPort). port_cmp p.name q.name ≡ Less)) (sym view.ports) (ports_rise net)))
        ports_seen

    -- each bridge and each logical port of the network is in the view
    pub bridge_there : (n : List ℕ) (row : BridgeRow) → fin.get net.bridges n ≡ Some row → (b : BridgeInView) × Contains v.bridges b × (named_bridge b ≡ (n, row))
    bridge_there n row has = contains_unmapped named_bridge v.bridges (n, row) (subst (λ es. Contains es (n, row)) (sym view.bridges) (entry_there net n row has))

    pub port_there : (p : LogicalPort) → Contains (view_ports net) p → (q : PortInView) × Contains v.ports q × (named_port q ≡ p)
    port_there p there = contains_unmapped named_port v.ports p (subst (λ ps. Contains ps p) (sym view.ports) there)

    pub port_of_net : (q : PortInView) → Contains v.ports q → Contains (view_ports net) (named_port q)
    port_of_net q there = subst (λ ps. Contains ps (named_port q)) view.ports (contains_mapped named_port v.ports q there)

    -- there are no more bridges than may be
    pub few_bridges : IsNetwork net → length v.bridges ≤ 1024
    few_bridges ok = let few = ok.bridges.few in omega (arith, few, len-entries net.bridges, length-map v.bridges named_bridge, ap length view.bridges)

-- A VID that the same ports carry in two networks, on the same LANs, has the same islands in both.
use Rattle.std.proofs.Common.{◌≡◌, ℕ, Bool, List, filter, map, refl, sym, ap, subst, ◌∙◌}
use Rattle.mst_ids.specs.Vids.{has}
use Rattle.mst_ids.specs.declared.name.PortName.{PortName}
use Rattle.mst_graph.specs.Islands.{AreIslands, Island, Link}
use Rattle.mst_tables.specs.ByTree.{vlans_in}
use Rattle.mst_tables.specs.Seen.{bridge_row}
use Rattle.mst_tables.specs.Tables.{Net, BridgeRow, IsNetwork}
use Rattle.mst_view.specs.View.{LogicalLan, LogicalPort}
use Rattle.mst_view.specs.Viewed.{named_bridge, named_lan, named_port}
use Rattle.mst_view.specs.declared.in_view.BridgeInView.{BridgeInView}
use Rattle.mst_view.specs.declared.in_view.LanInView.{LanInView}
use Rattle.mst_view.specs.declared.in_view.PortInView.{PortInView}
use Rattle.mst_vlan.specs.forest.Outcome.{Outcome}
use Rattle.mst_vlan.specs.forest.Settled.{SettledNet, outcome_of, IsSettledNet}
use Rattle.mst_vlan.proofs.forest_lemmas.Lists.{filter_mapped, mapped_twice}
use Rattle.mst_vlan.proofs.forest_lemmas.Seen.{ports_seen}
use Rattle.mst_vlan.proofs.forest_lemmas.SettledNet.{forest_of}
use Rattle.mst_vlan.proofs.roles_lemmas.Forwarded.{each_forwards}
use Rattle.mst_vlan.proofs.forest_lemmas.Entries.{all_weaker}
use Rattle.mst_vlan.proofs.forest_lemmas.Looking.{filter_alike}
use Rattle.mst_vlan.specs.roles.Roles.{forwards_for}
use Rattle.mst_vlan.specs.roles.SeenRoles.{seen_forwards}
use Rattle.mst_vlan.specs.roles.Active.{active_ports}
use Rattle.mst_vlan.specs.Reach.{AreIslandsOf, bridges_on, is_member, lans_up, link_of, vid_links}
use Rattle.mst_vlan.specs.roles.SeenActive.{seen_active}
use Rattle.mst_vlan.specs.Seen.{seen_member}
use Rattle.mst_vlan.specs.Carried.{CarryAlike, names_of, seen_carried, with_trees}
use Rattle.mst_diff.specs.Reach.{island_bridges, no_sides}
use Rattle.mst_diff.specs.Seen.{seen_names_on, seen_names_up, AreSidesOf, HaveSameEnds}
use Rattle.mst_diff.proofs.Alike.{no_sides as none_between}

-- a port that links its bridge and its LAN
abbrev link_by : PortName × List ℕ → Link (List ℕ) (List ℕ)
link_by e = record { bridge = e.0.bridge; lan = e.1 }

module _ (s : SettledNet) (is : IsSettledNet s) where
  open s use {net, numbers, view as v, forest as f}
  open is use {of}

  on_named : seen_names_on v ≡ bridges_on net
  on_named =
      sym (mapped_twice (λ (e : List ℕ × BridgeRow). e.0) named_bridge (filter (λ (b : BridgeInView). (bridge_row b.bridge).is_on) v.bridges))
      ∙ ap (map (λ (e : List ℕ × BridgeRow). e.0)) (sym (filter_mapped (λ (e : List ℕ × BridgeRow). e.1.is_on) named_bridge v.bridges) ∙ ap (filter (λ (e : List ℕ × BridgeRow). e.1.is_on)) of.view.bridges)

  up_named : seen_names_up v ≡ lans_up net
  up_named =
      sym (mapped_twice (λ (l : LogicalLan). l.name) named_lan (filter (λ (l : LanInView). l.is_up) v.lans))
      ∙ ap (map (λ (l : LogicalLan). l.name)) (sym (filter_mapped (λ (l : LogicalLan). l.is_up) named_lan v.lans) ∙ ap (filter (λ (l : LogicalLan). l.is_up)) of.view.lans)

  active_named : (vid : ℕ) → map named_port (seen_active v f vid) ≡ active_ports net (outcome_of s) vid
  active_named vid =
      ap (map named_port) (filter_alike (seen_forwards v f vid) (λ (p : PortInView). forwards_for net (outcome_of s) vid (named_port p)) v.ports (all_weaker _ _ (each_forwards net numbers v f of (forest_of s is) vid) v.ports (ports_seen net numbers v of.view)))
      ∙ sym (filter_mapped (forwards_for net (outcome_of s) vid) named_port v.ports)
      ∙ ap (filter (forwards_for net (outcome_of s) vid)) of.view.ports

  member_named : (vid : ℕ) (p : PortInView) → seen_member v vid p ≡ is_member net vid (named_port p)
  member_named vid p = λ i. has (vlans_in (of.view.settings i).vlans p.name) vid

  links_named : (vid : ℕ) → map link_by (seen_carried v f vid) ≡ vid_links net (outcome_of s) vid
  links_named vid =
      mapped_twice link_by names_of (filter (seen_member v vid) (seen_active v f vid))
      ∙ (λ i. map (λ (p : PortInView). link_of (named_port p)) (filter (λ p. member_named vid p i) (seen_active v f vid)))
      ∙ sym (mapped_twice link_of named_port (filter (λ (p : PortInView). is_member net vid (named_port p)) (seen_active v f vid)))
      ∙ ap (map link_of) (sym (filter_mapped (is_member net vid) named_port (seen_active v f vid)) ∙ ap (filter (is_member net vid)) (active_named vid))

-- there are islands of each VID
abbrev pub SomeIslands : Type 0
SomeIslands = (net : Net) (o : Outcome) (vid : ℕ) → IsNetwork net → (islands : List (Island (List ℕ) (List ℕ))) × AreIslandsOf net o vid islands

pub none_unlike : (s t : SettledNet) → IsSettledNet s → IsSettledNet t → SomeIslands → HaveSameEnds s.view t.view → (vid : ℕ) → CarryAlike (with_trees s) (with_trees t) vid → AreSidesOf s t vid no_sides
none_unlike s t is are some ends vid alike =
    let own = some s.net (outcome_of s) vid is.of.network in
    let bridges : bridges_on s.net ≡ bridges_on t.net = sym (on_named s is) ∙ ends.bridges ∙ on_named t are in
    let lans : lans_up s.net ≡ lans_up t.net = sym (up_named s is) ∙ ends.lans ∙ up_named t are in
    let links : vid_links s.net (outcome_of s) vid ≡ vid_links t.net (outcome_of t) vid = sym (links_named s is vid) ∙ ap (map link_by) alike ∙ links_named t are vid in
    let other : AreIslandsOf t.net (outcome_of t) vid own.0 =
    subst (λ bs. AreIslands bs (lans_up t.net) (vid_links t.net (outcome_of t) vid) own.0) bridges
    (subst (λ ls. AreIslands (bridges_on s.net) ls (vid_links t.net (outcome_of t) vid) own.0) lans (subst (λ ks. AreIslands (bridges_on s.net) (lans_up s.net) ks own.0) links own.1)) in
    (own.0, own.0, own.1, other, sym (none_between (island_bridges own.0)))

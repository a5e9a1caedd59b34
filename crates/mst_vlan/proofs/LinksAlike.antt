-- VIDs that have one tree at each bridge and the same member ports have the same active ports and the same links; so VIDs of one class do.
use Rattle.std.proofs.Common.{◌≡◌, ℕ, Bool, List, Option, Some, None, map, filter, refl, ap, subst, ◌∙◌}
use Rattle.std.specs.Prelude.{if◌then◌else◌, false}
use Rattle.std.specs.List.{AllByRecursion, Contains}
use Rattle.std.specs.Option.{option_map_or}
use Rattle.std.specs.FinMap as fin
use Rattle.mst_ids.specs.Vids.{has}
use Rattle.mst_graph.proofs.Members.{from_filter}
use Rattle.mst_tables.specs.After.{table_of}
use Rattle.mst_tables.specs.ByTree.{table_in, vlans_in}
use Rattle.mst_tables.specs.Table.{tree_in}
use Rattle.mst_tables.specs.Tables.{Net, Numbers, BridgeRow}
use Rattle.mst_view.specs.View.{LogicalPort, view_ports}
use Rattle.mst_view.specs.Viewed.{Viewed}
use Rattle.mst_view.specs.declared.in_view.BridgeInView.{BridgeInView}
use Rattle.mst_view.specs.declared.in_view.PortInView.{PortInView}
use Rattle.mst_roles.specs.forest.Agrees.{AreOf}
use Rattle.mst_roles.specs.forest.Outcome.{Outcome}
use Rattle.mst_roles.specs.forest.Forest.{Forest}
use Rattle.mst_roles.proofs.forest_lemmas.Entries.{all_weaker}
use Rattle.mst_roles.proofs.forest_lemmas.Lists.{all_contained, all_there}
use Rattle.mst_roles.proofs.forest_lemmas.Looking.{filter_alike}
use Rattle.mst_roles.proofs.forest_lemmas.Seen.{bridge_there, port_there}
use Rattle.mst_roles.specs.Roles.{role_in, forwards, tree_of_vid, forwards_for}
use Rattle.mst_classes.specs.Alike.{AreAlike}
use Rattle.mst_roles.specs.Active.{active_ports}
use Rattle.mst_vlan.specs.Reach.{is_member, link_of, vid_links}

module _ (net : Net) (numbers : Numbers) (v : Viewed) (f : Forest) (of : AreOf net numbers v f.regions) (o : Outcome) (x y : ℕ)
    (tables : AllByRecursion (λ b. tree_in (table_in v.settings.tables b.name) x ≡ tree_in (table_in v.settings.tables b.name) y) v.bridges)
    (vlans : AllByRecursion (λ p. has (vlans_in v.settings.vlans p.name) x ≡ has (vlans_in v.settings.vlans p.name) y) v.ports) where
  -- one tree at each bridge
  table_alike : (b : BridgeInView) → Contains v.bridges b → tree_in (table_of net b.name) x ≡ tree_in (table_of net b.name) y
  table_alike b there =
      subst (λ set. tree_in (table_in set.tables b.name) x ≡ tree_in (table_in set.tables b.name) y) of.view.settings
      (all_contained (λ (b : BridgeInView). tree_in (table_in v.settings.tables b.name) x ≡ tree_in (table_in v.settings.tables b.name) y) v.bridges b tables there)

  tree_alike : (name : List ℕ) → tree_of_vid net name x ≡ tree_of_vid net name y
  tree_alike name = go (fin.get net.bridges name) refl
    where
      go : (q : Option BridgeRow) → fin.get net.bridges name ≡ q
          → option_map_or (λ row. if row.is_rstp then 0 else tree_in (table_of net name) x) q 0 ≡ option_map_or (λ row. if row.is_rstp then 0 else tree_in (table_of net name) y) q 0
      go None e = refl
      go (Some row) e =
          let b = bridge_there net numbers v of.view name row e in
          let own : b.0.name ≡ name = ap (λ (e : List ℕ × BridgeRow). e.0) b.2 in
          ap (λ t. if row.is_rstp then 0 else t) (subst (λ name. tree_in (table_of net name) x ≡ tree_in (table_of net name) y) own (table_alike b.0 b.1))

  -- the same ports are active
  pub active_alike : active_ports net o x ≡ active_ports net o y
  active_alike = λ i. filter (λ (p : LogicalPort). option_map_or forwards (role_in net o (tree_alike p.name.bridge i) p) false) (view_ports net)

  -- the same are members
  member_seen : (q : PortInView) → Contains v.ports q → has (vlans_in net.vlans q.name) x ≡ has (vlans_in net.vlans q.name) y
  member_seen q there =
      subst (λ set. has (vlans_in set.vlans q.name) x ≡ has (vlans_in set.vlans q.name) y) of.view.settings
      (all_contained (λ (p : PortInView). has (vlans_in v.settings.vlans p.name) x ≡ has (vlans_in v.settings.vlans p.name) y) v.ports q vlans there)

  pub member_alike : (p : LogicalPort) → Contains (active_ports net o x) p → is_member net x p ≡ is_member net y p
  member_alike p h =
      let q = port_there net numbers v of.view p (from_filter (forwards_for net o x) (view_ports net) p h).0 in
      subst (λ (p : LogicalPort). is_member net x p ≡ is_member net y p) q.2 (member_seen q.0 q.1)

  -- the same active ports are members
  pub members_alike : filter (is_member net x) (active_ports net o x) ≡ filter (is_member net y) (active_ports net o y)
  members_alike =
      filter_alike (is_member net x) (is_member net y) (active_ports net o x) (all_weaker (Contains (active_ports net o x)) _ member_alike (active_ports net o x) (all_there (active_ports net o x)))
      ∙ ap (filter (is_member net y)) active_alike

  pub links_alike : vid_links net o x ≡ vid_links net o y
  links_alike = ap (map link_of) members_alike

-- ---- VIDs of one class
module _ (net : Net) (numbers : Numbers) (v : Viewed) (f : Forest) (of : AreOf net numbers v f.regions) (o : Outcome) (tables : List (List ℕ)) (sets : List (List Bool))
    (have_table : AllByRecursion (λ b. Contains tables (table_in v.settings.tables b.name)) v.bridges)
    (have_set : AllByRecursion (λ p. Contains sets (vlans_in v.settings.vlans p.name)) v.ports) (x y : ℕ) (a : AreAlike tables sets x y) where
  pub one_tree : AllByRecursion (λ b. tree_in (table_in v.settings.tables b.name) x ≡ tree_in (table_in v.settings.tables b.name) y) v.bridges
  one_tree = all_weaker _ _ (λ b there. all_contained (λ table. tree_in table x ≡ tree_in table y) tables (table_in v.settings.tables b.name) a.same_tree there) v.bridges have_table

  pub same_ports : AllByRecursion (λ p. has (vlans_in v.settings.vlans p.name) x ≡ has (vlans_in v.settings.vlans p.name) y) v.ports
  same_ports = all_weaker _ _ (λ p there. all_contained (λ set. has set x ≡ has set y) sets (vlans_in v.settings.vlans p.name) a.same_sets there) v.ports have_set

  pub members_shared : filter (is_member net x) (active_ports net o x) ≡ filter (is_member net y) (active_ports net o y)
  members_shared = members_alike net numbers v f of o x y one_tree same_ports

  pub links_shared : vid_links net o x ≡ vid_links net o y
  links_shared = ap (map link_of) members_shared

-- What carries a VID, under names; and that of VIDs that nothing tells apart.
use Rattle.std.proofs.Common.{◌≡◌, ℕ, Bool, List, map, sym, ap, ◌∙◌}
use Rattle.std.specs.List.{filter}
use Rattle.mst_ids.specs.Vids.{has}
use Rattle.mst_graph.specs.Islands.{Link as Ends}
use Rattle.mst_graph.proofs.Splits.{map_of_map}
use Rattle.mst_net.specs.tables.ByTree.{vlans_in}
use Rattle.mst_net.specs.tables.Tables.{Net, Numbers}
use Rattle.mst_view.specs.View.{LogicalPort}
use Rattle.mst_view.specs.Viewed.{Viewed, named_port}
use Rattle.mst_roles.specs.Active.{active_ports}
use Rattle.mst_sweep.specs.vlan.Reach.{is_member, vid_links}
use Rattle.mst_roles.specs.SeenActive.{seen_active}
use Rattle.mst_roles.proofs.ActiveListed.{active_listed}
use Rattle.mst_sweep.proofs.vlan_lemmas.LinksAlike.{members_shared, links_shared}
use Rattle.mst_plan.specs.forest.Agrees.{AreOf}
use Rattle.mst_plan.specs.forest.Forest.{Forest, IsForest}
use Rattle.mst_plan.specs.forest.Outcome.{Outcome}
use Rattle.mst_sweep.specs.vlan.classes.Alike.{AreAlike}
use Rattle.mst_plan.proofs.forest_lemmas.Lists.{filter_mapped}
use Rattle.mst_sweeping.specs.declared.links.Link.{Link}
use Rattle.mst_sweeping.specs.Links.{link_of, carried}
use Rattle.mst_sweep.specs.vlan.classes.Classes.{HasOnly}
use Rattle.mst_sweeping.specs.Seen.{seen_link_of, seen_carried}

module _ (net : Net) (numbers : Numbers) (v : Viewed) (f : Forest) (of : AreOf net numbers v f.regions) (is : IsForest net numbers f) (vid : ℕ) where
  pub carried_same : seen_carried v f vid ≡ carried net is.outcome vid
  carried_same =
      sym (ap (λ (ps : List LogicalPort). map link_of (filter (is_member net vid) ps)) (active_listed net numbers v f of is vid)
      ∙ ap (map link_of) (filter_mapped (is_member net vid) named_port (seen_active v f vid))
      ∙ map_of_map link_of named_port (filter (λ p. is_member net vid (named_port p)) (seen_active v f vid))
      ∙ (λ i. map seen_link_of (filter (λ p. has (vlans_in (sym of.view.settings i).vlans p.name) vid) (seen_active v f vid))))

-- the ends of what carries a VID are its links
abbrev pub ends_by : Link → Ends (List ℕ) (List ℕ)
ends_by k = record { bridge = k.port.bridge; lan = k.lan }

pub links_by : (net : Net) (o : Outcome) (vid : ℕ) → vid_links net o vid ≡ map ends_by (carried net o vid)
links_by net o vid = sym (map_of_map ends_by link_of (filter (is_member net vid) (active_ports net o vid)))

-- ---- VIDs that nothing tells apart
module _ (net : Net) (numbers : Numbers) (v : Viewed) (f : Forest) (of : AreOf net numbers v f.regions) (o : Outcome) (tables : List (List ℕ)) (sets : List (List Bool)) (only : HasOnly v tables sets) (x y : ℕ) (alike : AreAlike tables sets x y) where
  pub carried_alike : carried net o x ≡ carried net o y
  carried_alike = ap (map link_of) (members_shared net numbers v f of o tables sets only.tables_there only.sets_there x y alike)

  pub ends_alike : vid_links net o x ≡ vid_links net o y
  ends_alike = links_shared net numbers v f of o tables sets only.tables_there only.sets_there x y alike

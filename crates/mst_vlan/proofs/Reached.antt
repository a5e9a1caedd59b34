-- The islands of a VID under numbers are those under names.
use Rattle.std.proofs.Common.{◌≡◌, ℕ, List, [], map, filter, Some, sym, ap, subst, ◌∙◌}
use Rattle.std.specs.List.{Contains}
use Rattle.std.specs.FinMap as fin
use Rattle.mst_graph.specs.Islands.{Link, Island, AreIslands, HaveEnds}
use Rattle.mst_graph.specs.Renaming.{link_by, island_by}
use Rattle.mst_graph.proofs.Members.{from_map, from_filter}
use Rattle.mst_graph.proofs.Splits.{kept_each, map_of_map}
use Rattle.mst_tables.specs.Tables.{Net, Numbers, IsNetwork}
use Rattle.mst_view.specs.View.{view_ports}
use Rattle.mst_view.specs.Viewed.{Viewed}
use Rattle.mst_roles.specs.forest.Outcome.{Outcome}
use Rattle.mst_roles.specs.forest.Agrees.{AreOf}
use Rattle.mst_roles.specs.forest.Forest.{IsForest, Forest}
use Rattle.mst_roles.specs.Roles.{forwards_for}
use Rattle.mst_roles.specs.Active.{active_ports}
use Rattle.mst_vlan.specs.Reach.{bridges_on, lans_up, is_member, link_of, vid_links, AreReached}
use Rattle.mst_vlan.specs.Seen.{seen_bridges, seen_lans, seen_links, as_island}
use Rattle.mst_vlan.specs.declared.island.Island.{Island as IslandNos}
use Rattle.mst_roles.proofs.ActiveLaw.{active_enabled}
use Rattle.mst_vlan.proofs.EnabledEnds.{enabled_ends}
use Rattle.mst_vlan.proofs.Listed.{bridge_no, lan_no, bridges_are, lans_are, links_are, bridge_has, lan_has, bridges_apart, lans_apart}
use Rattle.mst_vlan.proofs.Renumbered.{all_members, number_back, by_things, bridge_of, lan_of, bridge_listed, lan_listed}

-- both ends of each link of a VID are there
pub links_have : (net : Net) (ok : IsNetwork net) (o : Outcome) (vid : ℕ) → HaveEnds (bridges_on net) (lans_up net) (vid_links net o vid)
links_have net ok o vid =
    all_members (λ (k : Link (List ℕ) (List ℕ)). Contains (bridges_on net) k.bridge × Contains (lans_up net) k.lan) (vid_links net o vid)
    (λ k h.
    let p = from_map link_of (filter (is_member net vid) (active_ports net o vid)) k h in
    let active = from_filter (forwards_for net o vid) (view_ports net) p.0 (from_filter (is_member net vid) (active_ports net o vid) p.0 p.1).0 in
    let ends = enabled_ends net ok p.0 active.0 (active_enabled net o vid p.0 active.1) in
    subst (λ (k : Link (List ℕ) (List ℕ)). Contains (bridges_on net) k.bridge × Contains (lans_up net) k.lan) p.2 ends)

module _ (net : Net) (numbers : Numbers) (v : Viewed) (f : Forest) (of : AreOf net numbers v f.regions) (is : IsForest net numbers f) (vid : ℕ) (joined : List (Island ℕ ℕ))
    (are : AreIslands (seen_bridges v) (seen_lans v) (seen_links v f vid) joined) where
  abbrev bridge_at_no : ℕ → List ℕ
  bridge_at_no = bridge_of (bridge_no numbers) (lan_no numbers) [] [] (bridges_on net) (lans_up net) (bridges_apart net numbers v f of) (lans_apart net numbers v f of) (vid_links net is.outcome vid)
      (links_have net of.network is.outcome vid)

  abbrev lan_at_no : ℕ → List ℕ
  lan_at_no = lan_of (bridge_no numbers) (lan_no numbers) [] [] (bridges_on net) (lans_up net) (bridges_apart net numbers v f of) (lans_apart net numbers v f of) (vid_links net is.outcome vid)
      (links_have net of.network is.outcome vid)

  abbrev named : List (Island (List ℕ) (List ℕ))
  named = map (island_by bridge_at_no lan_at_no) joined

  by_number : AreIslands (map (bridge_no numbers) (bridges_on net)) (map (lan_no numbers) (lans_up net)) (map (link_by (bridge_no numbers) (lan_no numbers)) (vid_links net is.outcome vid)) joined
  by_number =
      subst (λ ks. AreIslands (map (bridge_no numbers) (bridges_on net)) (map (lan_no numbers) (lans_up net)) ks joined) (sym (links_are net numbers v f of is vid))
      (subst (λ ls. AreIslands (map (bridge_no numbers) (bridges_on net)) ls (seen_links v f vid) joined) (sym (lans_are net numbers v f of))
      (subst (λ bs. AreIslands bs (seen_lans v) (seen_links v f vid) joined) (sym (bridges_are net numbers v f of)) are))

  bridge_back : (island : Island ℕ ℕ) → Contains joined island → (n : ℕ) → Contains island.bridges n → Some n ≡ fin.get numbers.bridges (bridge_at_no n)
  bridge_back island h n there =
      let listed = subst (λ ns. Contains ns n) (sym (bridges_are net numbers v f of)) (bridge_listed (seen_bridges v) (seen_lans v) (seen_links v f vid) joined are island h n there) in
      let back = number_back (bridge_no numbers) [] (bridges_on net) (bridges_apart net numbers v f of) n listed in
      sym (bridge_has net numbers v f of (bridge_at_no n) back.0 ∙ ap Some back.1)

  lan_back : (island : Island ℕ ℕ) → Contains joined island → (n : ℕ) → Contains island.lans n → Some n ≡ fin.get numbers.lans (lan_at_no n)
  lan_back island h n there =
      let listed = subst (λ ns. Contains ns n) (sym (lans_are net numbers v f of)) (lan_listed (seen_bridges v) (seen_lans v) (seen_links v f vid) joined are island h n there) in
      let back = number_back (lan_no numbers) [] (lans_up net) (lans_apart net numbers v f of) n listed in
      sym (lan_has net numbers v f of (lan_at_no n) back.0 ∙ ap Some back.1)

  pub reached : (islands : List IslandNos) → map as_island islands ≡ joined → AreReached net numbers is.outcome vid islands
  reached islands same = record {
    named = named;
    are_islands = by_things (bridge_no numbers) (lan_no numbers) [] [] (bridges_on net) (lans_up net) (bridges_apart net numbers v f of) (lans_apart net numbers v f of) (vid_links net is.outcome vid)
        (links_have net of.network is.outcome vid) joined by_number;
    bridges =
        sym (map_of_map (λ (i : Island ℕ ℕ). map Some i.bridges) as_island islands) ∙ ap (map (λ (i : Island ℕ ℕ). map Some i.bridges)) same
        ∙ kept_each (λ (i : Island ℕ ℕ). map Some i.bridges) (λ i. map (fin.get numbers.bridges) (map bridge_at_no i.bridges)) joined
        (λ i h. kept_each Some (λ n. fin.get numbers.bridges (bridge_at_no n)) i.bridges (bridge_back i h) ∙ sym (map_of_map (fin.get numbers.bridges) bridge_at_no i.bridges))
        ∙ sym (map_of_map (λ (i : Island (List ℕ) (List ℕ)). map (fin.get numbers.bridges) i.bridges) (island_by bridge_at_no lan_at_no) joined);
    lans =
        sym (map_of_map (λ (i : Island ℕ ℕ). map Some i.lans) as_island islands) ∙ ap (map (λ (i : Island ℕ ℕ). map Some i.lans)) same
        ∙ kept_each (λ (i : Island ℕ ℕ). map Some i.lans) (λ i. map (fin.get numbers.lans) (map lan_at_no i.lans)) joined
        (λ i h. kept_each Some (λ n. fin.get numbers.lans (lan_at_no n)) i.lans (lan_back i h) ∙ sym (map_of_map (fin.get numbers.lans) lan_at_no i.lans))
        ∙ sym (map_of_map (λ (i : Island (List ℕ) (List ℕ)). map (fin.get numbers.lans) i.lans) (island_by bridge_at_no lan_at_no) joined);
  }

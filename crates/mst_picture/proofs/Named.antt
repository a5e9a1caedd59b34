-- The lines of what is in a view, under names.
use Rattle.std.proofs.Common.{◌≡◌, ℕ, ◌++◌, List, map, sym, ap, codes, ◌∙◌}
use Rattle.std.specs.List.{Contains, filter, flat_map}
use Rattle.std.specs.FinMap as fin
use Rattle.std.proofs.lemmas.List.Folds.{flat_map-map}
use Rattle.mst_view.specs.Aggregation.{same_name}
use Rattle.mst_view.specs.View.{LogicalLan, LogicalPort}
use Rattle.mst_view.specs.Viewed.{Viewed, named_bridge, named_lan, named_port}
use Rattle.mst_view.specs.declared.in_view.PortInView.{PortInView}
use Rattle.mst_roles.specs.forest.Outcome.{Outcome}
use Rattle.mst_roles.specs.forest.Settled.{SettledNet, outcome_of, IsSettledNet}
use Rattle.mst_roles.proofs.forest_lemmas.Lists.{all_contained, all_passing, all_there, filter_mapped, mapped_twice}
use Rattle.mst_summary.specs.Seen.{seen_on}
use Rattle.mst_graph.specs.Islands.{Island}
use Rattle.mst_picture.specs.Bridges.{bridge_text, off_text}
use Rattle.mst_picture.specs.InView.{AreAmong, bridge_of, end_at, lan_of, off_of}
use Rattle.mst_picture.specs.Lans.{end_of, ends_on, lan_text, lans_text}
use Rattle.mst_picture.specs.Picture.{closing, opening, picture}
use Rattle.mst_picture.specs.VlanPicture.{clusters, vlan_picture}
use Rattle.mst_picture.specs.declared.ends.Drawn.{Drawn}
use Rattle.mst_picture.specs.declared.ends.Drawn.TheVariants.{Tree, Vlan}

-- the ports of a logical LAN are among those of the view
pub on_there : (v : Viewed) (lan : List ℕ) → AreAmong v.ports (seen_on v lan)
on_there v lan p k l e =
    all_contained (Contains v.ports) (seen_on v lan) p (all_passing (Contains v.ports) (Contains v.ports) (λ (p : PortInView). same_name p.lan lan) (λ p there _. there) v.ports (all_there v.ports)) (k, l, sym e)

module _ (s : SettledNet) (is : IsSettledNet s) where
  open s use {net, view as v}
  open is use {of}

  abbrev o : Outcome
  o = outcome_of s

  -- ---- bridges
  bridges_named : (tree : ℕ) → flat_map (bridge_of s tree) v.bridges ≡ flat_map (bridge_text net o tree) (fin.entries net.bridges)
  bridges_named tree = sym (flat_map-map (bridge_text net o tree) named_bridge v.bridges) ∙ ap (flat_map (bridge_text net o tree)) of.view.bridges

  off_named : flat_map off_of v.bridges ≡ flat_map off_text (fin.entries net.bridges)
  off_named = sym (flat_map-map off_text named_bridge v.bridges) ∙ ap (flat_map off_text) of.view.bridges

  -- ---- logical LANs
  module _ (drawn : Drawn) where
    pub ends_named : (lan : List ℕ) → map (end_at s drawn) (seen_on v lan) ≡ ends_on net o drawn lan
    ends_named lan =
        sym (mapped_twice (end_of net o drawn) named_port (seen_on v lan))
        ∙ ap (map (end_of net o drawn)) (sym (filter_mapped (λ (p : LogicalPort). same_name p.lan lan) named_port v.ports) ∙ ap (filter (λ (p : LogicalPort). same_name p.lan lan)) of.view.ports)

    lans_named : flat_map (lan_of s drawn) v.lans ≡ lans_text net o drawn
    lans_named =
        sym (flat_map-map (λ (l : LogicalLan). lan_text l.name (ends_on net o drawn l.name)) named_lan v.lans)
        ∙ ap (flat_map (λ (l : LogicalLan). lan_text l.name (ends_on net o drawn l.name))) of.view.lans

  -- ---- pictures
  pub picture_named : (tree : ℕ) → opening (codes "tree ") tree ++ flat_map (bridge_of s tree) v.bridges ++ flat_map (lan_of s (Tree tree)) v.lans ++ closing ≡ picture net o tree
  picture_named tree = λ i. opening (codes "tree ") tree ++ bridges_named tree i ++ lans_named (Tree tree) i ++ closing

  pub vlan_picture_named : (vid : ℕ) (islands : List (Island (List ℕ) (List ℕ)))
      → opening (codes "vlan ") vid ++ clusters net o vid islands ++ flat_map off_of v.bridges ++ flat_map (lan_of s (Vlan vid)) v.lans ++ closing ≡ vlan_picture net o vid islands
  vlan_picture_named vid islands = λ i. opening (codes "vlan ") vid ++ clusters net o vid islands ++ off_named i ++ lans_named (Vlan vid) i ++ closing

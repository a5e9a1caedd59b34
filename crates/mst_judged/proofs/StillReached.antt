-- Where the same ports carry a VID in two networks, on the same LANs, it reaches the same bridges.
use Rattle.std.proofs.Common.{◌≡◌, ◌⊎◌, ℕ, List, map, Some, inl, inr, refl, sym, ap, subst, ◌∙◌}
use Rattle.std.specs.List.{Contains, filter}
use Rattle.std.specs.FinMap as fin
use Rattle.std.proofs.lemmas.List.Elements.{All-contains}
use Rattle.mst_reasons.specs.sweep.vlan.Carried.{names_of, seen_carried}
use Rattle.mst_graph.specs.Islands.{Link, AreJoined, link_ends}
use Rattle.mst_graph.specs.Walks.{Links, Node, Walk, bridge_at, lan_at, stay, along}
use Rattle.mst_graph.proofs.Splits.{map_of_map}
use Rattle.mst_graph.proofs.Walks.{back}
use Rattle.mst_ids.specs.Vids.{has}
use Rattle.mst_ids.specs.declared.name.PortName.{PortName}
use Rattle.mst_view.specs.Viewed.{Viewed, named_port}
use Rattle.mst_view.specs.declared.in_view.PortInView.{PortInView}
use Rattle.mst_tables.specs.ByTree.{vlans_in}
use Rattle.mst_tables.specs.Tables.{IsNetwork, Net, Numbers}
use Rattle.mst_roles.specs.forest.Agrees.{AreOf}
use Rattle.mst_roles.specs.forest.Forest.{Forest, IsForest}
use Rattle.mst_roles.specs.forest.Outcome.{Outcome}
use Rattle.mst_roles.specs.forest.Settled.{SettledNet, IsSettledNet, outcome_of}
use Rattle.mst_roles.proofs.forest_lemmas.Lists.{filter_mapped}
use Rattle.mst_roles.proofs.forest_lemmas.SettledNet.{forest_of}
use Rattle.mst_roles.specs.Active.{active_ports}
use Rattle.mst_reasons.specs.sweep.vlan.Reach.{bridges_on, lans_up, is_member, link_of, vid_links}
use Rattle.mst_roles.specs.SeenActive.{seen_active}
use Rattle.mst_reasons.specs.sweep.vlan.Seen.{seen_member}
use Rattle.mst_roles.proofs.ActiveListed.{active_listed}
use Rattle.mst_reasons.proofs.sweep_lemmas.vlan_lemmas.Reached.{links_have}
use Rattle.mst_reasons.specs.Holds.{IsReached}
use Rattle.mst_judged.specs.Islands.{TellReached}

-- ---- the links of a VID are those of the ports that carry it
-- the link of a port and its LAN
abbrev link_by_names : PortName × List ℕ → Link (List ℕ) (List ℕ)
link_by_names p = record { bridge = p.0.bridge; lan = p.1 }

module _ (net : Net) (numbers : Numbers) (v : Viewed) (f : Forest) (of : AreOf net numbers v f.regions) (is : IsForest net numbers f) (vid : ℕ) where
  members : filter (is_member net vid) (active_ports net is.outcome vid) ≡ map named_port (filter (seen_member v vid) (seen_active v f vid))
  members =
      ap (filter (is_member net vid)) (active_listed net numbers v f of is vid) ∙ filter_mapped (is_member net vid) named_port (seen_active v f vid)
      ∙ (λ i. map named_port (filter (λ (p : PortInView). has (vlans_in (sym of.view.settings i).vlans p.name) vid) (seen_active v f vid)))

  pub links_carried : vid_links net is.outcome vid ≡ map link_by_names (seen_carried v f vid)
  links_carried =
      let own = filter (seen_member v vid) (seen_active v f vid) in
      ap (map link_of) members ∙ map_of_map link_of named_port own ∙ sym (map_of_map link_by_names names_of own)

-- ---- bridges that links join are on
name_same : (x y : List ℕ) → (let n : Node (List ℕ) (List ℕ) = bridge_at x in n) ≡ bridge_at y → x ≡ y
name_same x y e = cc

no_lan : (name lan : List ℕ) → (let n : Node (List ℕ) (List ℕ) = lan_at lan in n) ≡ bridge_at name → ⊥
no_lan name lan e = cc

module _ (a b : Net) (o p : Outcome) (vid : ℕ) (ok : IsNetwork b) (same : vid_links a o vid ≡ vid_links b p vid) where
  -- the node is a bridge that is on
  abbrev IsOn : Node (List ℕ) (List ℕ) → Type 0
  IsOn x = (name : List ℕ) → x ≡ bridge_at name → Contains (bridges_on b) name

  end_on : (e : Link (List ℕ) (List ℕ)) → Contains (vid_links b p vid) e → (x y : Node (List ℕ) (List ℕ)) → Links link_ends e x y → IsOn x
  end_on e h x y (inl l) name is =
      subst (Contains (bridges_on b)) (name_same e.bridge name (l.0 ∙ is))
      (All-contains (λ (k : Link (List ℕ) (List ℕ)). Contains (bridges_on b) k.bridge × Contains (lans_up b) k.lan) (vid_links b p vid) e (links_have b ok p vid) h).0
  end_on e h x y (inr l) name is = absurd (no_lan name e.lan (l.0 ∙ is))

  -- a walk begins at a bridge that is on, or goes nowhere
  begins : {x y : Node (List ℕ) (List ℕ)} → Walk link_ends (Contains (vid_links b p vid)) x y → (x ≡ y) ⊎ IsOn x
  begins stay = inl refl
  begins (along {a = x} {b = y} e h l rest) = inr (end_on e h x y l)

  abbrev at : List ℕ → Node (List ℕ) (List ℕ)
  at name = bridge_at name

  joined_reached : (x y : List ℕ) → AreJoined (vid_links b p vid) (bridge_at x) (bridge_at y) → IsReached b p vid x y
  joined_reached x y walk = go (begins walk) (begins (back link_ends walk))
    where
      go : (at x ≡ at y) ⊎ IsOn (at x) → (at y ≡ at x) ⊎ IsOn (at y) → IsReached b p vid x y
      go (inl e) other = inl (name_same x y e)
      go (inr first) (inl e) = inl (sym (name_same y x e))
      go (inr first) (inr second) = inr (record { first = first x refl; second = second y refl; joined = walk })

  reached_too : (x y : List ℕ) → IsReached a o vid x y → IsReached b p vid x y
  reached_too x y (inl e) = inl e
  reached_too x y (inr t) = joined_reached x y (subst (λ links. AreJoined links (bridge_at x) (bridge_at y)) same t.joined)

-- ---- so places that tell what it reaches in the one network tell it in the other
module _ (s t : SettledNet) (is : IsSettledNet s) (are : IsSettledNet t) (vid : ℕ) (alike : seen_carried s.view s.forest vid ≡ seen_carried t.view t.forest vid) where
  pub links_alike : vid_links s.net (outcome_of s) vid ≡ vid_links t.net (outcome_of t) vid
  links_alike = links_carried s.net s.numbers s.view s.forest is.of (forest_of s is) vid ∙ ap (map link_by_names) alike ∙ sym (links_carried t.net t.numbers t.view t.forest are.of (forest_of t are) vid)

  pub still_tell : s.numbers ≡ t.numbers → (homes : List (ℕ × ℕ)) → TellReached s.net s.numbers (outcome_of s) vid homes → TellReached t.net t.numbers (outcome_of t) vid homes
  still_tell numbers homes tell x y n m x_is y_is =
      let told = tell x y n m (subst (λ (k : Numbers). fin.get k.bridges x ≡ Some n) (sym numbers) x_is) (subst (λ (k : Numbers). fin.get k.bridges y ≡ Some m) (sym numbers) y_is) in (
        λ e. reached_too s.net t.net (outcome_of s) (outcome_of t) vid are.of.network links_alike x y (told.0 e),
        λ r. told.1 (reached_too t.net s.net (outcome_of t) (outcome_of s) vid is.of.network (sym links_alike) x y r),
      )

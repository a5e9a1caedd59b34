-- Where links go that were alone on their LANs, bridges that were joined still are. So no island comes apart.
use Rattle.std.proofs.Common.{◌≡◌, ℕ, ◌==◌, not, true, List, [], ◌∷◌, ◌⊎◌, inl, inr, refl, sym, ap, subst, ◌∙◌, Some}
use Rattle.std.specs.List.{Contains}
use Rattle.std.proofs.lemmas.Bool.{eqb-true, eq-eqb}
use Rattle.mst_graph.specs.Islands.{Island, Link, AreJoined, link_ends}
use Rattle.mst_graph.specs.Walks.{Node, bridge_at, lan_at, stay, along}
use Rattle.mst_graph.proofs.Walks.{joined_to, stays}
use Rattle.mst_net.specs.tables.Tables.{Net}
use Rattle.mst_vlan.specs.forest.Outcome.{Outcome}
use Rattle.mst_vlan.proofs.forest_lemmas.Lists.{kept_from, some_is}
use Rattle.mst_vlan.specs.Reach.{vid_links, AreIslandsOf}
use Rattle.mst_view.specs.View.{bridge_names}
use Rattle.mst_graph.specs.Lists.{has_any}
use Rattle.mst_sweep.specs.Parts.{stays_at, staying, all_parts}
use Rattle.mst_sweep.proofs.CutApart.{both_true, not_true, stays_is, two_apart}
use Rattle.mst_sweep.proofs.Joined.{home_on, home_joined, joined_home}

-- no other bridge has a link on the link's LAN
abbrev pub IsAlone : {N L : Type 0} → List (Link N L) → Link N L → Type 0
IsAlone {N} {L} links k = (j : Link N L) → Contains links j → j.lan ≡ k.lan → j.bridge ≡ k.bridge

module _ {N L : Type 0} (links others : List (Link N L)) (kept : (k : Link N L) → Contains links k → Contains others k ⊎ IsAlone links k) where
  -- two bridges on one LAN
  across : (e k : Link N L) → Contains links e → Contains links k → k.lan ≡ e.lan → AreJoined others (bridge_at e.bridge) (bridge_at k.bridge)
  across e k p q same = go (kept e p) (kept k q)
    where
      go : Contains others e ⊎ IsAlone links e → Contains others k ⊎ IsAlone links k → AreJoined others (bridge_at e.bridge) (bridge_at k.bridge)
      go (inl a) (inl b) = along e a (inl (refl, refl)) (along k b (inr (ap lan_at same, refl)) stay)
      go (inl a) (inr alone) = subst (λ n. AreJoined others (bridge_at e.bridge) (bridge_at n)) (alone e p (sym same)) stay
      go (inr alone) b = subst (λ n. AreJoined others (bridge_at e.bridge) (bridge_at n)) (sym (alone k q same)) stay

  -- the bridge, or each bridge on the LAN, is still joined to this one
  abbrev Near : N → Node N L → Type 0
  Near x (bridge_at n) = AreJoined others (bridge_at x) (bridge_at n)
  Near x (lan_at l) = (k : Link N L) → Contains links k → k.lan ≡ l → AreJoined others (bridge_at x) (bridge_at k.bridge)

  pub still_joined : (x y : N) → AreJoined links (bridge_at x) (bridge_at y) → AreJoined others (bridge_at x) (bridge_at y)
  still_joined x y walk = stays link_ends (Near x) (λ e p. (λ near k q same. joined_to link_ends near (across e k p q same), λ near. near e p refl)) walk stay

module _ (a b : Net) (o p : Outcome) (vid : ℕ) (olds news : List (Island (List ℕ) (List ℕ))) (are : AreIslandsOf a o vid olds) (so : AreIslandsOf b p vid news)
    (kept : (x y : List ℕ) → AreJoined (vid_links a o vid) (bridge_at x) (bridge_at y) → AreJoined (vid_links b p vid) (bridge_at x) (bridge_at y)) where
  none_apart : has_any (all_parts (staying olds news (bridge_names a))) ≡ true → ⊥
  none_apart e =
      let r = two_apart (staying olds news (bridge_names a)) e in
      let x = kept_from (stays_at olds news) (bridge_names a) r.0 r.2 in
      let y = kept_from (stays_at olds news) (bridge_names a) r.1 r.3 in
      let at_x = stays_is olds news x.0 r.0 x.2 in
      let at_y = stays_is olds news y.0 r.1 y.2 in
      let places = both_true (r.1.before == r.0.before) (not (r.1.after == r.0.after)) r.4 in
      let before : r.1.before ≡ r.0.before = eqb-true r.1.before r.0.before places.0 in
      let walk = kept x.0 y.0 (home_joined a o vid olds are x.0 y.0 r.0.before at_x.0 (at_y.0 ∙ ap Some before)) in
      let same = joined_home b p vid news so x.0 y.0 (home_on b p vid news so x.0 r.0.after at_x.1) (home_on b p vid news so y.0 r.1.after at_y.1) walk in
      let after : r.0.after ≡ r.1.after = some_is r.0.after r.1.after (sym at_x.1 ∙ same ∙ at_y.1) in
      not_true (r.1.after == r.0.after) places.1 (eq-eqb r.1.after r.0.after (sym after))

  -- so there are no parts
  pub no_parts : all_parts (staying olds news (bridge_names a)) ≡ []
  no_parts = go (all_parts (staying olds news (bridge_names a))) refl
    where
      go : (parts : List (List (List ℕ))) → all_parts (staying olds news (bridge_names a)) ≡ parts → all_parts (staying olds news (bridge_names a)) ≡ []
      go [] e = e
      go (c ∷ cs) e = absurd (none_apart (ap has_any e))

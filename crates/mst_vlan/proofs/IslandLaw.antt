-- A network has one list of islands of a VID.
use Rattle.std.proofs.Common.{◌≡◌, ℕ, suc, Bool, true, false, get_or, List, [], ◌∷◌, map, filter, refl, sym, ap, ◌∙◌, ◌⊎◌, inl, inr, true≢false, Less}
use Rattle.std.specs.Prelude.{if◌then◌else◌}
use Rattle.std.specs.List.{Contains}
use Rattle.std.specs.Cmp.Lexicographic.{nat_list_cmp_total, nat_list_eq_equiv}
use Rattle.std.specs.FinMap as fin
use Rattle.mst_ids.specs.Names.{name_cmp}
use Rattle.mst_graph.specs.Groups.{StandOnce}
use Rattle.mst_graph.specs.Islands.{Island}
use Rattle.mst_graph.specs.Renaming.{KeepApart, link_by}
use Rattle.mst_graph.proofs.HasList.{has_islands}
use Rattle.mst_graph.proofs.Members.{in_none, cases}
use Rattle.mst_graph.proofs.OneList.{one_islands}
use Rattle.mst_tables.specs.Tables.{Net, BridgeRow, LanRow, IsNetwork}
use Rattle.mst_view.specs.Aggregation.{same_name}
use Rattle.mst_view.specs.View.{LogicalLan, as_lan, logical_lan, view_lans}
use Rattle.mst_view.proofs.Names.{same_names}
use Rattle.mst_roles.specs.forest.Apart.{Apart}
use Rattle.mst_roles.specs.forest.Outcome.{Outcome}
use Rattle.mst_roles.proofs.forest_lemmas.Entries.{entries_apart}
use Rattle.mst_roles.proofs.forest_lemmas.Lists.{all_contained, apart_mapped, apart_filtered}
use Rattle.mst_roles.proofs.forest_lemmas.Views.{bridges_rise, names_differ}
use Rattle.mst_vlan.specs.Reach.{bridges_on, lans_up, vid_links, AreIslandsOf}
use Rattle.mst_vlan.proofs.Reached.{links_have}
use Rattle.mst_vlan.proofs.Renumbered.{numbers_have, by_things}

-- names that rise stand once
rising_once : (names : List (List ℕ)) → Apart (λ a b. name_cmp a b ≡ Less) names → StandOnce names
rising_once [] h = tt
rising_once (a ∷ names) h = (λ there. names_differ a a (all_contained (λ b. name_cmp a b ≡ Less) names a h.0 there) refl, rising_once names h.1)

-- the place of a name in a list
place_of : List (List ℕ) → List ℕ → ℕ
place_of [] a = 0
place_of (b ∷ names) a = if same_name b a then 0 else suc (place_of names a)

name_there : (names : List (List ℕ)) (a : List ℕ) → Contains names a → get_or names (place_of names a) [] ≡ a
unfolding place_of
name_there [] a h = absurd (in_none a h)
name_there (b ∷ names) a h = go (same_name b a) refl (cases b a names h) (name_there names a)
  where
    go : (t : Bool) → same_name b a ≡ t → (b ≡ a) ⊎ Contains names a → (Contains names a → get_or names (place_of names a) [] ≡ a) → get_or (b ∷ names) (if t then 0 else suc (place_of names a)) [] ≡ a
    go true e c rest = same_names b a e
    go false e (inl same) rest = absurd (true≢false (sym (nat_list_eq_equiv.refl b) ∙ ap (same_name b) same ∙ e))
    go false e (inr c) rest = rest c

places_apart : (names : List (List ℕ)) → KeepApart (place_of names) names
places_apart names a b h j e = sym (name_there names a h) ∙ ap (λ k. get_or names k []) e ∙ name_there names b j

module _ (net : Net) (o : Outcome) (vid : ℕ) where
  bridges_once : StandOnce (bridges_on net)
  bridges_once =
      rising_once (bridges_on net)
      (apart_mapped (λ (e f : List ℕ × BridgeRow). name_cmp e.0 f.0 ≡ Less) (λ a b. name_cmp a b ≡ Less) (λ (e : List ℕ × BridgeRow). e.0) (λ e f l. l) (filter (λ (e : List ℕ × BridgeRow). e.1.is_on) (fin.entries net.bridges))
      (apart_filtered (λ (e f : List ℕ × BridgeRow). name_cmp e.0 f.0 ≡ Less) (λ (e : List ℕ × BridgeRow). e.1.is_on) (fin.entries net.bridges) (bridges_rise net)))

  keys_rise : Apart (λ a b. name_cmp a b ≡ Less) (fin.keys net.lans)
  keys_rise =
      apart_mapped (λ (e f : List ℕ × LanRow). name_cmp e.0 f.0 ≡ Less) (λ a b. name_cmp a b ≡ Less) (λ (e : List ℕ × LanRow). e.0) (λ e f l. l) (fin.entries net.lans)
      (entries_apart nat_list_cmp_total net.lans)

  lans_once : StandOnce (lans_up net)
  lans_once =
      rising_once (lans_up net)
      (apart_mapped (λ (l m : LogicalLan). name_cmp l.name m.name ≡ Less) (λ a b. name_cmp a b ≡ Less) (λ (l : LogicalLan). l.name) (λ l m r. r) (filter (λ (l : LogicalLan). l.is_up) (view_lans net))
      (apart_filtered (λ (l m : LogicalLan). name_cmp l.name m.name ≡ Less) (λ (l : LogicalLan). l.is_up) (view_lans net)
      (apart_mapped (λ a b. name_cmp a b ≡ Less) (λ (l m : LogicalLan). name_cmp l.name m.name ≡ Less) (as_lan net) (λ a b r. r) (filter (λ lan. same_name (logical_lan net lan) lan) (fin.keys net.lans))
      (apart_filtered (λ a b. name_cmp a b ≡ Less) (λ lan. same_name (logical_lan net lan) lan) (fin.keys net.lans) keys_rise))))

  pub one_list : (islands others : List (Island (List ℕ) (List ℕ))) → AreIslandsOf net o vid islands → AreIslandsOf net o vid others → islands ≡ others
  one_list islands others a b = one_islands (List ℕ) (List ℕ) (bridges_on net) (lans_up net) (vid_links net o vid) islands others bridges_once lans_once a b

  pub has_list : IsNetwork net → (islands : List (Island (List ℕ) (List ℕ))) × AreIslandsOf net o vid islands
  has_list ok =
      let bridges = bridges_on net in
      let lans = lans_up net in
      let have = links_have net ok o vid in
      let numbered = has_islands (map (place_of bridges) bridges) (map (place_of lans) lans) (map (link_by (place_of bridges) (place_of lans)) (vid_links net o vid))
      (numbers_have (place_of bridges) (place_of lans) [] [] bridges lans (places_apart bridges) (places_apart lans) (vid_links net o vid) have) in
      (_, by_things (place_of bridges) (place_of lans) [] [] bridges lans (places_apart bridges) (places_apart lans) (vid_links net o vid) have numbered.0 numbered.1)

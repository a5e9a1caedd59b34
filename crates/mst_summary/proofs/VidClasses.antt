-- What holds of a class of VIDs holds of each of its VIDs.
use Rattle.std.proofs.Common.{◌≡◌, ℕ, ◌+◌, ◌-◌, ◌<◌, ◌≤◌, ◌==◌, nat_eq, ◌&&◌, Bool, true, false, cond, List, [], ◌∷◌, ◌++◌, length, take, get_or, map, Some, refl, sym, ap, subst, ◌∙◌, arith, eq-eqb}
use Rattle.std.specs.Prelude.{if◌then◌else◌}
use Rattle.std.specs.List.{AllByRecursion, AllZip, Contains, find, count_by}
use Rattle.std.specs.Option.{option_map_or}
use Rattle.std.specs.FinMap as fin
use Rattle.std.proofs.lemmas.Bool.{eqb-true}
use Rattle.std.proofs.lemmas.List.{get_or_default, take_all, take_more}
use Rattle.std.proofs.lemmas.List.FromFn.{get_or-range_with_len}
use Rattle.mst_ids.specs.Vids.{has, is_vid}
use Rattle.mst_graph.specs.Groups.{AreGroups}
use Rattle.mst_graph.specs.Islands.{AreIslands, Island}
use Rattle.mst_graph.specs.Numbers.{HaveBodies}
use Rattle.mst_graph.specs.declared.keys.Numbering.{Numbering}
use Rattle.mst_graph.proofs.Alike.{alike_groups}
use Rattle.mst_tables.specs.ByTree.{table_in, vlans_in}
use Rattle.mst_tables.specs.Seen.{bridge_row}
use Rattle.mst_tables.specs.Table.{tree_in}
use Rattle.mst_tables.specs.Tables.{Numbers}
use Rattle.mst_view.specs.Aggregation.{same_name}
use Rattle.mst_view.specs.Viewed.{Viewed, named_port}
use Rattle.mst_view.specs.declared.in_view.BridgeInView.{BridgeInView}
use Rattle.mst_view.specs.declared.in_view.PortInView.{PortInView}
use Rattle.mst_vlan.specs.forest.Forest.{Forest}
use Rattle.mst_vlan.specs.forest.Settled.{SettledNet, outcome_of, IsSettledNet}
use Rattle.mst_vlan.proofs.forest_lemmas.Entries.{all_weaker}
use Rattle.mst_vlan.proofs.forest_lemmas.Lists.{all_contained, all_passing, all_there}
use Rattle.mst_vlan.proofs.forest_lemmas.Looking.{filter_alike}
use Rattle.mst_vlan.specs.roles.Roles.{forwards}
use Rattle.mst_vlan.specs.roles.SeenRoles.{seen_role, seen_tree}
use Rattle.mst_vlan.specs.Reach.{bridges_on, lans_up}
use Rattle.mst_vlan.specs.Seen.{seen_member}
use Rattle.mst_vlan.specs.declared.island.Island.{Island as IslandNos}
use Rattle.mst_vlan.specs.classes.Alike.{AreAlike}
use Rattle.mst_vlan.specs.classes.AllVids.{NumberEach}
use Rattle.mst_vlan.specs.classes.AllVids.{all_vids}
use Rattle.mst_vlan.proofs.classes_lemmas.VidPlaces.{zip_at}
use Rattle.mst_vlan.proofs.LinksAlike.{links_shared}
use Rattle.mst_vlan.proofs.classes_lemmas.VidPlaces.{place_of_vid, vids_long}
use Rattle.mst_graph.specs.Lists.{has_any}
use Rattle.mst_summary.specs.Carries.{are_of_two}
use Rattle.mst_vlan.specs.classes.Classes.{AreClasses}
use Rattle.mst_summary.specs.Kept.{count_at}
use Rattle.mst_summary.specs.Seen.{seen_with_bridge, seen_on, seen_carries, seen_over}
use Rattle.mst_summary.specs.Vlans.{with_bridge, HasIslands}
use Rattle.mst_summary.proofs.Lists.{count_mapped, count_alike}

-- ---- things at places
-- one more of each
zip_pushed : {A B : Type 0} (R : A → B → Type 0) (xs : List A) (ys : List B) (x : A) (y : B) → AllZip R xs ys → R x y → AllZip R (xs ++ x ∷ []) (ys ++ y ∷ [])
zip_pushed R [] [] x y h r = (r, tt)
zip_pushed R [] (b ∷ ys) x y h r = absurd h
zip_pushed R (a ∷ xs) [] x y h r = absurd h
zip_pushed R (a ∷ xs) (b ∷ ys) x y h r = (h.0, zip_pushed R xs ys x y h.1 r)

-- of any relation of VIDs and things
module _ {A : Type 0} (R : ℕ → A → Type 0) where
  abbrev pub AtPlaces : List ℕ → List A → Type 0
  AtPlaces = AllZip (λ place a. R (place + 1) a)

  pub more_at : (places : List ℕ) (i place vid : ℕ) → i < length places → place ≡ get_or places i 0 → vid ≡ place + 1 → (things : List A) (thing : A) → AtPlaces (take i places) things
      → R vid thing → AtPlaces (take (i + 1) places) (things ++ thing ∷ [])
  more_at places i place vid l is vid_is things thing are thing_is =
      subst (λ ps. AtPlaces ps (things ++ thing ∷ [])) (sym (take_more places i 0 l))
      (zip_pushed (λ place a. R (place + 1) a) (take i places) things (get_or places i 0) thing are (subst (λ vid. R vid thing) (vid_is ∙ ap (λ p. p + 1) is) thing_is))

  pub all_at : (places : List ℕ) (i : ℕ) → length places ≤ i → (things : List A) → AtPlaces (take i places) things → AtPlaces places things
  all_at places i l things are = subst (λ ps. AtPlaces ps things) (take_all i places l) are

  -- that alike VIDs share
  module _ (d : A) (v : Viewed) (c : Numbering) (k : AreClasses v c) (moved : (x y : ℕ) → AreAlike k.tables k.sets x y → (a : A) → R x a → R y a)
      (things : List A) (at : AtPlaces c.firsts.items things) where
    open k use {numbers as told, tell, classes as are}

    thing_there : (i : ℕ) → i < 4094 → R (i + 1) (get_or things (get_or c.numbers.items i 0) d)
    thing_there i l =
        let n : ℕ = get_or c.numbers.items i 0 in
        let l_told : i < length told = subst (λ k. i < k) (sym tell.as_long) l in
        let below : n < length c.firsts.items = are.below i l_told in
        let first = are.first n below in
        let k : ℕ = get_or c.firsts.items n 0 in
        let k_below : k < 4094 = subst (λ m. k < m) tell.as_long first.0 in
        let same : get_or told k 0 ≡ get_or told i 0 = eqb-true (get_or told k 0) (get_or told i 0) ((are.equal k i 0 first.0 l_told).0 first.1) in
        moved (k + 1) (i + 1) (tell.alike k i k_below l same) (get_or things n d) (zip_at (λ place a. R (place + 1) a) c.firsts.items things n 0 d at below)

    pub things_have : (vid : ℕ) → is_vid vid ≡ true → R vid (get_or things (get_or c.numbers.items (vid - 1) 0) d)
    things_have vid e =
        let p = place_of_vid vid e in
        let is : p.place + 1 ≡ vid = p.is in
        let place : p.place ≡ vid - 1 = omega arith in
        subst (λ i. R vid (get_or things (get_or c.numbers.items i 0) d)) place (subst (λ vid. R vid (get_or things (get_or c.numbers.items p.place 0) d)) is (thing_there p.place p.below))

-- ---- groups of VIDs by counts
vid_at : (i d : ℕ) → i < 4094 → get_or all_vids i d ≡ 1 + i
unfolding all_vids
vid_at i d l = get_or-range_with_len 1 4094 i d l

module _ (numbers counts : List ℕ) (each : NumberEach numbers (length counts)) where
  have_counts : HaveBodies nat_eq (count_at numbers counts) all_vids numbers counts
  have_counts i k e l =
      let long : length all_vids ≡ 4094 = vids_long in
      let below : i < 4094 = omega arith in
      let at : get_or all_vids i k ≡ 1 + i = vid_at i k below in
      let place : i ≡ get_or all_vids i k - 1 = omega arith in
      eq-eqb (get_or counts (get_or numbers i 0) e) (count_at numbers counts (get_or all_vids i k))
      (get_or_default counts (get_or numbers i 0) e 0 (each.below i below) ∙ ap (λ j. get_or counts (get_or numbers j 0) 0) place)

  pub groups_counted : (ns vids : List ℕ) → ns ≡ numbers → vids ≡ all_vids → (groups : List (List ℕ)) → ((count : ℕ → ℕ) → HaveBodies nat_eq count vids ns counts → AreGroups (λ x y. nat_eq (count x) (count y) ≡ true) vids groups)
      → AreGroups (λ x y. count_at numbers counts x ≡ count_at numbers counts y) all_vids groups
  groups_counted ns vids numbers_are vids_are groups by =
      let count = count_at numbers counts in
      alike_groups (λ x y. nat_eq (count x) (count y) ≡ true) (λ x y. count x ≡ count y) all_vids groups
      (λ x y hx hy. (λ e. eqb-true (count x) (count y) e, λ e. eq-eqb (count x) (count y) e))
      (subst (λ vids. AreGroups (λ x y. nat_eq (count x) (count y) ≡ true) vids groups) vids_are
      (by count (subst (λ vids. HaveBodies nat_eq count vids ns counts) (sym vids_are) (subst (λ ns. HaveBodies nat_eq count all_vids ns counts) (sym numbers_are) have_counts))))

-- ---- islands
any_changed : {A B : Type 0} (f : A → B) (xs : List A) → has_any (map f xs) ≡ has_any xs
any_changed f [] = refl
any_changed f (x ∷ xs) = refl

pub each_is : {A : Type 0} (P : A → Type 0) → ((x : A) → P x) → (xs : List A) → AllByRecursion P xs
each_is P f [] = tt
each_is P f (x ∷ xs) = (f x, each_is P f xs)

counted_as : {A B C : Type 0} (bridges : A → List B) (f : B → C) (islands : List A) → count_by (λ i. has_any (bridges i)) islands ≡ count_by has_any (map (λ i. map f (bridges i)) islands)
counted_as bridges f islands =
    count_alike (λ i. has_any (bridges i)) (λ i. has_any (map f (bridges i))) islands (each_is _ (λ i. sym (any_changed f (bridges i))) islands)
    ∙ sym (count_mapped has_any (λ i. map f (bridges i)) islands)

pub islands_counted : (numbers : Numbers) (islands : List IslandNos) (named : List (Island (List ℕ) (List ℕ))) → map (λ i. map Some i.bridges) islands ≡ map (λ i. map (fin.get numbers.bridges) i.bridges) named
    → seen_with_bridge islands ≡ with_bridge named
islands_counted numbers islands named e =
    counted_as (λ (i : IslandNos). i.bridges) Some islands ∙ ap (count_by has_any) e ∙ sym (counted_as (λ (i : Island (List ℕ) (List ℕ)). i.bridges) (fin.get numbers.bridges) named)

-- ---- alike VIDs
-- they have the same islands
pub islands_moved : (s : SettledNet) → IsSettledNet s → (c : Numbering) (k : AreClasses s.view c) (x y : ℕ) → AreAlike k.tables k.sets x y → (count : ℕ)
    → HasIslands s.net (outcome_of s) x count → HasIslands s.net (outcome_of s) y count
islands_moved s is c k x y alike count h =
    (h.0, subst (λ ks. AreIslands (bridges_on s.net) (lans_up s.net) ks h.0) (links_shared s.net s.numbers s.view s.forest is.of (outcome_of s) k.tables k.sets k.have_tables k.have_sets x y alike) h.1, h.2)

module _ (v : Viewed) (c : Numbering) (k : AreClasses v c) where
  open k use {tables, sets, have_tables, have_sets}

  module _ (x y : ℕ) (a : AreAlike tables sets x y) where
    row_alike : (b : BridgeInView) → Contains tables (table_in v.settings.tables b.name)
        → (if (bridge_row b.bridge).is_rstp then 0 else tree_in (table_in v.settings.tables b.name) x) ≡ (if (bridge_row b.bridge).is_rstp then 0 else tree_in (table_in v.settings.tables b.name) y)
    row_alike b there = ap (λ t. if (bridge_row b.bridge).is_rstp then 0 else t) (all_contained (λ table. tree_in table x ≡ tree_in table y) tables (table_in v.settings.tables b.name) a.same_tree there)

    found_alike : {A : Type 0} (g h : A → ℕ) (test : A → Bool) (xs : List A) → AllByRecursion (λ z. g z ≡ h z) xs → option_map_or g (find test xs) 0 ≡ option_map_or h (find test xs) 0
    found_alike g h test [] all = refl
    found_alike {A} g h test (z ∷ zs) all = go (test z) (found_alike g h test zs all.1)
      where
        go : (t : Bool) → option_map_or g (find test zs) 0 ≡ option_map_or h (find test zs) 0 → option_map_or g (cond t (Some z) (find test zs)) 0 ≡ option_map_or h (cond t (Some z) (find test zs)) 0
        go true rest = all.0
        go false rest = rest

    -- one tree at each bridge, and the same member ports
    tree_alike : (bridge : ℕ) → seen_tree v bridge x ≡ seen_tree v bridge y
    tree_alike bridge = found_alike _ _ (λ (b : BridgeInView). bridge == b.bridge.number) v.bridges (all_weaker _ _ row_alike v.bridges have_tables)

    pub carries_alike : (f : Forest) (p : PortInView) → Contains v.ports p → seen_carries v f x p ≡ seen_carries v f y p
    carries_alike f p there =
        let member : seen_member v x p ≡ seen_member v y p =
        all_contained (λ set. has set x ≡ has set y) sets (vlans_in v.settings.vlans p.name) a.same_sets (all_contained (λ (q : PortInView). Contains sets (vlans_in v.settings.vlans q.name)) v.ports p have_sets there) in
        λ i. option_map_or forwards (seen_role v f (tree_alike p.bridge i) p) false && member i

    pub over_alike : (f : Forest) (lan : List ℕ) → seen_over v f (seen_on v lan) x ≡ seen_over v f (seen_on v lan) y
    over_alike f lan =
        ap (λ (ports : List PortInView). are_of_two (map named_port ports))
        (filter_alike (seen_carries v f x) (seen_carries v f y) (seen_on v lan) (all_passing (Contains v.ports) _ (λ (p : PortInView). same_name p.lan lan) (λ p there _. carries_alike f p there) v.ports (all_there v.ports)))

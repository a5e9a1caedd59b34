-- The bridges that stay and what tells VIDs apart, under names.
use Rattle.std.proofs.Common.{◌≡◌, ℕ, ◌+◌, ◌||◌, nat_eq, Bool, true, false, cond, List, [], ◌∷◌, map, Option, Some, None, refl, sym, ap, subst, ◌∙◌}
use Rattle.std.specs.List.{AllByRecursion, Contains, filter, filter_map, find, list_any, position_from}
use Rattle.std.specs.Map.{lookup}
use Rattle.std.specs.Option.{option_map, option_and_then}
use Rattle.std.specs.FinMap as fin
use Rattle.std.specs.Cmp.Lexicographic.{bytes_decides}
use Rattle.mst_graph.specs.Islands.{Island, AreIslands}
use Rattle.mst_graph.proofs.Members.{from_map, from_filter}
use Rattle.mst_net.specs.tables.ByTree.{ByTree, table_in, vlans_in}
use Rattle.mst_net.specs.tables.Seen.{bridge_row}
use Rattle.mst_net.specs.tables.Tables.{Net, Numbers, BridgeRow}
use Rattle.mst_ids.specs.declared.name.PortName.{PortName}
use Rattle.mst_view.specs.Aggregation.{same_name}
use Rattle.mst_view.specs.View.{LogicalPort, bridge_names}
use Rattle.mst_view.specs.Viewed.{Viewed, named_port}
use Rattle.mst_view.specs.declared.in_view.BridgeInView.{BridgeInView}
use Rattle.mst_view.specs.declared.in_view.PortInView.{PortInView}
use Rattle.mst_vlan.specs.forest.Agrees.{AreOf}
use Rattle.mst_vlan.specs.forest.Forest.{Forest}
use Rattle.mst_vlan.specs.forest.Outcome.{Outcome}
use Rattle.mst_vlan.proofs.forest_lemmas.Entries.{all_weaker, entries_found}
use Rattle.mst_vlan.proofs.forest_lemmas.Lists.{all_there, all_contained, all_mapped, all_unmapped, kept_same, mapped_twice, no_some}
use Rattle.mst_vlan.proofs.forest_lemmas.Seen.{bridge_seen}
use Rattle.mst_vlan.specs.Reach.{bridges_on, lans_up, vid_links, AreIslandsOf}
use Rattle.mst_vlan.proofs.Renumbered.{bridge_listed}
use Rattle.mst_vlan.specs.classes.Alike.{AreAlike}
use Rattle.mst_vlan.proofs.LinksAlike.{links_shared}
use Rattle.mst_vlan.proofs.forest_lemmas.Pieces.{filter_map-map}
use Rattle.mst_facts.specs.declared.both.Both.{Both}
use Rattle.mst_facts.specs.Both.{seen_in_both, seen_both}
use Rattle.mst_facts.proofs.Lists.{filter_map-filter_map, find-found}
use Rattle.mst_facts.proofs.Named.{found_named, names_are}
use Rattle.mst_vlan.specs.classes.Classes.{HasOnly}
use Rattle.mst_net.proofs.tables_lemmas.Keys.{names}
use Rattle.mst_sweep.specs.declared.parts.Stays.{Stays}
use Rattle.mst_sweep.specs.Parts.{home, staying, AreParts}
use Rattle.mst_sweep.specs.Baseline.{AreHomes}
use Rattle.mst_sweep.specs.CutClasses.{IsKeptAlone}
use Rattle.mst_sweep.specs.Seen.{seen_stays}
use Rattle.mst_sweep.specs.Left.{AreLeft}

-- ---- a bridge that isn't there is in no island
no_home_from : (k : ℕ) (islands : List (Island (List ℕ) (List ℕ))) (name : List ℕ) → AllByRecursion (λ (j : Island (List ℕ) (List ℕ)). list_any (same_name name) j.bridges ≡ false) islands
    → position_from (λ (j : Island (List ℕ) (List ℕ)). list_any (same_name name) j.bridges) k islands ≡ None
no_home_from k [] name h = refl
no_home_from k (j ∷ islands) name h = ap (λ b. cond b (Some k) (position_from (λ (j : Island (List ℕ) (List ℕ)). list_any (same_name name) j.bridges) (k + 1) islands)) h.0 ∙ no_home_from (k + 1) islands name h.1

not_any : (name : List ℕ) (xs : List (List ℕ)) → AllByRecursion (λ x. same_name name x ≡ false) xs → list_any (same_name name) xs ≡ false
not_any name [] h = refl
not_any name (x ∷ xs) h = (λ i. h.0 i || list_any (same_name name) xs) ∙ not_any name xs h.1

module _ (net : Net) (o : Outcome) (vid : ℕ) (islands : List (Island (List ℕ) (List ℕ))) (are : AreIslandsOf net o vid islands) (name : List ℕ) (none : fin.get net.bridges name ≡ None) where
  not_on : (x : List ℕ) → Contains (bridges_on net) x → same_name name x ≡ false
  not_on x h = go (same_name name x) refl
    where
      go : (b : Bool) → same_name name x ≡ b → same_name name x ≡ false
      go false e = e
      go true e =
          let row = from_map (λ (e : List ℕ × BridgeRow). e.0) (filter (λ e. e.1.is_on) (fin.entries net.bridges)) x h in
          let own = (from_filter (λ (e : List ℕ × BridgeRow). e.1.is_on) (fin.entries net.bridges) row.0 row.1).0 in
          let found = all_contained (λ (e : List ℕ × BridgeRow). fin.get net.bridges e.0 ≡ Some e.1) (fin.entries net.bridges) row.0 (entries_found names.total net.bridges) own in
          absurd (no_some row.0.1 (sym none ∙ ap (fin.get net.bridges) ((bytes_decides name x).0 e ∙ sym row.2) ∙ found))

  pub no_home : home islands name ≡ None
  no_home =
      no_home_from 0 islands name
      (all_weaker (Contains islands) _ (λ j there. not_any name j.bridges (all_weaker (Contains j.bridges) _ (λ x h. not_on x (bridge_listed (bridges_on net) (lans_up net) (vid_links net o vid) islands are j there x h)) j.bridges (all_there j.bridges)))
      islands (all_there islands))

-- ---- the bridges that stay
abbrev stay : List ℕ → ℕ → ℕ → Stays
stay name before after = record { name = name; before = before; after = after }

no_stay : (name : List ℕ) (o : Option ℕ) → option_and_then (λ before. option_map (stay name before) None) o ≡ None
no_stay name None = refl
no_stay name (Some x) = refl

-- by whatever is known of a bridge before, under its number and under its name
module _ (a b : Net) (n k : Numbers) (v w : Viewed) (f g : Forest) (of : AreOf a n v f.regions) (so : AreOf b k w g.regions) (p : Outcome) (vid : ℕ)
    (news : List (Island (List ℕ) (List ℕ))) (are : AreIslandsOf b p vid news) (seen : ℕ → Option ℕ) (named : List ℕ → Option ℕ) (afters : List (ℕ × ℕ))
    (before : (name : List ℕ) (m : ℕ) → fin.get n.bridges name ≡ Some m → seen m ≡ named name)
    (after : (name : List ℕ) (m : ℕ) → fin.get k.bridges name ≡ Some m → lookup (nat_eq m) afters ≡ home news name) where
  abbrev pub seen_stay : Both → Option Stays
  seen_stay both = option_and_then (λ before. option_map (stay both.old.name before) (lookup (nat_eq both.new.bridge.number) afters)) (seen both.old.bridge.number)

  abbrev pub named_stay : List ℕ → Option Stays
  named_stay name = option_and_then (λ before. option_map (stay name before) (home news name)) (named name)

  stays_named : (x : BridgeInView) → Contains v.bridges x → option_and_then seen_stay (seen_in_both w x) ≡ named_stay x.name
  stays_named x there = go (find (λ (y : BridgeInView). same_name y.name x.name) w.bridges) refl
    where
      go : (r : Option BridgeInView) → find (λ (y : BridgeInView). same_name y.name x.name) w.bridges ≡ r
          → option_and_then seen_stay (option_map (λ y. record { old = x; new = y }) r) ≡ named_stay x.name
      go None e =
          sym (ap (λ r. option_and_then (λ before. option_map (stay x.name before) r) (named x.name))
          (no_home b p vid news are x.name (found_named b k w g so x.name ∙ ap (option_map (λ (y : BridgeInView). bridge_row y.bridge)) e))
          ∙ no_stay x.name (named x.name))
      go (Some y) e =
          let found = find-found (λ (y : BridgeInView). same_name y.name x.name) w.bridges y e in
          let name : y.name ≡ x.name = (bytes_decides y.name x.name).0 found.1 in
          let first = before x.name x.bridge.number (bridge_seen a n v of.view x there).has_number in
          let second = after y.name y.bridge.number (bridge_seen b k w so.view y found.0).has_number ∙ ap (home news) name in
          λ i. option_and_then (λ before. option_map (stay x.name before) (second i)) (first i)

  pub all_stay_by : filter_map seen_stay (seen_both v w) ≡ filter_map named_stay (bridge_names a)
  all_stay_by =
      filter_map-filter_map seen_stay (seen_in_both w) v.bridges
      ∙ kept_same _ (λ (x : BridgeInView). named_stay x.name) v.bridges (all_weaker (Contains v.bridges) _ stays_named v.bridges (all_there v.bridges))
      ∙ sym (filter_map-map named_stay (λ (x : BridgeInView). x.name) v.bridges)
      ∙ ap (filter_map named_stay) (names_are a n v f of)

-- by the places of their islands
module _ (a b : Net) (n k : Numbers) (v w : Viewed) (f g : Forest) (of : AreOf a n v f.regions) (so : AreOf b k w g.regions) (o p : Outcome) (vid : ℕ)
    (olds news : List (Island (List ℕ) (List ℕ))) (are : AreIslandsOf b p vid news) (befores afters : List (ℕ × ℕ))
    (before : (name : List ℕ) (m : ℕ) → fin.get n.bridges name ≡ Some m → lookup (nat_eq m) befores ≡ home olds name)
    (after : (name : List ℕ) (m : ℕ) → fin.get k.bridges name ≡ Some m → lookup (nat_eq m) afters ≡ home news name) where
  pub all_stay : filter_map (seen_stays befores afters) (seen_both v w) ≡ staying olds news (bridge_names a)
  all_stay = all_stay_by a b n k v w f g of so p vid news are (λ m. lookup (nat_eq m) befores) (home olds) afters before after

-- ---- VIDs that the tables and the sets of the old network don't tell apart
module _ (a b : Net) (n k : Numbers) (v w : Viewed) (f g : Forest) (of : AreOf a n v f.regions) (so : AreOf b k w g.regions) (left : AreLeft a b) (tables : List (List ℕ)) (sets : List (List Bool)) (told : HasOnly v tables sets) where
  settings : v.settings ≡ w.settings
  settings = of.view.settings ∙ left.settings ∙ sym so.view.settings

  bridges : map (λ (x : BridgeInView). x.name) v.bridges ≡ map (λ (y : BridgeInView). y.name) w.bridges
  bridges = names_are a n v f of ∙ left.bridges ∙ sym (names_are b k w g so)

  ports : map (λ (x : PortInView). x.name) v.ports ≡ map (λ (y : PortInView). y.name) w.ports
  ports =
      sym (mapped_twice (λ (q : LogicalPort). q.name) named_port v.ports) ∙ ap (map (λ (q : LogicalPort). q.name)) of.view.ports ∙ left.ports
      ∙ sym (sym (mapped_twice (λ (q : LogicalPort). q.name) named_port w.ports) ∙ ap (map (λ (q : LogicalPort). q.name)) so.view.ports)

  abbrev HasTable : ByTree → List ℕ → Type 0
  HasTable set name = Contains tables (table_in set.tables name)

  abbrev HasSet : ByTree → PortName → Type 0
  HasSet set port = Contains sets (vlans_in set.vlans port)

  pub told_too : HasOnly w tables sets
  told_too = record {
    tables_there =
        all_unmapped (HasTable w.settings) (λ (y : BridgeInView). y.name) w.bridges
        (subst (AllByRecursion (HasTable w.settings)) bridges
        (subst (λ set. AllByRecursion (HasTable set) (map (λ (x : BridgeInView). x.name) v.bridges)) settings (all_mapped (HasTable v.settings) (λ (x : BridgeInView). x.name) v.bridges told.tables_there)));
    sets_there =
        all_unmapped (HasSet w.settings) (λ (y : PortInView). y.name) w.ports
        (subst (AllByRecursion (HasSet w.settings)) ports (subst (λ set. AllByRecursion (HasSet set) (map (λ (x : PortInView). x.name) v.ports)) settings (all_mapped (HasSet v.settings) (λ (x : PortInView). x.name) v.ports told.sets_there)));
  }

  pub parts_moved : (o p : Outcome) (x y : ℕ) → AreAlike tables sets x y → (parts : List (List (List ℕ))) → AreParts a o b p x parts → AreParts a o b p y parts
  parts_moved o p x y alike parts s = (
    s.0,
    s.1,
    subst (λ ks. AreIslands (bridges_on a) (lans_up a) ks s.0) (links_shared a n v f of o tables sets told.tables_there told.sets_there x y alike) s.2,
    subst (λ ks. AreIslands (bridges_on b) (lans_up b) ks s.1) (links_shared b k w g so p tables sets told_too.tables_there told_too.sets_there x y alike) s.3,
    s.4,
  )

-- ---- places of islands, of VIDs that nothing tells apart
module _ (net : Net) (n : Numbers) (v : Viewed) (f : Forest) (of : AreOf net n v f.regions) (tables : List (List ℕ)) (sets : List (List Bool)) (told : HasOnly v tables sets) (o : Outcome) (x y : ℕ) (alike : AreAlike tables sets x y) where
  pub homes_moved : (homes : List (ℕ × ℕ)) → AreHomes net n o x homes → AreHomes net n o y homes
  homes_moved homes h = (h.0, subst (λ ks. AreIslands (bridges_on net) (lans_up net) ks h.0) (links_shared net n v f of o tables sets told.tables_there told.sets_there x y alike) h.1, h.2)

-- and what is kept of a failure alone
module _ (a b : Net) (n k : Numbers) (v w : Viewed) (f g : Forest) (of : AreOf a n v f.regions) (so : AreOf b k w g.regions) (left : AreLeft a b) (tables : List (List ℕ)) (sets : List (List Bool)) (told : HasOnly v tables sets) where
  pub kept_moved : (o p : Outcome) (x y : ℕ) → AreAlike tables sets x y → (kept : Option (List (ℕ × ℕ))) → IsKeptAlone a o b k p x kept → IsKeptAlone a o b k p y kept
  kept_moved o p x y alike None h = parts_moved a b n k v w f g of so left tables sets told o p x y alike [] h
  kept_moved o p x y alike (Some homes) h = homes_moved b k w g so tables sets (told_too a b n k v w f g of so left tables sets told) p x y alike homes h

-- The islands of a VID under names.
use Rattle.std.proofs.Common.{◌≡◌, ℕ, ◌+◌, ◌<◌, length, take, get_or, Bool, true, false, cond, not, List, [], ◌∷◌, ◌++◌, map, Option, Some, refl, sym, ap, ◌∙◌, true≢false}
use Rattle.std.specs.Prelude.{if◌then◌else◌}
use Rattle.std.specs.List.{AllByRecursion, Contains, filter, filter_map, flat_map, list_any}
use Rattle.std.specs.FinMap as fin
use Rattle.std.proofs.lemmas.List.{map-append}
use Rattle.std.proofs.lemmas.List.Elements.{filter_more}
use Rattle.mst_graph.specs.Islands.{Island}
use Rattle.mst_tables.specs.Tables.{Net, Numbers}
use Rattle.mst_view.proofs.Lists.{map_itself}
use Rattle.mst_view.specs.Viewed.{Viewed}
use Rattle.mst_vlan.specs.forest.Agrees.{AreOf}
use Rattle.mst_vlan.specs.forest.Forest.{Forest}
use Rattle.mst_vlan.specs.forest.Outcome.{Outcome}
use Rattle.mst_vlan.proofs.forest_lemmas.Entries.{all_weaker}
use Rattle.mst_vlan.proofs.forest_lemmas.Lists.{all_there}
use Rattle.mst_vlan.specs.Reach.{bridges_on, lans_up, vid_links, AreReached}
use Rattle.mst_vlan.specs.declared.island.Island.{Island as IslandNos}
use Rattle.mst_vlan.proofs.Renumbered.{bridge_listed}
use Rattle.mst_vlan.specs.Seen.{seen_bridge}
use Rattle.mst_vlan.proofs.ByNumber.{by_number}
use Rattle.mst_vlan.proofs.NamedInView.{bridge_named}
use Rattle.mst_graph.specs.Lists.{has_any}
use Rattle.mst_diff.specs.Reach.{island_bridges, same_names, without}
use Rattle.mst_diff.specs.Seen.{seen_groups, one_group, apart_group}

-- ---- those that aren't among others
abbrev kept : List (List (List ℕ)) → List (List (List ℕ)) → List (List (List ℕ))
kept others groups = filter (λ group. not (list_any (λ other. same_names other group) others)) groups

pub apart_are : (others groups : List (List (List ℕ))) → flat_map (apart_group others) groups ≡ without groups others
apart_are others [] = refl
apart_are others (group ∷ groups) = go (list_any (λ other. same_names other group) others) (apart_are others groups)
  where
    go : (b : Bool) → flat_map (apart_group others) groups ≡ kept others groups
        → (if b then [] else group ∷ []) ++ flat_map (apart_group others) groups ≡ cond (not b) (group ∷ kept others groups) (kept others groups)
    go true rest = rest
    go false rest = ap (λ l. group ∷ l) rest

-- ---- names
any_same : {A : Type 0} (has : A → Option ℕ) (ns : List ℕ) (xs : List A) → map Some ns ≡ map has xs → has_any ns ≡ has_any xs
any_same has [] [] e = refl
any_same has [] (x ∷ xs) e = cc
any_same has (n ∷ ns) [] e = cc
any_same has (n ∷ ns) (x ∷ xs) e = refl

each_of : {A : Type 0} (P : A → Type 0) (xs : List A) → ((x : A) → Contains xs x → P x) → AllByRecursion P xs
each_of P xs f = all_weaker (Contains xs) P f xs (all_there xs)

module _ (net : Net) (numbers : Numbers) (v : Viewed) (f : Forest) (of : AreOf net numbers v f.regions) where
  abbrev left : List IslandNos → List IslandNos
  left = filter (λ (i : IslandNos). has_any i.bridges)

  abbrev right : List (Island (List ℕ) (List ℕ)) → List (Island (List ℕ) (List ℕ))
  right = filter (λ (j : Island (List ℕ) (List ℕ)). has_any j.bridges)

  abbrev AreOn : Island (List ℕ) (List ℕ) → Type 0
  AreOn j = (a : List ℕ) → Contains j.bridges a → Contains (bridges_on net) a

  names_same : (i : IslandNos) (j : Island (List ℕ) (List ℕ)) → map Some i.bridges ≡ map (fin.get numbers.bridges) j.bridges → AreOn j → filter_map (seen_bridge v) i.bridges ≡ j.bridges
  names_same i j e on = by_number (fin.get numbers.bridges) (seen_bridge v) (λ a. a) i.bridges j.bridges e (each_of _ j.bridges (λ a h. bridge_named net numbers v f of a (on a h))) ∙ map_itself j.bridges

  each_group : (islands : List IslandNos) (named : List (Island (List ℕ) (List ℕ)))
      → map (λ (i : IslandNos). map Some i.bridges) islands ≡ map (λ (j : Island (List ℕ) (List ℕ)). map (fin.get numbers.bridges) j.bridges) named
      → AllByRecursion AreOn named → seen_groups v islands ≡ island_bridges named
  each_group [] [] e h = refl
  each_group [] (j ∷ named) e h = cc
  each_group (i ∷ islands) [] e h = cc
  each_group (i ∷ islands) (j ∷ named) e h =
      let first : map Some i.bridges ≡ map (fin.get numbers.bridges) j.bridges = cc in
      let others : map (λ (i : IslandNos). map Some i.bridges) islands ≡ map (λ (j : Island (List ℕ) (List ℕ)). map (fin.get numbers.bridges) j.bridges) named = cc in
      go (has_any i.bridges) (has_any j.bridges) (any_same (fin.get numbers.bridges) i.bridges j.bridges first) (names_same i j first h.0) (each_group islands named others h.1)
    where
      go : (b d : Bool) → b ≡ d → filter_map (seen_bridge v) i.bridges ≡ j.bridges → seen_groups v islands ≡ island_bridges named
          → map (λ (i : IslandNos). filter_map (seen_bridge v) i.bridges) (cond b (i ∷ left islands) (left islands)) ≡ map (λ (j : Island (List ℕ) (List ℕ)). j.bridges) (cond d (j ∷ right named) (right named))
      go true true e names rest = λ k. names k ∷ rest k
      go true false e names rest = absurd (true≢false e)
      go false true e names rest = absurd (true≢false (sym e))
      go false false e names rest = rest

  pub groups_named : (o : Outcome) (vid : ℕ) (islands : List IslandNos) → (r : AreReached net numbers o vid islands) → seen_groups v islands ≡ island_bridges r.named
  groups_named o vid islands r =
      each_group islands r.named r.bridges
      (each_of AreOn r.named (λ j h. bridge_listed (bridges_on net) (lans_up net) (vid_links net o vid) r.named r.are_islands j h))

-- ---- one more island
abbrev group_of : Viewed → IslandNos → List (List ℕ)
group_of v j = filter_map (seen_bridge v) j.bridges

pub groups_more : (v : Viewed) (islands : List IslandNos) (i : ℕ) (x : IslandNos) → i < length islands → x ≡ get_or islands i x
    → seen_groups v (take (i + 1) islands) ≡ seen_groups v (take i islands) ++ one_group v x
groups_more v islands i x l is =
    ap (map (group_of v)) (filter_more (λ (j : IslandNos). has_any j.bridges) islands i x l) ∙ map-append (group_of v) (filter (λ (j : IslandNos). has_any j.bridges) (take i islands)) _
    ∙ ap (λ (j : IslandNos). seen_groups v (take i islands) ++ map (group_of v) (cond (has_any j.bridges) (j ∷ []) [])) (sym is)
    ∙ ap (λ t. seen_groups v (take i islands) ++ t) (go (has_any x.bridges))
  where
    go : (b : Bool) → map (λ (j : IslandNos). filter_map (seen_bridge v) j.bridges) (cond b (x ∷ []) []) ≡ (if b then filter_map (seen_bridge v) x.bridges ∷ [] else [])
    go true = refl
    go false = refl

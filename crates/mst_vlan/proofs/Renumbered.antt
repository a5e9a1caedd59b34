-- The islands by numbers are the islands by keys.
use Rattle.std.proofs.Common.{◌≡◌, ℕ, ◌==◌, List, [], ◌∷◌, map, refl, sym, ap, subst, ◌∙◌, inl, inr, eq-eqb, unwrap_or}
use Rattle.std.specs.List.{All, Contains, find}
use Rattle.std.proofs.lemmas.Bool.{eqb-true}
use Rattle.std.proofs.lemmas.List.Elements.{All-contains, All-contains_itself, All-weaker, Contains-append_cases, Contains-append_left, Contains-append_right}
use Rattle.mst_graph.specs.Walks.{Node, bridge_at, lan_at}
use Rattle.mst_graph.specs.Islands.{Link, Island, nodes, members, AreIslands, HaveEnds}
use Rattle.mst_graph.specs.Renaming.{KeepApart, link_by, island_by}
use Rattle.mst_graph.proofs.ByKeys.{by_keys}
use Rattle.mst_graph.proofs.Members.{in_map, from_map, in_whole}
use Rattle.mst_graph.proofs.Splits.{kept_each, map_of_map}
use Rattle.mst_roles.proofs.forest_lemmas.Looking.{first_found}

unchanged : {A : Type 0} (xs : List A) → map (λ x. x) xs ≡ xs
unchanged [] = refl
unchanged (x ∷ xs) = ap (λ ys. x ∷ ys) (unchanged xs)

-- a fact of each member
pub all_members : {A : Type 0} (P : A → Type 0) (xs : List A) → ((x : A) → Contains xs x → P x) → All P xs
all_members P xs f = All-weaker (Contains xs) P f xs (All-contains_itself xs)

-- things whose numbers differ, and the thing of each number
module _ {A : Type 0} (number : A → ℕ) (none : A) (things : List A) (apart : KeepApart number things) where
  abbrev pub thing_of : ℕ → A
  thing_of n = unwrap_or (find (λ x. number x == n) things) none

  pub thing_back : (x : A) → Contains things x → thing_of (number x) ≡ x
  thing_back x there =
      let first = first_found (λ y. number y == number x) things x there (eq-eqb (number x) (number x) refl) in
      ap (λ o. unwrap_or o none) first.found ∙ apart first.it x first.there there (eqb-true (number first.it) (number x) first.passes)

  pub things_back : map thing_of (map number things) ≡ things
  things_back = map_of_map thing_of number things ∙ kept_each (λ x. thing_of (number x)) (λ x. x) things thing_back ∙ unchanged things

  pub number_back : (n : ℕ) → Contains (map number things) n → Contains things (thing_of n) × (number (thing_of n) ≡ n)
  number_back n there =
      let x = from_map number things n there in
      let is : thing_of n ≡ x.0 = ap thing_of (sym x.2) ∙ thing_back x.0 x.1 in
      (subst (Contains things) (sym is) x.1, ap number is ∙ x.2)

  pub back_apart : KeepApart thing_of (map number things)
  back_apart n m h j e = sym (number_back n h).1 ∙ ap number e ∙ (number_back m j).1

module _ {N L : Type 0} (bridge_no : N → ℕ) (lan_no : L → ℕ) (no_bridge : N) (no_lan : L) (bridges : List N) (lans : List L) (bridges_apart : KeepApart bridge_no bridges) (lans_apart : KeepApart lan_no lans)
    (links : List (Link N L)) (have : HaveEnds bridges lans links) where
  abbrev pub bridge_of : ℕ → N
  bridge_of = thing_of bridge_no no_bridge bridges bridges_apart

  abbrev pub lan_of : ℕ → L
  lan_of = thing_of lan_no no_lan lans lans_apart

  ends : (k : Link N L) → Contains links k → Contains bridges k.bridge × Contains lans k.lan
  ends k h = All-contains (λ (k : Link N L). Contains bridges k.bridge × Contains lans k.lan) links k have h

  link_back : (k : Link N L) → Contains links k → link_by bridge_of lan_of (link_by bridge_no lan_no k) ≡ k
  link_back k h =
      let e = ends k h in
      let bridge = thing_back bridge_no no_bridge bridges bridges_apart k.bridge e.0 in
      let lan = thing_back lan_no no_lan lans lans_apart k.lan e.1 in
      λ i. record { bridge = bridge i; lan = lan i }

  links_back : map (link_by bridge_of lan_of) (map (link_by bridge_no lan_no) links) ≡ links
  links_back =
      map_of_map (link_by bridge_of lan_of) (link_by bridge_no lan_no) links
      ∙ kept_each (λ k. link_by bridge_of lan_of (link_by bridge_no lan_no k)) (λ k. k) links link_back ∙ unchanged links

  -- both ends of each link have numbers
  pub numbers_have : HaveEnds (map bridge_no bridges) (map lan_no lans) (map (link_by bridge_no lan_no) links)
  numbers_have = all_members (λ k. Contains (map bridge_no bridges) k.bridge × Contains (map lan_no lans) k.lan) (map (link_by bridge_no lan_no) links)
      (λ k h.
      let x = from_map (link_by bridge_no lan_no) links k h in
      let e = ends x.0 x.1 in (
        subst (Contains (map bridge_no bridges)) (ap (λ (j : Link ℕ ℕ). j.bridge) x.2) (in_map bridge_no bridges (x.0).bridge e.0),
        subst (Contains (map lan_no lans)) (ap (λ (j : Link ℕ ℕ). j.lan) x.2) (in_map lan_no lans (x.0).lan e.1),
      ))

  pub by_things : (islands : List (Island ℕ ℕ)) → AreIslands (map bridge_no bridges) (map lan_no lans) (map (link_by bridge_no lan_no) links) islands → AreIslands bridges lans links (map (island_by bridge_of lan_of) islands)
  by_things islands are =
      let named = by_keys bridge_of lan_of (map bridge_no bridges) (map lan_no lans) (back_apart bridge_no no_bridge bridges bridges_apart) (back_apart lan_no no_lan lans lans_apart)
      (map (link_by bridge_no lan_no) links) numbers_have islands are in
      subst (λ ks. AreIslands bridges lans ks (map (island_by bridge_of lan_of) islands)) links_back
      (subst (λ ls. AreIslands bridges ls (map (link_by bridge_of lan_of) (map (link_by bridge_no lan_no) links)) (map (island_by bridge_of lan_of) islands)) (things_back lan_no no_lan lans lans_apart)
      (subst (λ bs. AreIslands bs (map lan_of (map lan_no lans)) (map (link_by bridge_of lan_of) (map (link_by bridge_no lan_no) links)) (map (island_by bridge_of lan_of) islands))
      (things_back bridge_no no_bridge bridges bridges_apart) named))

-- the bridges and the LANs of islands are among those that were listed
module _ {N L : Type 0} (bridges : List N) (lans : List L) (links : List (Link N L)) (islands : List (Island N L)) (are : AreIslands bridges lans links islands) (island : Island N L) (there : Contains islands island) where
  abbrev bridge_or : N → Node N L → N
  bridge_or d (bridge_at n) = n
  bridge_or d (lan_at n) = d

  abbrev lan_or : L → Node N L → L
  lan_or d (bridge_at n) = d
  lan_or d (lan_at n) = n

  apart : (m : L) (k : N) → (let a : Node N L = lan_at m in a) ≡ bridge_at k → ⊥
  apart m k e = cc

  placed : (x : Node N L) → Contains (members island) x → Contains (nodes bridges lans) x
  placed x h = in_whole (are.in_order (members island) (in_map members islands island there)) x h

  pub bridge_listed : (n : N) → Contains island.bridges n → Contains bridges n
  bridge_listed n h =
      elim (Contains-append_cases (map bridge_at bridges) (map lan_at lans) (bridge_at n)
      (placed (bridge_at n) (Contains-append_left (map bridge_at island.bridges) (map lan_at island.lans) (bridge_at n) (in_map bridge_at island.bridges n h)))) [
        | inl x ↦ let r = from_map bridge_at bridges (bridge_at n) x in subst (Contains bridges) (ap (bridge_or n) r.2) r.1
        | inr x ↦ let r = from_map lan_at lans (bridge_at n) x in absurd (apart r.0 n r.2)
      ]

  pub lan_listed : (n : L) → Contains island.lans n → Contains lans n
  lan_listed n h =
      elim (Contains-append_cases (map bridge_at bridges) (map lan_at lans) (lan_at n)
      (placed (lan_at n) (Contains-append_right (map bridge_at island.bridges) (map lan_at island.lans) (lan_at n) (in_map lan_at island.lans n h)))) [
        | inl x ↦ let r = from_map bridge_at bridges (lan_at n) x in absurd (apart n r.0 (sym r.2))
        | inr x ↦ let r = from_map lan_at lans (lan_at n) x in subst (Contains lans) (ap (lan_or n) r.2) r.1
      ]

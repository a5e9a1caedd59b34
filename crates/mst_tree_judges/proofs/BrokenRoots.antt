-- A reason is told just where an expectation doesn't hold: of roots.
use Rattle.std.proofs.Common.{◌≡◌, ◌↔◌, ℕ, suc, ◌≤◌, ◌==◌, ◌&&◌, ◌||◌, Bool, true, false, not, true≢false, List, [], ◌∷◌, length, Option, Some, None, refl, sym, ap, subst, ◌∙◌, arith, eq-eqb}
use Rattle.std.specs.Prelude.{is_some, MatchOption, if◌then◌else◌}
use Rattle.std.specs.List.{Contains, filter, flat_map}
use Rattle.std.specs.Option.{ForSome, option_map, option_map_or, option_and_then}
use Rattle.std.specs.Cmp.Lexicographic.{bytes_decides}
use Rattle.std.specs.FinMap as fin
use Rattle.std.proofs.lemmas.Bool.{eqb-true}
use Rattle.mst_graph.proofs.Members.{in_none, in_filter, from_filter}
use Rattle.mst_tables.specs.ByTree.{by_tree}
use Rattle.mst_tables.specs.Tables.{Net, BridgeRow, IsNetwork}
use Rattle.mst_view.specs.Aggregation.{same_name}
use Rattle.mst_roles.specs.forest.InUse.{id_in}
use Rattle.mst_roles.specs.forest.Outcome.{Outcome}
use Rattle.mst_graph.specs.Lists.{has_any}
use Rattle.mst_judged.specs.reasons.sweep.facts.Roots.{root_of, root_name, named_by}
use Rattle.mst_roles.specs.forest.config.Regions.{same_region}
use Rattle.mst_roles.proofs.forest_lemmas.Lists.{all_contained, no_some, some_is}
use Rattle.mst_roles.proofs.forest_lemmas.Looking.{first_found}
use Rattle.mst_roles.proofs.forest_lemmas.Views.{bridges_are, entry_there, same_mac}
use Rattle.mst_judged.specs.reasons.Holds.{IsOneRoot}
use Rattle.mst_judged.specs.reasons.Reasons.{root_count, other_root, other_next, AreRootReasons}
use Rattle.mst_judged.specs.reasons.Roots.{concerned, is_concerned, is_root_of, identifier, IsNextRoot}
use Rattle.mst_judged.specs.reasons.declared.reason.Reason.{Reason}
use Rattle.mst_judged.specs.reasons.declared.reason.Reason.TheVariants as why
use Rattle.mst_tree_judges.proofs.Keys.{key_there, key_row, InNet}
use Rattle.mst_judged.proofs.reasons_lemmas.Things.{empty_any, no_any, not_any, each_none, none_each}

module _ (net : Net) (ok : IsNetwork net) (o : Outcome) (tree : ℕ) (roots_there : (bridge : List ℕ) (id : ℕ) → root_of net o tree bridge ≡ Some id → (r : List ℕ) × InNet net ok o tree r id) where
  -- ---- identifiers name bridges
  pub one_named : (a b : List ℕ) (x y : BridgeRow) → fin.get net.bridges a ≡ Some x → fin.get net.bridges b ≡ Some y → id_in (by_tree net) tree a x ≡ id_in (by_tree net) tree b y → a ≡ b
  one_named a b x y hx hy e = ok.bridges.macs_differ a b x y hx hy (same_mac tree x.mac y.mac _ _ (ok.bridges.mac_fits a x hx) (ok.bridges.mac_fits b y hy) e)

  pub entry_row : (e : List ℕ × BridgeRow) → Contains (fin.entries net.bridges) e → fin.get net.bridges e.0 ≡ Some e.1
  entry_row e h = all_contained (λ (e : List ℕ × BridgeRow). fin.get net.bridges e.0 ≡ Some e.1) (fin.entries net.bridges) e (bridges_are net) h

  named_is : (r : List ℕ) (id : ℕ) → InNet net ok o tree r id → named_by net tree id ≡ Some r
  named_is r id n =
      let test : List ℕ × BridgeRow → Bool = λ e. id_in (by_tree net) tree e.0 e.1 == id in
      let f = first_found test (fin.entries net.bridges) (r, n.row) (entry_there net r n.row n.has_row) (eq-eqb (id_in (by_tree net) tree r n.row) id n.is_id) in
      let row = entry_row f.it f.there in
      let same : id_in (by_tree net) tree f.it.0 f.it.1 ≡ id = eqb-true (id_in (by_tree net) tree f.it.0 f.it.1) id f.passes in
      let name : f.it.0 ≡ r = one_named f.it.0 r f.it.1 n.row row n.has_row (same ∙ sym n.is_id) in
      ap (option_map (λ (e : List ℕ × BridgeRow). e.0)) f.found ∙ ap Some name

  pub root_is : (bridge r : List ℕ) (id : ℕ) → root_of net o tree bridge ≡ Some id → InNet net ok o tree r id → root_name net o tree bridge ≡ Some r
  root_is bridge r id e n = ap (option_and_then (named_by net tree)) e ∙ named_is r id n

  is_there : {A : Type 0} (x : Option A) → is_some x ≡ true → (y : A) × (x ≡ Some y)
  is_there None e = absurd (true≢false (sym e))
  is_there (Some y) e = (y, refl)

  first_of_both : (a b : Bool) → a && b ≡ true → a ≡ true
  first_of_both true b e = refl
  first_of_both false b e = absurd (true≢false (sym e))

  module _ (b : List ℕ) where
    abbrev bridges : List (List ℕ)
    bridges = concerned net o tree b

    abbrev others : List Reason
    others = flat_map (other_root net o tree b bridges) (fin.keys net.bridges)

    -- each of the bridges has a root, which is a bridge
    record Rooted (bridge : List ℕ) : Type 0 where
      root : List ℕ
      there : Contains (fin.keys net.bridges) root
      is_root : root_name net o tree bridge ≡ Some root

    rooted : (bridge : List ℕ) → Contains bridges bridge → Rooted bridge
    rooted bridge h =
        let f = from_filter (is_concerned net o tree b) (fin.keys net.bridges) bridge h in
        let id = is_there (root_of net o tree bridge) (first_of_both (is_some (root_of net o tree bridge)) (tree == 0 || same_region net b bridge) f.1) in
        let r = roots_there bridge id.0 id.1 in
        record { root = r.0; there = key_there net r.0 r.1.row r.1.has_row; is_root = root_is bridge r.0 id.0 id.1 r.1 }

    -- ---- other roots
    some_count : (root bridge : List ℕ) → Contains bridges bridge → is_root_of net o tree root bridge ≡ true → (root_count net o tree bridges root == 0) ≡ false
    some_count root bridge h e = go (filter (is_root_of net o tree root) bridges) (in_filter (is_root_of net o tree root) bridges bridge h e)
      where
        not_none : (n : ℕ) (t : Bool) → (suc n == 0) ≡ t → (suc n == 0) ≡ false
        not_none n false e = e
        not_none n true e = let none : suc n ≡ 0 = eqb-true (suc n) 0 e in absurd (omega arith)

        go : (those : List (List ℕ)) → Contains those bridge → (length those == 0) ≡ false
        go [] k = absurd (in_none bridge k)
        go (x ∷ xs) k = not_none (length xs) (suc (length xs) == 0) refl

    quiet_other : (same none : Bool) (x : Reason) → (if same || none then [] else x ∷ []) ≡ [] → none ≡ false → same ≡ true
    quiet_other true none x e f = refl
    quiet_other false true x e f = absurd (true≢false f)
    quiet_other false false x e f = absurd (cc)

    silent_other : (same none : Bool) (x : Reason) → (same ≡ false → none ≡ true) → (if same || none then [] else x ∷ []) ≡ []
    silent_other true none x h = refl
    silent_other false true x h = refl
    silent_other false false x h = absurd (true≢false (sym (h refl)))

    no_others : has_any others ≡ false → (bridge : List ℕ) → Contains bridges bridge → root_name net o tree bridge ≡ Some b
    no_others e bridge h =
        let r = rooted bridge h in
        let own : is_root_of net o tree r.root bridge ≡ true = ap (λ n. option_map_or (same_name r.root) n false) r.is_root ∙ (bytes_decides r.root r.root).1 refl in
        let count = root_count net o tree bridges r.root in
        let none = each_none (other_root net o tree b bridges) (fin.keys net.bridges) (no_any others e) r.root r.there in
        let same = quiet_other (same_name r.root b) (count == 0) (why.OtherRoot tree r.root count) none (some_count r.root bridge h own) in
        r.is_root ∙ ap Some ((bytes_decides r.root b).0 same)

    others_none : ((bridge : List ℕ) → Contains bridges bridge → root_name net o tree bridge ≡ Some b) → has_any others ≡ false
    others_none each = empty_any others (none_each (other_root net o tree b bridges) (fin.keys net.bridges) one)
      where
        one : (root : List ℕ) → Contains (fin.keys net.bridges) root → other_root net o tree b bridges root ≡ []
        one root h = silent_other (same_name root b) (root_count net o tree bridges root == 0) (why.OtherRoot tree root (root_count net o tree bridges root)) none
          where
            none : same_name root b ≡ false → (root_count net o tree bridges root == 0) ≡ true
            none other = ap (λ (those : List (List ℕ)). length those == 0) (no_any _ (not_any (filter (is_root_of net o tree root) bridges) (λ bridge k.
                let f = from_filter (is_root_of net o tree root) bridges bridge k in
                true≢false (sym f.1 ∙ ap (λ n. option_map_or (same_name root) n false) (each bridge f.0) ∙ other))))

    -- ---- the next root
    key_of : (bridge : List ℕ) → Contains bridges bridge → (row : BridgeRow) × (fin.get net.bridges bridge ≡ Some row)
    key_of bridge h = key_row net bridge (from_filter (is_concerned net o tree b) (fin.keys net.bridges) bridge h).0

    pub one_next : (c d : List ℕ) → IsNextRoot net o tree b c → IsNextRoot net o tree b d → c ≡ d
    one_next c d x y =
        let r = key_of c x.among in
        let s = key_of d y.among in
        let at : identifier net tree c ≡ id_in (by_tree net) tree c r.0 = ap (λ (w : Option BridgeRow). option_map_or (id_in (by_tree net) tree c) w 0) r.1 in
        let too : identifier net tree d ≡ id_in (by_tree net) tree d s.0 = ap (λ (w : Option BridgeRow). option_map_or (id_in (by_tree net) tree d) w 0) s.1 in
        let low : identifier net tree c ≤ identifier net tree d = x.least d y.among y.other in
        let high : identifier net tree d ≤ identifier net tree c = y.least c x.among x.other in
        let same : identifier net tree c ≡ identifier net tree d = omega arith in
        one_named c d r.0 s.0 r.1 s.1 (sym at ∙ same ∙ too)

    told_next : (t : Bool) (x : Reason) → (if t then [] else x ∷ []) ≡ [] → t ≡ true
    told_next true x e = refl
    told_next false x e = absurd (cc)

    next_told : (t : Bool) (x : Reason) → t ≡ true → (if t then [] else x ∷ []) ≡ []
    next_told true x e = refl
    next_told false x e = absurd (true≢false (sym e))

    next_broken : (wanted next : Option (List ℕ)) → MatchOption next ((c : List ℕ) → IsNextRoot net o tree b c → ⊥) (IsNextRoot net o tree b)
        → (option_map_or (λ c. other_next tree b c next) wanted [] ≡ []) ↔ ForSome wanted (IsNextRoot net o tree b)
    next_broken None next is = (λ e x h. absurd (no_some x h), λ h. refl)
    next_broken (Some c) None is = (λ e. absurd (cc), λ h. absurd (is c (h c refl)))
    next_broken (Some c) (Some d) is = (
      λ e x h. subst (IsNextRoot net o tree b) (sym ((bytes_decides c d).0 (told_next (same_name c d) (why.OtherNext tree b (Some d)) e)) ∙ some_is c x h) is,
      λ h. next_told (same_name c d) (why.OtherNext tree b (Some d)) ((bytes_decides c d).1 (one_next c d (h c refl) is)),
    )

    -- ---- all of them
    told_none : (any : Bool) (those last : List Reason) (none : Reason) → (if not any then none ∷ [] else (if has_any those then those else last)) ≡ []
        → (any ≡ true) × (has_any those ≡ false) × (last ≡ [])
    told_none false those last none e = absurd (cc)
    told_none true [] last none e = (refl, refl, e)
    told_none true (x ∷ xs) last none e = absurd (cc)

    none_told : (any : Bool) (those last : List Reason) (none : Reason) → any ≡ true → has_any those ≡ false → last ≡ [] → (if not any then none ∷ [] else (if has_any those then those else last)) ≡ []
    none_told false those last none e f g = absurd (true≢false (sym e))
    none_told true [] last none e f g = g
    none_told true (x ∷ xs) last none e f g = absurd (true≢false f)

    pub root_broken : (wanted : Option (List ℕ)) (reasons : List Reason) → AreRootReasons net o tree b wanted reasons → (reasons ≡ []) ↔ (IsOneRoot net o tree b × ForSome wanted (IsNextRoot net o tree b))
    root_broken wanted reasons r =
        let last : List Reason = option_map_or (λ c. other_next tree b c r.next) wanted [] in
        let n = next_broken wanted r.next r.is_next in (
          λ e. let t = told_none (has_any bridges) others last (why.NoRoot tree) (sym r.are ∙ e) in (record { some = t.0; each = no_others t.1 }, n.0 t.2),
          λ h. r.are ∙ none_told (has_any bridges) others last (why.NoRoot tree) h.0.some (others_none h.0.each) (n.1 h.1),
        )

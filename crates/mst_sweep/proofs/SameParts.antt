-- Parts are compared as lists of lists of names, and VIDs are grouped by them.
use Rattle.std.proofs.Common.{◌≡◌, ℕ, ◌+◌, ◌-◌, ◌<◌, nat_eq, ◌&&◌, Bool, true, List, [], ◌∷◌, length, get_or, map, refl, sym, ap, subst, ◌∙◌, arith}
use Rattle.std.specs.Cmp.{IsEquivalence, decided}
use Rattle.std.specs.Cmp.Lexicographic.{pointwise, pointwise_decides, bytes_decides}
use Rattle.std.specs.List.{Contains}
use Rattle.std.proofs.lemmas.List.{get_or_default, get_or-map}
use Rattle.std.proofs.lemmas.List.FromFn.{get_or-range_with_len}
use Rattle.mst_graph.specs.Groups.{AreGroups}
use Rattle.mst_graph.specs.Numbers.{HaveBodies}
use Rattle.mst_graph.proofs.Alike.{alike_groups}
use Rattle.mst_vlan.specs.classes.AllVids.{all_vids}
use Rattle.mst_vlan.specs.classes.AllVids.{NumberEach}
use Rattle.mst_vlan.proofs.classes_lemmas.VidPlaces.{vids_long, vid_place}
use Rattle.mst_sweep.specs.Cuts.{parts_at}

abbrev pub same_names : List (List ℕ) → List (List ℕ) → Bool
same_names = pointwise (pointwise nat_eq)

abbrev pub same_parts : List (List (List ℕ)) → List (List (List ℕ)) → Bool
same_parts = pointwise same_names

-- they are the same just where they are equal
pub parts_decide : (x y : List (List (List ℕ))) → (same_parts x y ≡ true → x ≡ y) × (x ≡ y → same_parts x y ≡ true)
parts_decide = pointwise_decides (pointwise_decides bytes_decides)

pub parts_equivalence : IsEquivalence same_parts
parts_equivalence = decided same_parts parts_decide

-- two lists by what their elements are viewed as
pub by_view : {V A : Type 0} (view : V → A) (same : A → A → Bool) (xs ys : List V) → pointwise (λ x y. same (view x) (view y)) xs ys ≡ pointwise same (map view xs) (map view ys)
by_view view same [] [] = refl
by_view view same [] (y ∷ ys) = refl
by_view view same (x ∷ xs) [] = refl
by_view view same (x ∷ xs) (y ∷ ys) = ap (λ b. same (view x) (view y) && b) (by_view view same xs ys)

-- ---- groups
vid_at : (i d : ℕ) → i < 4094 → get_or all_vids i d ≡ 1 + i
unfolding all_vids
vid_at i d l = get_or-range_with_len 1 4094 i d l

module _ {B : Type 0} (parts : B → List (List (List ℕ))) (same : B → B → Bool) (same_is : (a b : B) → same a b ≡ same_parts (parts a) (parts b)) (numbers : List ℕ) (bodies : List B) (each : NumberEach numbers (length bodies)) where
  equal : (a b : B) → same a b ≡ true → parts a ≡ parts b
  equal a b e = (parts_decide (parts a) (parts b)).0 (sym (same_is a b) ∙ e)

  so_same : (a b : B) → parts a ≡ parts b → same a b ≡ true
  so_same a b e = same_is a b ∙ (parts_decide (parts a) (parts b)).1 e

  abbrev body_of : B → ℕ → B
  body_of d vid = get_or bodies (get_or numbers (vid - 1) 0) d

  have : (d : B) → HaveBodies same (body_of d) all_vids numbers bodies
  have d i k e l =
      let long : length all_vids ≡ 4094 = vids_long in
      let below : i < 4094 = omega arith in
      let at : get_or all_vids i k ≡ 1 + i = vid_at i k below in
      let place : i ≡ get_or all_vids i k - 1 = omega arith in
      let is : get_or bodies (get_or numbers i 0) e ≡ body_of d (get_or all_vids i k) = get_or_default bodies (get_or numbers i 0) e d (each.below i below) ∙ ap (λ j. get_or bodies (get_or numbers j 0) d) place in
      so_same (get_or bodies (get_or numbers i 0) e) (body_of d (get_or all_vids i k)) (ap parts is)

  parts_are : (d : B) (vid : ℕ) → Contains all_vids vid → parts_at numbers (map parts bodies) vid ≡ parts (body_of d vid)
  parts_are d vid h =
      let p = vid_place vid h in
      let is : p.place + 1 ≡ vid = p.is in
      let place : p.place ≡ vid - 1 = omega arith in
      get_or-map parts bodies (get_or numbers (vid - 1) 0) d [] (subst (λ i. get_or numbers i 0 < length bodies) place (each.below p.place p.below))

  groups_by : (d : B) (groups : List (List ℕ)) → AreGroups (λ x y. same (body_of d x) (body_of d y) ≡ true) all_vids groups
      → AreGroups (λ x y. parts_at numbers (map parts bodies) x ≡ parts_at numbers (map parts bodies) y) all_vids groups
  groups_by d groups =
      alike_groups (λ x y. same (body_of d x) (body_of d y) ≡ true) (λ x y. parts_at numbers (map parts bodies) x ≡ parts_at numbers (map parts bodies) y) all_vids groups
      (λ x y hx hy. (
        λ e. parts_are d x hx ∙ equal (body_of d x) (body_of d y) e ∙ sym (parts_are d y hy),
        λ e. so_same (body_of d x) (body_of d y) (sym (parts_are d x hx) ∙ e ∙ parts_are d y hy),
      ))

  groups_are : (groups : List (List ℕ)) → ((body : ℕ → B) → HaveBodies same body all_vids numbers bodies → AreGroups (λ x y. same (body x) (body y) ≡ true) all_vids groups)
      → AreGroups (λ x y. parts_at numbers (map parts bodies) x ≡ parts_at numbers (map parts bodies) y) all_vids groups
  groups_are groups by = go bodies refl
    where
      go : (bs : List B) → bodies ≡ bs → AreGroups (λ x y. parts_at numbers (map parts bodies) x ≡ parts_at numbers (map parts bodies) y) all_vids groups
      go [] e = let none : get_or numbers 0 0 < 0 = subst (λ bs. get_or numbers 0 0 < length bs) e (each.below 0 (omega arith)) in absurd (omega arith)
      go (b ∷ bs) e = groups_by b groups (by (body_of b) (have b))

  -- the groups of VIDs of equal parts, by lists that are these
  pub groups_given : (ns vids : List ℕ) → ns ≡ numbers → vids ≡ all_vids → (groups : List (List ℕ)) → ((body : ℕ → B) → HaveBodies same body vids ns bodies → AreGroups (λ x y. same (body x) (body y) ≡ true) vids groups)
      → AreGroups (λ x y. parts_at numbers (map parts bodies) x ≡ parts_at numbers (map parts bodies) y) all_vids groups
  groups_given ns vids numbers_are vids_are groups by =
      groups_are groups
      (λ body has.
      subst (λ vids. AreGroups (λ x y. same (body x) (body y) ≡ true) vids groups) vids_are
      (by body (subst (λ vids. HaveBodies same body vids ns bodies) (sym vids_are) (subst (λ ns. HaveBodies same body all_vids ns bodies) (sym numbers_are) has))))

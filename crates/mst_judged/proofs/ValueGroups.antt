-- VIDs of a set are grouped by the values of their classes.
use Rattle.std.proofs.Common.{◌≡◌, ◌↔◌, ℕ, ◌+◌, ◌-◌, ◌<◌, Bool, true, List, [], ◌∷◌, length, get_or, map, refl, sym, ap, subst, ◌∙◌, arith}
use Rattle.std.specs.List.{Contains}
use Rattle.std.proofs.lemmas.List.{get_or_default, get_or-map}
use Rattle.std.proofs.lemmas.List.Elements.{All-contains_itself}
use Rattle.mst_graph.specs.Groups.{AreGroups}
use Rattle.mst_graph.specs.Numbers.{HaveBodies}
use Rattle.mst_graph.proofs.Alike.{alike_groups}
use Rattle.mst_reasons.specs.sweep.vlan.classes.AllVids.{NumberEach, all_vids}
use Rattle.mst_reasons.proofs.sweep_lemmas.vlan_lemmas.classes_lemmas.VidPlaces.{vid_place}
use Rattle.mst_judged.specs.Valued.{value_at}

-- what is kept, K, is compared by a test that tells its values, B, apart
module _ {B K : Type 0} (none : B) (view : K → B) (same : K → K → Bool) (decides : (a b : K) → (same a b ≡ true) ↔ (view a ≡ view b)) (numbers : List ℕ) (kept : List K) (each : NumberEach numbers (length kept))
    (vids : List ℕ) (are_vids : (vid : ℕ) → Contains vids vid → Contains all_vids vid) where
  abbrev class : ℕ → ℕ
  class vid = get_or numbers (vid - 1) 0

  abbrev kept_of : K → ℕ → K
  kept_of d vid = get_or kept (class vid) d

  below : (vid : ℕ) → Contains vids vid → class vid < length kept
  below vid h =
      let p = vid_place vid (are_vids vid h) in
      let is : p.place + 1 ≡ vid = p.is in
      let place : p.place ≡ vid - 1 = omega arith in
      subst (λ i. get_or numbers i 0 < length kept) place (each.below p.place p.below)

  have : (d : K) → HaveBodies same (kept_of d) vids (map class vids) kept
  have d i k e l =
      let vid : ℕ = get_or vids i k in
      let there : Contains vids vid = All-contains_itself vids i k l in
      let at : get_or (map class vids) i 0 ≡ class vid = get_or-map class vids i k 0 l in
      (decides (get_or kept (get_or (map class vids) i 0) e) (kept_of d vid)).1 (ap view (ap (λ j. get_or kept j e) at ∙ get_or_default kept (class vid) e d (below vid there)))

  value_is : (d : K) (vid : ℕ) → Contains vids vid → value_at none numbers (map view kept) vid ≡ view (kept_of d vid)
  value_is d vid h = get_or-map view kept (class vid) d none (below vid h)

  abbrev AreTheGroups : List (List ℕ) → Type 0
  AreTheGroups groups = AreGroups (λ x y. value_at none numbers (map view kept) x ≡ value_at none numbers (map view kept) y) vids groups

  groups_by : (d : K) (groups : List (List ℕ)) → AreGroups (λ x y. same (kept_of d x) (kept_of d y) ≡ true) vids groups → AreTheGroups groups
  groups_by d groups =
      alike_groups (λ x y. same (kept_of d x) (kept_of d y) ≡ true) (λ x y. value_at none numbers (map view kept) x ≡ value_at none numbers (map view kept) y) vids groups
      (λ x y hx hy. (
        λ e. value_is d x hx ∙ (decides (kept_of d x) (kept_of d y)).0 e ∙ sym (value_is d y hy),
        λ e. (decides (kept_of d x) (kept_of d y)).1 (sym (value_is d x hx) ∙ e ∙ value_is d y hy),
      ))

  groups_are : (groups : List (List ℕ)) → ((body : ℕ → K) → HaveBodies same body vids (map class vids) kept → AreGroups (λ x y. same (body x) (body y) ≡ true) vids groups) → AreTheGroups groups
  groups_are groups by = go kept refl
    where
      go : (ks : List K) → kept ≡ ks → AreTheGroups groups
      go [] e = let none_there : get_or numbers 0 0 < 0 = subst (λ ks. get_or numbers 0 0 < length ks) e (each.below 0 (omega arith)) in absurd (omega arith)
      go (k ∷ ks) e = groups_by k groups (by (kept_of k) (have k))

  -- by lists that are these
  pub values_grouped : (things classes : List ℕ) → things ≡ vids → classes ≡ map class vids → (groups : List (List ℕ))
      → ((body : ℕ → K) → HaveBodies same body things classes kept → AreGroups (λ x y. same (body x) (body y) ≡ true) things groups) → AreTheGroups groups
  values_grouped things classes things_are classes_are groups by =
      groups_are groups
      (λ body has.
      subst (λ vids. AreGroups (λ x y. same (body x) (body y) ≡ true) vids groups) things_are
      (by body (subst (λ vids. HaveBodies same body vids classes kept) (sym things_are) (subst (λ cs. HaveBodies same body vids cs kept) (sym classes_are) has))))

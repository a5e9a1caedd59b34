-- Groups of VIDs by what their numbers have.
use Rattle.std.proofs.Common.{◌≡◌, ℕ, ◌+◌, ◌-◌, ◌<◌, ◌≤◌, Bool, true, List, [], ◌∷◌, length, get_or, map, refl, sym, ap, subst, ◌∙◌, arith}
use Rattle.std.specs.Bool.{Decides}
use Rattle.std.specs.List.{Contains}
use Rattle.std.proofs.lemmas.List.{get_or_default, get_or-map}
use Rattle.mst_ids.specs.declared.name.PortName.{PortName}
use Rattle.mst_graph.specs.Groups.{AreGroups}
use Rattle.mst_graph.specs.Numbers.{HaveBodies}
use Rattle.mst_graph.proofs.Alike.{alike_groups}
use Rattle.mst_text.specs.vlan.classes.AllVids.{all_vids, NumberEach}
use Rattle.mst_text.proofs.vlan_lemmas.classes_lemmas.VidPlaces.{vids_long, vid_at, vid_place}
use Rattle.mst_plan_text.specs.Bodies.{pairs_at}

-- ---- groups, where a test decides whether what is seen of two is the same
module _ {B : Type 0} (seen : B → List (PortName × Bool)) (same : B → B → Bool) (decides : (x y : B) → Decides (same x y) (seen x ≡ seen y)) (numbers : List ℕ) (kept : List B) (each : NumberEach numbers (length kept)) where
  abbrev kept_of : B → ℕ → B
  kept_of d vid = get_or kept (get_or numbers (vid - 1) 0) d

  have : (d : B) → HaveBodies same (kept_of d) all_vids numbers kept
  have d i k e l =
      let long : length all_vids ≡ 4094 = vids_long in
      let below : i < 4094 = omega arith in
      let at : get_or all_vids i k ≡ 1 + i = vid_at i k below in
      let place : i ≡ get_or all_vids i k - 1 = omega arith in
      let equal : get_or kept (get_or numbers i 0) e ≡ kept_of d (get_or all_vids i k) = get_or_default kept (get_or numbers i 0) e d (each.below i below) ∙ ap (λ j. get_or kept (get_or numbers j 0) d) place in
      (decides (get_or kept (get_or numbers i 0) e) (kept_of d (get_or all_vids i k))).1 (ap seen equal)

  seen_of : (d : B) (vid : ℕ) → Contains all_vids vid → pairs_at numbers (map seen kept) vid ≡ seen (kept_of d vid)
  seen_of d vid h =
      let p = vid_place vid h in
      let is : p.place + 1 ≡ vid = p.is in
      let place : p.place ≡ vid - 1 = omega arith in
      get_or-map seen kept (get_or numbers (vid - 1) 0) d [] (subst (λ i. get_or numbers i 0 < length kept) place (each.below p.place p.below))

  groups_by : (d : B) (groups : List (List ℕ)) → AreGroups (λ x y. same (kept_of d x) (kept_of d y) ≡ true) all_vids groups
      → AreGroups (λ x y. pairs_at numbers (map seen kept) x ≡ pairs_at numbers (map seen kept) y) all_vids groups
  groups_by d groups =
      alike_groups (λ x y. same (kept_of d x) (kept_of d y) ≡ true) (λ x y. pairs_at numbers (map seen kept) x ≡ pairs_at numbers (map seen kept) y) all_vids groups
      (λ x y hx hy. (
        λ e. seen_of d x hx ∙ (decides (kept_of d x) (kept_of d y)).0 e ∙ sym (seen_of d y hy),
        λ e. (decides (kept_of d x) (kept_of d y)).1 (sym (seen_of d x hx) ∙ e ∙ seen_of d y hy),
      ))

  groups_are : (groups : List (List ℕ)) → ((body : ℕ → B) → HaveBodies same body all_vids numbers kept → AreGroups (λ x y. same (body x) (body y) ≡ true) all_vids groups)
      → AreGroups (λ x y. pairs_at numbers (map seen kept) x ≡ pairs_at numbers (map seen kept) y) all_vids groups
  groups_are groups by = go kept refl
    where
      go : (bs : List B) → kept ≡ bs → AreGroups (λ x y. pairs_at numbers (map seen kept) x ≡ pairs_at numbers (map seen kept) y) all_vids groups
      go [] e = let none : get_or numbers 0 0 < 0 = subst (λ bs. get_or numbers 0 0 < length bs) e (each.below 0 (omega arith)) in absurd (omega arith)
      go (b ∷ bs) e = groups_by b groups (by (kept_of b) (have b))

  -- by lists that are these
  pub groups_given : (ns vids : List ℕ) → ns ≡ numbers → vids ≡ all_vids → (groups : List (List ℕ)) → ((body : ℕ → B) → HaveBodies same body vids ns kept → AreGroups (λ x y. same (body x) (body y) ≡ true) vids groups)
      → AreGroups (λ x y. pairs_at numbers (map seen kept) x ≡ pairs_at numbers (map seen kept) y) all_vids groups
  groups_given ns vids numbers_are vids_are groups by =
      groups_are groups
      (λ body has.
      subst (λ vids. AreGroups (λ x y. same (body x) (body y) ≡ true) vids groups) vids_are
      (by body (subst (λ vids. HaveBodies same body vids ns kept) (sym vids_are) (subst (λ ns. HaveBodies same body all_vids ns kept) (sym numbers_are) has))))

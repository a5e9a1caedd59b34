-- Groups of VIDs by what their numbers have, where a test decides whether that is the same.
use Rattle.std.proofs.Common.{◌≡◌, ℕ, ◌+◌, ◌-◌, ◌<◌, ◌≤◌, nat_eq, Bool, true, List, [], ◌∷◌, ◌++◌, length, take, get_or, map, refl, sym, ap, subst, ◌∙◌, arith}
use Rattle.std.specs.Bool.{Decides}
use Rattle.std.specs.List.{AllZip, Contains}
use Rattle.std.proofs.lemmas.Bool.{eqb-true}
use Rattle.std.proofs.lemmas.List.{get_or_default, get_or-map, take_all, take_more}
use Rattle.mst_ids.specs.Vids.{is_vid}
use Rattle.mst_graph.specs.Groups.{AreGroups}
use Rattle.mst_graph.specs.Numbers.{AreNumbers, HaveBodies}
use Rattle.mst_graph.proofs.Alike.{alike_groups}
use Rattle.mst_vlan.specs.classes.Alike.{AreAlike, TellApart}
use Rattle.mst_vlan.specs.classes.AllVids.{NumberEach}
use Rattle.mst_vlan.specs.classes.AllVids.{all_vids}
use Rattle.mst_vlan.proofs.classes_lemmas.VidPlaces.{zip_at}
use Rattle.mst_vlan.proofs.classes_lemmas.VidPlaces.{vids_long, vid_place, place_of_vid}
use Rattle.std.proofs.lemmas.List.FromFn.{get_or-range_with_len}
use Rattle.mst_diff.specs.Reach.{Sides, reach_unless, group_rows}
use Rattle.mst_diff.specs.Seen.{seen_sides, sides_at}
use Rattle.mst_diff.specs.declared.sides.Sides.{Sides as KeptSides}

-- one more of each
zip_pushed : {A B : Type 0} (R : A → B → Type 0) (xs : List A) (ys : List B) (x : A) (y : B) → AllZip R xs ys → R x y → AllZip R (xs ++ x ∷ []) (ys ++ y ∷ [])
zip_pushed R [] [] x y h r = (r, tt)
zip_pushed R [] (b ∷ ys) x y h r = absurd h
zip_pushed R (a ∷ xs) [] x y h r = absurd h
zip_pushed R (a ∷ xs) (b ∷ ys) x y h r = (h.0, zip_pushed R xs ys x y h.1 r)

abbrev no_sides : Sides
no_sides = record { old = []; new = [] }

-- of any relation of VIDs and sides
module _ (R : ℕ → Sides → Type 0) where
  abbrev pub AtPlaces : List ℕ → List Sides → Type 0
  AtPlaces = AllZip (λ place sides. R (place + 1) sides)

  pub sides_more : (places : List ℕ) (i place vid : ℕ) → i < length places → place ≡ get_or places i 0 → vid ≡ place + 1 → (all : List Sides) (sides : Sides) → AtPlaces (take i places) all
      → R vid sides → AtPlaces (take (i + 1) places) (all ++ sides ∷ [])
  sides_more places i place vid l is vid_is all sides are sides_are =
      subst (λ ps. AtPlaces ps (all ++ sides ∷ [])) (sym (take_more places i 0 l))
      (zip_pushed (λ place sides. R (place + 1) sides) (take i places) all (get_or places i 0) sides are (subst (λ vid. R vid sides) (vid_is ∙ ap (λ p. p + 1) is) sides_are))

  pub sides_all : (places : List ℕ) (i : ℕ) → length places ≤ i → (all : List Sides) → AtPlaces (take i places) all → AtPlaces places all
  sides_all places i l all are = subst (λ ps. AtPlaces ps all) (take_all i places l) are

-- what the place of a VID has
at_vid : (numbers : List ℕ) (all : List Sides) (i vid : ℕ) → i + 1 ≡ vid → sides_at numbers all vid ≡ get_or all (get_or numbers i 0) no_sides
at_vid numbers all i vid e = let place : vid - 1 ≡ i = omega arith in ap (λ k. get_or all (get_or numbers k 0) no_sides) place

-- of any relation that alike VIDs share
module _ (R : ℕ → Sides → Type 0) (tables : List (List ℕ)) (sets : List (List Bool)) (moved : (x y : ℕ) → AreAlike tables sets x y → (sides : Sides) → R x sides → R y sides)
    (told classes firsts : List ℕ) (tell : TellApart tables sets told) (are : AreNumbers nat_eq told classes firsts) (all : List Sides) (at : AtPlaces R firsts all) where
  sides_there : (i : ℕ) → i < 4094 → R (i + 1) (get_or all (get_or classes i 0) no_sides)
  sides_there i l =
      let n : ℕ = get_or classes i 0 in
      let l_told : i < length told = subst (λ k. i < k) (sym tell.as_long) l in
      let below : n < length firsts = are.below i l_told in
      let first = are.first n below in
      let k : ℕ = get_or firsts n 0 in
      let k_below : k < 4094 = subst (λ m. k < m) tell.as_long first.0 in
      let same : get_or told k 0 ≡ get_or told i 0 = eqb-true (get_or told k 0) (get_or told i 0) ((are.equal k i 0 first.0 l_told).0 first.1) in
      moved (k + 1) (i + 1) (tell.alike k i k_below l same) (get_or all n no_sides) (zip_at (λ place sides. R (place + 1) sides) firsts all n 0 no_sides at below)

  pub have_sides : (vid : ℕ) → is_vid vid ≡ true → R vid (sides_at classes all vid)
  have_sides vid e =
      let p = place_of_vid vid e in
      subst (R vid) (sym (at_vid classes all p.place vid p.is)) (subst (λ vid. R vid (get_or all (get_or classes p.place 0) no_sides)) p.is (sides_there p.place p.below))

vid_at : (i d : ℕ) → i < 4094 → get_or all_vids i d ≡ 1 + i
unfolding all_vids
vid_at i d l = get_or-range_with_len 1 4094 i d l

-- ---- groups
module _ {B : Type 0} (said : B → Sides) (same : B → B → Bool) (decides : (x y : B) → Decides (same x y) (said x ≡ said y)) (numbers : List ℕ) (kept : List B) (each : NumberEach numbers (length kept)) where
  abbrev kept_of : B → ℕ → B
  kept_of d vid = get_or kept (get_or numbers (vid - 1) 0) d

  have : (d : B) → HaveBodies same (kept_of d) all_vids numbers kept
  have d i k e l =
      let long : length all_vids ≡ 4094 = vids_long in
      let below : i < 4094 = omega arith in
      let at : get_or all_vids i k ≡ 1 + i = vid_at i k below in
      let place : i ≡ get_or all_vids i k - 1 = omega arith in
      let equal : get_or kept (get_or numbers i 0) e ≡ kept_of d (get_or all_vids i k) = get_or_default kept (get_or numbers i 0) e d (each.below i below) ∙ ap (λ j. get_or kept (get_or numbers j 0) d) place in
      (decides (get_or kept (get_or numbers i 0) e) (kept_of d (get_or all_vids i k))).1 (ap said equal)

  said_of : (d : B) (vid : ℕ) → Contains all_vids vid → sides_at numbers (map said kept) vid ≡ said (kept_of d vid)
  said_of d vid h =
      let p = vid_place vid h in
      let is : p.place + 1 ≡ vid = p.is in
      let place : p.place ≡ vid - 1 = omega arith in
      get_or-map said kept (get_or numbers (vid - 1) 0) d no_sides (subst (λ i. get_or numbers i 0 < length kept) place (each.below p.place p.below))

  groups_by : (d : B) (groups : List (List ℕ)) → AreGroups (λ x y. same (kept_of d x) (kept_of d y) ≡ true) all_vids groups
      → AreGroups (λ x y. sides_at numbers (map said kept) x ≡ sides_at numbers (map said kept) y) all_vids groups
  groups_by d groups =
      alike_groups (λ x y. same (kept_of d x) (kept_of d y) ≡ true) (λ x y. sides_at numbers (map said kept) x ≡ sides_at numbers (map said kept) y) all_vids groups
      (λ x y hx hy. (
        λ e. said_of d x hx ∙ (decides (kept_of d x) (kept_of d y)).0 e ∙ sym (said_of d y hy),
        λ e. (decides (kept_of d x) (kept_of d y)).1 (sym (said_of d x hx) ∙ e ∙ said_of d y hy),
      ))

  groups_are : (groups : List (List ℕ)) → ((body : ℕ → B) → HaveBodies same body all_vids numbers kept → AreGroups (λ x y. same (body x) (body y) ≡ true) all_vids groups)
      → AreGroups (λ x y. sides_at numbers (map said kept) x ≡ sides_at numbers (map said kept) y) all_vids groups
  groups_are groups by = go kept refl
    where
      go : (bs : List B) → kept ≡ bs → AreGroups (λ x y. sides_at numbers (map said kept) x ≡ sides_at numbers (map said kept) y) all_vids groups
      go [] e = let none : get_or numbers 0 0 < 0 = subst (λ bs. get_or numbers 0 0 < length bs) e (each.below 0 (omega arith)) in absurd (omega arith)
      go (b ∷ bs) e = groups_by b groups (by (kept_of b) (have b))

  -- by lists that are these
  pub groups_given : (ns vids : List ℕ) → ns ≡ numbers → vids ≡ all_vids → (groups : List (List ℕ)) → ((body : ℕ → B) → HaveBodies same body vids ns kept → AreGroups (λ x y. same (body x) (body y) ≡ true) vids groups)
      → AreGroups (λ x y. sides_at numbers (map said kept) x ≡ sides_at numbers (map said kept) y) all_vids groups
  groups_given ns vids numbers_are vids_are groups by =
      groups_are groups
      (λ body has.
      subst (λ vids. AreGroups (λ x y. same (body x) (body y) ≡ true) vids groups) vids_are
      (by body (subst (λ vids. HaveBodies same body vids ns kept) (sym vids_are) (subst (λ ns. HaveBodies same body all_vids ns kept) (sym numbers_are) has))))

-- ---- the row of a group, by its first VID
pub by_first : (numbers : List ℕ) (kept : List KeptSides) (each : NumberEach numbers (length kept)) (group : List ℕ) (vid : ℕ) (s : KeptSides) → 1 ≤ vid → vid ≤ 4094
    → s ≡ get_or kept (get_or numbers (vid - 1) 0) s → 0 < length group → vid ≡ get_or group 0 vid → reach_unless group (seen_sides s) ≡ group_rows (sides_at numbers (map seen_sides kept)) group
by_first numbers kept each [] vid s least greatest is any first = absurd (omega arith)
by_first numbers kept each (v ∷ vs) vid s least greatest is any first =
    let place : vid - 1 < 4094 = omega arith in
    let own : sides_at numbers (map seen_sides kept) vid ≡ seen_sides s = get_or-map seen_sides kept (get_or numbers (vid - 1) 0) s no_sides (each.below (vid - 1) place) ∙ ap seen_sides (sym is) in
    ap (reach_unless (v ∷ vs)) (sym own ∙ ap (sides_at numbers (map seen_sides kept)) first)

-- The places of VIDs in the list of all, and the numbers that they have by place.
use Rattle.std.proofs.Common.{◌≡◌, ◌↔◌, ℕ, zero, suc, ◌+◌, ◌-◌, ◌<◌, ◌≤◌, nat_eq, Bool, true, List, [], ◌∷◌, length, get_or, refl, sym, ap, subst, ◌∙◌, arith}
use Rattle.std.specs.List.{AllZip, Contains, range_with_len}
use Rattle.std.proofs.lemmas.Bool.Decides.{nat_tests}
use Rattle.std.proofs.lemmas.List.{get_or_default}
use Rattle.std.proofs.lemmas.List.FromFn.{get_or-range_with_len, length-range_with_len}
use Rattle.mst_ids.specs.Vids.{is_vid}
use Rattle.mst_graph.specs.Groups.{AreGroups, StandOnce}
use Rattle.mst_graph.specs.Numbers.{AreNumbers}
use Rattle.mst_classes.specs.AllVids.{all_vids, NumberEach}
use Rattle.mst_classes.proofs.VidLists.{vids_all}

-- ---- places
pub vids_long : length all_vids ≡ 4094
unfolding all_vids
vids_long = length-range_with_len 1 4094

pub vid_at : (i d : ℕ) → i < 4094 → get_or all_vids i d ≡ 1 + i
unfolding all_vids
vid_at i d l = get_or-range_with_len 1 4094 i d l

-- a VID is one more than its place
pub record AtPlace (vid : ℕ) : Type 0 where
  pub place : ℕ
  pub below : place < 4094
  pub is : place + 1 ≡ vid

pub vid_place : (vid : ℕ) → Contains all_vids vid → AtPlace vid
vid_place vid h =
    let long : length all_vids ≡ 4094 = vids_long in
    let l : h.0 < length all_vids = h.1 in
    let below : h.0 < 4094 = omega arith in
    let at : get_or all_vids h.0 vid ≡ 1 + h.0 = vid_at h.0 vid below in
    let found : get_or all_vids h.0 vid ≡ vid = h.2 in
    let is : h.0 + 1 ≡ vid = omega arith in
    record { place = h.0; below = below; is = is }

range_of_vid : (vid : ℕ) → is_vid vid ≡ true → (1 ≤ vid) × (vid ≤ 4094)
range_of_vid vid e = grind (arith, nat_tests)

pub place_of_vid : (vid : ℕ) → is_vid vid ≡ true → AtPlace vid
place_of_vid vid e =
    let range = range_of_vid vid e in
    let least : 1 ≤ vid = range.0 in
    let greatest : vid ≤ 4094 = range.1 in
    let below : vid - 1 < 4094 = omega arith in
    let is : vid - 1 + 1 ≡ vid = omega arith in
    record { place = vid - 1; below = below; is = is }

-- ---- each once
-- no VID stands twice
not_behind : (a n : ℕ) → Contains (range_with_len (a + 1) n) a → ⊥
not_behind a n h =
    let long : length (range_with_len (a + 1) n) ≡ n = length-range_with_len (a + 1) n in
    let l : h.0 < length (range_with_len (a + 1) n) = h.1 in
    let below : h.0 < n = omega arith in
    let at : get_or (range_with_len (a + 1) n) h.0 a ≡ a + 1 + h.0 = get_or-range_with_len (a + 1) n h.0 a below in
    let is : get_or (range_with_len (a + 1) n) h.0 a ≡ a = h.2 in
    omega arith

range_once : (a n : ℕ) → StandOnce (range_with_len a n)
range_once a zero = tt
range_once a (suc n) = (not_behind a n, range_once (a + 1) n)

once_to : (n : ℕ) → n ≡ 4094 → StandOnce all_vids
once_to n e = subst StandOnce (vids_all n e) (range_once 1 n)

pub vids_once : StandOnce all_vids
vids_once = once_to 4094 refl

vid_of_place : (i : ℕ) → i < 4094 → is_vid (i + 1) ≡ true
vid_of_place i l = grind (arith, nat_tests)

pub is_vid_there : (vid : ℕ) → Contains all_vids vid → is_vid vid ≡ true
is_vid_there vid h = let p = vid_place vid h in subst (λ v. is_vid v ≡ true) p.is (vid_of_place p.place p.below)

-- two groupings by bodies are one, where groups are told by a test alone
abbrev pub OneGrouping : Type 0
OneGrouping =
    (same : ℕ → ℕ → Bool) (things : List ℕ) (groups others : List (List ℕ)) → StandOnce things → AreGroups (λ x y. same x y ≡ true) things groups → AreGroups (λ x y. same x y ≡ true) things others → groups ≡ others

-- ---- numbers by place
-- each VID has a number where each class has one
pub numbers_below : (told numbers firsts : List ℕ) (n : ℕ) → length told ≡ 4094 → AreNumbers nat_eq told numbers firsts → n ≡ length firsts → NumberEach numbers n
numbers_below told numbers firsts n long are e = record {
  as_long = are.as_long ∙ long;
  below = λ i l. let below : get_or numbers i 0 < length firsts = are.below i (subst (λ k. i < k) (sym long) l) in omega arith;
}

pub each_below : (told numbers firsts : List ℕ) (n : ℕ) → AreNumbers nat_eq told numbers firsts → n ≡ length firsts → (ns : List ℕ) → ns ≡ numbers → (k d : ℕ) → k < length ns → get_or ns k d < n
each_below told numbers firsts n are e ns is k d l =
    let same : get_or ns k d ≡ get_or numbers k 0 = get_or_default ns k d 0 l ∙ ap (λ xs. get_or xs k 0) is in
    let here : k < length numbers = subst (λ xs. k < length xs) is l in
    let below : get_or numbers k 0 < length firsts = are.below k (subst (λ m. k < m) are.as_long here) in
    omega arith

-- two lists, one by one
pub zip_at : {A B : Type 0} (R : A → B → Type 0) (xs : List A) (ys : List B) (i : ℕ) (d : A) (e : B) → AllZip R xs ys → i < length xs → R (get_or xs i d) (get_or ys i e)
zip_at R [] ys i d e h l = absurd (omega arith)
zip_at R (a ∷ xs) [] i d e h l = absurd h
zip_at R (a ∷ xs) (b ∷ ys) zero d e h l = h.0
zip_at R (a ∷ xs) (b ∷ ys) (suc i) d e h l = zip_at R xs ys i d e h.1 (omega arith)

-- What there is for the first VID of each class is there for each VID, where VIDs of one class share it, which nothing tells apart.
use Rattle.std.proofs.Common.{◌≡◌, ℕ, ◌+◌, ◌-◌, ◌<◌, nat_eq, Bool, true, List, length, get_or, sym, subst, arith}
use Rattle.std.specs.List.{AllZip}
use Rattle.std.proofs.lemmas.Bool.{eqb-true}
use Rattle.mst_ids.specs.Vids.{is_vid}
use Rattle.mst_graph.specs.Numbers.{AreNumbers}
use Rattle.mst_sweep.specs.vlan.classes.Alike.{AreAlike, TellApart}
use Rattle.mst_sweep.proofs.vlan_lemmas.classes_lemmas.VidPlaces.{zip_at}
use Rattle.mst_sweep.proofs.vlan_lemmas.classes_lemmas.VidPlaces.{place_of_vid}

module _ {B : Type 0} (R : ℕ → B → Type 0) (none : B) (tables : List (List ℕ)) (sets : List (List Bool)) (told classes firsts : List ℕ)
    (moved : (i j : ℕ) → i < 4094 → j < 4094 → get_or classes i 0 ≡ get_or classes j 0 → AreAlike tables sets (i + 1) (j + 1) → (body : B) → R (i + 1) body → R (j + 1) body)
    (tell : TellApart tables sets told) (are : AreNumbers nat_eq told classes firsts) (bodies : List B) (at : AllZip (λ place body. R (place + 1) body) firsts bodies) where
  pub class_has : (vid : ℕ) → is_vid vid ≡ true → R vid (get_or bodies (get_or classes (vid - 1) 0) none)
  class_has vid e =
      let p = place_of_vid vid e in
      let i : ℕ = vid - 1 in
      let l : i < 4094 = omega (arith, p.below, p.is) in
      let back : i + 1 ≡ vid = omega (arith, p.is) in
      let n : ℕ = get_or classes i 0 in
      let l_told : i < length told = subst (λ k. i < k) (sym tell.as_long) l in
      let below : n < length firsts = are.below i l_told in
      let first = are.first n below in
      let k : ℕ = get_or firsts n 0 in
      let k_below : k < 4094 = subst (λ m. k < m) tell.as_long first.0 in
      let same : get_or told k 0 ≡ get_or told i 0 = eqb-true (get_or told k 0) (get_or told i 0) ((are.equal k i 0 first.0 l_told).0 first.1) in
      let there : R (k + 1) (get_or bodies n none) = zip_at (λ place body. R (place + 1) body) firsts bodies n 0 none at below in
      subst (λ vid. R vid (get_or bodies n none)) back (moved k i k_below l first.1 (tell.alike k i k_below l same) (get_or bodies n none) there)

-- Bridges that stay with both failures, each by the first that has its places, one more at a time.
use Rattle.std.proofs.Common.{◌≡◌, ℕ, ◌==◌, ◌&&◌, ◌+◌, ◌<◌, zero, suc, nat_eq, Bool, true, false, true≢false, cond, List, [], ◌∷◌, ◌++◌, length, take, get_or, Option, Some, None, refl, sym, ap, ◌∙◌, arith}
use Rattle.std.specs.List.{cons_option, filter_map, position_from}
use Rattle.std.specs.Map.{lookup}
use Rattle.std.specs.Option.{option_and_then, option_map, option_map_or, option_or}
use Rattle.std.proofs.lemmas.Bool.{eqb-true, eq-eqb}
use Rattle.std.proofs.lemmas.List.{length-take-le, take_more}
use Rattle.mst_facts.specs.declared.both.Both.{Both}
use Rattle.mst_sweep.specs.Seen.{first_at, has_places, same_places, seen_with_both, with_both}
use Rattle.mst_sweep.specs.declared.with_both.Places.{Places}
use Rattle.mst_sweep.specs.declared.parts.Stays.{Stays}
use Rattle.mst_sweep.proofs.CutApart.{both_true}
use Rattle.mst_sweep.proofs.HomesNamed.{position_more}
use Rattle.mst_sweep.proofs.Positions.{both_pass}

-- ---- places are compared by each
pub places_equal : (x y : Places) → same_places x y ≡ true → x ≡ y
places_equal x y e =
    let one = both_true (x.none == y.none) (x.first == y.first && x.second == y.second) e in
    let two = both_true (x.first == y.first) (x.second == y.second) one.1 in
    let none = eqb-true x.none y.none one.0 in
    let first = eqb-true x.first y.first two.0 in
    let second = eqb-true x.second y.second two.1 in
    λ i. record { none = none i; first = first i; second = second i }

pub places_same : (x : Places) → same_places x x ≡ true
places_same x = λ i. eq-eqb x.none x.none refl i && (eq-eqb x.first x.first refl i && eq-eqb x.second x.second refl i)

pub same_turned : (x y : Places) → same_places x y ≡ same_places y x
same_turned x y = go (same_places x y) refl (same_places y x) refl
  where
    go : (b : Bool) → same_places x y ≡ b → (c : Bool) → same_places y x ≡ c → same_places x y ≡ same_places y x
    go true e true f = e ∙ sym f
    go false e false f = e ∙ sym f
    go true e false f = absurd (true≢false (sym (ap (λ z. same_places y z) (places_equal x y e) ∙ places_same y) ∙ f))
    go false e true f = absurd (true≢false (sym (ap (λ z. same_places x z) (places_equal y x f) ∙ places_same x) ∙ e))

-- ---- what is kept of the first that has some places
module _ (old : Places → Option ℕ) (x : Places) (here : ℕ) where
  pub first_put : (now : Places → Option ℕ) → old x ≡ None → ((q : Places) → now q ≡ cond (same_places x q) (Some here) (old q)) → (q : Places) → now q ≡ option_or (old q) (cond (same_places q x) (Some here) None)
  first_put now none put q = put q ∙ go (same_places x q) refl
    where
      itself : (o : Option ℕ) → o ≡ option_or o None
      itself None = refl
      itself (Some y) = refl

      go : (b : Bool) → same_places x q ≡ b → cond b (Some here) (old q) ≡ option_or (old q) (cond (same_places q x) (Some here) None)
      go true e = sym (ap (λ y. option_or (old y) (cond (same_places q x) (Some here) None)) (sym (places_equal x q e)) ∙ ap (λ o. option_or o (cond (same_places q x) (Some here) None)) none ∙ ap (λ b. cond b (Some here) None) (same_turned q x ∙ e))
      go false e = itself (old q) ∙ ap (λ b. option_or (old q) (cond b (Some here) None)) (sym (same_turned q x ∙ e))

kept_push : {A B : Type 0} (h : A → Option B) (xs : List A) (x : A) → filter_map h (xs ++ x ∷ []) ≡ filter_map h xs ++ cons_option (h x) []
kept_push h [] x = refl
kept_push {A} {B} h (y ∷ xs) x = go (h y) (kept_push h xs x)
  where
    go : (o : Option B) → filter_map h (xs ++ x ∷ []) ≡ filter_map h xs ++ cons_option (h x) [] → cons_option o (filter_map h (xs ++ x ∷ [])) ≡ cons_option o (filter_map h xs) ++ cons_option (h x) []
    go None e = e
    go (Some z) e = ap (λ l. z ∷ l) e

-- ---- the first that has some places
position_front : {A : Type 0} (p : A → Bool) (k i at : ℕ) (xs : List A) → position_from p k (take i xs) ≡ Some at → position_from p k xs ≡ Some at
position_front p k zero at xs e = cc
position_front p k (suc i) at [] e = e
position_front p k (suc i) at (x ∷ xs) e = go (p x) e (position_front p (k + 1) i at xs)
  where
    go : (b : Bool) → cond b (Some k) (position_from p (k + 1) (take i xs)) ≡ Some at → (position_from p (k + 1) (take i xs) ≡ Some at → position_from p (k + 1) xs ≡ Some at) → cond b (Some k) (position_from p (k + 1) xs) ≡ Some at
    go true e rest = e
    go false e rest = rest e

module _ (places_of : ℕ → Option Places) where
  -- whoever has one first has the same places
  pub one_first : (all : List Both) (x y : Places) (at : ℕ) → first_at places_of all x ≡ Some at → first_at places_of all y ≡ Some at → x ≡ y
  one_first all x y at e f =
      let r = both_pass (has_places places_of x) (has_places places_of y) 0 at all e f in
      go (places_of r.0.old.bridge.number) r.2 r.3
    where
      go : (o : Option Places) → option_map_or (same_places x) o false ≡ true → option_map_or (same_places y) o false ≡ true → x ≡ y
      go None e f = absurd (true≢false (sym e))
      go (Some z) e f = places_equal x z e ∙ sym (places_equal y z f)

  module _ (all : List Both) (i : ℕ) (x : Both) (l : i < length all) (is : x ≡ get_or all i x) (long : length (take i all) ≡ i) where
    -- where the first is among one more
    pub first_more : (q : Places) → position_from (has_places places_of q) 0 (take (i + 1) all) ≡ option_or (position_from (has_places places_of q) 0 (take i all)) (cond (has_places places_of q x) (Some i) None)
    first_more q = position_more (has_places places_of q) all i x l is long

    -- that of this one is among these already
    is_first : (q : Places) → places_of x.old.bridge.number ≡ Some q → position_from (has_places places_of q) 0 (take (i + 1) all) ≡ first_at places_of all q
    is_first q e = go (position_from (has_places places_of q) 0 (take i all)) (has_places places_of q x) (ap (λ o. option_map_or (same_places q) o false) e ∙ places_same q) (first_more q)
      where
        go : (o : Option ℕ) (b : Bool) → b ≡ true → position_from (has_places places_of q) 0 (take (i + 1) all) ≡ option_or o (cond b (Some i) None) → position_from (has_places places_of q) 0 (take (i + 1) all) ≡ first_at places_of all q
        go o false f h = absurd (true≢false (sym f))
        go None true f h = h ∙ sym (position_front (has_places places_of q) 0 (i + 1) i all h)
        go (Some at) true f h = h ∙ sym (position_front (has_places places_of q) 0 (i + 1) at all h)

    module _ (news : List (ℕ × ℕ)) (firsts : Places → Option ℕ) (known : (q : Places) → firsts q ≡ position_from (has_places places_of q) 0 (take (i + 1) all)) where
      this_one : with_both places_of news firsts x ≡ seen_with_both places_of news all x
      this_one =
          ap (option_and_then (λ first. option_map (λ after. let s : Stays = record { name = x.old.name; before = first; after = after } in s) (lookup (nat_eq x.new.bridge.number) news))) (go (places_of x.old.bridge.number) refl)
        where
          go : (o : Option Places) → places_of x.old.bridge.number ≡ o → option_and_then firsts o ≡ option_and_then (first_at places_of all) o
          go None e = refl
          go (Some q) e = known q ∙ is_first q e

      -- so one more bridge is added
      pub one_more : (before grown : List Stays) → before ≡ filter_map (seen_with_both places_of news all) (take i all) → grown ≡ before ++ filter_map (with_both places_of news firsts) (x ∷ [])
          → grown ≡ filter_map (seen_with_both places_of news all) (take (i + 1) all)
      one_more before grown e f =
          f ∙ (λ j. e j ++ cons_option (this_one j) []) ∙ sym (kept_push (seen_with_both places_of news all) (take i all) x)
          ∙ ap (filter_map (seen_with_both places_of news all)) (ap (λ y. take i all ++ y ∷ []) is ∙ sym (take_more all i x l))

-- ---- the loop
module _ (places_of : ℕ → Option Places) (news : List (ℕ × ℕ)) (all : List Both) (i : ℕ) (x : Both) (l : i < length all) (is : x ≡ get_or all i x) (olds now : Places → Option ℕ) (known : (q : Places) → olds q ≡ position_from (has_places places_of q) 0 (take i all))
    (put : (q : Places) → now q ≡ option_or (olds q) (cond (has_places places_of q x) (Some i) None)) where
  long : length (take i all) ≡ i
  long = length-take-le i all (omega (arith, l))

  pub loop_first : (q : Places) → now q ≡ position_from (has_places places_of q) 0 (take (i + 1) all)
  loop_first q = put q ∙ ap (λ o. option_or o (cond (has_places places_of q x) (Some i) None)) (known q) ∙ sym (first_more places_of all i x l is long q)

  pub loop_stays : (before grown : List Stays) → before ≡ filter_map (seen_with_both places_of news all) (take i all) → grown ≡ before ++ filter_map (with_both places_of news now) (x ∷ [])
      → grown ≡ filter_map (seen_with_both places_of news all) (take (i + 1) all)
  loop_stays = one_more places_of all i x l is long news now loop_first

-- One more place.
use Rattle.std.proofs.Common.{◌≡◌, ℕ, ◌+◌, ◌<◌, Bool, true, false, cond, nat_eq, List, [], ◌∷◌, ◌++◌, length, take, get_or, Some, is_some, refl, sym, ap, subst, ◌∙◌, eq-eqb, arith, length-append}
use Rattle.std.specs.Map.{lookup}
use Rattle.std.proofs.lemmas.Bool.{eqb-true}
use Rattle.std.proofs.lemmas.List.{take_more, length-take-le, get_or_append_left, get_or_push}
use Rattle.mst_roles.proofs.forest_lemmas.Lists.{some_is, no_some}
use Rattle.mst_roles.proofs.forest_lemmas.Entries.{all_weaker}
use Rattle.mst_view.proofs.Lists.{all_pushed}
use Rattle.mst_note_text.specs.Placed.{ArePlaces}

module _ {A : Type 0} (number : A → ℕ) where
  pub none_placed : (places : List (ℕ × ℕ)) → places ≡ [] → ArePlaces number [] places
  none_placed places empty = record {
    in_list = λ n place e. absurd (no_some place (ap (lookup (nat_eq n)) (sym empty) ∙ e));
    has_number = λ n place d e. absurd (no_some place (ap (lookup (nat_eq n)) (sym empty) ∙ e));
    each = tt;
  }

  module _ (ys : List A) (x : A) (old new : List (ℕ × ℕ)) (put : (q : ℕ) → lookup (nat_eq q) new ≡ cond (nat_eq (number x) q) (Some (length ys)) (lookup (nat_eq q) old)) (are : ArePlaces number ys old) where
    -- a number has the new place or its old one
    in_more : (n place : ℕ) → lookup (nat_eq n) new ≡ Some place → place < length (ys ++ x ∷ [])
    in_more n place e = go (nat_eq (number x) n) (sym (put n) ∙ e)
      where
        go : (b : Bool) → cond b (Some (length ys)) (lookup (nat_eq n) old) ≡ Some place → place < length (ys ++ x ∷ [])
        go true f = let is : length ys ≡ place = some_is (length ys) place f in omega (arith, length-append ys (x ∷ []))
        go false f = let low : place < length ys = are.in_list n place f in omega (arith, length-append ys (x ∷ []))

    has_more : (n place : ℕ) (d : A) → lookup (nat_eq n) new ≡ Some place → number (get_or (ys ++ x ∷ []) place d) ≡ n
    has_more n place d e = go (nat_eq (number x) n) refl (sym (put n) ∙ e)
      where
        go : (b : Bool) → nat_eq (number x) n ≡ b → cond b (Some (length ys)) (lookup (nat_eq n) old) ≡ Some place → number (get_or (ys ++ x ∷ []) place d) ≡ n
        go true same f = ap number (get_or_push ys x d place (some_is (length ys) place f)) ∙ eqb-true (number x) n same
        go false other f = ap number (get_or_append_left ys (x ∷ []) d place (are.in_list n place f)) ∙ are.has_number n place d f

    still : (y : A) → is_some (lookup (nat_eq (number y)) old) ≡ true → is_some (lookup (nat_eq (number y)) new) ≡ true
    still y h = ap is_some (put (number y)) ∙ go (nat_eq (number x) (number y))
      where
        go : (b : Bool) → is_some (cond b (Some (length ys)) (lookup (nat_eq (number y)) old)) ≡ true
        go true = refl
        go false = h

    pushed : ArePlaces number (ys ++ x ∷ []) new
    pushed = record {
      in_list = in_more;
      has_number = has_more;
      each = all_pushed (λ y. is_some (lookup (nat_eq (number y)) new) ≡ true) ys x (all_weaker _ _ still ys are.each)
          (ap is_some (put (number x)) ∙ ap (λ b. is_some (cond b (Some (length ys)) (lookup (nat_eq (number x)) old))) (eq-eqb (number x) (number x) refl));
    }

  pub one_placed : (xs : List A) (i : ℕ) (x : A) (old new : List (ℕ × ℕ)) → i < length xs → x ≡ get_or xs i x
      → ((q : ℕ) → lookup (nat_eq q) new ≡ cond (nat_eq (number x) q) (Some i) (lookup (nat_eq q) old)) → ArePlaces number (take i xs) old → ArePlaces number (take (i + 1) xs) new
  one_placed xs i x old new below here put are =
      let long : length (take i xs) ≡ i = length-take-le i xs (omega arith) in
      subst (λ zs. ArePlaces number zs new) (sym (take_more xs i x below ∙ ap (λ y. take i xs ++ y ∷ []) (sym here)))
      (pushed (take i xs) x old new (λ q. put q ∙ ap (λ n. cond (nat_eq (number x) q) (Some n) (lookup (nat_eq q) old)) (sym long)) are)

-- The numbers of the keys so far, and one more key.
use Rattle.std.proofs.Common.{◌≡◌, ℕ, ◌+◌, ◌<◌, ◌≤◌, ◌⊎◌, inl, inr, Bool, true, false, cond, eq-eqb, List, [], ◌∷◌, ◌++◌, length, get_or, refl, sym, ap, subst, ◌∙◌, arith}
use Rattle.std.specs.Cmp.{IsEquivalence}
use Rattle.std.specs.List.{list_any, position_or_len}
use Rattle.std.proofs.lemmas.Bool.{cases_lt, eqb-true}
use Rattle.std.proofs.lemmas.List.{length_push, get_or_push, get_or_append_left}
use Rattle.indexmap.specs.IndexSet.{insert_key}
use Rattle.mst_graph.specs.Numbers.{AreNumbers}
use Rattle.mst_graph.proofs.Standing.{IsAt, inserted, kept, told}
use Rattle.mst_graph.proofs.KeyPlaces.{met_below, none_met}

before_or_last : (i count : ℕ) → i < count + 1 → (i < count) ⊎ (i ≡ count)
before_or_last i count h = elim (cases_lt i count) [ inl a ↦ inl a | inr b ↦ inr (omega arith) ]

module _ {K : Type 0} (same : K → K → Bool) where
  pub record Numbered (keys met : List K) (numbers firsts : List ℕ) : Type 0 where
    pub numbers_long : length numbers ≡ length keys
    pub firsts_long : length firsts ≡ length met
    pub at : (i : ℕ) (d : K) → i < length keys → IsAt same (get_or keys i d) met (get_or numbers i 0)
    pub first : (n : ℕ) → n < length firsts → (get_or firsts n 0 < length keys) × (get_or numbers (get_or firsts n 0) 0 ≡ n)
    pub least : (i : ℕ) → i < length keys → (get_or numbers i 0 < length firsts) × (get_or firsts (get_or numbers i 0) 0 ≤ i)
    pub rising : (n m : ℕ) → n < m → m < length firsts → get_or firsts n 0 < get_or firsts m 0

  pub none_numbered : Numbered [] [] [] []
  none_numbered = record {
    numbers_long = refl;
    firsts_long = refl;
    at = λ i d below. absurd (omega arith);
    first = λ n below. absurd (omega arith);
    least = λ i below. absurd (omega arith);
    rising = λ n m less below. absurd (omega arith);
  }

module _ {K : Type 0} (same : K → K → Bool) (laws : IsEquivalence same) where
  -- what a key stands at, once another is there
  stands : (k d : K) (met : List K) (n : ℕ) → IsAt same d met n → IsAt same d (insert_key same met k) n
  stands k d met n h = let r = kept same laws d k met h.0 in (r.0, r.1 ∙ h.1)

  module _ (keys met : List K) (numbers firsts : List ℕ) (key : K) (before : Numbered same keys met numbers firsts) where
    abbrev number : ℕ
    number = position_or_len (same key) met

    long : (i : ℕ) → i < length (keys ++ key ∷ []) → (i < length keys) ⊎ (i ≡ length keys)
    long i below = before_or_last i (length keys) (subst (λ n. i < n) (length_push keys key) below)

    old_number : (i : ℕ) → i < length keys → get_or (numbers ++ number ∷ []) i 0 ≡ get_or numbers i 0
    old_number i below = get_or_append_left numbers (number ∷ []) 0 i (subst (λ n. i < n) (sym before.numbers_long) below)

    new_number : (i : ℕ) → i ≡ length keys → get_or (numbers ++ number ∷ []) i 0 ≡ number
    new_number i e = get_or_push numbers number 0 i (before.numbers_long ∙ sym e)

    at_more : (i : ℕ) (d : K) → i < length (keys ++ key ∷ []) → IsAt same (get_or (keys ++ key ∷ []) i d) (insert_key same met key) (get_or (numbers ++ number ∷ []) i 0)
    at_more i d below = elim (long i below) [
      | inl a ↦
          subst (λ k. IsAt same k (insert_key same met key) (get_or (numbers ++ number ∷ []) i 0)) (sym (get_or_append_left keys (key ∷ []) d i a))
          (subst (λ n. IsAt same (get_or keys i d) (insert_key same met key) n) (sym (old_number i a)) (stands key (get_or keys i d) met (get_or numbers i 0) (before.at i d a)))
      | inr e ↦
          subst (λ k. IsAt same k (insert_key same met key) (get_or (numbers ++ number ∷ []) i 0)) (sym (get_or_push keys key d i (sym e)))
          (subst (λ n. IsAt same key (insert_key same met key) n) (sym (new_number i e)) (inserted same laws key met))
    ]

    abbrev Firsts : List ℕ → Type 0
    Firsts fs = (n : ℕ) → n < length fs → (get_or fs n 0 < length (keys ++ key ∷ [])) × (get_or (numbers ++ number ∷ []) (get_or fs n 0) 0 ≡ n)

    abbrev Least : List ℕ → Type 0
    Least fs = (i : ℕ) → i < length (keys ++ key ∷ []) → (get_or (numbers ++ number ∷ []) i 0 < length fs) × (get_or fs (get_or (numbers ++ number ∷ []) i 0) 0 ≤ i)

    old_first : (n : ℕ) → n < length firsts → (get_or firsts n 0 < length (keys ++ key ∷ [])) × (get_or (numbers ++ number ∷ []) (get_or firsts n 0) 0 ≡ n)
    old_first n below =
        let f = before.first n below in
        let there : get_or firsts n 0 < length keys = f.0 in
        let more : length (keys ++ key ∷ []) ≡ length keys + 1 = length_push keys key in
        (omega arith, old_number (get_or firsts n 0) f.0 ∙ f.1)

    -- a key that was met
    pub known_numbered : list_any (same key) met ≡ true → Numbered same (keys ++ key ∷ []) (insert_key same met key) (numbers ++ number ∷ []) firsts
    known_numbered e = record {
      numbers_long = length_push numbers number ∙ ap (λ n. n + 1) before.numbers_long ∙ sym (length_push keys key);
      firsts_long = before.firsts_long ∙ ap (λ b. length (cond b met (met ++ key ∷ []))) (sym e);
      at = at_more;
      first = old_first;
      least = λ i below. elim (long i below) [
        | inl a ↦ subst (λ n. (n < length firsts) × (get_or firsts n 0 ≤ i)) (sym (old_number i a)) (before.least i a)
        | inr last ↦ subst (λ n. (n < length firsts) × (get_or firsts n 0 ≤ i)) (sym (new_number i last)) (at_end i last)
      ];
      rising = before.rising;
    }
      where
        in_range : number < length firsts
        in_range = subst (λ n. number < n) (sym before.firsts_long) (met_below (same key) met e)

        at_end : (i : ℕ) → i ≡ length keys → (number < length firsts) × (get_or firsts number 0 ≤ i)
        at_end i last = let f : get_or firsts number 0 < length keys = (before.first number in_range).0 in (in_range, omega arith)

    -- a new key
    pub new_numbered : list_any (same key) met ≡ false → Numbered same (keys ++ key ∷ []) (insert_key same met key) (numbers ++ number ∷ []) (firsts ++ length numbers ∷ [])
    new_numbered e = record {
      numbers_long = length_push numbers number ∙ ap (λ n. n + 1) before.numbers_long ∙ sym (length_push keys key);
      firsts_long = length_push firsts (length numbers) ∙ ap (λ n. n + 1) before.firsts_long ∙ sym (length_push met key) ∙ ap (λ b. length (cond b met (met ++ key ∷ []))) (sym e);
      at = at_more;
      first = λ n below. elim (before_or_last n (length firsts) (subst (λ m. n < m) (length_push firsts (length numbers)) below)) [
        | inl a ↦ subst (λ f. (f < length (keys ++ key ∷ [])) × (get_or (numbers ++ number ∷ []) f 0 ≡ n)) (sym (get_or_append_left firsts (length numbers ∷ []) 0 n a)) (old_first n a)
        | inr last ↦ subst (λ f. (f < length (keys ++ key ∷ [])) × (get_or (numbers ++ number ∷ []) f 0 ≡ n)) (sym (get_or_push firsts (length numbers) 0 n (sym last))) (at_end n last)
      ];
      least = λ i below. elim (long i below) [
        | inl a ↦ subst (λ n. (n < length (firsts ++ length numbers ∷ [])) × (get_or (firsts ++ length numbers ∷ []) n 0 ≤ i)) (sym (old_number i a)) (old_least i a)
        | inr last ↦ subst (λ n. (n < length (firsts ++ length numbers ∷ [])) × (get_or (firsts ++ length numbers ∷ []) n 0 ≤ i)) (sym (new_number i last)) (new_least i last)
      ];
      rising = rising_more;
    }
      where
        number_is : number ≡ length firsts
        number_is = none_met (same key) met e ∙ sym before.firsts_long

        at_end : (n : ℕ) → n ≡ length firsts → (length numbers < length (keys ++ key ∷ [])) × (get_or (numbers ++ number ∷ []) (length numbers) 0 ≡ n)
        at_end n last =
            let more : length (keys ++ key ∷ []) ≡ length keys + 1 = length_push keys key in
            let as_long : length numbers ≡ length keys = before.numbers_long in
            (omega arith, new_number (length numbers) before.numbers_long ∙ number_is ∙ sym last)

        old_least : (i : ℕ) → i < length keys → (get_or numbers i 0 < length (firsts ++ length numbers ∷ [])) × (get_or (firsts ++ length numbers ∷ []) (get_or numbers i 0) 0 ≤ i)
        old_least i below =
            let l = before.least i below in
            let in_range : get_or numbers i 0 < length firsts = l.0 in
            let more : length (firsts ++ length numbers ∷ []) ≡ length firsts + 1 = length_push firsts (length numbers) in
            (omega arith, subst (λ f. f ≤ i) (sym (get_or_append_left firsts (length numbers ∷ []) 0 (get_or numbers i 0) l.0)) l.1)

        new_least : (i : ℕ) → i ≡ length keys → (number < length (firsts ++ length numbers ∷ [])) × (get_or (firsts ++ length numbers ∷ []) number 0 ≤ i)
        new_least i last =
            let more : length (firsts ++ length numbers ∷ []) ≡ length firsts + 1 = length_push firsts (length numbers) in
            let is : number ≡ length firsts = number_is in
            let as_long : length numbers ≡ length keys = before.numbers_long in
            let first : get_or (firsts ++ length numbers ∷ []) number 0 ≡ length numbers = get_or_push firsts (length numbers) 0 number (sym number_is) in
            (omega arith, omega arith)

        rising_more : (n m : ℕ) → n < m → m < length (firsts ++ length numbers ∷ []) → get_or (firsts ++ length numbers ∷ []) n 0 < get_or (firsts ++ length numbers ∷ []) m 0
        rising_more n m less below = elim (before_or_last m (length firsts) (subst (λ k. m < k) (length_push firsts (length numbers)) below)) [
          | inl a ↦
              let n_in : n < length firsts = omega arith in
              subst (λ f. f < get_or (firsts ++ length numbers ∷ []) m 0) (sym (get_or_append_left firsts (length numbers ∷ []) 0 n n_in))
              (subst (λ f. get_or firsts n 0 < f) (sym (get_or_append_left firsts (length numbers ∷ []) 0 m a)) (before.rising n m less a))
          | inr last ↦
              let n_in : n < length firsts = omega arith in
              subst (λ f. f < get_or (firsts ++ length numbers ∷ []) m 0) (sym (get_or_append_left firsts (length numbers ∷ []) 0 n n_in))
              (subst (λ f. get_or firsts n 0 < f) (sym (get_or_push firsts (length numbers) 0 m (sym last)))
              (subst (λ k. get_or firsts n 0 < k) (sym before.numbers_long) (before.first n n_in).0))
        ]

  -- the numbers once all keys are met
  pub all_numbered : (keys met : List K) (numbers firsts : List ℕ) → Numbered same keys met numbers firsts → AreNumbers same keys numbers firsts
  all_numbered keys met numbers firsts all = record {
    as_long = all.numbers_long;
    equal = λ i j d i_below j_below.
        let a = all.at i d i_below in
        let b = all.at j d j_below in
        let tells = told same laws (get_or keys i d) (get_or keys j d) met a.0 b.0 in (
          λ e. sym tells ∙ eq-eqb (position_or_len (same (get_or keys i d)) met) (position_or_len (same (get_or keys j d)) met) (a.1 ∙ e ∙ sym b.1),
          λ s. sym a.1 ∙ eqb-true (position_or_len (same (get_or keys i d)) met) (position_or_len (same (get_or keys j d)) met) (tells ∙ s) ∙ b.1,
        );
    below = λ i below. (all.least i below).0;
    first = all.first;
    least = λ i below. (all.least i below).1;
    rising = all.rising;
  }

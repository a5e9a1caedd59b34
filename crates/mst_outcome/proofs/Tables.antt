-- Tables with the same values at all numbers are the same.
use Rattle.std.proofs.Common.{◌≡◌, ◌≢◌, ◌<◌, ℕ, List, [], ◌∷◌, ◌++◌, ◌+◌, ◌≤◌, length, take, get_or, Option, Some, None, cond, refl, sym, ◌∙◌, ap, subst, Less, Equal, Greater, inl, inr, ◌⊎◌, append_assoc}
use Rattle.std.specs.List.{AllByRecursion}
use Rattle.std.specs.List.Sorted.{IsStrictlySortedBy}
use Rattle.std.specs.Map.{keys_of}
use Rattle.std.specs.declared.cmp.Ordering.{Ordering}
use Rattle.std.specs.Cmp.{tied_itself}
use Rattle.std.specs.Ordering.{nat_cmp, is_eq, ordering_reverse, MatchOrdering}
use Rattle.std.proofs.lemmas.Cmp.{nat_cmp_total, ranked}
use Rattle.std.proofs.lemmas.List.{append-nil, take_all, take_more}
use Rattle.mst_topology.specs.Places.{in_map}
use Rattle.mst_topology.specs.Settling.{IsPut}
use Rattle.mst_topology.proofs.Search.{some_is}

equal_numbers : (x y : ℕ) → nat_cmp x y ≡ Equal → x ≡ y
equal_numbers x y e = go (nat_cmp x y) (ranked x y (nat_cmp x y) refl) e
  where
    go : (r : Ordering) → MatchOrdering r (x < y) (x ≡ y) (y < x) → r ≡ Equal → x ≡ y
    go Less h e = cc
    go Equal h e = h
    go Greater h e = cc

-- below each of these numbers
abbrev IsBelow : ℕ → List ℕ → Type 0
IsBelow n ns = AllByRecursion (λ k. nat_cmp n k ≡ Less) ns

below_more : (n k : ℕ) (ks : List ℕ) → nat_cmp n k ≡ Less → IsBelow k ks → IsBelow n ks
below_more n k [] l h = tt
below_more n k (j ∷ ks) l h = (nat_cmp_total.trans n k j l h.0, below_more n k ks l h.1)

module _ {P : Type 0} where
  abbrev Rises : List (ℕ × P) → Type 0
  Rises es = IsStrictlySortedBy nat_cmp (keys_of es)

  after_first : (e : ℕ × P) (es : List (ℕ × P)) → Rises (e ∷ es) → IsBelow e.0 (keys_of es) × Rises es
  unfolding IsStrictlySortedBy
  after_first e es h = h

  none_below : (n : ℕ) (es : List (ℕ × P)) → IsBelow n (keys_of es) → in_map es n ≡ None
  none_below n [] h = refl
  none_below n (e ∷ es) h = ap (λ r. cond (is_eq r) (Some e.1) (in_map es n)) h.0 ∙ none_below n es h.1

  at_first : (e : ℕ × P) (es : List (ℕ × P)) → in_map (e ∷ es) e.0 ≡ Some e.1
  at_first e es = ap (λ r. cond (is_eq r) (Some e.1) (in_map es e.0)) (tied_itself nat_cmp_total e.0)

  -- the table whose first number is lower has something there that the other hasn't
  not_lower : (e f : ℕ × P) (es fs : List (ℕ × P)) → Rises (f ∷ fs) → nat_cmp e.0 f.0 ≡ Less → in_map (e ∷ es) e.0 ≡ in_map (f ∷ fs) e.0 → ⊥
  not_lower e f es fs rise l same =
      let none : in_map (f ∷ fs) e.0 ≡ None = none_below e.0 (f ∷ fs) (l, below_more e.0 f.0 (keys_of fs) l (after_first f fs rise).0) in
      let never : Some e.1 ≡ None = sym (at_first e es) ∙ same ∙ none in
      cc

  -- where two tables have the same, and the same first number, they have the same after it
  same_after : (e f : ℕ × P) (es fs : List (ℕ × P)) → IsBelow e.0 (keys_of es) → IsBelow f.0 (keys_of fs) → e.0 ≡ f.0 → (n : ℕ) → in_map (e ∷ es) n ≡ in_map (f ∷ fs) n → in_map es n ≡ in_map fs n
  same_after e f es fs rise_e rise_f key n same = go (nat_cmp n e.0) refl
    where
      other : (r : Ordering) → nat_cmp n e.0 ≡ r → is_eq r ≡ is_eq Less → in_map es n ≡ in_map fs n
      other r h apart =
          ap (λ b. cond b (Some e.1) (in_map es n)) (sym (ap is_eq h ∙ apart)) ∙ same ∙ ap (λ b. cond b (Some f.1) (in_map fs n)) (ap (λ k. is_eq (nat_cmp n k)) (sym key) ∙ ap is_eq h ∙ apart)

      go : (r : Ordering) → nat_cmp n e.0 ≡ r → in_map es n ≡ in_map fs n
      go Less h = other Less h refl
      go Greater h = other Greater h refl
      go Equal h =
          let here = equal_numbers n e.0 h in
          none_below n es (subst (λ k. IsBelow k (keys_of es)) (sym here) rise_e) ∙ sym (none_below n fs (subst (λ k. IsBelow k (keys_of fs)) (sym (here ∙ key)) rise_f))

  pub same_tables : (a b : List (ℕ × P)) → Rises a → Rises b → ((n : ℕ) → in_map a n ≡ in_map b n) → a ≡ b
  same_tables [] [] rise_a rise_b same = refl
  same_tables [] (f ∷ fs) rise_a rise_b same = let never : None ≡ Some f.1 = same f.0 ∙ at_first f fs in cc
  same_tables (e ∷ es) [] rise_a rise_b same = let never : None ≡ Some e.1 = sym (same e.0) ∙ at_first e es in cc
  same_tables (e ∷ es) (f ∷ fs) rise_a rise_b same = go (λ rest. same_tables es fs (after_first e es rise_a).1 (after_first f fs rise_b).1 rest) (nat_cmp e.0 f.0) refl
    where
      go : (((n : ℕ) → in_map es n ≡ in_map fs n) → es ≡ fs) → (r : Ordering) → nat_cmp e.0 f.0 ≡ r → e ∷ es ≡ f ∷ fs
      go after Less h = absurd (not_lower e f es fs rise_b h (same e.0))
      go after Greater h = absurd (not_lower f e fs es rise_a (nat_cmp_total.antisymm f.0 e.0 ∙ ap ordering_reverse h) (sym (same f.0)))
      go after Equal h =
          let key = equal_numbers e.0 f.0 h in
          let value = some_is e.1 f.1 (sym (at_first e es) ∙ same e.0 ∙ ap (λ r. cond (is_eq r) (Some f.1) (in_map fs e.0)) h) in
          let rest = after (λ n. same_after e f es fs (after_first e es rise_a).0 (after_first f fs rise_b).0 key n (same n)) in
          λ i. (key i, value i) ∷ rest i

  -- the first of two values that is there
  abbrev first_of : Option P → Option P → Option P
  first_of (Some x) o = Some x
  first_of None o = o

  -- on the way through entries that rise: a list of them and those that are left are all entries, and a table has at each
  -- number what they have there, unless it is left
  pub record IsFilled (all left list table : List (ℕ × P)) : Type 0 where
    pub rises : Rises left
    pub listed : list ++ left ≡ all
    pub has : (n : ℕ) → first_of (in_map left n) (in_map table n) ≡ in_map all n

  pub filled_first : (all : List (ℕ × P)) → Rises all → IsFilled all all [] []
  filled_first all rise = record { rises = rise; listed = refl; has = λ n. go (in_map all n) }
    where
      go : (o : Option P) → first_of o None ≡ o
      go (Some x) = refl
      go None = refl

  module _ (all left next list old new : List (ℕ × P)) (k : ℕ) (x : P) (is : left ≡ (k, x) ∷ next) (put : IsPut (in_map old) k x (in_map new)) (h : IsFilled all left list old) where
    rest : IsBelow k (keys_of next) × Rises next
    rest = after_first (k, x) next (subst Rises is h.rises)

    elsewhere : (n : ℕ) → n ≢ k → in_map left n ≡ in_map next n
    elsewhere n other = ap (λ es. in_map es n) is ∙ go (nat_cmp n k) refl
      where
        go : (r : Ordering) → nat_cmp n k ≡ r → in_map ((k, x) ∷ next) n ≡ in_map next n
        go Less e = ap (λ r. cond (is_eq r) (Some x) (in_map next n)) e
        go Greater e = ap (λ r. cond (is_eq r) (Some x) (in_map next n)) e
        go Equal e = absurd (other (equal_numbers n k e))

    has_next : (n : ℕ) → (n ≡ k) × (in_map new n ≡ Some x) ⊎ (n ≢ k) × (in_map new n ≡ in_map old n) → first_of (in_map next n) (in_map new n) ≡ in_map all n
    has_next n (inl e) =
        let none : in_map next n ≡ None = none_below n next (subst (λ z. IsBelow z (keys_of next)) (sym e.0) rest.0) in
        let here : in_map left n ≡ Some x = ap (λ es. in_map es n) is ∙ ap (in_map ((k, x) ∷ next)) e.0 ∙ at_first (k, x) next in
        ap (λ o. first_of o (in_map new n)) none ∙ e.1 ∙ sym (ap (λ o. first_of o (in_map old n)) here) ∙ h.has n
    has_next n (inr e) = ap (first_of (in_map next n)) e.1 ∙ sym (ap (λ o. first_of o (in_map old n)) (elsewhere n e.0)) ∙ h.has n

    pub filled_next : IsFilled all next (list ++ (k, x) ∷ []) new
    filled_next = record {
      rises = rest.1;
      listed = append_assoc list ((k, x) ∷ []) next ∙ ap (λ es. list ++ es) (sym is) ∙ h.listed;
      has = λ n. has_next n (put n);
    }

  -- in the end the list has all entries, and so has the table
  module _ (all left list table : List (ℕ × P)) (none : left ≡ []) (h : IsFilled all left list table) where
    pub all_listed : list ≡ all
    all_listed = sym (append-nil list) ∙ ap (λ es. list ++ es) (sym none) ∙ h.listed

    pub all_there : Rises all → Rises table → table ≡ all
    all_there rise_all rise_table = same_tables table all rise_table rise_all (λ n. ap (λ es. first_of (in_map es n) (in_map table n)) (sym none) ∙ h.has n)

  -- the entries before a place and those that are left are all, and so they are after one that is the same in both
  module _ (here all left next : List (ℕ × P)) (place : ℕ) (e : ℕ × P) (low : place < length here) (is : e ≡ get_or here place e) (k : ℕ) (x : P) (steps : left ≡ (k, x) ∷ next) (number : e.0 ≡ k) (value : e.1 ≡ x)
      (before : take place here ++ left ≡ all) where
    pub another_same : take (place + 1) here ++ next ≡ all
    another_same =
        let same : get_or here place e ≡ (k, x) = sym is ∙ (λ i. (number i, value i)) in
        ap (λ es. es ++ next) (take_more here place e low ∙ ap (λ z. take place here ++ z ∷ []) same) ∙ append_assoc (take place here) ((k, x) ∷ []) next ∙ ap (λ es. take place here ++ es) (sym steps) ∙ before

  pub all_same : (here all left : List (ℕ × P)) (place : ℕ) → length here ≤ place → left ≡ [] → take place here ++ left ≡ all → here ≡ all
  all_same here all left place end none before = sym (append-nil here) ∙ ap (λ es. es ++ []) (sym (take_all place here end)) ∙ ap (λ es. take place here ++ es) (sym none) ∙ before

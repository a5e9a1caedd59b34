-- Names that differ by one letter.
use Rattle.std.proofs.Common.{◌≡◌, ◌≢◌, ℕ, ◌≤◌, ◌==◌, ◌||◌, Bool, true, false, cond, true≢false, List, [], ◌∷◌, ◌++◌, length, refl, sym, ap, ◌∙◌, append-nil, eq-eqb, arith}
use Rattle.std.proofs.lemmas.Bool.{eqb-true}
use Rattle.std.specs.Cmp.Lexicographic.{bytes_decides}
use Rattle.mst_view.specs.Aggregation.{same_name}
use Rattle.mst_slips.specs.Near.{are_one_letter_apart, DifferByOneLetter}

-- ---- what is told is so
one_long : (a : List ℕ) → length a ≡ 1 → [] ≢ a
one_long a l e = let n : length {A = ℕ} [] ≡ length a = ap length e in absurd (omega arith)

none_left : (x : ℕ) (a : List ℕ) → length a ≡ 0 → (x ∷ a) ≢ []
none_left x a l e = cc

module _ (x y : ℕ) (a b : List ℕ) (ne : (x == y) ≡ false) where
  letters_differ : (x ∷ []) ≢ (y ∷ [])
  letters_differ e = let same : x ≡ y = cc in true≢false (sym (eq-eqb x y same) ∙ ne)

  at_front : (s t u : Bool) → same_name a b ≡ s → same_name a (y ∷ b) ≡ t → same_name (x ∷ a) b ≡ u → (s || t || u) ≡ true → DifferByOneLetter (x ∷ a) (y ∷ b)
  at_front true t u e f g h = let same = (bytes_decides a b).0 e in
      record { before = []; one = x ∷ []; other = y ∷ []; behind = b; first = ap (λ l. x ∷ l) same; second = refl; short = (omega arith, omega arith); differ = letters_differ }
  at_front false true u e f g h =
      record { before = []; one = x ∷ []; other = []; behind = y ∷ b; first = ap (λ l. x ∷ l) ((bytes_decides a (y ∷ b)).0 f); second = refl; short = (omega arith, omega arith); differ = λ k. cc }
  at_front false false true e f g h =
      record { before = []; one = []; other = y ∷ []; behind = x ∷ a; first = refl; second = ap (λ l. y ∷ l) (sym ((bytes_decides (x ∷ a) b).0 g)); short = (omega arith, omega arith); differ = λ k. cc }
  at_front false false false e f g h = absurd (true≢false (sym h))

pub is_so : (a b : List ℕ) → are_one_letter_apart a b ≡ true → DifferByOneLetter a b
is_so [] b e =
    let l : length b ≡ 1 = eqb-true (length b) 1 e in
    record { before = []; one = []; other = b; behind = []; first = refl; second = sym (append-nil b); short = (omega arith, omega arith); differ = one_long b l }
is_so (x ∷ a) [] e =
    let l : length a ≡ 0 = eqb-true (length a) 0 e in
    record { before = []; one = x ∷ a; other = []; behind = []; first = sym (append-nil (x ∷ a)); second = refl; short = (omega arith, omega arith); differ = none_left x a l }
is_so (x ∷ a) (y ∷ b) e = go (x == y) refl e (is_so a b)
  where
    go : (t : Bool) → (x == y) ≡ t → cond t (are_one_letter_apart a b) (same_name a b || same_name a (y ∷ b) || same_name (x ∷ a) b) ≡ true
        → (are_one_letter_apart a b ≡ true → DifferByOneLetter a b) → DifferByOneLetter (x ∷ a) (y ∷ b)
    go true k h rest =
        let d = rest h in
        record {
          before = x ∷ d.before;
          one = d.one;
          other = d.other;
          behind = d.behind;
          first = ap (λ l. x ∷ l) d.first;
          second = ap (λ n. n ∷ b) (sym (eqb-true x y k)) ∙ ap (λ l. x ∷ l) d.second;
          short = d.short;
          differ = d.differ;
        }
    go false k h rest = at_front x y a b k (same_name a b) (same_name a (y ∷ b)) (same_name (x ∷ a) b) refl refl refl h

-- ---- and what is so is told
itself : (a : List ℕ) → same_name a a ≡ true
itself a = (bytes_decides a a).1 refl

or_true : (s t : Bool) → (s || t || true) ≡ true
or_true true t = refl
or_true false true = refl
or_true false false = refl

or_mid : (s u : Bool) → (s || true || u) ≡ true
or_mid true u = refl
or_mid false u = refl

-- with one letter more at the front
one_more : (d : ℕ) (a : List ℕ) → are_one_letter_apart a (d ∷ a) ≡ true
one_more d [] = refl
one_more d (z ∷ a) = go (z == d) (one_more z a)
  where
    go : (t : Bool) → are_one_letter_apart a (z ∷ a) ≡ true → cond t (are_one_letter_apart a (z ∷ a)) (same_name a (z ∷ a) || same_name a (d ∷ z ∷ a) || same_name (z ∷ a) (z ∷ a)) ≡ true
    go true rest = rest
    go false rest = ap (λ t. same_name a (z ∷ a) || same_name a (d ∷ z ∷ a) || t) (itself (z ∷ a)) ∙ or_true (same_name a (z ∷ a)) (same_name a (d ∷ z ∷ a))

one_less : (c : ℕ) (a : List ℕ) → are_one_letter_apart (c ∷ a) a ≡ true
one_less c [] = refl
one_less c (z ∷ a) = go (c == z) (one_less z a)
  where
    go : (t : Bool) → are_one_letter_apart (z ∷ a) a ≡ true → cond t (are_one_letter_apart (z ∷ a) a) (same_name (z ∷ a) a || same_name (z ∷ a) (z ∷ a) || same_name (c ∷ z ∷ a) a) ≡ true
    go true rest = rest
    go false rest = ap (λ t. same_name (z ∷ a) a || t || same_name (c ∷ z ∷ a) a) (itself (z ∷ a)) ∙ or_mid (same_name (z ∷ a) a) (same_name (c ∷ z ∷ a) a)

here : (one other behind : List ℕ) → length one ≤ 1 → length other ≤ 1 → one ≢ other → are_one_letter_apart (one ++ behind) (other ++ behind) ≡ true
here [] [] behind k l ne = absurd (ne refl)
here [] (d ∷ []) behind k l ne = one_more d behind
here [] (d ∷ e ∷ more) behind k l ne = absurd (omega arith)
here (c ∷ []) [] behind k l ne = one_less c behind
here (c ∷ []) (d ∷ []) behind k l ne = go (c == d) refl
  where
    go : (t : Bool) → (c == d) ≡ t → cond t (are_one_letter_apart behind behind) (same_name behind behind || same_name behind (d ∷ behind) || same_name (c ∷ behind) behind) ≡ true
    go true e = absurd (ne (ap (λ n. n ∷ []) (eqb-true c d e)))
    go false e = ap (λ t. t || same_name behind (d ∷ behind) || same_name (c ∷ behind) behind) (itself behind)
here (c ∷ []) (d ∷ e ∷ more) behind k l ne = absurd (omega arith)
here (c ∷ e ∷ more) other behind k l ne = absurd (omega arith)

told : (before one other behind : List ℕ) → length one ≤ 1 → length other ≤ 1 → one ≢ other → are_one_letter_apart (before ++ one ++ behind) (before ++ other ++ behind) ≡ true
told [] one other behind k l ne = here one other behind k l ne
told (p ∷ before) one other behind k l ne =
    let a : List ℕ = before ++ one ++ behind in
    let b : List ℕ = before ++ other ++ behind in
    ap (λ t. cond t (are_one_letter_apart a b) (same_name a b || same_name a (p ∷ b) || same_name (p ∷ a) b)) (eq-eqb p p refl) ∙ told before one other behind k l ne

pub is_told : (a b : List ℕ) → DifferByOneLetter a b → are_one_letter_apart a b ≡ true
is_told a b d = (λ i. are_one_letter_apart (d.first i) (d.second i)) ∙ told d.before d.one d.other d.behind d.short.0 d.short.1 d.differ

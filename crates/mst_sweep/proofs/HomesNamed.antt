-- The places of islands under numbers are those under names.
use Rattle.std.proofs.Common.{◌≡◌, ℕ, ◌+◌, ◌<◌, ◌||◌, nat_eq, Bool, true, false, cond, List, [], ◌∷◌, ◌++◌, length, take, get_or, map, Option, Some, None, is_some, refl, sym, ap, ◌∙◌, arith, eq-eqb, true≢false}
use Rattle.std.specs.Cmp.Lexicographic.{bytes_decides}
use Rattle.std.specs.List.{list_any, position_from}
use Rattle.std.specs.Option.{option_or}
use Rattle.std.specs.FinMap as fin
use Rattle.std.proofs.lemmas.Bool.{eqb-true}
use Rattle.std.proofs.lemmas.List.{take_more}
use Rattle.std.proofs.lemmas.List.Folds.{list_any-append}
use Rattle.mst_graph.specs.Islands.{Island}
use Rattle.mst_net.specs.tables.Tables.{Net, Numbers}
use Rattle.mst_net.specs.tables.Contents.{IsNumbered}
use Rattle.mst_view.specs.Aggregation.{same_name}
use Rattle.mst_vlan.proofs.forest_lemmas.Lists.{some_is}
use Rattle.mst_vlan.specs.declared.island.Island.{Island as IslandNos}

-- ---- names
module _ (net : Net) (numbers : Numbers) (numbered : IsNumbered net numbers) (name : List ℕ) (n : ℕ) (has : fin.get numbers.bridges name ≡ Some n) where
  same_test : (m : ℕ) (other : List ℕ) → Some m ≡ fin.get numbers.bridges other → nat_eq n m ≡ same_name name other
  same_test m other e = go (nat_eq n m) refl (same_name name other) refl
    where
      go : (b : Bool) → nat_eq n m ≡ b → (d : Bool) → same_name name other ≡ d → nat_eq n m ≡ same_name name other
      go true f true g = f ∙ sym g
      go false f false g = f ∙ sym g
      go true f false g =
          let same : name ≡ other = numbered.bridges_differ name other n has (sym e ∙ ap Some (sym (eqb-true n m f))) in
          absurd (true≢false (sym ((bytes_decides name other).1 same) ∙ g))
      go false f true g =
          let same : name ≡ other = (bytes_decides name other).0 g in
          let number : n ≡ m = some_is n m (sym has ∙ ap (fin.get numbers.bridges) same ∙ sym e) in
          absurd (true≢false (sym (eq-eqb n m number) ∙ f))

  any_same : (ms : List ℕ) (others : List (List ℕ)) → map Some ms ≡ map (fin.get numbers.bridges) others → list_any (nat_eq n) ms ≡ list_any (same_name name) others
  any_same [] [] e = refl
  any_same [] (x ∷ xs) e = cc
  any_same (m ∷ ms) [] e = cc
  any_same (m ∷ ms) (x ∷ xs) e =
      let first : Some m ≡ fin.get numbers.bridges x = cc in
      let others : map Some ms ≡ map (fin.get numbers.bridges) xs = cc in
      λ i. same_test m x first i || any_same ms xs others i

  pub homes_same : (k : ℕ) (islands : List IslandNos) (named : List (Island (List ℕ) (List ℕ)))
      → map (λ (i : IslandNos). map Some i.bridges) islands ≡ map (λ (j : Island (List ℕ) (List ℕ)). map (fin.get numbers.bridges) j.bridges) named
      → position_from (λ (i : IslandNos). list_any (nat_eq n) i.bridges) k islands ≡ position_from (λ (j : Island (List ℕ) (List ℕ)). list_any (same_name name) j.bridges) k named
  homes_same k [] [] e = refl
  homes_same k [] (j ∷ named) e = cc
  homes_same k (i ∷ islands) [] e = cc
  homes_same k (x ∷ islands) (y ∷ named) e =
      let first : map Some x.bridges ≡ map (fin.get numbers.bridges) y.bridges = cc in
      let others : map (λ (i : IslandNos). map Some i.bridges) islands ≡ map (λ (j : Island (List ℕ) (List ℕ)). map (fin.get numbers.bridges) j.bridges) named = cc in
      λ i. cond (any_same x.bridges y.bridges first i) (Some k) (homes_same (k + 1) islands named others i)

-- ---- one more island
module _ {A : Type 0} (test : A → Bool) where
  position_push : (k : ℕ) (xs : List A) (x : A) → position_from test k (xs ++ x ∷ []) ≡ option_or (position_from test k xs) (cond (test x) (Some (k + length xs)) None)
  position_push k [] x = let none : k ≡ k + 0 = omega arith in ap (λ m. cond (test x) (Some m) None) none
  position_push k (y ∷ xs) x = go (test y) (position_push (k + 1) xs x)
    where
      go : (b : Bool) → position_from test (k + 1) (xs ++ x ∷ []) ≡ option_or (position_from test (k + 1) xs) (cond (test x) (Some ((k + 1) + length xs)) None)
          → cond b (Some k) (position_from test (k + 1) (xs ++ x ∷ [])) ≡ option_or (cond b (Some k) (position_from test (k + 1) xs)) (cond (test x) (Some (k + length (y ∷ xs))) None)
      go true rest = refl
      go false rest =
          let same : (k + 1) + length xs ≡ k + length (y ∷ xs) = omega arith in
          rest ∙ ap (λ m. option_or (position_from test (k + 1) xs) (cond (test x) (Some m) None)) same

  pub position_more : (xs : List A) (i : ℕ) (x : A) → i < length xs → x ≡ get_or xs i x → length (take i xs) ≡ i
      → position_from test 0 (take (i + 1) xs) ≡ option_or (position_from test 0 (take i xs)) (cond (test x) (Some i) None)
  position_more xs i x l is long =
      let place : 0 + length (take i xs) ≡ i = omega arith in
      ap (position_from test 0) (take_more xs i x l ∙ ap (λ y. take i xs ++ y ∷ []) (sym is)) ∙ position_push 0 (take i xs) x
      ∙ ap (λ m. option_or (position_from test 0 (take i xs)) (cond (test x) (Some m) None)) place

-- ---- one more bridge
or_false : (a : Bool) → (a || false) ≡ a
or_false true = refl
or_false false = refl

or_true : (a : Bool) → (a || true) ≡ true
or_true true = refl
or_true false = refl

any_more : (q : ℕ) (xs : List ℕ) (i x : ℕ) → i < length xs → x ≡ get_or xs i x → list_any (nat_eq q) (take (i + 1) xs) ≡ (list_any (nat_eq q) (take i xs) || nat_eq q x)
any_more q xs i x l is =
    ap (list_any (nat_eq q)) (take_more xs i x l ∙ ap (λ y. take i xs ++ y ∷ []) (sym is)) ∙ list_any-append (nat_eq q) (take i xs) (x ∷ [])
    ∙ ap (λ b. list_any (nat_eq q) (take i xs) || b) (or_false (nat_eq q x))

module _ (place : ℕ) where
  abbrev pub with_place : Option ℕ → Bool → Option ℕ
  with_place old b = option_or old (cond b (Some place) None)

  some_or : (old : Option ℕ) → is_some (with_place old true) ≡ true
  some_or None = refl
  some_or (Some x) = refl

  -- where there was none
  was_none : (old : Option ℕ) (a : Bool) → is_some (with_place old a) ≡ false → Some place ≡ with_place old true
  was_none None a e = refl
  was_none (Some x) a e = absurd (true≢false e)

  -- where there was one
  was_some : (old : Option ℕ) (a : Bool) → is_some (with_place old a) ≡ true → with_place old a ≡ with_place old true
  was_some (Some x) a e = refl
  was_some None true e = refl
  was_some None false e = absurd (true≢false (sym e))

  module _ (xs : List ℕ) (i x : ℕ) (l : i < length xs) (is : x ≡ get_or xs i x) (old now : ℕ → Option ℕ) (before : (q : ℕ) → now q ≡ with_place (old q) (list_any (nat_eq q) (take i xs))) (q : ℕ) where
    abbrev a : Bool
    a = list_any (nat_eq q) (take i xs)

    same : (b : Bool) → nat_eq q x ≡ b → with_place (old q) (a || b) ≡ with_place (old q) (list_any (nat_eq q) (take (i + 1) xs))
    same b e = ap (λ d. with_place (old q) (a || d)) (sym e) ∙ ap (with_place (old q)) (sym (any_more q xs i x l is))

    -- the bridge had no place
    pub put : is_some (now x) ≡ false → cond (nat_eq x q) (Some place) (now q) ≡ with_place (old q) (list_any (nat_eq q) (take (i + 1) xs))
    put none = go (nat_eq x q) refl (nat_eq q x) refl
      where
        go : (b : Bool) → nat_eq x q ≡ b → (d : Bool) → nat_eq q x ≡ d → cond b (Some place) (now q) ≡ with_place (old q) (list_any (nat_eq q) (take (i + 1) xs))
        go true e true f =
            let one : x ≡ q = eqb-true x q e in
            was_none (old q) a (ap is_some (sym (before q)) ∙ ap (λ n. is_some (now n)) (sym one) ∙ none) ∙ ap (with_place (old q)) (sym (or_true a)) ∙ same true f
        go false e false f = before q ∙ ap (with_place (old q)) (sym (or_false a)) ∙ same false f
        go true e false f = let one : x ≡ q = eqb-true x q e in absurd (true≢false (sym (eq-eqb q x (sym one)) ∙ f))
        go false e true f = let one : q ≡ x = eqb-true q x f in absurd (true≢false (sym (eq-eqb x q (sym one)) ∙ e))

    -- it had one
    pub kept : is_some (now x) ≡ true → now q ≡ with_place (old q) (list_any (nat_eq q) (take (i + 1) xs))
    kept some = go (nat_eq q x) refl
      where
        go : (d : Bool) → nat_eq q x ≡ d → now q ≡ with_place (old q) (list_any (nat_eq q) (take (i + 1) xs))
        go true f =
            let one : q ≡ x = eqb-true q x f in
            before q ∙ was_some (old q) a (ap is_some (sym (before q)) ∙ ap (λ n. is_some (now n)) one ∙ some) ∙ ap (with_place (old q)) (sym (or_true a)) ∙ same true f
        go false f = before q ∙ ap (with_place (old q)) (sym (or_false a)) ∙ same false f

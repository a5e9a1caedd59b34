-- What is set by tree, as it is taken away tree by tree, in the trees that are marked.
use Rattle.std.proofs.Common.{◌≡◌, ◌+◌, ◌<◌, ◌≤◌, ◌⊎◌, inl, inr, ℕ, Bool, true, false, cond, ◌&&◌, Option, None, nat_lt, nat_le, nat_eq, refl, sym, ap, ◌∙◌, arith, true≢false}
use Rattle.std.proofs.lemmas.Bool.{cases_lt, cases_eq, lt-ltb, le-ltb, eq-eqb, ne_eqb, le-leb, lt-leb}

-- what is left where it was taken away in the trees of flags that are below a number
abbrev pub left_below : {X : Type 0} → Bool → Bool → ℕ → ℕ → Option X → Option X
left_below same flag tree number o = cond (same && (flag && nat_lt tree number)) None o

-- nothing is taken away below tree 0
pub none_yet : {X : Type 0} (same flag : Bool) (tree : ℕ) (o : Option X) → o ≡ left_below same flag tree 0 o
none_yet true true tree o = ap (λ b. cond b None o) (sym (le-ltb tree 0 (omega arith)))
none_yet true false tree o = refl
none_yet false flag tree o = refl

taken : {X : Type 0} (b : Bool) (o : Option X) → cond b None (cond true None o) ≡ None
taken true o = refl
taken false o = refl

-- what is taken away in the next tree, which is marked, joins what is taken away below it
pub one_tree_more : {X : Type 0} (same flag : Bool) (tree next : ℕ) (o : Option X) → (next ≡ tree → flag ≡ true) → cond (same && nat_eq next tree) None (left_below same flag tree next o) ≡ left_below same flag tree (next + 1) o
one_tree_more false flag tree next o marked = refl
one_tree_more true false tree next o marked = ap (λ b. cond b None o) (ne_eqb next tree (λ here. true≢false (sym (marked here))))
one_tree_more true true tree next o marked = by (cases_lt tree next) (cases_eq next tree)
  where
    by : (tree < next) ⊎ (next ≤ tree) → (next ≡ tree) ⊎ (next ≡ tree → ⊥) → cond (nat_eq next tree) None (cond (nat_lt tree next) None o) ≡ cond (nat_lt tree (next + 1)) None o
    by (inl below) _ =
        ap (λ b. cond (nat_eq next tree) None (cond b None o)) (lt-ltb tree next below) ∙ taken (nat_eq next tree) o
        ∙ ap (λ b. cond b None o) (sym (lt-ltb tree (next + 1) (omega arith)))
    by (inr past) (inl here) =
        ap (λ b. cond b None (cond (nat_lt tree next) None o)) (eq-eqb next tree here)
        ∙ ap (λ b. cond b None o) (sym (lt-ltb tree (next + 1) (omega (arith, here))))
    by (inr past) (inr other) =
        ap (λ b. cond b None (cond (nat_lt tree next) None o)) (ne_eqb next tree other)
        ∙ ap (λ b. cond b None o) (le-ltb tree next past)
        ∙ ap (λ b. cond b None o) (sym (le-ltb tree (next + 1) (omega (arith, other))))

-- trees that are not marked are passed by
pub passed_by : {X : Type 0} (same flag : Bool) (tree number next : ℕ) (o : Option X) → number ≤ next → (number ≤ tree → tree < next → flag ≡ false) → left_below same flag tree number o ≡ left_below same flag tree next o
passed_by false flag tree number next o up unmarked = refl
passed_by true false tree number next o up unmarked = refl
passed_by true true tree number next o up unmarked = ap (λ b. cond b None o) (by (cases_lt tree number) (cases_lt tree next))
  where
    by : (tree < number) ⊎ (number ≤ tree) → (tree < next) ⊎ (next ≤ tree) → nat_lt tree number ≡ nat_lt tree next
    by (inl below) _ = lt-ltb tree number below ∙ sym (lt-ltb tree next (omega arith))
    by (inr past) (inl below) = absurd (true≢false (unmarked past below))
    by (inr past) (inr above) = le-ltb tree number past ∙ sym (le-ltb tree next above)

-- and in the end all trees are passed
pub all_trees : {X : Type 0} (same flag : Bool) (tree end : ℕ) (o : Option X) → end ≡ 4095 → left_below same flag tree end o ≡ cond (same && (flag && nat_le tree 4094)) None o
all_trees same flag tree end o e = ap (λ b. cond (same && (flag && b)) None o) (by (cases_lt tree 4095))
  where
    by : (tree < 4095) ⊎ (4095 ≤ tree) → nat_lt tree end ≡ nat_le tree 4094
    by (inl below) = lt-ltb tree end (omega (arith, e)) ∙ sym (le-leb tree 4094 (omega arith))
    by (inr past) = le-ltb tree end (omega (arith, e)) ∙ sym (lt-leb tree 4094 (omega arith))

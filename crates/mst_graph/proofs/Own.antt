-- Places that are each its own.
use Rattle.std.proofs.Common.{◌≡◌, ℕ, ◌+◌, ◌<◌, ◌⊎◌, inl, inr, List, [], ◌∷◌, ◌++◌, length, get_or, refl, sym, ap, subst, ◌∙◌, arith}
use Rattle.std.proofs.lemmas.Bool.{cases_lt}
use Rattle.std.proofs.lemmas.List.{length_push, get_or_push, get_or_append_left}

pub record Own (count : ℕ) (labels : List ℕ) : Type 0 where
  pub as_long : length labels ≡ count
  pub own : (place : ℕ) → place < count → get_or labels place 0 ≡ place

pub none_own : Own 0 []
none_own = record { as_long = refl; own = λ place below. absurd (omega arith) }

before_or_last : (place count : ℕ) → place < count + 1 → (place < count) ⊎ (place ≡ count)
before_or_last place count h = elim (cases_lt place count) [ inl a ↦ inl a | inr b ↦ inr (omega arith) ]

pub one_own : (count : ℕ) (labels : List ℕ) → Own count labels → Own (count + 1) (labels ++ count ∷ [])
one_own count labels before = record {
  as_long = length_push labels count ∙ ap (λ n. n + 1) before.as_long;
  own = λ place below. elim (before_or_last place count below) [
    | inl a ↦ get_or_append_left labels (count ∷ []) 0 place (subst (λ n. place < n) (sym before.as_long) a) ∙ before.own place a
    | inr e ↦ get_or_push labels count 0 place (before.as_long ∙ sym e) ∙ sym e
  ];
}

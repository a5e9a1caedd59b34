-- The step of a loop that keeps the best so far.
use Rattle.std.proofs.Common.{◌≡◌, ℕ, ◌+◌, ◌<◌, Option, Some, None, Bool, true, false, cond, refl, sym, ◌∙◌, ap, inl, inr, ◌⊎◌, arith}
use Rattle.std.specs.declared.cmp.Ordering.{Ordering}
use Rattle.std.specs.Ordering.{is_gt}
use Rattle.std.specs.Cmp.{IsTotalOrder}
use Rattle.std.proofs.lemmas.Cmp.{tied_itself, upto}
use Rattle.mst_topology.specs.Best.{lesser_of, IsBestOf}
use Rattle.mst_topology.proofs.Orders.{not_less, less_is_upto}
use Rattle.mst_topology.proofs.Search.{some_is}

pub below_or_here : (k i : ℕ) → k < i + 1 → (k < i) ⊎ (k ≡ i)
below_or_here k i l = grind arith

module _ {V : Type 0} (order : V → V → Ordering) (o : IsTotalOrder order) (Has : ℕ → V → Type 0) (i : ℕ) where
  above : (x y : V) → is_gt (order x y) ≡ true → is_gt (order y x) ≡ false
  above x y g = not_less o x y (λ l. let f = less_is_upto o x y l in cc)

  as_good : (x y : V) → x ≡ y → is_gt (order x y) ≡ false
  as_good x y e = ap is_gt (ap (order x) (sym e) ∙ tied_itself o x)

  pub best_more : (b : Option (ℕ × V)) (v : Option V) → IsBestOf order Has i b
      → ((x : V) → v ≡ Some x → Has i x) → ((y : V) → Has i y → v ≡ Some y)
      → IsBestOf order Has (i + 1) (lesser_of order b i v)
  best_more None None h is all = λ k y l has. elim (below_or_here k i l) [
    | inl below ↦ h k y below has
    | inr at ↦ (let f = all y (rw at at has) in cc)
  ]
  best_more None (Some x) h is all = (
    is x refl,
    λ k y l has. elim (below_or_here k i l) [
      | inl below ↦ absurd (h k y below has)
      | inr at ↦ as_good x y (some_is x y (all y (rw at at has)))
    ],
  )
  best_more (Some b) None h is all = (
    h.0,
    λ k y l has. elim (below_or_here k i l) [
      | inl below ↦ h.1 k y below has
      | inr at ↦ (let f = all y (rw at at has) in cc)
    ],
  )
  best_more (Some b) (Some x) h is all = go (is_gt (order b.1 x)) refl
    where
      go : (g : Bool) → is_gt (order b.1 x) ≡ g → IsBestOf order Has (i + 1) (cond g (Some (i, x)) (Some b))
      go true g = (
        is x refl,
        λ k y l has. elim (below_or_here k i l) [
          | inl below ↦ upto o x b.1 y (above b.1 x g) (h.1 k y below has)
          | inr at ↦ as_good x y (some_is x y (all y (rw at at has)))
        ],
      )
      go false g = (
        h.0,
        λ k y l has. elim (below_or_here k i l) [
          | inl below ↦ h.1 k y below has
          | inr at ↦ (let same : x ≡ y = some_is x y (all y (rw at at has)) in ap (λ z. is_gt (order b.1 z)) (sym same) ∙ g)
        ],
      )

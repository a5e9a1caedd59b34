-- How a vector compares with the lower one of a bridge's vector and of what is due.
use Rattle.std.proofs.Common.{◌≡◌, Option, Some, None, Bool, true, false, cond, not, refl, ◌∙◌, ap, inl, inr, ◌⊎◌, Less, Equal, Greater}
use Rattle.std.specs.declared.cmp.Ordering.{Ordering}
use Rattle.std.specs.Ordering.{is_gt, is_eq, ordering_reverse}
use Rattle.std.specs.Cmp.{IsTotalOrder}
use Rattle.std.proofs.lemmas.Cmp.{upto}
use Rattle.mst_topology.specs.Repair.{is_above, key_of}
use Rattle.mst_topology.proofs.Orders.{less_is_upto, less_upto}
use Rattle.mst_settle.specs.Mixed.{is_upto, lower_by}

not_false : (c : Bool) → not c ≡ false → c ≡ true
not_false true e = refl
not_false false e = cc

not_true : (c : Bool) → not c ≡ true → c ≡ false
not_true true e = cc
not_true false e = refl

module _ {V : Type 0} (order : V → V → Ordering) where
  pub high_above : (x : V) (b : Option V) → is_upto order (Some x) b ≡ false → is_above order (Some x) b ≡ true
  high_above x b = not_false (is_above order (Some x) b)

  pub low_upto : (x : V) (b : Option V) → is_upto order (Some x) b ≡ true → is_above order (Some x) b ≡ false
  low_upto x b = not_true (is_above order (Some x) b)

  pub upto_some : (o b : Option V) → is_upto order o b ≡ true → (x : V) × (o ≡ Some x)
  upto_some None b e = cc
  upto_some (Some x) b e = (x, refl)

  -- the key of a bridge at which nothing is due, and of one at which something above its vector is
  pub key_none : (s : Option V) → key_of order s None ≡ s
  key_none None = refl
  key_none (Some x) = refl

  pub key_less : (z d : V) → order z d ≡ Less → key_of order (Some z) (Some d) ≡ Some z
  key_less z d e = ap (λ r. cond (is_eq r) None (cond (is_gt r) (Some d) (Some z))) e

  pub lower_same : (s : Option V) → lower_by s s ≡ s
  lower_same None = refl
  lower_same (Some x) = refl

  module _ (o : IsTotalOrder order) where
    gt_less : (x y : V) → is_gt (order y x) ≡ true → order x y ≡ Less
    gt_less x y h = go (order x y) refl
      where
        go : (r : Ordering) → order x y ≡ r → order x y ≡ Less
        go Less e = e
        go Equal e = let back : is_gt (order y x) ≡ false = ap is_gt (o.antisymm y x ∙ ap ordering_reverse e) in cc
        go Greater e = let back : is_gt (order y x) ≡ false = ap is_gt (o.antisymm y x ∙ ap ordering_reverse e) in cc

    less_gt : (x y : V) → order x y ≡ Less → is_gt (order y x) ≡ true
    less_gt x y e = ap is_gt (o.antisymm y x ∙ ap ordering_reverse e)

    -- `<` as `≤`
    pub gt_upto : (x y : V) → is_gt (order y x) ≡ true → is_gt (order x y) ≡ false
    gt_upto x y h = less_is_upto o x y (gt_less x y h)

    pub above_upto : (z d y : V) → order z d ≡ Less → is_gt (order d y) ≡ false → is_gt (order y z) ≡ true
    above_upto z d y l h = less_gt z y (less_upto o z d y l h)

    pub key_above : (s : Option V) (y : V) → is_above order (Some y) s ≡ true → key_of order s (Some y) ≡ s
    key_above None y h = cc
    key_above (Some z) y h = key_less z y (gt_less z y h)

    -- what is at most the lower one is at most what is due, and at most what is above the bridge's vector
    pub low_due : (s : Option V) (d x : V) → is_above order (Some x) (lower_by (key_of order s (Some d)) s) ≡ false → is_gt (order x d) ≡ false
    low_due None d x h = h
    low_due (Some z) d x h = go (order z d) refl h
      where
        go : (r : Ordering) → order z d ≡ r → is_above order (Some x) (lower_by (cond (is_eq r) None (cond (is_gt r) (Some d) (Some z))) (Some z)) ≡ false → is_gt (order x d) ≡ false
        go Less e h = upto o x z d h (less_is_upto o z d e)
        go Equal e h = upto o x z d h (ap is_gt e)
        go Greater e h = h

    pub low_above : (s : Option V) (x y : V) → is_above order (Some x) (lower_by s s) ≡ false → is_above order (Some y) s ≡ true → is_gt (order x y) ≡ false
    low_above None x y h k = cc
    low_above (Some z) x y h k = upto o x z y h (gt_upto z y k)

    -- the lower one is what is due, or the bridge's vector, which is less
    pub lower_is : ((x y : V) → order x y ≡ Equal → x ≡ y) → (s : Option V) (d : V) → (lower_by (key_of order s (Some d)) s ≡ Some d) ⊎ ((z : V) × (s ≡ Some z) × (order z d ≡ Less))
    lower_is equal None d = inl refl
    lower_is equal (Some z) d = go (order z d) refl
      where
        go : (r : Ordering) → order z d ≡ r → (lower_by (cond (is_eq r) None (cond (is_gt r) (Some d) (Some z))) (Some z) ≡ Some d) ⊎ ((y : V) × (Some z ≡ Some y) × (order y d ≡ Less))
        go Less e = inr (z, refl, e)
        go Equal e = inl (ap Some (equal z d e))
        go Greater e = inl refl

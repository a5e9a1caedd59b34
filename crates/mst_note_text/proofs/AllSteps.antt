-- Steps to parents, whatever regions they go through: those that are counted by places are those in the tree.
use Rattle.std.proofs.Common.{◌≡◌, refl, sym, ap, subst, ◌∙◌, ℕ, zero, suc, ◌<◌, false, List, [], ◌∷◌, length, get_or, Option, Some, None, arith}
use Rattle.std.specs.Option.{option_map}
use Rattle.std.proofs.lemmas.List.{length-map}
use Rattle.mst_roles.specs.forest.topology.Topology.{KeyTests}
use Rattle.mst_roles.specs.forest.nested.Trees.{Trees, IsSettled}
use Rattle.mst_note_text.specs.Chains.{InternalChain, top, up}
use Rattle.mst_note_text.specs.Children.{HasSteps}
use Rattle.mst_note_text.specs.Depths.{ParentIn}
use Rattle.mst_note_text.specs.Places.{IsParent, WithinAt, IsForest, HasDepths}
use Rattle.mst_note_text.specs.Listed.{IsListed}
use Rattle.mst_note_text.specs.SeenTree.{as_within, all_within}
use Rattle.mst_note_text.specs.declared.parent.Parent.{Parent}
use Rattle.mst_note_text.specs.declared.parent.Depths.{Depths}
use Rattle.mst_note_text.proofs.Heights.{falls}

-- ---- a parent, with no step between regions
mapped : (parents : List (Option Parent)) (n : ℕ) → get_or (all_within parents) n None ≡ option_map as_within (get_or parents n None)
mapped [] zero = refl
mapped [] (suc n) = refl
mapped (p ∷ parents) zero = refl
mapped (p ∷ parents) (suc n) = mapped parents n

is_within : (parents : List (Option Parent)) (n : ℕ) (p : Parent) → IsParent parents n p → WithinAt (all_within parents) n p.place
is_within parents n p e = mapped parents n ∙ ap (option_map as_within) e

from_within : (parents : List (Option Parent)) (n : ℕ) (p : Parent) → IsParent (all_within parents) n p → (q : Parent) × IsParent parents n q × (q.place ≡ p.place)
from_within parents n p e = go (get_or parents n None) refl (sym (mapped parents n) ∙ e)
  where
    some_place : (x y : Parent) → Some x ≡ Some y → x.place ≡ y.place
    some_place x y e = cc

    none_some : (x : Parent) → option_map as_within None ≡ Some x → ⊥
    none_some x e = cc

    go : (o : Option Parent) → get_or parents n None ≡ o → option_map as_within o ≡ Some p → (q : Parent) × IsParent parents n q × (q.place ≡ p.place)
    go None f h = absurd (none_some p h)
    go (Some q) f h = (q, f, some_place (as_within q) p h)

-- ---- of a tree
module _ {N L K : Type 0} (f : Trees N L K) (tests : KeyTests N L) (ok : IsSettled f) (bridge : ℕ → N) (parents : List (Option Parent)) (i : ℕ) (list : IsListed f i bridge parents) where
  pub within_forest : IsForest (all_within parents)
  within_forest = let h = falls f tests ok i in record {
    height = λ n. h.0 (bridge n);
    in_list = λ n p s.
        let q = from_within parents n p s in
        let low = list.in_list n q.0 q.1 in
        let same : q.0.place ≡ p.place = q.2 in
        let long = length-map parents (option_map as_within) in
        omega arith;
    falls = λ n p s.
        let q = from_within parents n p s in
        subst (λ k. h.0 (bridge k) < h.0 (bridge n)) q.2 (h.1 (bridge n) (bridge q.0.place) (list.is_parent n q.0 q.1));
  }

  is_step : (n k : ℕ) → WithinAt (all_within parents) n k → ParentIn f i (bridge n) (bridge k)
  is_step n k s = let q = from_within parents n (record { place = k; is_between = false }) s in subst (λ j. ParentIn f i (bridge n) (bridge j)) q.2 (list.is_parent n q.0 q.1)

  step_low : (n k : ℕ) → WithinAt (all_within parents) n k → k < length parents
  step_low n k s = let q = from_within parents n (record { place = k; is_between = false }) s in subst (λ j. j < length parents) q.2 (list.in_list n q.0 q.1)

  none_above : (n : ℕ) → n < length parents → ((k : ℕ) → WithinAt (all_within parents) n k → ⊥) → (k : N) → ParentIn f i (bridge n) k → ⊥
  none_above n low none k s = let p = list.all n k low s in none p.0.place (is_within parents n p.0 p.1)

  step_chain : {root n d : ℕ} → InternalChain (WithinAt (all_within parents)) root n d → n < length parents → InternalChain (ParentIn f i) (bridge root) (bridge n) d
  step_chain {root} (top none) low = top (none_above root low none)
  step_chain (up {n = n} {k = k} s c) low = up (is_step n k s) (step_chain c (step_low n k s))

  pub steps_are : (n : ℕ) (d : Depths) → n < length parents → HasDepths (all_within parents) n d → HasSteps f i (bridge n) d.internal
  steps_are n d low h = record { has_tree = list.has_tree n low; top = bridge h.regional_root; chain = step_chain h.internal low }

  -- a bridge whose place has no parent has none
  pub no_parent : (n : ℕ) → n < length parents → get_or parents n None ≡ None → (k : N) → ParentIn f i (bridge n) k → ⊥
  no_parent n low none k s = let p = list.all n k low s in none_some p.0 (sym none ∙ p.1)
    where
      none_some : (x : Parent) → None ≡ Some x → ⊥
      none_some x e = cc

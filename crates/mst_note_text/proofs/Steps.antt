-- The depths of a bridge with no parent, and those that follow from its parent's.
use Rattle.std.proofs.Common.{◌≡◌, sym, ◌∙◌, ap, subst, ℕ, List, Option, Some, None, Bool, true, false, add-one, get_or}
use Rattle.mst_note_text.specs.Chains.{InternalChain, top, up, ExternalChain, last, within, across}
use Rattle.mst_note_text.specs.Places.{IsParent, WithinAt, BetweenAt, HasDepths, no_depth, deeper_of}
use Rattle.mst_note_text.specs.declared.parent.Parent.{Parent}
use Rattle.mst_note_text.specs.declared.parent.Depths.{Depths}
use Rattle.mst_note_text.proofs.Chains.{AreSides, one_internal, one_external}

module _ (parents : List (Option Parent)) where
  pub alone : (n : ℕ) → get_or parents n None ≡ None → HasDepths parents n no_depth
  alone n none = record {
    regional_root = n;
    internal = top (λ k s. no_parent (record { place = k; is_between = false }) s);
    root = n;
    external = last (λ k s. no_parent (record { place = k; is_between = false }) s) (λ k s. no_parent (record { place = k; is_between = true }) s);
  }
    where
      no_parent : (p : Parent) → IsParent parents n p → ⊥
      no_parent p s = cc

  some_same : (x y : Parent) → Some x ≡ Some y → x ≡ y
  some_same x y e = cc

  same_parent : (n : ℕ) (x y : Parent) → IsParent parents n x → IsParent parents n y → x ≡ y
  same_parent n x y s u = some_same x y (sym s ∙ u)

  is_side : (n place k : ℕ) → IsParent parents n (record { place = place; is_between = true }) → WithinAt parents n k → ⊥
  is_side n place k s u =
      let here : Parent = record { place = place; is_between = true } in
      let there : Parent = record { place = k; is_between = false } in
      let same : here ≡ there = same_parent n here there s u in
      let sides : true ≡ false = ap (λ (p : Parent). p.is_between) same in
      cc

  list_sides : AreSides (WithinAt parents) (BetweenAt parents)
  list_sides = record {
    one_within = λ n k j s u. ap (λ (p : Parent). p.place) (same_parent n (record { place = k; is_between = false }) (record { place = j; is_between = false }) s u);
    one_between = λ n k j s u. ap (λ (p : Parent). p.place) (same_parent n (record { place = k; is_between = true }) (record { place = j; is_between = true }) s u);
    apart = λ n k j s u. is_side n j k u s;
  }

  pub one_pair : (n : ℕ) (d e : Depths) → HasDepths parents n d → HasDepths parents n e → d ≡ e
  one_pair n d e x y =
      let internal : d.internal ≡ e.internal = (one_internal list_sides.one_within x.internal y.internal).steps in
      let external : d.external ≡ e.external = (one_external list_sides x.external y.external).steps in
      λ i. record { internal = internal i; external = external i }

  pub deeper : (n place : ℕ) (is_between : Bool) (d : Depths) → IsParent parents n (record { place = place; is_between = is_between }) → HasDepths parents place d → HasDepths parents n (deeper_of is_between d)
  deeper n place false d s h = record {
    regional_root = h.regional_root;
    internal = subst (InternalChain (WithinAt parents) h.regional_root n) (sym (add-one d.internal)) (up s h.internal);
    root = h.root;
    external = within s h.external;
  }
  deeper n place true d s h = record {
    regional_root = n;
    internal = top (λ k u. is_side n place k s u);
    root = h.root;
    external = subst (ExternalChain (WithinAt parents) (BetweenAt parents) h.root n) (sym (add-one d.external)) (across s h.external);
  }

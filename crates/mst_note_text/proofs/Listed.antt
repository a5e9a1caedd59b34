-- The depths that follow in a list of parents are those of the bridges in the tree.
use Rattle.std.proofs.Common.{refl, subst, ℕ, ◌<◌, List, length, Option, Bool, true, false}
use Rattle.mst_roles.specs.forest.topology.Topology.{KeyTests}
use Rattle.mst_roles.specs.forest.nested.Trees.{Trees, IsSettled, SameRegion}
use Rattle.mst_note_text.specs.Chains.{InternalChain, top, up, ExternalChain, last, within, across}
use Rattle.mst_note_text.specs.Depths.{ParentWithin, ParentBetween, InternalDepth, ExternalDepth}
use Rattle.mst_note_text.specs.Places.{IsParent, WithinAt, BetweenAt, IsForest, HasDepths}
use Rattle.mst_note_text.specs.Listed.{IsListed}
use Rattle.mst_note_text.specs.declared.parent.Parent.{Parent}
use Rattle.mst_note_text.specs.declared.parent.Depths.{Depths}
use Rattle.mst_note_text.proofs.Regions.{one_parent_in}
use Rattle.mst_note_text.proofs.Heights.{falls}

module _ {N L K : Type 0} (f : Trees N L K) (tests : KeyTests N L) (ok : IsSettled f) (bridge : ℕ → N) (parents : List (Option Parent)) where
  pub forest : (i : ℕ) → IsListed f i bridge parents → IsForest parents
  forest i list = let h = falls f tests ok i in record {
    height = λ n. h.0 (bridge n);
    in_list = list.in_list;
    falls = λ n p s. h.1 (bridge n) (bridge p.place) (list.is_parent n p s);
  }

  module _ (i : ℕ) (list : IsListed f i bridge parents) where
    is_within : (n k : ℕ) → WithinAt parents n k → ParentWithin f i (bridge n) (bridge k)
    is_within n k s = record {
      is_parent = list.is_parent n (record { place = k; is_between = false }) s;
      same_region = list.within n (record { place = k; is_between = false }) s refl;
    }

    -- no parent in the list's region, so none in the tree's
    none_within : (n : ℕ) → n < length parents → ((k : ℕ) → WithinAt parents n k → ⊥) → (k : N) → ParentWithin f i (bridge n) k → ⊥
    none_within n low none k s = (let p = list.all n k low s.is_parent in go p.0.place p.0.is_between p.1)
      where
        go : (place : ℕ) (c : Bool) → IsParent parents n (record { place = place; is_between = c }) → ⊥
        go place false u = none place u
        go place true u = list.between n (record { place = place; is_between = true }) u refl (subst (SameRegion f (bridge n)) (one_parent_in f tests ok i (bridge n) k (bridge place) s.is_parent (list.is_parent n (record { place = place; is_between = true }) u)) s.same_region)

    internal_chain : {root n d : ℕ} → InternalChain (WithinAt parents) root n d → n < length parents → InternalChain (ParentWithin f i) (bridge root) (bridge n) d
    internal_chain {root} (top none) low = top (none_within root low none)
    internal_chain (up {n = n} {k = k} s c) low = up (is_within n k s) (internal_chain c (list.in_list n (record { place = k; is_between = false }) s))

    pub internal : (n : ℕ) (d : Depths) → n < length parents → HasDepths parents n d → InternalDepth f i (bridge n) d.internal
    internal n d low h = record { has_tree = list.has_tree n low; root = bridge h.regional_root; chain = internal_chain h.internal low }

  module _ (list : IsListed f 0 bridge parents) where
    is_between : (n k : ℕ) → BetweenAt parents n k → ParentBetween f (bridge n) (bridge k)
    is_between n k s = record {
      is_parent = list.is_parent n (record { place = k; is_between = true }) s;
      other_region = list.between n (record { place = k; is_between = true }) s refl;
    }

    none_between : (n : ℕ) → n < length parents → ((k : ℕ) → BetweenAt parents n k → ⊥) → (k : N) → ParentBetween f (bridge n) k → ⊥
    none_between n low none k s = (let p = list.all n k low s.is_parent in go p.0.place p.0.is_between p.1)
      where
        go : (place : ℕ) (c : Bool) → IsParent parents n (record { place = place; is_between = c }) → ⊥
        go place true u = none place u
        go place false u = s.other_region (subst (SameRegion f (bridge n)) (one_parent_in f tests ok 0 (bridge n) (bridge place) k (list.is_parent n (record { place = place; is_between = false }) u) s.is_parent) (list.within n (record { place = place; is_between = false }) u refl))

    external_chain : {root n d : ℕ} → ExternalChain (WithinAt parents) (BetweenAt parents) root n d → n < length parents → ExternalChain (ParentWithin f 0) (ParentBetween f) (bridge root) (bridge n) d
    external_chain {root} (last none alone) low = last (none_within 0 list root low none) (none_between root low alone)
    external_chain (within {n = n} {k = k} s c) low = within (is_within 0 list n k s) (external_chain c (list.in_list n (record { place = k; is_between = false }) s))
    external_chain (across {n = n} {k = k} s c) low = across (is_between n k s) (external_chain c (list.in_list n (record { place = k; is_between = true }) s))

    pub external : (n : ℕ) (d : Depths) → n < length parents → HasDepths parents n d → ExternalDepth f (bridge n) d.external
    external n d low h = record { has_bridge = list.has_tree n low; root = bridge h.root; chain = external_chain h.external low }

-- A walk along a chain of ports, which keeps the lowest of what they have.
use Rattle.std.proofs.Common.{◌≡◌, ℕ, ◌+◌, ◌<◌, ◌≤◌, List, length, Option, Some, None, Bool, true, false, cond, refl, sym, ◌∙◌, ap, subst, inl, inr, ◌⊎◌, arith}
use Rattle.std.specs.declared.cmp.Ordering.{Ordering}
use Rattle.std.specs.Ordering.{is_gt}
use Rattle.std.specs.Cmp.{IsTotalOrder}
use Rattle.std.specs.List.{Contains}
use Rattle.std.proofs.lemmas.Cmp.{tied_itself, upto}
use Rattle.mst_topology.specs.Topology.{TreePort}
use Rattle.mst_topology.specs.declared.heard.Heard.{Heard}
use Rattle.mst_topology.specs.Settling.{IsLowest, lower_of, lower_heard}
use Rattle.mst_topology.specs.Chains.{IsAt, upto_place, IsLast}
use Rattle.mst_topology.proofs.Orders.{not_less, less_is_upto}
use Rattle.mst_topology.proofs.Chains.{one_there}

-- of a port at this place or a later one
abbrev pub From : {P V : Type 0} → List (TreePort ℕ ℕ ℕ P) → (TreePort ℕ ℕ ℕ P → V → Type 0) → ℕ → TreePort ℕ ℕ ℕ P → V → Type 0
From ports Has b p x = Has p x × ((k : ℕ) × (b ≤ k) × IsAt ports k p)

-- the next port of the walk
abbrev pub IsNextAt : {P : Type 0} → List (TreePort ℕ ℕ ℕ P) → (TreePort ℕ ℕ ℕ P → Type 0) → Option ℕ → Type 0
IsNextAt {P} ports On o = (k : ℕ) → o ≡ Some k → (p : TreePort ℕ ℕ ℕ P) × IsAt ports k p × On p

pub before_here_after : (j k : ℕ) → (j < k) ⊎ (j ≡ k) ⊎ (k + 1 ≤ j)
before_here_after j k = grind arith

module _ {P V : Type 0} (order : V → V → Ordering) (total : IsTotalOrder order) (ports : List (TreePort ℕ ℕ ℕ P)) (On : TreePort ℕ ℕ ℕ P → Type 0) (Has : TreePort ℕ ℕ ℕ P → V → Type 0) (on : (p : TreePort ℕ ℕ ℕ P) (x : V) → Has p x → On p) where
  pub next_at : (b : ℕ) (o : Option ℕ) → IsLast ports On b o → IsNextAt ports On o
  next_at b o last k e = let p = last.at k e in (p.0, p.2, p.3)

  -- at first
  pub lowest_none_yet : (o : Option ℕ) → IsLast ports On (length ports) o → IsLowest order (From ports Has (upto_place o)) None
  lowest_none_yet o last p x h = last.none_after h.1.0 p h.1.1 h.1.2.0 h.1.2 (on p x h.0)

  -- at the end
  pub lowest_all : (best : Option (Heard V)) → ((p : TreePort ℕ ℕ ℕ P) (x : V) → Has p x → Contains ports p) → IsLowest order (From ports Has 0) best → IsLowest order Has best
  lowest_all None there h = λ p x has. let c = there p x has in h p x (has, (c.0, omega arith, (c.1, c.2)))
  lowest_all (Some b) there h = (h.0, h.1, h.2.0, λ q y has. let c = there q y has in h.3 q y (has, (c.0, omega arith, (c.1, c.2))))

  module _ (k : ℕ) (a : TreePort ℕ ℕ ℕ P) (at : IsAt ports k a) (o : Option ℕ) (last : IsLast ports On k o) where
    low : (w : Option ℕ) → o ≡ w → upto_place w ≤ k
    low None e = omega arith
    low (Some i) e = let l = (last.at i e).1 in omega arith

    widen : (p : TreePort ℕ ℕ ℕ P) (x : V) → From ports Has (k + 1) p x → From ports Has (upto_place o) p x
    widen p x h = let l = low o refl in let m = h.1.1 in (h.0, (h.1.0, omega arith, h.1.2))

    split : (p : TreePort ℕ ℕ ℕ P) (x : V) → From ports Has (upto_place o) p x → From ports Has (k + 1) p x ⊎ (p ≡ a)
    split p x h = elim (before_here_after h.1.0 k) [
      | inl l ↦ absurd (last.none_after h.1.0 p h.1.1 l h.1.2 (on p x h.0))
      | inr r ↦ elim r [
        | inl e ↦ inr (one_there ports k p a (subst (λ z. IsAt ports z p) e h.1.2) at)
        | inr g ↦ inl (h.0, (h.1.0, g, h.1.2))
      ]
    ]

    -- the port has nothing
    pub lowest_same : (best : Option (Heard V)) → ((x : V) → Has a x → ⊥) → IsLowest order (From ports Has (k + 1)) best → IsLowest order (From ports Has (upto_place o)) best
    lowest_same None not h = λ p x has. elim (split p x has) [ inl f ↦ h p x f | inr e ↦ not x (subst (λ z. Has z x) e has.0) ]
    lowest_same (Some b) not h = (h.0, h.1, widen h.0 b.message h.2, λ q y has. elim (split q y has) [ inl f ↦ h.3 q y f | inr e ↦ absurd (not y (subst (λ z. Has z y) e has.0)) ])

    module _ (x : V) (has : Has a x) (one : (y : V) → Has a y → x ≡ y) where
      abbrev heard : Heard V
      heard = record { port = a.number; message = x }

      here : From ports Has (upto_place o) a x
      here = (has, (k, low o refl, at))

      as_good : (y : V) → x ≡ y → is_gt (order x y) ≡ false
      as_good y e = ap is_gt (ap (order x) (sym e) ∙ tied_itself total x)

      new_lowest : ((q : TreePort ℕ ℕ ℕ P) (y : V) → From ports Has (k + 1) q y → is_gt (order x y) ≡ false) → IsLowest order (From ports Has (upto_place o)) (Some heard)
      new_lowest h = (a, refl, here, λ q y f. elim (split q y f) [ inl g ↦ h q y g | inr e ↦ as_good y (one y (subst (λ z. Has z y) e f.0)) ])

      -- the port has this
      pub lowest_more : (best : Option (Heard V)) → IsLowest order (From ports Has (k + 1)) best → IsLowest order (From ports Has (upto_place o)) (Some (lower_of order best heard))
      lowest_more None h = new_lowest (λ q y f. absurd (h q y f))
      lowest_more (Some b) h = go (is_gt (order b.message x)) refl
        where
          go : (g : Bool) → is_gt (order b.message x) ≡ g → IsLowest order (From ports Has (upto_place o)) (Some (cond g heard b))
          go true g = new_lowest (λ q y f. upto total x b.message y (not_less total b.message x (λ l. let u = less_is_upto total b.message x l in cc)) (h.3 q y f))
          go false g = (h.0, h.1, widen h.0 b.message h.2, λ q y f. elim (split q y f) [ inl i ↦ h.3 q y i | inr e ↦ subst (λ z. is_gt (order b.message z) ≡ false) (one y (subst (λ z. Has z y) e f.0)) g ])

    pub lowest_next : (message : Option V) → ((x : V) → message ≡ Some x → Has a x) → (message ≡ None → (x : V) → Has a x → ⊥) → ((x y : V) → Has a x → Has a y → x ≡ y)
        → (best : Option (Heard V)) → IsLowest order (From ports Has (k + 1)) best → IsLowest order (From ports Has (upto_place o)) (lower_heard order best a.number message)
    lowest_next None some none one best h = lowest_same best (none refl) h
    lowest_next (Some x) some none one best h = lowest_more x (some x refl) (λ y has. one x y (some x refl) has) best h

-- the walk goes down
pub walk_falls : {A : Type 0} (xs : List A) (P : A → Type 0) (k : ℕ) (o : Option ℕ) → IsLast xs P k o → upto_place o < k + 1
walk_falls xs P k None last = omega arith
walk_falls xs P k (Some i) last = let l = (last.at i refl).1 in omega arith

-- the port at the place of the walk
pub walk_port : {P : Type 0} (ports : List (TreePort ℕ ℕ ℕ P)) (On : TreePort ℕ ℕ ℕ P → Type 0) (o : Option ℕ) → IsNextAt ports On o → (k : ℕ) → o ≡ Some k → (p : TreePort ℕ ℕ ℕ P) → IsAt ports k p → On p
walk_port ports On o next k e p here = let there = next k e in subst On (one_there ports k there.0 p there.1 here) there.2

pub next_step : {P : Type 0} (ports : List (TreePort ℕ ℕ ℕ P)) (On : TreePort ℕ ℕ ℕ P → Type 0) (b : ℕ) (o : Option ℕ) → IsLast ports On b o → IsNextAt ports On o
next_step ports On b o last k e = let p = last.at k e in (p.0, p.2, p.3)

-- Chains of parents are unique where each bridge has one parent.
use Rattle.std.proofs.Common.{◌≡◌, refl, ap, subst, ℕ, suc}
use Rattle.mst_note_text.specs.Chains.{InternalChain, top, up, ExternalChain, last, within, across}

-- a bridge has one such parent
abbrev pub IsOne : {N : Type 0} → (N → N → Type 0) → Type 0
IsOne {N} Step = (n k j : N) → Step n k → Step n j → k ≡ j

pub record SameEnd {N : Type 0} (root other : N) (d e : ℕ) : Type 0 where
  pub ends : root ≡ other
  pub steps : d ≡ e

pub one_internal : {N : Type 0} {Within : N → N → Type 0} → IsOne Within → {root other n : N} {d e : ℕ} → InternalChain Within root n d → InternalChain Within other n e → SameEnd root other d e
one_internal one (top none) (top alone) = record { ends = refl; steps = refl }
one_internal one (top none) (up {k = k} s c) = absurd (none k s)
one_internal one (up {k = k} s c) (top none) = absurd (none k s)
one_internal {Within = Within} one {other = other} (up {n = n} {k = k} s c) (up {k = j} {d = d} u b) =
    let r = one_internal one c (subst (λ i. InternalChain Within other i d) (one n j k u s) b) in
    record { ends = r.ends; steps = ap suc r.steps }

-- what makes external chains unique
pub record AreSides {N : Type 0} (Within Between : N → N → Type 0) : Type 0 where
  pub one_within : IsOne Within
  pub one_between : IsOne Between
  pub apart : (n k j : N) → Within n k → Between n j → ⊥

pub one_external : {N : Type 0} {Within Between : N → N → Type 0} → AreSides Within Between → {root other n : N} {d e : ℕ} → ExternalChain Within Between root n d → ExternalChain Within Between other n e → SameEnd root other d e
one_external sides (last none alone) (last no_more apart) = record { ends = refl; steps = refl }
one_external sides (last none alone) (within {k = k} s c) = absurd (none k s)
one_external sides (last none alone) (across {k = k} s c) = absurd (alone k s)
one_external sides (within {k = k} s c) (last none alone) = absurd (none k s)
one_external {Within = Within} {Between = Between} sides {other = other} (within {n = n} {k = k} s c) (within {k = j} {d = d} u b) =
    one_external sides c (subst (λ i. ExternalChain Within Between other i d) (sides.one_within n j k u s) b)
one_external sides (within {n = n} {k = k} s c) (across {k = j} u b) = absurd (sides.apart n k j s u)
one_external sides (across {k = k} s c) (last none alone) = absurd (alone k s)
one_external sides (across {n = n} {k = k} s c) (within {k = j} u b) = absurd (sides.apart n j k u s)
one_external {Within = Within} {Between = Between} sides {other = other} (across {n = n} {k = k} s c) (across {k = j} {d = d} u b) =
    let r = one_external sides c (subst (λ i. ExternalChain Within Between other i d) (sides.one_between n j k u s) b) in
    record { ends = r.ends; steps = ap suc r.steps }

-- steps within the region first
pub above : {N : Type 0} {Within Between : N → N → Type 0} {root middle n : N} {d e : ℕ} → InternalChain Within middle n d → ExternalChain Within Between root middle e → ExternalChain Within Between root n e
above (top none) c = c
above (up s b) c = within s (above b c)

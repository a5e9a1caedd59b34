-- A number that falls along parents: how many they are, or in an MSTI the internal root path cost.
use Rattle.std.proofs.Common.{◌≡◌, inl, inr, refl, sym, ◌∙◌, ap, subst, ℕ, zero, suc, ◌<◌, Option, Some, None, arith}
use Rattle.mst_vector.specs.declared.cist.CistVector.{CistVector}
use Rattle.mst_vector.specs.declared.msti.MstiVector.{MstiVector}
use Rattle.mst_roles.specs.forest.topology.Topology.{KeyTests}
use Rattle.mst_roles.specs.forest.nested.Trees.{Trees, IsSettled}
use Rattle.mst_roles.proofs.forest_lemmas.nested_lemmas.Settled.{cist_tree, msti_tree}
use Rattle.mst_roles.proofs.forest_lemmas.nested_lemmas.Origins.{near_step}
use Rattle.mst_roles.proofs.forest_lemmas.nested_lemmas.Mstis.{InTree}
use Rattle.mst_roles.proofs.forest_lemmas.nested_lemmas.Facts.{at}
use Rattle.mst_note_text.specs.Chains.{ExternalChain, last, within, across}
use Rattle.mst_note_text.specs.Depths.{ParentIn, ParentWithin, ParentBetween}
use Rattle.mst_note_text.proofs.Chains.{AreSides}
use Rattle.mst_note_text.proofs.ParentLaws.{TookFrom, took_from, parent_vector}
use Rattle.mst_note_text.proofs.Regions.{cist_sides, parent_sides}
use Rattle.mst_note_text.proofs.Tops.{top_of}

-- the steps of a chain, those within regions too
abbrev pub steps_of : {N : Type 0} {Within Between : N → N → Type 0} {root n : N} {d : ℕ} → ExternalChain Within Between root n d → ℕ
steps_of (last none alone) = 0
steps_of (within s c) = suc (steps_of c)
steps_of (across s c) = suc (steps_of c)

pub one_count : {N : Type 0} {Within Between : N → N → Type 0} → AreSides Within Between → {root other n m : N} {d e : ℕ} → (c : ExternalChain Within Between root n d) (b : ExternalChain Within Between other m e) → n ≡ m → steps_of c ≡ steps_of b
one_count sides (last none alone) (last no_more apart) same = refl
one_count {Within = Within} sides (last none alone) (within {k = k} s c) same = absurd (none k (subst (λ i. Within i k) (sym same) s))
one_count {Between = Between} sides (last none alone) (across {k = k} s c) same = absurd (alone k (subst (λ i. Between i k) (sym same) s))
one_count {Within = Within} sides (within {k = k} s c) (last none alone) same = absurd (none k (subst (λ i. Within i k) same s))
one_count {Within = Within} sides (within {n = n} {k = k} s c) (within {k = j} u b) same = ap suc (one_count sides c b (sides.one_within n k j s (subst (λ i. Within i j) (sym same) u)))
one_count {Between = Between} sides (within {n = n} {k = k} s c) (across {k = j} u b) same = absurd (sides.apart n k j s (subst (λ i. Between i j) (sym same) u))
one_count {Between = Between} sides (across {k = k} s c) (last none alone) same = absurd (alone k (subst (λ i. Between i k) same s))
one_count {Within = Within} sides (across {n = n} {k = k} s c) (within {k = j} u b) same = absurd (sides.apart n j k (subst (λ i. Within i j) (sym same) u) s)
one_count {Between = Between} sides (across {n = n} {k = k} s c) (across {k = j} u b) same = ap suc (one_count sides c b (sides.one_between n k j s (subst (λ i. Between i j) (sym same) u)))

module _ {N L K : Type 0} (f : Trees N L K) (tests : KeyTests N L) (ok : IsSettled f) where
  abbrev steps_below : (n : N) (o : Option CistVector) → f.cist_vector n ≡ o → ℕ
  steps_below n None e = 0
  steps_below n (Some x) e = steps_of (top_of f tests ok n (at f tests ok n x e)).chain

  abbrev cist_height : N → ℕ
  cist_height n = steps_below n (f.cist_vector n) refl

  -- it is that of any chain
  height_is : (n : N) (x : CistVector) (o : Option CistVector) (e : f.cist_vector n ≡ o) → o ≡ Some x → {root : N} {d : ℕ} → (c : ExternalChain (ParentWithin f 0) (ParentBetween f) root n d) → steps_below n o e ≡ steps_of c
  height_is n x None e some c = cc
  height_is n x (Some y) e some c = one_count (cist_sides f tests ok) (top_of f tests ok n (at f tests ok n y e)).chain c refl

  cist_falls : (n k : N) → ParentIn f 0 n k → cist_height k < cist_height n
  cist_falls n k p = go (took_from (cist_tree f tests ok) n k (at f tests ok n p.is_root.vector (parent_vector p)) p)
    where
      go : TookFrom (cist_tree f tests ok) n k (at f tests ok n p.is_root.vector (parent_vector p)) → cist_height k < cist_height n
      go t =
          let s = t.step.heard.designates.says in
          let vector : f.cist_vector k ≡ Some s.root = ap f.cist_vector (sym t.is_from) ∙ s.is_root in
          let below = top_of f tests ok k (at f tests ok k s.root vector) in
          let there = height_is k s.root (f.cist_vector k) refl vector below.chain in
          elim (parent_sides f tests ok n k p) [
            | inl side ↦ (let here = height_is n p.is_root.vector (f.cist_vector n) refl (parent_vector p) (within side below.chain) in omega arith)
            | inr side ↦ (let here = height_is n p.is_root.vector (f.cist_vector n) refl (parent_vector p) (across side below.chain) in omega arith)
          ]

  abbrev cost_of : Option MstiVector → ℕ
  cost_of None = 0
  cost_of (Some x) = x.internal

  msti_falls : (i : ℕ) (n k : N) → ParentIn f (suc i) n k → cost_of (f.msti_vector (suc i) k) < cost_of (f.msti_vector (suc i) n)
  msti_falls i n k p = go (took_from (msti_tree f tests ok i) n k here p)
    where
      here : InTree f tests ok i n
      here = let b = (ok.msti i).settled.is_bridge n p.is_root.vector (parent_vector p) in record { bridge = b.0; has_bridge = b.1; vector = p.is_root.vector; is_vector = parent_vector p }

      go : TookFrom (msti_tree f tests ok i) n k here → cost_of (f.msti_vector (suc i) k) < cost_of (f.msti_vector (suc i) n)
      go t =
          let s = t.step.heard.designates.says in
          let near = near_step (msti_tree f tests ok i) n here t.step refl in
          let costs = near.costs in
          let one = near.positive in
          let there : cost_of (f.msti_vector (suc i) k) ≡ s.root.internal = ap cost_of (ap (f.msti_vector (suc i)) (sym t.is_from) ∙ s.is_root) in
          let from : cost_of (f.msti_vector (suc i) n) ≡ p.is_root.vector.internal = ap cost_of (parent_vector p) in
          omega arith

  pub falls : (i : ℕ) → (height : N → ℕ) × ((n k : N) → ParentIn f i n k → height k < height n)
  falls zero = (cist_height, cist_falls)
  falls (suc i) = (λ n. cost_of (f.msti_vector (suc i) n), msti_falls i)

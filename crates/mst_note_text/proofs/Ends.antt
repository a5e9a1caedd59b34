-- Where the chain of parents within a region ends in one settled tree.
use Rattle.std.proofs.Common.{◌≡◌, ◌⊎◌, inl, inr, refl, sym, ◌∙◌, subst, ℕ, zero, suc, ◌<◌, Bool, true, false, IsTrue, arith}
use Rattle.mst_roles.proofs.forest_lemmas.nested_lemmas.Settled.{SettledTree}
use Rattle.mst_roles.proofs.forest_lemmas.nested_lemmas.Ports.{Placed, sender}
use Rattle.mst_roles.proofs.forest_lemmas.nested_lemmas.Origins.{Took, took, near_step}
use Rattle.mst_note_text.specs.Chains.{InternalChain, top, up}
use Rattle.mst_note_text.proofs.Chains.{IsOne}
use Rattle.mst_note_text.proofs.ParentLaws.{Parent, one_parent, took_parent, own_alone}

module _ {N L K B P V : Type 0} (tree : SettledTree N L K B P V) where
  open tree use {rules as m, within as w, is_within as within}

  -- the bridge took its vector from its own region
  abbrev pub IsNear : (n : N) (a : Placed tree n) → Took tree n a → Bool
  IsNear n a k = w.is_near k.heard.designates.says.bridge a.bridge

  -- these are the steps to parents within the region
  pub record AreSteps (Step : N → N → Type 0) : Type 0 where
    pub is_parent : (n k : N) → Step n k → Parent tree n k
    pub step : (n : N) (a : Placed tree n) (k : Took tree n a) → IsTrue (IsNear n a k) → Step n k.heard.port.bridge
    pub near : (n : N) (a : Placed tree n) (k : Took tree n a) → Step n k.heard.port.bridge → IsTrue (IsNear n a k)

  module _ (Step : N → N → Type 0) (are : AreSteps Step) where
    pub one_step : IsOne Step
    one_step n k j s u = one_parent tree n k j (are.is_parent n k s) (are.is_parent n j u)

    no_step : (n : N) (a : Placed tree n) (k : Took tree n a) → IsNear n a k ≡ false → (j : N) → Step n j → ⊥
    no_step n a k far j s =
        let e = one_parent tree n j k.heard.port.bridge (are.is_parent n j s) (took_parent tree n a k) in
        let near : IsTrue (IsNear n a k) = are.near n a k (subst (Step n) e s) in
        cc

    -- how a vector begins in a region: as the bridge's own, or with a step from another region
    abbrev pub Begins : (n : N) → Placed tree n → Type 0
    Begins n a = (a.vector ≡ m.bridge_vector a.bridge) ⊎ ((k : Took tree n a) × (IsNear n a k ≡ false))

    pub record ChainEnd (n : N) (a : Placed tree n) : Type 0 where
      pub root : N
      pub at : Placed tree root
      pub same : w.shared at.vector ≡ w.shared a.vector
      pub began : Begins root at
      pub depth : ℕ
      pub chain : InternalChain Step root n depth

    begins : (n : N) (a : Placed tree n) → Begins n a → ChainEnd n a
    begins n a how = record { root = n; at = a; same = refl; began = how; depth = 0; chain = top (none how) }
      where
        none : Begins n a → (j : N) → Step n j → ⊥
        none (inl own) j s = own_alone tree n j a own (are.is_parent n j s)
        none (inr k) j s = no_step n a k.0 k.1 j s

    end_below : (bound : ℕ) (n : N) (a : Placed tree n) → w.internal a.vector < bound → ChainEnd n a
    end_below zero n a low = absurd (omega arith)
    end_below (suc bound) n a low = elim (took tree n a) [
      | inl e ↦ begins n a (inl e)
      | inr k ↦ go (end_below bound) k (IsNear n a k) refl
    ]
      where
        go : ((i : N) (c : Placed tree i) → w.internal c.vector < bound → ChainEnd i c) → (k : Took tree n a) (c : Bool) → IsNear n a k ≡ c → ChainEnd n a
        go rest k false e = begins n a (inr (k, e))
        go rest k true e =
            let from : Placed tree k.heard.port.bridge = sender tree k.heard in
            let h = near_step tree n a k e in
            let c = h.costs in
            let one = h.positive in
            let r = rest k.heard.port.bridge from (omega arith) in
            record { root = r.root; at = r.at; same = r.same ∙ sym h.same; began = r.began; depth = suc r.depth; chain = up (are.step n a k e) r.chain }

    pub chain_end : (n : N) (a : Placed tree n) → ChainEnd n a
    chain_end n a = end_below (suc (w.internal a.vector)) n a (omega arith)

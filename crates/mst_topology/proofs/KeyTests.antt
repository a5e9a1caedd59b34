-- Tests of keys.
use Rattle.std.proofs.Common.{◌≡◌, ◌≢◌, ℕ, Bool, true, false, ◌==◌, eqb-true, eq-eqb, refl, sym, ◌∙◌, ap}
use Rattle.mst_topology.specs.Topology.{IsTest, KeyTests}

module _ {A : Type 0} {same : A → A → Bool} (test : IsTest same) where
  pub passes : (a b : A) → a ≡ b → same a b ≡ true
  passes a b e = ap (same a) (sym e) ∙ test.itself a

  pub fails : (a b : A) → same a b ≡ false → a ≢ b
  fails a b f e = let p = passes a b e in cc

  pub misses : (a b : A) → a ≢ b → same a b ≡ false
  misses a b other = go (same a b) refl
    where
      go : (t : Bool) → same a b ≡ t → same a b ≡ false
      go true e = absurd (other (test.alone a b e))
      go false e = e

number_test : IsTest (λ (a b : ℕ). a == b)
number_test = record { itself = λ a. eq-eqb a a refl; alone = λ a b e. eqb-true a b e }

pub numbers : KeyTests ℕ ℕ
numbers = record { same_bridge = λ a b. a == b; bridges = number_test; same_lan = λ a b. a == b; lans = number_test }

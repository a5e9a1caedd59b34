-- The vectors, but for one bridge.
use Rattle.std.proofs.Common.{◌≡◌, ℕ, ◌==◌, ◌≤◌, Option, Some, Bool, true, false, cond, refl, sym, ◌∙◌}
use Rattle.mst_vector.specs.Rules.{Rules}
use Rattle.mst_topology.specs.Topology.{TreePort, Topology}
use Rattle.mst_topology.specs.Settled.{IsDesignatedVector}
use Rattle.mst_topology.specs.Settling.{CostsWithin}
use Rattle.mst_progress.specs.Progress.{vectors_with}

module _ {B P V : Type 0} (m : Rules B P V) (t : Topology ℕ ℕ ℕ B P) (w : ℕ → Option V) (root : Option V) (p : TreePort ℕ ℕ ℕ P) (same : root ≡ w p.bridge) where
  -- what a port says when its bridge has this vector
  pub says_there : (x : V) → IsDesignatedVector m t (λ n. root) p x → IsDesignatedVector m t w p x
  says_there x s = record { has_port = s.has_port; is_part = s.is_part; bridge = s.bridge; has_bridge = s.has_bridge; root = s.root; is_root = sym same ∙ s.is_root; is_designated = s.is_designated }

  pub says_here : (x : V) → IsDesignatedVector m t w p x → IsDesignatedVector m t (λ n. root) p x
  says_here x s = record { has_port = s.has_port; is_part = s.is_part; bridge = s.bridge; has_bridge = s.has_bridge; root = s.root; is_root = same ∙ s.is_root; is_designated = s.is_designated }

pub costs_with : {B P V : Type 0} (m : Rules B P V) (v : ℕ → Option V) (bridge : ℕ) (stored : Option V) (most : ℕ) → CostsWithin m v most → CostsWithin m (λ (n : ℕ). stored) most → CostsWithin m (vectors_with v bridge stored) most
costs_with {B} {P} {V} m v bridge stored most costs here n x = go (n == bridge)
  where
    go : (c : Bool) → cond c stored (v n) ≡ Some x → m.cost x ≤ most
    go true e = here n x e
    go false e = costs n x e

-- The outcome of a network: its trees, settled, from the CIST's topology and what is set for the MSTIs.
use Rattle.std.specs.Prelude.{◌≡◌, ◌≢◌, ℕ, suc, Option, Some, IsTrue}
use Rattle.mst_vector.specs.Msti.{msti_rules}
use Rattle.mst_vector.specs.declared.cist.CistBridge.{CistBridge}
use Rattle.mst_vector.specs.declared.cist.CistPort.{CistPort}
use Rattle.mst_vector.specs.declared.msti.MstiBridge.{MstiBridge}
use Rattle.mst_vector.specs.declared.msti.MstiPort.{MstiPort}
use Rattle.mst_topology.specs.Topology.{TreePort, Topology, HasBridge, HasPort}
use Rattle.mst_nested.specs.Trees.{Trees, TakesPart, IsSamePort, IsSettled}

-- what is set for each MSTI: of a bridge, if it has the tree, and of a port
pub record MstiSettings (N K : Type 0) : Type 0 where
  pub bridge : ℕ → N → Option MstiBridge
  pub port : ℕ → K → MstiPort

module _ {N L K : Type 0} (t : Topology N L K CistBridge CistPort) (s : MstiSettings N K) where
  -- these can be set: a region's bridges have the same trees, identifiers are distinct and costs in range
  pub record CanNest : Type 0 where
    pub regions : (i : ℕ) (n k : N) (b c : CistBridge) (x : MstiBridge) → HasBridge t n b → HasBridge t k c → b.region ≡ c.region → s.bridge i n ≡ Some x → (y : MstiBridge) × (s.bridge i k ≡ Some y)
    pub bridge_ids : (i : ℕ) (n k : N) (b c : CistBridge) (x y : MstiBridge) → HasBridge t n b → HasBridge t k c → s.bridge i n ≡ Some x → s.bridge i k ≡ Some y → x.id ≡ y.id → n ≡ k
    pub port_ids : (i : ℕ) (p q : TreePort N L K CistPort) → HasPort t p → HasPort t q → p.bridge ≡ q.bridge → (s.port i p.number).id ≡ (s.port i q.number).id → p ≡ q
    pub has_ids : (i : ℕ) (p : TreePort N L K CistPort) → HasPort t p → (s.port i p.number).id ≢ 0
    pub in_range : (i : ℕ) (p : TreePort N L K CistPort) → HasPort t p → IsTrue (msti_rules.in_range (s.port i p.number))

  -- f is the outcome
  pub record IsOutcome (f : Trees N L K) : Type 0 where
    pub cist : f.cist ≡ t
    pub settled : IsSettled f
    pub bridges : (i : ℕ) (n : N) (x : MstiBridge) → HasBridge (f.msti (suc i)) n x → s.bridge (suc i) n ≡ Some x
    pub all_bridges : (i : ℕ) (n : N) (b : CistBridge) (x : MstiBridge) → HasBridge t n b → s.bridge (suc i) n ≡ Some x → HasBridge (f.msti (suc i)) n x
    pub ports : (i : ℕ) (q : TreePort N L K MstiPort) → TakesPart (f.msti (suc i)) q → q.settings ≡ s.port (suc i) q.number
    pub restricted : (i : ℕ) (q : TreePort N L K MstiPort) (p : TreePort N L K CistPort) → TakesPart (f.msti (suc i)) q → HasPort t p → IsSamePort q p → q.is_restricted ≡ p.is_restricted

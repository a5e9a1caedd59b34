-- Parents of bridges in a tree, and how deep a bridge lies in it: within its region and below the CIST root.
use Rattle.std.specs.Prelude.{◌≡◌, ℕ, zero, suc, Option}
use Rattle.mst_vector.specs.Rules.{Rules}
use Rattle.mst_vector.specs.Cist.{cist_rules}
use Rattle.mst_vector.specs.Msti.{msti_rules}
use Rattle.mst_vector.specs.declared.cist.CistBridge.{CistBridge}
use Rattle.mst_roles.specs.forest.topology.Topology.{TreePort, Topology, HasBridge}
use Rattle.mst_roles.specs.forest.topology.Settled.{Designates}
use Rattle.mst_roles.specs.forest.nested.Trees.{Trees, HasTree, SameRegion}
use Rattle.mst_roles.specs.forest.nested.Roles.{IsRootPort}
use Rattle.mst_note_text.specs.Chains.{InternalChain, ExternalChain}

-- the parent of bridge n is bridge k: the designated bridge of the LAN of n's root port, which is the port
-- by which n's root priority vector came
pub record HasParent {N L K B P V : Type 0} (m : Rules B P V) (t : Topology N L K B P) (v : N → Option V) (receiver : V → ℕ) (n k : N) : Type 0 where
  pub port : TreePort N L K P
  pub is_root : IsRootPort m t v receiver port
  pub on_bridge : port.bridge ≡ n
  pub from : TreePort N L K P
  pub message : V
  pub designates : Designates m t v port.lan from message
  pub is_bridge : from.bridge ≡ k

module _ {N L K : Type 0} (f : Trees N L K) where
  -- in the CIST, and in an MSTI by its number
  abbrev pub ParentIn : ℕ → N → N → Type 0
  ParentIn zero n k = HasParent cist_rules f.cist f.cist_vector (λ x. x.receiver) n k
  ParentIn (suc i) n k = HasParent msti_rules (f.msti (suc i)) (f.msti_vector (suc i)) (λ x. x.receiver) n k

  -- a parent of the bridge's own region
  pub record ParentWithin (i : ℕ) (n k : N) : Type 0 where
    pub is_parent : ParentIn i n k
    pub same_region : SameRegion f n k

  -- a parent of another region: only the CIST has such
  pub record ParentBetween (n k : N) : Type 0 where
    pub is_parent : ParentIn 0 n k
    pub other_region : SameRegion f n k → ⊥

  -- bridge n, which has tree i, is d steps within its region below the end of its chain of parents there
  pub record InternalDepth (i : ℕ) (n : N) (d : ℕ) : Type 0 where
    pub has_tree : HasTree f i n
    pub root : N
    pub chain : InternalChain (ParentWithin i) root n d

  -- bridge n is d steps between regions below the end of its chain of parents in the CIST
  pub record ExternalDepth (n : N) (d : ℕ) : Type 0 where
    pub has_bridge : (b : CistBridge) × HasBridge f.cist n b
    pub root : N
    pub chain : ExternalChain (ParentWithin 0) ParentBetween root n d

-- What a part has in common, and where its vectors come from.
use Rattle.std.specs.Prelude.{◌≡◌, ℕ, ◌≤◌}
use Rattle.mst_vector.specs.declared.cist.CistVector.{CistVector}
use Rattle.mst_vector.specs.declared.cist.CistBridge.{CistBridge}
use Rattle.mst_vector.specs.declared.msti.MstiVector.{MstiVector}
use Rattle.mst_vector.specs.declared.msti.MstiBridge.{MstiBridge}
use Rattle.mst_topology.specs.Topology.{HasBridge}
use Rattle.mst_graph.specs.Walks.{Walk, bridge_at}
use Rattle.mst_nested.specs.Ports.{port_ends}
use Rattle.mst_nested.specs.Trees.{Trees, TakesPart, IsEnabled, IsInternal, SamePart}
use Rattle.mst_nested.specs.Costs.{CostWalk}

-- the root, the external root path cost and the regional root of two vectors are the same
pub record SameRoots (x y : CistVector) : Type 0 where
  pub root : x.root ≡ y.root
  pub external : x.external ≡ y.external
  pub regional : x.regional ≡ y.regional

module _ {N L K : Type 0} (f : Trees N L K) (n : N) where
  -- the root that bridge n's vector in the CIST names: of the bridges that walks of enabled ports link to
  -- n, it is the one with the least identifier
  pub record HasRoot (x : CistVector) : Type 0 where
    pub root : N
    pub bridge : CistBridge
    pub has_bridge : HasBridge f.cist root bridge
    pub is_named : bridge.id ≡ x.root
    pub is_linked : Walk port_ends (IsEnabled f) (bridge_at n) (bridge_at root)
    pub least : (k : N) (b : CistBridge) → HasBridge f.cist k b → Walk port_ends (IsEnabled f) (bridge_at n) (bridge_at k) → bridge.id ≤ b.id

  -- the regional root that it names: a bridge of n's part, from which the vector's internal root path cost is
  -- that of a cheapest walk in the part
  pub record HasRegionalRoot (x : CistVector) : Type 0 where
    pub root : N
    pub bridge : CistBridge
    pub has_bridge : HasBridge f.cist root bridge
    pub is_named : bridge.id ≡ x.regional
    pub in_part : SamePart f (bridge_at n) (bridge_at root)
    pub walk : CostWalk (IsInternal f) (λ p. p.internal) root n x.internal
    pub cheapest : (c : ℕ) → CostWalk (IsInternal f) (λ p. p.internal) root n c → x.internal ≤ c

  -- the regional root that its vector in MSTI i names: of the bridges of n's part, the one with the least
  -- identifier in that tree. The internal root path cost is that of a cheapest walk from there, too
  pub record HasMstiRoot (i : ℕ) (x : MstiVector) : Type 0 where
    pub root : N
    pub bridge : MstiBridge
    pub has_bridge : HasBridge (f.msti i) root bridge
    pub is_named : bridge.id ≡ x.regional
    pub in_part : SamePart f (bridge_at n) (bridge_at root)
    pub least : (k : N) (b : MstiBridge) → HasBridge (f.msti i) k b → SamePart f (bridge_at n) (bridge_at k) → bridge.id ≤ b.id
    pub walk : CostWalk (TakesPart (f.msti i)) (λ q. q.internal) root n x.internal
    pub cheapest : (c : ℕ) → CostWalk (TakesPart (f.msti i)) (λ q. q.internal) root n c → x.internal ≤ c

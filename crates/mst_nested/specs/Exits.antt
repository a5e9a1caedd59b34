-- The ports between parts.
use Rattle.std.specs.Prelude.{◌≡◌, ◌<◌, Some}
use Rattle.mst_vector.specs.declared.cist.CistVector.{CistVector}
use Rattle.mst_vector.specs.declared.cist.CistBridge.{CistBridge}
use Rattle.mst_vector.specs.declared.cist.CistPort.{CistPort}
use Rattle.mst_topology.specs.Topology.{TreePort, HasBridge}
use Rattle.mst_graph.specs.Walks.{bridge_at, lan_at}
use Rattle.mst_nested.specs.Trees.{Trees, IsEnabled, SamePart}
use Rattle.mst_nested.specs.Roles.{IsCistRoot}

module _ {N L K : Type 0} (f : Trees N L K) where
  -- an enabled port whose ends are in different parts
  pub record IsCrossing (p : TreePort N L K CistPort) : Type 0 where
    pub is_enabled : IsEnabled f p
    pub apart : SamePart f (bridge_at p.bridge) (lan_at p.lan) → ⊥

  -- such a port that is the root port in the CIST of its part's regional root
  pub record IsExit (p : TreePort N L K CistPort) : Type 0 where
    pub is_crossing : IsCrossing p
    pub is_root : IsCistRoot f p
    pub bridge : CistBridge
    pub has_bridge : HasBridge f.cist p.bridge bridge
    pub is_regional : bridge.id ≡ is_root.vector.regional

  -- the part of bridge n, whose vector is x, holds the root of the CIST
  pub record HoldsRoot (n : N) (x : CistVector) : Type 0 where
    pub root : N
    pub bridge : CistBridge
    pub has_bridge : HasBridge f.cist root bridge
    pub is_named : bridge.id ≡ x.root
    pub in_part : SamePart f (bridge_at n) (bridge_at root)

  -- the part of bridge n, whose vector is x, has one exit, and its LAN is in a part of lower external root
  -- path cost
  pub record HasOneExit (n : N) (x : CistVector) : Type 0 where
    pub port : TreePort N L K CistPort
    pub is_exit : IsExit port
    pub in_part : SamePart f (bridge_at n) (bridge_at port.bridge)
    pub alone : (q : TreePort N L K CistPort) → IsExit q → SamePart f (bridge_at n) (bridge_at q.bridge) → q ≡ port
    pub falls : (k : N) (y : CistVector) → f.cist_vector k ≡ Some y → SamePart f (lan_at port.lan) (bridge_at k) → y.external < x.external

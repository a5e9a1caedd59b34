-- The active topology of a VID: the ports that forward in their own bridge's tree of the VID.
use Rattle.std.specs.Prelude.{◌≡◌, ℕ}
use Rattle.mst_vector.specs.declared.cist.CistBridge.{CistBridge}
use Rattle.mst_vector.specs.declared.cist.CistPort.{CistPort}
use Rattle.mst_topology.specs.Topology.{TreePort, HasBridge}
use Rattle.mst_nested.specs.Trees.{Trees, IsEnabled, HasTree, SameRegion}
use Rattle.mst_nested.specs.Roles.{Forwards}

module _ {N L K : Type 0} (f : Trees N L K) (tree : N → ℕ) where
  -- these are a VID's trees on the bridges: each bridge has its tree, and bridges of one region have one
  pub record IsTreeOfVid : Type 0 where
    pub has_tree : (n : N) (b : CistBridge) → HasBridge f.cist n b → HasTree f (tree n) n
    pub one_tree : (n k : N) → SameRegion f n k → tree n ≡ tree k

  -- the port forwards in the tree of its bridge
  pub record IsActive (p : TreePort N L K CistPort) : Type 0 where
    pub is_enabled : IsEnabled f p
    pub forwards : Forwards f (tree p.bridge) p

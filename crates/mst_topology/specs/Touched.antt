-- The bridges and LANs at which two topologies do not differ.
use Rattle.std.specs.Prelude.{◌≡◌, ◌↔◌}
use Rattle.mst_vector.specs.Rules.{Rules}
use Rattle.mst_topology.specs.Topology.{TreePort, Topology, HasBridge, HasPort}

-- the bridges have the same own vector, and say the same
abbrev pub ActsAlike : {B P V : Type 0} → Rules B P V → B → B → Type 0
ActsAlike {B} {P} {V} m b c = (m.bridge_vector b ≡ m.bridge_vector c) × ((x : V) (p : P) → m.designated_vector x b p ≡ m.designated_vector x c p)

module _ {N L K B P V : Type 0} (m : Rules B P V) (t u : Topology N L K B P) where
  -- bridge n is in both or in neither; it acts alike in both, and has the same ports
  pub record SameBridge (n : N) : Type 0 where
    pub there : (b : B) → HasBridge t n b → (c : B) × HasBridge u n c × ActsAlike m b c
    pub back : (c : B) → HasBridge u n c → (b : B) × HasBridge t n b × ActsAlike m b c
    pub ports : (p : TreePort N L K P) → p.bridge ≡ n → HasPort t p ↔ HasPort u p

  -- the LAN has the same ports in both, and what one of their bridges makes of a message of another is the same
  pub record SameLan (lan : L) : Type 0 where
    pub ports : (p : TreePort N L K P) → p.lan ≡ lan → HasPort t p ↔ HasPort u p
    pub steps : (p q : TreePort N L K P) (b c s r : B) (x : V) → p.lan ≡ lan → q.lan ≡ lan → HasPort t p → HasPort t q
        → HasBridge t p.bridge b → HasBridge u p.bridge c → HasBridge t q.bridge s → HasBridge u q.bridge r → m.root_path_vector x s b p.settings ≡ m.root_path_vector x r c p.settings

-- When the vectors of the bridges of one tree are settled, and which ports are then designated
-- (802.1Q-2022, 13.9 to 13.12). A vector is better than another where it is lower in the order m.
use Rattle.std.specs.Prelude.{◌≡◌, ◌≢◌, Option, Some, ◌⊎◌, MatchOption, IsTrue, false}
use Rattle.std.specs.Ordering.{is_gt}
use Rattle.mst_vector.specs.Rules.{Rules}
use Rattle.mst_topology.specs.Topology.{TreePort, Topology, HasBridge, HasPort}

module _ {N L K B P V : Type 0} (m : Rules B P V) (t : Topology N L K B P) (v : N → Option V) where
  -- the designated priority vector of a port, which it says on its LAN. It takes part in the tree, and its bridge has a
  -- root priority vector
  pub record IsDesignatedVector (p : TreePort N L K P) (x : V) : Type 0 where
    pub has_port : HasPort t p
    pub is_part : IsTrue p.is_part
    pub bridge : B
    pub has_bridge : HasBridge t p.bridge bridge
    pub root : V
    pub is_root : v p.bridge ≡ Some root
    pub is_designated : m.designated_vector root bridge p.settings ≡ x

  -- the LAN's designated port: it says the best of what the ports on the LAN say
  pub record Designates (lan : L) (p : TreePort N L K P) (x : V) : Type 0 where
    pub on_lan : p.lan ≡ lan
    pub says : IsDesignatedVector p x
    pub upto : (q : TreePort N L K P) (y : V) → q.lan ≡ lan → IsDesignatedVector q y → is_gt (m.order x y) ≡ false

  -- a root path priority vector of bridge n, which is b: at a port of n that takes part in the tree and is not
  -- restricted, it is made of what the LAN's designated port says, which is another bridge's
  pub record IsRootPathVector (n : N) (b : B) (x : V) : Type 0 where
    pub port : TreePort N L K P
    pub has_port : HasPort t port
    pub is_part : IsTrue port.is_part
    pub is_free : port.is_restricted ≡ false
    pub on_bridge : port.bridge ≡ n
    pub from : TreePort N L K P
    pub message : V
    pub designates : Designates port.lan from message
    pub from_other : from.bridge ≢ n
    pub sender : B
    pub has_sender : HasBridge t from.bridge sender
    pub is_made : m.root_path_vector message sender b port.settings ≡ x

  -- what bridge n can take for its root priority vector: its bridge priority vector, or a root path priority vector
  abbrev pub CanTake : N → B → V → Type 0
  CanTake n b x = (x ≡ m.bridge_vector b) ⊎ IsRootPathVector n b x

  -- the best that bridge n can take
  pub record IsVectorOf (n : N) (b : B) (x : V) : Type 0 where
    pub can_take : CanTake n b x
    pub upto : (y : V) → CanTake n b y → is_gt (m.order x y) ≡ false

  -- each bridge has the best vector that it can take, and no other key has one
  pub record Settled : Type 0 where
    pub has_vector : (n : N) (b : B) → HasBridge t n b → (x : V) × (v n ≡ Some x)
    pub is_bridge : (n : N) (x : V) → v n ≡ Some x → (b : B) × HasBridge t n b
    pub bridges : (n : N) (b : B) (x : V) → HasBridge t n b → v n ≡ Some x → IsVectorOf n b x

  -- no port on the LAN says anything
  abbrev pub IsSilent : L → Type 0
  IsSilent lan = (p : TreePort N L K P) (x : V) → p.lan ≡ lan → IsDesignatedVector p x → ⊥

  -- the key of the LAN's designated port, or none where no port says anything
  abbrev pub IsDesignated : L → Option K → Type 0
  IsDesignated lan o = MatchOption o (IsSilent lan) (λ q. (p : TreePort N L K P) × (x : V) × (p.number ≡ q) × Designates lan p x)

-- What a settler keeps.
use Rattle.std.specs.Prelude.{◌≡◌, ℕ, List, Option, Some, Bool, true}
use Rattle.std.specs.List.{Contains}
use Rattle.mst_topology.specs.Topology.{TreePort, Topology, HasBridge, HasPort}
use Rattle.mst_topology.specs.Places.{HasRoomAt}
use Rattle.mst_topology.specs.Slots.{HasRoom}
use Rattle.mst_outcome.specs.Assignment.{Assignment, designated_of, vector_of}

-- each bridge has space, and the bridge and the LAN of each port
pub record HasSpaceFor {B P V : Type 0} (t : Topology ℕ ℕ ℕ B P) (a : Assignment V) : Type 0 where
  pub bridges : (n : ℕ) (b : B) → HasBridge t n b → HasRoom a.touched_bridges n
  pub lans : (p : TreePort ℕ ℕ ℕ P) → HasPort t p → HasRoom a.touched_lans p.lan
  pub bridges_of_ports : (p : TreePort ℕ ℕ ℕ P) → HasPort t p → HasRoom a.touched_bridges p.bridge

-- the space of a stays in b
pub record KeepsSpace {V : Type 0} (a b : Assignment V) : Type 0 where
  pub bridges : (n : ℕ) → HasRoom a.touched_bridges n → HasRoom b.touched_bridges n
  pub lans : (lan : ℕ) → HasRoom a.touched_lans lan → HasRoom b.touched_lans lan

-- no bridge and no LAN is touched
pub record NoTouches {V : Type 0} (a : Assignment V) : Type 0 where
  pub bridges : (n : ℕ) → Contains a.touched_bridges (n, true) → ⊥
  pub lans : (lan : ℕ) → Contains a.touched_lans (lan, true) → ⊥

-- the outcome of a stays in b, and so do touches and space
pub record KeepsOutcome {V : Type 0} (a b : Assignment V) : Type 0 where
  pub vectors : (n : ℕ) → vector_of b n ≡ vector_of a n
  pub designated : (lan : ℕ) → designated_of b lan ≡ designated_of a lan
  pub settlings : b.settlings ≡ a.settlings
  pub touched_bridges : (n : ℕ) → Contains a.touched_bridges (n, true) → Contains b.touched_bridges (n, true)
  pub touched_lans : (lan : ℕ) → Contains a.touched_lans (lan, true) → Contains b.touched_lans (lan, true)
  pub space : KeepsSpace a b

-- how a settler keeps space: what has a mark has a place, and a bridge that has a place can be queued; no bridge is
-- queued between repairs
pub record IsRoomy {V : Type 0} (vectors : List (ℕ × Option V)) (lans : List (ℕ × Option ℕ)) (queue : List (ℕ × Option V)) (touched_bridges touched_lans : List (ℕ × Bool)) : Type 0 where
  pub in_queue : (n : ℕ) → HasRoomAt vectors n → HasRoom queue n
  pub for_bridges : (n : ℕ) → HasRoom touched_bridges n → HasRoomAt vectors n
  pub for_lans : (lan : ℕ) → HasRoom touched_lans lan → HasRoomAt lans lan
  pub idle : (n : ℕ) (x : V) → Contains queue (n, Some x) → ⊥

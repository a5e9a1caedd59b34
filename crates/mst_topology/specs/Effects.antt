-- What the functions that look at LANs and bridges anew leave right, and what they make right.
use Rattle.std.specs.Prelude.{◌≡◌, ◌≢◌, ◌⊎◌, ℕ, List, Option, Some, MatchOption, Bool, true, false}
use Rattle.std.specs.Ordering.{is_gt}
use Rattle.std.specs.List.{Contains}
use Rattle.mst_vector.specs.Rules.{Rules}
use Rattle.mst_topology.specs.Topology.{TreePort, Topology, HasPort}
use Rattle.mst_topology.specs.Settled.{IsDesignatedVector, Designates, IsSilent, IsDesignated}
use Rattle.mst_topology.specs.declared.heard.Heard.{Heard}
use Rattle.mst_topology.specs.Settling.{IsLowest, port_of}
use Rattle.mst_topology.specs.Repair.{IsDue, key_of}
use Rattle.mst_topology.specs.Slots.{HasRoom}
use Rattle.mst_topology.specs.Seen.{Marks, IsSeen}

module _ {B P V : Type 0} (m : Rules B P V) (t : Topology ℕ ℕ ℕ B P) (v : ℕ → Option V) where
  -- the bridge has its key in the queue, if it is there
  abbrev pub HasRightKey : List (ℕ × Option V) → ℕ → Type 0
  HasRightKey queue n = (k o : Option V) → Contains queue (n, k) → IsDue m t v n o → k ≡ key_of m.order (v n) o

  -- designated ports that were right stay so, and those of the LANs `On` are right then
  pub record HearsAnew (old new : ℕ → Option ℕ) (On : ℕ → Type 0) : Type 0 where
    pub right : (lan : ℕ) → IsDesignated m t v lan (old lan) → IsDesignated m t v lan (new lan)
    pub found : (lan : ℕ) → On lan → IsDesignated m t v lan (new lan)

  -- keys that were right stay so, and those of the bridges `On` are right then
  pub record LooksAnew (old new : List (ℕ × Option V)) (On : ℕ → Type 0) : Type 0 where
    pub right : (n : ℕ) → HasRightKey old n → HasRightKey new n
    pub found : (n : ℕ) → On n → HasRightKey new n
    pub rooms : (n : ℕ) → HasRoom old n → HasRoom new n

-- a LAN on which the bridge has a port, and a bridge that has a port on the LAN
abbrev pub IsLanOf : {N L K B P : Type 0} → Topology N L K B P → N → L → Type 0
IsLanOf {N} {L} {K} {B} {P} t n lan = (p : TreePort N L K P) × HasPort t p × (p.bridge ≡ n) × (p.lan ≡ lan)

abbrev pub IsBridgeOn : {N L K B P : Type 0} → Topology N L K B P → L → N → Type 0
IsBridgeOn {N} {L} {K} {B} {P} t lan n = (p : TreePort N L K P) × HasPort t p × (p.lan ≡ lan) × (p.bridge ≡ n)

-- a bridge itself, or one that shares a LAN with it
abbrev pub IsNear : {N L K B P : Type 0} → Topology N L K B P → N → N → Type 0
IsNear {N} {L} {K} {B} {P} t n k = (lan : L) × IsLanOf t n lan × IsBridgeOn t lan k

-- the entry marks the LAN, a LAN of the bridge that it marks, a bridge on the LAN that it marks, or the bridge
-- that it marks or one near it
abbrev pub IsMarked : ℕ × Bool → ℕ → Type 0
IsMarked e lan = (e.1 ≡ true) × (lan ≡ e.0)

abbrev pub IsLanOfMarked : {L K B P : Type 0} → Topology ℕ L K B P → ℕ × Bool → L → Type 0
IsLanOfMarked t e lan = (e.1 ≡ true) × IsLanOf t e.0 lan

abbrev pub IsOnMarked : {N K B P : Type 0} → Topology N ℕ K B P → ℕ × Bool → N → Type 0
IsOnMarked t e n = (e.1 ≡ true) × IsBridgeOn t e.0 n

abbrev pub IsNearMarked : {L K B P : Type 0} → Topology ℕ L K B P → ℕ × Bool → ℕ → Type 0
IsNearMarked t e n = (e.1 ≡ true) × ((n ≡ e.0) ⊎ IsNear t e.0 n)

module _ {B P V : Type 0} (m : Rules B P V) (t : Topology ℕ ℕ ℕ B P) (v : ℕ → Option V) where
  -- the LANs that were seen in this round have their designated ports, or all bridges on them have their keys, and the bridges that
  -- were seen have theirs
  abbrev pub LansAreRight : Marks → (ℕ → Option ℕ) → Type 0
  LansAreRight seen lans = (lan : ℕ) → IsSeen seen lan → IsDesignated m t v lan (lans lan)

  abbrev pub KeysAreRight : Marks → List (ℕ × Option V) → Type 0
  KeysAreRight seen queue = (n : ℕ) → IsSeen seen n → HasRightKey m t v queue n

  abbrev pub LansKeysAreRight : Marks → List (ℕ × Option V) → Type 0
  LansKeysAreRight seen queue = (lan : ℕ) → IsSeen seen lan → (n : ℕ) → IsBridgeOn t lan n → HasRightKey m t v queue n

  -- what the port p says, and what it said when its bridge had another vector, if any, isn't the best on its LAN
  pub record IsUnconcerned (stored : Option V) (p : TreePort ℕ ℕ ℕ P) : Type 0 where
    pub now : (x : V) → Designates m t v p.lan p x → ⊥
    pub before : (y : V) → IsDesignatedVector m t (λ n. stored) p y → IsSilent m t v p.lan → ⊥
    pub order : (y x : V) (q : TreePort ℕ ℕ ℕ P) → IsDesignatedVector m t (λ n. stored) p y → Designates m t v p.lan q x → is_gt (m.order x y) ≡ false

  -- a bridge that shares a LAN with n, on which a port of n is, or was, the best
  abbrev pub IsConcerned : Option V → ℕ → ℕ → Type 0
  IsConcerned stored n k = (p : TreePort ℕ ℕ ℕ P) × HasPort t p × (p.bridge ≡ n) × IsBridgeOn t p.lan k × (IsUnconcerned stored p → ⊥)

-- the number is that of a port of the bridge
abbrev pub IsPortOf : {L B P : Type 0} → Topology ℕ L ℕ B P → ℕ → Option ℕ → Type 0
IsPortOf {L} {B} {P} t n o = (p : TreePort ℕ L ℕ P) × HasPort t p × (o ≡ Some p.number) × (p.bridge ≡ n)

-- q is the port of this number, or the port p
abbrev pub IsEither : {P : Type 0} → Option ℕ → TreePort ℕ ℕ ℕ P → TreePort ℕ ℕ ℕ P → Type 0
IsEither o p q = (o ≡ Some q.number) ⊎ (q ≡ p)

module _ {B P V : Type 0} (m : Rules B P V) (t : Topology ℕ ℕ ℕ B P) (v : ℕ → Option V) where
  -- p says x on the LAN, and none of the ports `In` says anything better there
  pub record IsBestAmong (In : TreePort ℕ ℕ ℕ P → Type 0) (lan : ℕ) (p : TreePort ℕ ℕ ℕ P) (x : V) : Type 0 where
    pub on_lan : p.lan ≡ lan
    pub says : IsDesignatedVector m t v p x
    pub upto : (q : TreePort ℕ ℕ ℕ P) (y : V) → In q → q.lan ≡ lan → IsDesignatedVector m t v q y → is_gt (m.order x y) ≡ false

  -- the number of such a port, or none where none of the ports `In` says anything on the LAN
  abbrev pub IsDesignatedAmong : (TreePort ℕ ℕ ℕ P → Type 0) → ℕ → Option ℕ → Type 0
  IsDesignatedAmong In lan o = MatchOption o ((q : TreePort ℕ ℕ ℕ P) (y : V) → In q → q.lan ≡ lan → IsDesignatedVector m t v q y → ⊥) (λ k. (p : TreePort ℕ ℕ ℕ P) × (x : V) × (p.number ≡ k) × IsBestAmong In lan p x)

  -- what is left of a LAN's designated port by a write at the bridge n: a port of n, or the best of the other bridges
  abbrev pub IsLeft : ℕ → ℕ → Option ℕ → Type 0
  IsLeft n lan o = IsPortOf t n o ⊎ IsDesignatedAmong (λ q. q.bridge ≢ n) lan o

  -- of the port of this number and p, the one that says the lower vector
  abbrev pub IsLowerPort : Option ℕ → TreePort ℕ ℕ ℕ P → Option (Heard V) → Type 0
  IsLowerPort o p = IsLowest m.order (λ q x. IsEither o p q × IsDesignatedVector m t v q x)

  -- designated ports that were right stay so. That of the port's LAN is right, or it wasn't a port of the same bridge, and now the
  -- lower one of the two says it
  pub record HearsPort (p : TreePort ℕ ℕ ℕ P) (old new : ℕ → Option ℕ) : Type 0 where
    pub right : (lan : ℕ) → IsDesignated m t v lan (old lan) → IsDesignated m t v lan (new lan)
    pub others : (lan : ℕ) → lan ≢ p.lan → new lan ≡ old lan
    pub found : IsDesignated m t v p.lan (new p.lan) ⊎ (IsPortOf t p.bridge (old p.lan) → ⊥) × ((h : Option (Heard V)) × IsLowerPort (old p.lan) p h × (new p.lan ≡ port_of h))

-- Which ports forward in a tree (802.1Q-2022, 13.12): Root, Designated and Master ports.
use Rattle.std.specs.Prelude.{◌≡◌, ◌≢◌, ◌⊎◌, ℕ, zero, suc, Option, Some}
use Rattle.mst_vector.specs.Rules.{Rules}
use Rattle.mst_vector.specs.Cist.{cist_rules}
use Rattle.mst_vector.specs.Msti.{msti_rules}
use Rattle.mst_vector.specs.declared.cist.CistPort.{CistPort}
use Rattle.mst_vector.specs.declared.msti.MstiPort.{MstiPort}
use Rattle.mst_topology.specs.Topology.{TreePort, Topology}
use Rattle.mst_topology.specs.Settled.{Designates}
use Rattle.mst_nested.specs.Trees.{Trees, TakesPart, IsSamePort, IsInternal, IsBoundary, HasTree}

module _ {N L K B P V : Type 0} (m : Rules B P V) (t : Topology N L K B P) (v : N → Option V) where
  -- Root: the root priority vector of the port's bridge came by it, so names it as the receiving port
  pub record IsRootPort (receiver : V → ℕ) (p : TreePort N L K P) : Type 0 where
    pub part : TakesPart t p
    pub vector : V
    pub is_vector : v p.bridge ≡ Some vector
    pub came_by : receiver vector ≡ m.port_id p.settings

  -- Designated: it is the designated port of its LAN
  pub record IsDesignatedPort (p : TreePort N L K P) : Type 0 where
    pub message : V
    pub designates : Designates m t v p.lan p message

  -- Backup: the designated port of its LAN is another port of its bridge
  pub record IsBackupPort (p : TreePort N L K P) : Type 0 where
    pub part : TakesPart t p
    pub port : TreePort N L K P
    pub message : V
    pub designates : Designates m t v p.lan port message
    pub is_other : port ≢ p
    pub same_bridge : port.bridge ≡ p.bridge

  -- Alternate: any other port
  pub record IsAlternatePort (receiver : V → ℕ) (p : TreePort N L K P) : Type 0 where
    pub part : TakesPart t p
    pub not_root : IsRootPort receiver p → ⊥
    pub not_designated : IsDesignatedPort p → ⊥
    pub not_backup : IsBackupPort p → ⊥

  -- a port that takes part in the tree has one of the roles, and one of these only
  pub record HasOneRole (receiver : V → ℕ) (p : TreePort N L K P) : Type 0 where
    pub role : IsRootPort receiver p ⊎ (IsDesignatedPort p ⊎ (IsBackupPort p ⊎ IsAlternatePort receiver p))
    pub not_both : IsRootPort receiver p → IsDesignatedPort p → ⊥
    pub not_root : IsBackupPort p → IsRootPort receiver p → ⊥
    pub not_designated : IsBackupPort p → IsDesignatedPort p → ⊥

module _ {N L K : Type 0} (f : Trees N L K) where
  abbrev pub IsCistRoot : TreePort N L K CistPort → Type 0
  IsCistRoot = IsRootPort cist_rules f.cist f.cist_vector (λ x. x.receiver)

  abbrev pub IsCistDesignated : TreePort N L K CistPort → Type 0
  IsCistDesignated = IsDesignatedPort cist_rules f.cist f.cist_vector

  abbrev pub IsCistAlternate : TreePort N L K CistPort → Type 0
  IsCistAlternate = IsAlternatePort cist_rules f.cist f.cist_vector (λ x. x.receiver)

  abbrev pub IsMstiRoot : ℕ → TreePort N L K MstiPort → Type 0
  IsMstiRoot i = IsRootPort msti_rules (f.msti i) (f.msti_vector i) (λ x. x.receiver)

  abbrev pub IsMstiDesignated : ℕ → TreePort N L K MstiPort → Type 0
  IsMstiDesignated i = IsDesignatedPort msti_rules (f.msti i) (f.msti_vector i)

  -- a port on a LAN of its own region is the Root or the Designated port by the MSTI's own vectors
  pub record ForwardsInRegion (i : ℕ) (p : TreePort N L K CistPort) : Type 0 where
    pub is_internal : IsInternal f p
    pub port : TreePort N L K MstiPort
    pub same : IsSamePort port p
    pub role : IsMstiRoot i port ⊎ IsMstiDesignated i port

  -- Master: a port that received from another region, where it is the Root port of the CIST. Where it is
  -- not, it is Alternate
  pub record IsMaster (i : ℕ) (p : TreePort N L K CistPort) : Type 0 where
    pub is_boundary : IsBoundary f p
    pub has_tree : HasTree f i p.bridge
    pub is_root : IsCistRoot p

  -- the enabled port forwards in its bridge's tree i: Root, Designated and Master ports do
  abbrev pub Forwards : ℕ → TreePort N L K CistPort → Type 0
  Forwards zero p = IsCistRoot p ⊎ IsCistDesignated p
  Forwards (suc i) p = ForwardsInRegion (suc i) p ⊎ IsMaster (suc i) p

  -- it does so inside a part
  abbrev pub ForwardsInside : ℕ → TreePort N L K CistPort → Type 0
  ForwardsInside i p = IsInternal f p × Forwards i p

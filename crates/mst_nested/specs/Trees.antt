-- The trees of a network, settled: the CIST, and in each region its MSTIs, nested in it (802.1Q-2022,
-- 13.9 to 13.12). Bridges, LANs and ports go by keys of any types N, L and K, in all trees the same.
use Rattle.std.specs.Prelude.{◌≡◌, ◌≢◌, ℕ, zero, suc, Option, false, IsTrue}
use Rattle.mst_vector.specs.Rules.{Rules}
use Rattle.mst_vector.specs.Cist.{cist_rules}
use Rattle.mst_vector.specs.Msti.{msti_rules}
use Rattle.mst_vector.specs.declared.cist.CistVector.{CistVector}
use Rattle.mst_vector.specs.declared.cist.CistBridge.{CistBridge}
use Rattle.mst_vector.specs.declared.cist.CistPort.{CistPort}
use Rattle.mst_vector.specs.declared.msti.MstiVector.{MstiVector}
use Rattle.mst_vector.specs.declared.msti.MstiBridge.{MstiBridge}
use Rattle.mst_vector.specs.declared.msti.MstiPort.{MstiPort}
use Rattle.mst_topology.specs.Topology.{TreePort, Topology, IsTopology, HasBridge, HasPort}
use Rattle.mst_topology.specs.Settled.{Designates, Settled}
use Rattle.mst_graph.specs.Walks.{Node, Walk}
use Rattle.mst_nested.specs.Ports.{port_ends}

-- the port takes part in the tree
abbrev pub TakesPart : {N L K B P : Type 0} → Topology N L K B P → TreePort N L K P → Type 0
TakesPart t p = HasPort t p × IsTrue p.is_part

-- a tree is settled. No port has the identifier 0, which a bridge's own vector has in place of the
-- receiving port's
pub record IsTree {N L K B P V : Type 0} (m : Rules B P V) (t : Topology N L K B P) (v : N → Option V) : Type 0 where
  pub topology : IsTopology m t
  pub settled : Settled m t v
  pub port_ids : (p : TreePort N L K P) → HasPort t p → m.port_id p.settings ≢ 0

-- no port's role is restricted
abbrev pub IsUnrestricted : {N L K B P : Type 0} → Topology N L K B P → Type 0
IsUnrestricted {N} {L} {K} {B} {P} t = (p : TreePort N L K P) → HasPort t p → p.is_restricted ≡ false

-- the CIST and the MSTIs by number: the topology of each, and the root priority vectors of its bridges
pub record Trees (N L K : Type 0) : Type 0 where
  pub cist : Topology N L K CistBridge CistPort
  pub cist_vector : N → Option CistVector
  pub msti : ℕ → Topology N L K MstiBridge MstiPort
  pub msti_vector : ℕ → N → Option MstiVector

-- a port of an MSTI is a port of the CIST: they have the same keys
pub record IsSamePort {N L K : Type 0} (q : TreePort N L K MstiPort) (p : TreePort N L K CistPort) : Type 0 where
  pub number : q.number ≡ p.number
  pub bridge : q.bridge ≡ p.bridge
  pub lan : q.lan ≡ p.lan

module _ {N L K : Type 0} (f : Trees N L K) where
  -- the port is enabled
  abbrev pub IsEnabled : TreePort N L K CistPort → Type 0
  IsEnabled p = TakesPart f.cist p

  -- the LAN belongs to the region: its designated bridge in the CIST is in it
  pub record IsLanOf (lan : L) (region : ℕ) : Type 0 where
    pub port : TreePort N L K CistPort
    pub message : CistVector
    pub designates : Designates cist_rules f.cist f.cist_vector lan port message
    pub in_region : designates.says.bridge.region ≡ region

  -- an enabled port whose LAN belongs to the region of its bridge
  pub record IsInternal (p : TreePort N L K CistPort) : Type 0 where
    pub is_enabled : IsEnabled p
    pub bridge : CistBridge
    pub has_bridge : HasBridge f.cist p.bridge bridge
    pub own_lan : IsLanOf p.lan bridge.region

  -- any other enabled port: it receives from another region
  pub record IsBoundary (p : TreePort N L K CistPort) : Type 0 where
    pub is_enabled : IsEnabled p
    pub not_internal : IsInternal p → ⊥

  -- the bridge has the tree: every bridge has tree 0, the CIST
  abbrev pub HasTree : ℕ → N → Type 0
  HasTree zero n = (b : CistBridge) × HasBridge f.cist n b
  HasTree (suc i) n = (b : MstiBridge) × HasBridge (f.msti (suc i)) n b

  -- two bridges are in one region
  pub record SameRegion (n k : N) : Type 0 where
    pub bridge : CistBridge
    pub has_bridge : HasBridge f.cist n bridge
    pub other : CistBridge
    pub has_other : HasBridge f.cist k other
    pub same : bridge.region ≡ other.region

  -- tree i is that of regions: its bridges are those of some regions, its ports the internal ports of these
  pub record IsNested (i : ℕ) : Type 0 where
    pub bridges : (n : N) → HasTree i n → (b : CistBridge) × HasBridge f.cist n b
    pub regions : (n k : N) → SameRegion n k → HasTree i n → HasTree i k
    pub ports : (p : TreePort N L K CistPort) → IsInternal p → HasTree i p.bridge → (q : TreePort N L K MstiPort) × TakesPart (f.msti i) q × IsSamePort q p
    pub from_ports : (q : TreePort N L K MstiPort) → TakesPart (f.msti i) q → (p : TreePort N L K CistPort) × IsInternal p × IsSamePort q p

  -- each tree is settled, and the MSTIs are nested in the CIST. MSTIs are numbered from 1 on
  pub record IsSettled : Type 0 where
    pub cist : IsTree cist_rules f.cist f.cist_vector
    pub msti : (i : ℕ) → IsTree msti_rules (f.msti (suc i)) (f.msti_vector (suc i))
    pub nested : (i : ℕ) → IsNested (suc i)

  -- no port's role is restricted in any tree
  pub record IsFree : Type 0 where
    pub cist : IsUnrestricted f.cist
    pub msti : (i : ℕ) → IsUnrestricted (f.msti (suc i))

  -- two nodes are in one part: internal ports link them. A part is thus a set of bridges of one region and
  -- of LANs, connected by enabled ports whose LAN belongs to that region, and as large as it can be
  abbrev pub SamePart : Node N L → Node N L → Type 0
  SamePart = Walk port_ends IsInternal

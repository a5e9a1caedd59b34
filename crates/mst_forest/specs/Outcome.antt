-- The settled outcome of a network, by name: the CIST and the MSTIs.
use Rattle.std.specs.Prelude.{ℕ, List, Option}
use Rattle.mst_ids.specs.declared.name.PortName.{PortName}
use Rattle.mst_vector.specs.Rules.{Rules}
use Rattle.mst_vector.specs.Cist.{cist_rules}
use Rattle.mst_vector.specs.Msti.{msti_rules}
use Rattle.mst_vector.specs.declared.cist.CistVector.{CistVector}
use Rattle.mst_vector.specs.declared.msti.MstiVector.{MstiVector}
use Rattle.mst_topology.specs.Topology.{Topology}
use Rattle.mst_topology.specs.Settled.{Settled, IsDesignated}
use Rattle.mst_net.specs.tables.Tables.{Net}
use Rattle.mst_forest.specs.Cist.{cist_of}
use Rattle.mst_forest.specs.Msti.{msti_of}
use Rattle.mst_nested.specs.Trees.{Trees}

-- of one tree: the root priority vector of each bridge, and the designated port of each LAN
pub record TreeOutcome (V : Type 0) : Type 0 where
  pub vector : List ℕ → Option V
  pub designated : List ℕ → Option PortName

-- it is settled: each LAN's designated port is the one with the least designated vector, and each bridge's
-- vector is the least of its own and of the steps along its ports
pub record IsTreeOutcome {B P V : Type 0} (m : Rules B P V) (t : Topology (List ℕ) (List ℕ) PortName B P) (o : TreeOutcome V) : Type 0 where
  pub settled : Settled m t o.vector
  pub designated : (lan : List ℕ) → IsDesignated m t o.vector lan (o.designated lan)

-- of all trees
pub record Outcome : Type 0 where
  pub cist : TreeOutcome CistVector
  pub msti : ℕ → TreeOutcome MstiVector

-- the CIST is settled, and so is each MSTI, by the designated ports of the CIST
pub record IsOutcome (net : Net) (o : Outcome) : Type 0 where
  pub cist : IsTreeOutcome cist_rules (cist_of net) o.cist
  pub mstis : (tree : ℕ) → IsTreeOutcome msti_rules (msti_of net tree o.cist.designated) (o.msti tree)

-- the trees with the vectors of an outcome
abbrev pub trees_of : Net → Outcome → Trees (List ℕ) (List ℕ) PortName
trees_of net o = record {
  cist = cist_of net;
  cist_vector = o.cist.vector;
  msti = λ tree. msti_of net tree o.cist.designated;
  msti_vector = λ tree. (o.msti tree).vector;
}

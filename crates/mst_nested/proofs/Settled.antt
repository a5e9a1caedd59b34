-- A settled tree with what its lemmas ask of it.
use Rattle.std.specs.Prelude.{ℕ, suc, Option}
use Rattle.mst_vector.specs.Rules.{Rules, IsMetric}
use Rattle.mst_vector.specs.Cist.{cist_rules}
use Rattle.mst_vector.specs.CistLaws.{cist_lawful}
use Rattle.mst_vector.specs.Msti.{msti_rules}
use Rattle.mst_vector.specs.MstiLaws.{msti_lawful}
use Rattle.mst_vector.specs.declared.cist.CistVector.{CistVector}
use Rattle.mst_vector.specs.declared.cist.CistBridge.{CistBridge}
use Rattle.mst_vector.specs.declared.cist.CistPort.{CistPort}
use Rattle.mst_vector.specs.declared.msti.MstiVector.{MstiVector}
use Rattle.mst_vector.specs.declared.msti.MstiBridge.{MstiBridge}
use Rattle.mst_vector.specs.declared.msti.MstiPort.{MstiPort}
use Rattle.mst_topology.specs.Topology.{Topology, KeyTests}
use Rattle.mst_nested.specs.Trees.{Trees, IsTree, IsSettled}
use Rattle.mst_nested.proofs.Within.{Within, IsWithin, cist_within, cist_is_within, msti_within, msti_is_within}

pub record SettledTree (N L K B P V : Type 0) : Type 0 where
  pub rules : Rules B P V
  pub lawful : IsMetric rules
  pub topology : Topology N L K B P
  pub vector : N → Option V
  pub is_tree : IsTree rules topology vector
  pub tests : KeyTests N L
  pub within : Within B P V
  pub is_within : IsWithin rules within

module _ {N L K : Type 0} (f : Trees N L K) (tests : KeyTests N L) (ok : IsSettled f) where
  abbrev pub cist_tree : SettledTree N L K CistBridge CistPort CistVector
  cist_tree = record {
    rules = cist_rules;
    lawful = cist_lawful;
    topology = f.cist;
    vector = f.cist_vector;
    is_tree = ok.cist;
    tests = tests;
    within = cist_within;
    is_within = cist_is_within;
  }

  abbrev pub msti_tree : ℕ → SettledTree N L K MstiBridge MstiPort MstiVector
  msti_tree j = record {
    rules = msti_rules;
    lawful = msti_lawful;
    topology = f.msti (suc j);
    vector = f.msti_vector (suc j);
    is_tree = ok.msti j;
    tests = tests;
    within = msti_within;
    is_within = msti_is_within;
  }

-- A network has an outcome, and one only.
use Rattle.std.proofs.Common.{◌≡◌, ℕ, List, Option, nat_eq, refl, subst}
use Rattle.std.specs.Cmp.Lexicographic.{pointwise, bytes_decides}
use Rattle.mst_ids.specs.declared.name.PortName.{PortName}
use Rattle.mst_vector.specs.Rules.{Rules}
use Rattle.mst_vector.specs.Cist.{cist_rules}
use Rattle.mst_vector.specs.Msti.{msti_rules}
use Rattle.mst_topology.specs.Topology.{Topology, IsTopology, IsTest, KeyTests}
use Rattle.mst_topology.specs.Settled.{Settled, IsDesignated}
use Rattle.mst_net.specs.tables.Tables.{Net, IsNetwork}
use Rattle.mst_vector.specs.declared.cist.CistVector.{CistVector}
use Rattle.mst_forest.specs.Cist.{cist_of}
use Rattle.mst_forest.specs.Msti.{msti_of}
use Rattle.mst_forest.specs.Outcome.{TreeOutcome, IsTreeOutcome, Outcome, IsOutcome}
use Rattle.mst_forest.proofs.CistTopology.{cist_topology}
use Rattle.mst_forest.proofs.MstiTopology.{msti_topology}

-- names are told apart byte by byte
name_test : IsTest (pointwise nat_eq)
name_test = record { itself = λ a. (bytes_decides a a).1 refl; alone = λ a b e. (bytes_decides a b).0 e }

name_tests : KeyTests (List ℕ) (List ℕ)
name_tests = record { same_bridge = pointwise nat_eq; bridges = name_test; same_lan = pointwise nat_eq; lans = name_test }

-- the laws of settling, at names
abbrev pub HasVectors : {B P V : Type 0} → Rules B P V → Type 0
HasVectors {B} {P} {V} m = (t : Topology (List ℕ) (List ℕ) PortName B P) → IsTopology m t → KeyTests (List ℕ) (List ℕ) → (v : List ℕ → Option V) × Settled m t v

abbrev pub HasPorts : {B P V : Type 0} → Rules B P V → Type 0
HasPorts {B} {P} {V} m =
    (t : Topology (List ℕ) (List ℕ) PortName B P) (v : List ℕ → Option V) → IsTopology m t → KeyTests (List ℕ) (List ℕ) → (lan : List ℕ) → (p : Option PortName) × IsDesignated m t v lan p

abbrev pub OneVectors : {B P V : Type 0} → Rules B P V → Type 0
OneVectors {B} {P} {V} m =
    (t : Topology (List ℕ) (List ℕ) PortName B P) (v w : List ℕ → Option V) → IsTopology m t → Settled m t v → Settled m t w → (n : List ℕ) → v n ≡ w n

abbrev pub OnePorts : {B P V : Type 0} → Rules B P V → Type 0
OnePorts {B} {P} {V} m =
    (t : Topology (List ℕ) (List ℕ) PortName B P) (v w : List ℕ → Option V) → IsTopology m t → Settled m t v → Settled m t w
    → (lan : List ℕ) (p q : Option PortName) → IsDesignated m t v lan p → IsDesignated m t w lan q → p ≡ q

-- a tree has an outcome, and one only
module _ {B P V : Type 0} (m : Rules B P V) (t : Topology (List ℕ) (List ℕ) PortName B P) (is : IsTopology m t) where
  tree_outcome : HasVectors m → HasPorts m → (o : TreeOutcome V) × IsTreeOutcome m t o
  tree_outcome vectors ports =
      let v = vectors t is name_tests in (
        record { vector = v.0; designated = λ lan. (ports t v.0 is name_tests lan).0 },
        record { settled = v.1; designated = λ lan. (ports t v.0 is name_tests lan).1 },
      )

  same_outcome : OneVectors m → OnePorts m → (o p : TreeOutcome V) → IsTreeOutcome m t o → IsTreeOutcome m t p → o ≡ p
  same_outcome vectors ports o p a b = λ i. record {
    vector = λ n. vectors t o.vector p.vector is a.settled b.settled n i;
    designated = λ lan. ports t o.vector p.vector is a.settled b.settled lan (o.designated lan) (p.designated lan) (a.designated lan) (b.designated lan) i;
  }

module _ (net : Net) (ok : IsNetwork net) where
  pub outcome_there : HasVectors cist_rules → HasPorts cist_rules → HasVectors msti_rules → HasPorts msti_rules → (o : Outcome) × IsOutcome net o
  outcome_there vectors ports msti_vectors msti_ports =
      let cist = tree_outcome cist_rules (cist_of net) (cist_topology net ok) vectors ports in
      let each = λ (tree : ℕ). tree_outcome msti_rules (msti_of net tree cist.0.designated) (msti_topology net ok tree cist.0.designated) msti_vectors msti_ports in
      (record { cist = cist.0; msti = λ tree. (each tree).0 }, record { cist = cist.1; mstis = λ tree. (each tree).1 })

  pub one_outcome : OneVectors cist_rules → OnePorts cist_rules → OneVectors msti_rules → OnePorts msti_rules
      → (o p : Outcome) → IsOutcome net o → IsOutcome net p → o ≡ p
  one_outcome vectors ports msti_vectors msti_ports o p a b =
      let cist : o.cist ≡ p.cist = same_outcome cist_rules (cist_of net) (cist_topology net ok) vectors ports o.cist p.cist a.cist b.cist in
      let mstis : (tree : ℕ) → o.msti tree ≡ p.msti tree =
      λ tree. same_outcome msti_rules (msti_of net tree p.cist.designated) (msti_topology net ok tree p.cist.designated) msti_vectors msti_ports (o.msti tree) (p.msti tree)
      (subst (λ (c : TreeOutcome CistVector). IsTreeOutcome msti_rules (msti_of net tree c.designated) (o.msti tree)) cist (a.mstis tree)) (b.mstis tree) in
      λ i. record { cist = cist i; msti = λ tree. mstis tree i }

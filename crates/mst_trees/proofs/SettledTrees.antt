-- The trees of a forest are settled and nested under the numbers of records.
use Rattle.std.proofs.Common.{◌≡◌, ◌≢◌, ℕ, suc, nat_eq, List, Option, Some, None, refl, sym, subst}
use Rattle.std.specs.Option.{option_and_then}
use Rattle.std.specs.Map.{lookup}
use Rattle.mst_ids.specs.declared.name.PortName.{PortName}
use Rattle.mst_vector.specs.Rules.{Rules}
use Rattle.mst_vector.specs.Cist.{cist_rules}
use Rattle.mst_vector.specs.Msti.{msti_rules}
use Rattle.mst_vector.specs.declared.msti.MstiVector.{MstiVector}
use Rattle.mst_forest.specs.topology.Topology.{TreePort, Topology, IsTopology}
use Rattle.mst_forest.specs.topology.Settled.{Settled}
use Rattle.mst_forest.specs.outcome.Renamed.{Renaming, IsRenamed}
use Rattle.mst_forest.specs.outcome.Assignment.{Assignment, vector_of, designated_of, IsSettledFor}
use Rattle.mst_net.specs.tables.Tables.{Net, Numbers}
use Rattle.mst_view.specs.Viewed.{Viewed}
use Rattle.mst_view.specs.declared.in_view.PortInView.{PortInView}
use Rattle.mst_forest.specs.Cist.{cist_sight, cist_of}
use Rattle.mst_forest.specs.Msti.{msti_sight, msti_of}
use Rattle.mst_forest.specs.Outcome.{Outcome, IsOutcome, trees_of}
use Rattle.mst_forest.specs.nested.Trees.{IsTree, IsSettled}
use Rattle.mst_forest.specs.Seen.{cist_seen, internal_seen, msti_seen}
use Rattle.mst_forest.specs.Agrees.{AreOf, internal_ports_of}
use Rattle.mst_trees.specs.Mstis.{AreOutcomes}
use Rattle.mst_forest.specs.Forest.{trees_seen, Forest}
use Rattle.mst_forest.proofs.Lists.{no_some}
use Rattle.mst_forest.proofs.CistTopology.{cist_is_sight}
use Rattle.mst_forest.proofs.MstiTopology.{msti_is_sight}
use Rattle.mst_forest.proofs.Numbering.{numbering, tree_renamed}
use Rattle.mst_trees.proofs.Agreeing.{RenamedVectors, RenamedPorts}
use Rattle.mst_forest.proofs.Looking.{cist_is_seen, msti_is_seen}
use Rattle.mst_trees.proofs.Growing.{internal_agrees, no_bridge}
use Rattle.mst_trees.proofs.Carried.{AreRenamed, nested_renamed}

-- the law that a renamed topology is one, from names to numbers
abbrev pub RenamedTopology : {B P V : Type 0} → Rules B P V → Type 0
RenamedTopology {B} {P} {V} m =
    (r : Renaming (List ℕ) (List ℕ) PortName ℕ ℕ ℕ) (t : Topology (List ℕ) (List ℕ) PortName B P) (u : Topology ℕ ℕ ℕ B P) → IsTopology m t → IsRenamed r t u → IsTopology m u

-- a tree is settled under new keys
settled_renamed : {B P V : Type 0} (m : Rules B P V) → RenamedTopology m → (r : Renaming (List ℕ) (List ℕ) PortName ℕ ℕ ℕ) (t : Topology (List ℕ) (List ℕ) PortName B P) (u : Topology ℕ ℕ ℕ B P)
    (v : List ℕ → Option V) (w : ℕ → Option V) → IsTree m t v → IsRenamed r t u → Settled m u w → IsTree m u w
settled_renamed {B} {P} m law r t u v w tree h settled = record {
  topology = law r t u tree.topology h;
  settled = settled;
  port_ids = λ p there. let x = h.from_port p there in subst (λ (q : TreePort ℕ ℕ ℕ P). m.port_id q.settings ≢ 0) x.2 (tree.port_ids x.0 x.1);
}

-- the settled MSTIs over these internal ports are those over equal ones
pub same_internal : {v : Viewed} {internal other : List PortInView} {former mstis : List (ℕ × Assignment MstiVector)} → internal ≡ other → AreOutcomes v internal former mstis → AreOutcomes v other former mstis
same_internal {v} {internal} {other} {former} {mstis} e = subst (λ i. AreOutcomes v i former mstis) e

module _ (net : Net) (numbers : Numbers) (v : Viewed) (f : Forest) (of : AreOf net numbers v f.regions)
    (vectors : RenamedVectors cist_rules) (ports : RenamedPorts cist_rules) (topologies : RenamedTopology cist_rules) (msti_topologies : RenamedTopology msti_rules)
    (o : Outcome) (is : IsOutcome net o) (named : IsSettled (trees_of net o))
    (cist : IsSettledFor cist_rules (cist_seen v f.regions) f.cist) (former : List (ℕ × Assignment MstiVector)) (mstis : AreOutcomes v (internal_seen v f.regions (designated_of f.cist)) former f.mstis) where
  abbrev r : Renaming (List ℕ) (List ℕ) PortName ℕ ℕ ℕ
  r = numbering numbers

  abbrev internal : List PortInView
  internal = internal_seen v f.regions (designated_of f.cist)

  internal_is : internal ≡ internal_ports_of net o.cist.designated v
  internal_is = internal_agrees net numbers v f.regions of vectors ports o.cist is.cist f.cist cist

  cist_renamed : IsRenamed r (cist_of net) (cist_seen v f.regions)
  cist_renamed =
      subst (IsRenamed r (cist_of net)) (sym (cist_is_seen net numbers v f.regions of))
      (tree_renamed net numbers of.network of.numbered v of.view cist_rules (cist_sight net) (cist_is_sight net of.network))

  msti_renamed : (i : ℕ) → IsRenamed r (msti_of net i o.cist.designated) (msti_seen v internal i)
  msti_renamed i =
      subst (IsRenamed r (msti_of net i o.cist.designated)) (sym (msti_is_seen net numbers v f.regions of i o.cist.designated internal internal_is))
      (tree_renamed net numbers of.network of.numbered v of.view msti_rules (msti_sight net i o.cist.designated) (msti_is_sight net of.network i o.cist.designated))

  are_renamed : AreRenamed r (trees_of net o) (trees_seen v f)
  are_renamed = record {
    topology = named.cist.topology;
    new_topology = topologies r (cist_of net) (cist_seen v f.regions) named.cist.topology cist_renamed;
    cist = cist_renamed;
    designated = record {
      former = λ lan. (o.cist.designated lan, is.cist.designated lan);
      now = λ lan. (designated_of f.cist lan, cist.designated lan);
      same = ports r (cist_of net) (cist_seen v f.regions) o.cist.vector (vector_of f.cist) named.cist.topology cist_renamed is.cist.settled cist.vectors;
    };
    mstis = λ i. msti_renamed (suc i);
  }

  -- an MSTI that no bridge has is settled with no vector
  msti_settled : (tree : ℕ) → Settled msti_rules (msti_seen v internal tree) (λ n. option_and_then (λ a. vector_of a n) (lookup (nat_eq tree) f.mstis))
  msti_settled tree = go (lookup (nat_eq tree) f.mstis) refl
    where
      to : (x : Option (Assignment MstiVector)) → lookup (nat_eq tree) f.mstis ≡ x → Settled msti_rules (msti_seen v internal tree) (λ n. option_and_then (λ a. vector_of a n) x)
          → Settled msti_rules (msti_seen v internal tree) (λ n. option_and_then (λ a. vector_of a n) (lookup (nat_eq tree) f.mstis))
      to x e = subst (λ (y : Option (Assignment MstiVector)). Settled msti_rules (msti_seen v internal tree) (λ n. option_and_then (λ a. vector_of a n) y)) (sym e)

      go : (x : Option (Assignment MstiVector)) → lookup (nat_eq tree) f.mstis ≡ x
          → Settled msti_rules (msti_seen v internal tree) (λ n. option_and_then (λ a. vector_of a n) (lookup (nat_eq tree) f.mstis))
      go (Some a) e = to (Some a) e (mstis.settled tree a e).outcome.vectors
      go None e = to None e (record {
        has_vector = λ n b h. let x = (msti_renamed tree).from_bridge n b h in absurd (no_bridge net numbers v f.regions of tree o.cist.designated internal internal_is former f.mstis mstis (o.msti tree) (is.mstis tree) e x.0 b x.1);
        is_bridge = λ n x h. absurd (no_some x h);
        bridges = λ n b x h k. absurd (no_some x k);
      })

  pub is_settled_seen : IsSettled (trees_seen v f)
  is_settled_seen = record {
    cist = settled_renamed cist_rules topologies r (cist_of net) (cist_seen v f.regions) o.cist.vector (vector_of f.cist) named.cist cist_renamed cist.vectors;
    msti = λ i.
        settled_renamed msti_rules msti_topologies r (msti_of net (suc i) o.cist.designated) (msti_seen v internal (suc i)) (o.msti (suc i)).vector
        (λ n. option_and_then (λ a. vector_of a n) (lookup (nat_eq (suc i)) f.mstis)) (named.msti i) (msti_renamed (suc i)) (msti_settled (suc i));
    nested = λ i. nested_renamed r (trees_of net o) (trees_seen v f) are_renamed i (named.nested i);
  }

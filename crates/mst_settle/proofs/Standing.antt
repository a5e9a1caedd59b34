-- The outcome of a tree after an edit: what was settled stands, or it is taken over and repaired.
use Rattle.std.proofs.Common.{◌≡◌, ℕ, ◌≤◌, List, [], length, Option, Some, None, refl, sym, ◌∙◌, subst, arith}
use Rattle.std.specs.List.{Contains}
use Rattle.std.specs.Prelude.{◌↔◌}
use Rattle.mst_vector.specs.Rules.{Rules}
use Rattle.mst_topology.specs.Topology.{TreePort, Topology, IsTopology, HasPort}
use Rattle.mst_outcome.specs.Assignment.{Assignment, vector_of, designated_of, IsSettledFor}
use Rattle.mst_settle.specs.Settler.{HasSpaceFor, KeepsOutcome}
use Rattle.mst_topology.specs.Slots.{HasRoom}
use Rattle.mst_topology.specs.Settled.{IsDesignated}
use Rattle.mst_outcome.specs.Parts.{SameParts}
use Rattle.mst_topology.specs.Repair.{WithinBounds}
use Rattle.mst_settle.specs.Repairable.{IsRepairable}
use Rattle.mst_outcome.proofs.PartsAlone.{settled_there, designated_there}
use Rattle.mst_settle.specs.Differences.{TouchesMissing}
use Rattle.mst_outcome.specs.Held.{Tree, topology_on, IsHeld}
use Rattle.mst_outcome.specs.Shared.{settled_so_often, outcome_of}
use Rattle.mst_settle.specs.Repaired.{IsSettledOn}
use Rattle.mst_settle.proofs.Touches.{vectors_same, settled_same, repairable}

nothing_changed : {V : Type 0} (v : ℕ → Option V) → WithinBounds v v 0
nothing_changed v = record {
  changed = [];
  ascending = λ k l. absurd (omega arith);
  exactly = λ n. (λ c. let l = c.1 in absurd (omega arith), λ other. absurd (other refl));
  at_least = omega arith;
  at_most = omega arith;
  from_nothing = λ none. omega arith;
}

module _ {B P V : Type 0} (m : Rules B P V) (t u : Topology ℕ ℕ ℕ B P) (bridges : t.bridges ≡ u.bridges) (ports : (p : TreePort ℕ ℕ ℕ P) → HasPort t p ↔ HasPort u p) where
  same_parts : SameParts t u
  same_parts = record {
    bridges = λ n b. (subst (λ z. Contains z (n, b)) bridges, subst (λ z. Contains z (n, b)) (sym bridges));
    ports = λ p part. ports p;
  }

  -- how often it was settled is no part of the outcome
  so_often : (a : Assignment V) (n : ℕ) → IsSettledFor m t (settled_so_often a n) → IsSettledFor m u (settled_so_often a 0)
  so_often a n settled = record {
    vectors = settled_there m (vector_of a) t u same_parts settled.vectors;
    designated = λ lan. designated_there m (vector_of a) t u same_parts lan (designated_of a lan) (settled.designated lan);
  }

  standing : (outcome : Option (Assignment V)) (n : ℕ) → IsSettledFor m t (outcome_of outcome n) → IsSettledOn m u (vector_of (outcome_of outcome n)) outcome 0
  standing None n settled = record { settled = so_often (outcome_of None 0) n settled; bounds = nothing_changed (vector_of (outcome_of {V = V} None 0)) }
  standing (Some a) n settled = record { settled = so_often a n settled; bounds = nothing_changed (vector_of a) }

-- t is the topology for which a tree holds an outcome
module _ {B P V : Type 0} (m : Rules B P V) (wires : List (TreePort ℕ ℕ ℕ P)) (tree : Tree B P V) (held : IsHeld m wires tree) (t : Topology ℕ ℕ ℕ B P) (is : t ≡ topology_on wires tree) where
  held_settled : IsSettledFor m t tree.outcome
  held_settled = subst (λ z. IsSettledFor m z tree.outcome) (sym is) held.settled

  -- each bridge that has a vector has space where the topology has, and each LAN that has a designated port
  module _ (a : Assignment V) (space : HasSpaceFor t a) where
    pub vectors_have_space : (n : ℕ) (x : V) → vector_of tree.outcome n ≡ Some x → HasRoom a.touched_bridges n
    vectors_have_space n x e = let b = held_settled.vectors.is_bridge n x e in space.bridges n b.0 b.1

    pub ports_have_space : (lan port : ℕ) → designated_of tree.outcome lan ≡ Some port → HasRoom a.touched_lans lan
    ports_have_space lan port e =
        let d : IsDesignated m t (vector_of tree.outcome) lan (Some port) = subst (IsDesignated m t (vector_of tree.outcome) lan) e (held_settled.designated lan) in
        let designates = d.3 in
        subst (λ k. HasRoom a.touched_lans k) designates.on_lan (space.lans d.0 designates.says.has_port)

  module _ (u v : Topology ℕ ℕ ℕ B P) (to : u ≡ v) where
    -- the same tree
    pub stands : t.bridges ≡ u.bridges → ((p : TreePort ℕ ℕ ℕ P) → HasPort t p ↔ HasPort u p) → (outcome : Option (Assignment V)) (n : ℕ) → outcome_of outcome n ≡ tree.outcome → IsSettledOn m v (vector_of tree.outcome) outcome 0
    stands bridges ports outcome n same =
        subst (λ z. IsSettledOn m z (vector_of tree.outcome) outcome 0) to
        (subst (λ z. IsSettledOn m u (vector_of z) outcome 0) same
        (standing m t u bridges ports outcome n (subst (IsSettledFor m t) (sym same) held_settled)))

    -- the outcome taken over, then with what differs touched
    module _ (a : Assignment V) (vectors : (n : ℕ) → vector_of a n ≡ vector_of tree.outcome n) (designated : (lan : ℕ) → designated_of a lan ≡ designated_of tree.outcome lan)
        (c : Assignment V) (touched : KeepsOutcome a c) where
      pub can_repair : TouchesMissing t u c → TouchesMissing u t c → IsRepairable m (vector_of c) (designated_of c) c.touched_bridges c.touched_lans u
      can_repair there back = repairable t u c there back m (subst (IsTopology m) (sym is) held.topology)
          (subst (λ (z : Topology ℕ ℕ ℕ B P). length z.bridges ≤ 1024) (sym is) held.size)
          (settled_same tree.outcome c (λ n. touched.vectors n ∙ vectors n) m t (λ lan. touched.designated lan ∙ designated lan) held_settled)

-- a copy of what a settler settled for the topology u is kept
module _ {B P V : Type 0} (m : Rules B P V) (u v : Topology ℕ ℕ ℕ B P) (to : u ≡ v) (before : ℕ → Option V) (d : Assignment V) (settled : IsSettledFor m u d) (bounds : WithinBounds before (vector_of d) d.settlings) where
  pub is_settled_on : (copy : Assignment V) → ((k : ℕ) → vector_of copy k ≡ vector_of d k) → ((lan : ℕ) → designated_of copy lan ≡ designated_of d lan)
      → (kept : Assignment V) (n : ℕ) → kept ≡ copy → n ≡ d.settlings → IsSettledOn m v before (Some kept) n
  is_settled_on copy same_vectors same_designated kept n same_kept same_n =
      let there = settled_same d copy same_vectors m u same_designated settled in
      let on_u : IsSettledOn m u before (Some copy) d.settlings = record {
        settled = record { vectors = there.vectors; designated = there.designated };
        bounds = subst (λ (w : ℕ → Option V). WithinBounds before w d.settlings) (sym (vectors_same d copy same_vectors)) bounds;
      } in
      rw (same_kept, same_n) (subst (λ z. IsSettledOn m z before (Some copy) d.settlings) to on_u)

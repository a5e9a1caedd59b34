-- Topologies with the same bridges and the same ports that take part have the same settled vectors.
use Rattle.std.proofs.Common.{inl, inr, Option, Some, None}
use Rattle.mst_vector.specs.Rules.{Rules}
use Rattle.mst_topology.specs.Topology.{TreePort, Topology, HasBridge}
use Rattle.mst_topology.specs.Settled.{IsDesignatedVector, Designates, IsRootPathVector, CanTake, IsVectorOf, Settled, IsDesignated}
use Rattle.mst_nested.specs.Trees.{TakesPart}

-- what takes part in t takes part in u
pub record IsWithinTopology {N L K B P : Type 0} (t u : Topology N L K B P) : Type 0 where
  pub bridges : (n : N) (b : B) → HasBridge t n b → HasBridge u n b
  pub ports : (p : TreePort N L K P) → TakesPart t p → TakesPart u p

module _ {N L K B P V : Type 0} (m : Rules B P V) (v : N → Option V) where
  says_too : (t u : Topology N L K B P) → IsWithinTopology t u → (p : TreePort N L K P) (x : V) → IsDesignatedVector m t v p x → IsDesignatedVector m u v p x
  says_too t u to p x s =
      let part = to.ports p (s.has_port, s.is_part) in
      record { has_port = part.0; is_part = part.1; bridge = s.bridge; has_bridge = to.bridges p.bridge s.bridge s.has_bridge; root = s.root; is_root = s.is_root; is_designated = s.is_designated }

  pub designates_too : (t u : Topology N L K B P) → IsWithinTopology t u → IsWithinTopology u t → (lan : L) (p : TreePort N L K P) (x : V) → Designates m t v lan p x → Designates m u v lan p x
  designates_too t u to from lan p x d = record { on_lan = d.on_lan; says = says_too t u to p x d.says; upto = λ q y on s. d.upto q y on (says_too u t from q y s) }

  pub designated_too : (t u : Topology N L K B P) → IsWithinTopology t u → IsWithinTopology u t → (lan : L) (o : Option K) → IsDesignated m t v lan o → IsDesignated m u v lan o
  designated_too t u to from lan None h = λ p x on s. h p x on (says_too u t from p x s)
  designated_too t u to from lan (Some k) h = (h.0, h.1, h.2, designates_too t u to from lan h.0 h.1 h.3)

  take_too : (t u : Topology N L K B P) → IsWithinTopology t u → IsWithinTopology u t → (n : N) (b : B) (x : V) → CanTake m t v n b x → CanTake m u v n b x
  take_too t u to from n b x can = elim can [ inl e ↦ inl e | inr s ↦ inr (go s) ]
    where
      go : IsRootPathVector m t v n b x → IsRootPathVector m u v n b x
      go s =
          let part = to.ports s.port (s.has_port, s.is_part) in
          record {
            port = s.port;
            has_port = part.0;
            is_part = part.1;
            is_free = s.is_free;
            on_bridge = s.on_bridge;
            from = s.from;
            message = s.message;
            designates = designates_too t u to from s.port.lan s.from s.message s.designates;
            from_other = s.from_other;
            sender = s.sender;
            has_sender = to.bridges s.from.bridge s.sender s.has_sender;
            is_made = s.is_made;
          }

  pub settled_too : (t u : Topology N L K B P) → IsWithinTopology t u → IsWithinTopology u t → Settled m t v → Settled m u v
  settled_too t u to from s = record {
    has_vector = λ n b has. s.has_vector n b (from.bridges n b has);
    is_bridge = λ n x e. (let b = s.is_bridge n x e in (b.0, to.bridges n b.0 b.1));
    bridges = λ n b x has e. vector n b x (s.bridges n b x (from.bridges n b has) e);
  }
    where
      vector : (n : N) (b : B) (x : V) → IsVectorOf m t v n b x → IsVectorOf m u v n b x
      vector n b x i = record { can_take = take_too t u to from n b x i.can_take; upto = λ y can. i.upto y (take_too u t from to n b y can) }

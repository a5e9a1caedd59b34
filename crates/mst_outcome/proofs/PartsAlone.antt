-- The outcome of two topologies that have the same parts.
use Rattle.std.specs.Prelude.{Option, Some, None}
use Rattle.std.proofs.Common.{inl, inr}
use Rattle.mst_vector.specs.Rules.{Rules}
use Rattle.mst_topology.specs.Topology.{TreePort, Topology}
use Rattle.mst_topology.specs.Settled.{IsDesignatedVector, Designates, IsRootPathVector, CanTake, Settled, IsDesignated}
use Rattle.mst_outcome.specs.Parts.{SameParts}

module _ {N L K B P V : Type 0} (m : Rules B P V) (v : N → Option V) where
  module _ (t u : Topology N L K B P) (h : SameParts t u) where
    says_there : (p : TreePort N L K P) (x : V) → IsDesignatedVector m t v p x → IsDesignatedVector m u v p x
    says_there p x s = record {
      has_port = (h.ports p s.is_part).0 s.has_port;
      is_part = s.is_part;
      bridge = s.bridge;
      has_bridge = (h.bridges p.bridge s.bridge).0 s.has_bridge;
      root = s.root;
      is_root = s.is_root;
      is_designated = s.is_designated;
    }

    says_back : (p : TreePort N L K P) (x : V) → IsDesignatedVector m u v p x → IsDesignatedVector m t v p x
    says_back p x s = record {
      has_port = (h.ports p s.is_part).1 s.has_port;
      is_part = s.is_part;
      bridge = s.bridge;
      has_bridge = (h.bridges p.bridge s.bridge).1 s.has_bridge;
      root = s.root;
      is_root = s.is_root;
      is_designated = s.is_designated;
    }

    designates_there : (lan : L) (p : TreePort N L K P) (x : V) → Designates m t v lan p x → Designates m u v lan p x
    designates_there lan p x d = record { on_lan = d.on_lan; says = says_there p x d.says; upto = λ q y on s. d.upto q y on (says_back q y s) }

    steps_there : (n : N) (b : B) (x : V) → IsRootPathVector m t v n b x → IsRootPathVector m u v n b x
    steps_there n b x s = record {
      port = s.port;
      has_port = (h.ports s.port s.is_part).0 s.has_port;
      is_part = s.is_part;
      is_free = s.is_free;
      on_bridge = s.on_bridge;
      from = s.from;
      message = s.message;
      designates = designates_there s.port.lan s.from s.message s.designates;
      from_other = s.from_other;
      sender = s.sender;
      has_sender = (h.bridges s.from.bridge s.sender).0 s.has_sender;
      is_made = s.is_made;
    }

    take_there : (n : N) (b : B) (x : V) → CanTake m t v n b x → CanTake m u v n b x
    take_there n b x can = elim can [ inl e ↦ inl e | inr s ↦ inr (steps_there n b x s) ]

    pub designated_there : (lan : L) (o : Option K) → IsDesignated m t v lan o → IsDesignated m u v lan o
    designated_there lan None silent = λ p x on s. silent p x on (says_back p x s)
    designated_there lan (Some q) d = (d.0, d.1, d.2, designates_there lan d.0 d.1 d.3)

  parts_back : (t u : Topology N L K B P) → SameParts t u → SameParts u t
  parts_back t u h = record { bridges = λ n b. let e = h.bridges n b in (e.1, e.0); ports = λ p i. let e = h.ports p i in (e.1, e.0) }

  pub settled_there : (t u : Topology N L K B P) → SameParts t u → Settled m t v → Settled m u v
  settled_there t u h s = record {
    has_vector = λ n b i. s.has_vector n b ((h.bridges n b).1 i);
    is_bridge = λ n x e. let b = s.is_bridge n x e in (b.0, (h.bridges n b.0).0 b.1);
    bridges = λ n b x i e. let is = s.bridges n b x ((h.bridges n b).1 i) e in record {
      can_take = take_there t u h n b x is.can_take;
      upto = λ y can. is.upto y (take_there u t (parts_back t u h) n b y can);
    };
  }

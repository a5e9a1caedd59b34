-- Each bridge and LAN with a vector is in the part of a bridge, and the regional root tells the part.
use Rattle.std.proofs.Common.{◌≡◌, ◌≢◌, ◌⊎◌, inl, inr, refl, sym, ◌∙◌, ap, ℕ, suc, Option, Some, None}
use Rattle.mst_vector.specs.declared.cist.CistVector.{CistVector}
use Rattle.mst_vector.specs.declared.cist.CistPort.{CistPort}
use Rattle.mst_topology.specs.Topology.{TreePort, KeyTests}
use Rattle.mst_graph.specs.Walks.{Node, bridge_at, lan_at, stay, along}
use Rattle.mst_nested.specs.Ports.{port_ends}
use Rattle.mst_nested.specs.Trees.{Trees, IsInternal, IsSettled, IsFree, SamePart}
use Rattle.mst_nested.specs.Parts.{SameRoots}
use Rattle.mst_nested.proofs.Settled.{cist_tree}
use Rattle.mst_nested.proofs.Ports.{heard_or_none}
use Rattle.mst_nested.proofs.Origins.{designated_port}
use Rattle.mst_graph.proofs.Walks.{back, joined_to}
use Rattle.mst_nested.proofs.Parts.{At, HeardOn, internal_near, IsOuter, vector_at, vector_on, value, part_value, internal_value}
use Rattle.mst_nested.proofs.Roots.{same_roots, regional, part_by_root, same_vector, outer_roots, sends}

-- a number for each part: that of its regional root
abbrev pub part_of : Option CistVector → ℕ
part_of None = 0
part_of (Some x) = suc x.regional

abbrev pub height_of : Option CistVector → ℕ
height_of None = 0
height_of (Some x) = x.external

value_part : (o u : Option CistVector) → value o ≡ value u → part_of o ≡ part_of u
value_part None None e = refl
value_part None (Some y) e = cc
value_part (Some x) None e = cc
value_part (Some x) (Some y) e = ap suc (same_roots x y e).regional

module _ {N L K : Type 0} (f : Trees N L K) (tests : KeyTests N L) (ok : IsSettled f) where
  -- the port of a LAN's designated bridge is internal
  pub heard_internal : {lan : L} → (d : HeardOn f tests ok lan) → IsInternal f d.port
  heard_internal d = designated_port (cist_tree f tests ok) (IsInternal f) (internal_near f tests ok) d

  pub heard_part : {lan : L} → (d : HeardOn f tests ok lan) → SamePart f (lan_at lan) (bridge_at d.port.bridge)
  heard_part d = along d.port (heard_internal d) (inr (ap lan_at d.designates.on_lan, refl)) stay

  -- a bridge of a node's part
  pub record Seat (x : Node N L) : Type 0 where
    pub bridge : N
    pub at : At f tests ok bridge
    pub is_vector : vector_at f tests ok x ≡ Some at.vector
    pub in_part : SamePart f x (bridge_at bridge)

  abbrev pub seat_on : {lan : L} → HeardOn f tests ok lan → Seat (lan_at lan)
  seat_on d = record { bridge = d.port.bridge; at = sends f tests ok d; is_vector = vector_on f tests ok d; in_part = heard_part d }

  abbrev pub seat_at : {n : N} → At f tests ok n → Seat (bridge_at n)
  seat_at {n} a = record { bridge = n; at = a; is_vector = a.is_vector; in_part = stay }

  pub seat : (x : Node N L) → Seat x ⊎ (vector_at f tests ok x ≡ None)
  seat (bridge_at n) = go (f.cist_vector n) refl
    where
      go : (o : Option CistVector) → f.cist_vector n ≡ o → Seat (bridge_at n) ⊎ (f.cist_vector n ≡ None)
      go None e = inr e
      go (Some x) e = let b = ok.cist.settled.is_bridge n x e in inl (seat_at (record { bridge = b.0; has_bridge = b.1; vector = x; is_vector = e }))
  seat (lan_at l) = elim (heard_or_none (cist_tree f tests ok) l) [
    | inl d ↦ inl (seat_on d)
    | inr e ↦ inr e
  ]

  -- bridges whose vectors name one regional root are in one part, and share the rest
  pub record OnePart (n k : N) (x y : CistVector) : Type 0 where
    pub same : SameRoots x y
    pub walk : SamePart f (bridge_at n) (bridge_at k)

  pub one_part : (n k : N) (a : At f tests ok n) (c : At f tests ok k) → a.vector.regional ≡ c.vector.regional → OnePart n k a.vector c.vector
  one_part n k a c e =
      let r = regional f tests ok n a in
      let s = regional f tests ok k c in
      let i = part_by_root f tests ok a c e r s in
      let v = same_vector f tests ok i r.at s.at in
      record {
        same = record {
          root = sym r.same.root ∙ (ap (λ (x : CistVector). x.root) v ∙ s.same.root);
          external = sym r.same.external ∙ (ap (λ (x : CistVector). x.external) v ∙ s.same.external);
          regional = e;
        };
        walk = joined_to port_ends r.in_part (back port_ends (rw i s.in_part));
      }

  -- the number of the part of a bridge or a LAN, and how far down the part is
  abbrev pub part_at : Node N L → ℕ
  part_at x = part_of (vector_at f tests ok x)

  abbrev pub height_at : Node N L → ℕ
  height_at x = height_of (vector_at f tests ok x)

  suc_is : {a b : ℕ} → suc a ≡ suc b → a ≡ b
  suc_is e = cc

  pub same_regional : {x y : Node N L} → (s : Seat x) (u : Seat y) → part_at x ≡ part_at y → s.at.vector.regional ≡ u.at.vector.regional
  same_regional s u e = suc_is (sym (ap part_of s.is_vector) ∙ (e ∙ ap part_of u.is_vector))

  -- nodes of one number are in one part
  pub part_walk : {x y : Node N L} → (s : Seat x) (u : Seat y) → part_at x ≡ part_at y → SamePart f x y
  part_walk s u e = joined_to port_ends s.in_part (joined_to port_ends (one_part s.bridge u.bridge s.at u.at (same_regional s u e)).walk (back port_ends u.in_part))

  pub same_height : (x y : Node N L) → part_at x ≡ part_at y → height_at x ≡ height_at y
  same_height x y e = elim (seat x) [
    | inl s ↦ elim (seat y) [
      | inl u ↦ ap height_of s.is_vector ∙ ((one_part s.bridge u.bridge s.at u.at (same_regional s u e)).same.external ∙ sym (ap height_of u.is_vector))
      | inr g ↦ (let no : suc s.at.vector.regional ≡ 0 = sym (ap part_of s.is_vector) ∙ (e ∙ ap part_of g) in cc)
    ]
    | inr h ↦ elim (seat y) [
      | inl u ↦ (let no : 0 ≡ suc u.at.vector.regional = sym (ap part_of h) ∙ (e ∙ ap part_of u.is_vector) in cc)
      | inr g ↦ ap height_of h ∙ sym (ap height_of g)
    ]
  ]

  -- the two ends of an outer port have different numbers
  pub outer_part : (p : TreePort N L K CistPort) → IsOuter f tests ok p → part_at (bridge_at p.bridge) ≢ part_at (lan_at p.lan)
  outer_part p o e = outer_roots f tests ok p o (same_regional (seat_at o.at) (seat_on o.heard) e)

  -- those of an internal port have one
  module _ (free : IsFree f) where
    pub internal_part : (p : TreePort N L K CistPort) → IsInternal f p → part_at (bridge_at p.bridge) ≡ part_at (lan_at p.lan)
    internal_part p i = value_part (vector_at f tests ok (bridge_at p.bridge)) (vector_at f tests ok (lan_at p.lan)) (internal_value f tests ok free p i)

    -- so do nodes of one part
    pub walk_part : {x y : Node N L} → SamePart f x y → part_at x ≡ part_at y
    walk_part {x} {y} walk = value_part (vector_at f tests ok x) (vector_at f tests ok y) (part_value f tests ok free walk)

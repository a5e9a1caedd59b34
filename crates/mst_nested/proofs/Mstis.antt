-- An MSTI in the parts of its regions.
use Rattle.std.proofs.Common.{◌≡◌, ◌⊎◌, inl, inr, refl, sym, ◌∙◌, ap, ℕ, suc, ◌≤◌, [], ◌∷◌, Option, Some, None, true, false}
use Rattle.std.specs.Ordering.{is_gt}
use Rattle.mst_vector.specs.Msti.{msti_rules, msti_bridge_vector}
use Rattle.mst_vector.specs.declared.cist.CistPort.{CistPort}
use Rattle.mst_vector.specs.declared.msti.MstiVector.{MstiVector}
use Rattle.mst_vector.specs.declared.msti.MstiPort.{MstiPort}
use Rattle.mst_topology.specs.Topology.{TreePort, KeyTests}
use Rattle.mst_graph.specs.Walks.{Node, Walk, bridge_at, lan_at, stay, along}
use Rattle.mst_nested.specs.Ports.{port_ends}
use Rattle.mst_nested.specs.Trees.{Trees, TakesPart, IsSamePort, IsInternal, IsSettled, IsFree, HasTree, SamePart}
use Rattle.mst_nested.specs.Costs.{CostWalk}
use Rattle.mst_nested.proofs.Settled.{msti_tree}
use Rattle.mst_nested.proofs.Orders.{first_upto}
use Rattle.mst_nested.proofs.Within.{msti_within}
use Rattle.mst_nested.proofs.Ports.{Placed, Heard, placed, heard, beside, node_vector, lan_vector_is}
use Rattle.mst_nested.proofs.Origins.{Took, AreNear, origin}
use Rattle.mst_graph.proofs.Walks.{back, weaker, one_value, stays_in}
use Rattle.mst_nested.proofs.CostWalks.{walk_of}
use Rattle.mst_nested.proofs.Parts.{IsOf, keeps_region}

-- a number for each regional root
abbrev pub tree_root_of : Option MstiVector → ℕ
tree_root_of None = 0
tree_root_of (Some x) = suc x.regional

module _ {N L K : Type 0} (f : Trees N L K) (tests : KeyTests N L) (ok : IsSettled f) (j : ℕ) where
  abbrev pub InTree : N → Type 0
  InTree n = Placed (msti_tree f tests ok j) n

  abbrev pub HeardIn : L → Type 0
  HeardIn lan = Heard (msti_tree f tests ok j) lan

  pub at_tree_port : (q : TreePort N L K MstiPort) → TakesPart (f.msti (suc j)) q → InTree q.bridge
  at_tree_port q on = placed (msti_tree f tests ok j) q on

  pub heard_in : (q : TreePort N L K MstiPort) → TakesPart (f.msti (suc j)) q → HeardIn q.lan
  heard_in q on = heard (msti_tree f tests ok j) q on

  pub in_tree : (n : N) → HasTree f (suc j) n → InTree n
  in_tree n has = let x = (ok.msti j).settled.has_vector n has.0 has.1 in record { bridge = has.0; has_bridge = has.1; vector = x.0; is_vector = x.1 }

  pub tree_near : AreNear (msti_tree f tests ok j) (TakesPart (f.msti (suc j)))
  tree_near = record { part = λ q on. on; near = λ q on a d. refl; from_near = λ q on a d e. on }

  -- an internal port of a bridge that has the tree, in the tree
  pub record PortInTree (p : TreePort N L K CistPort) : Type 0 where
    pub port : TreePort N L K MstiPort
    pub part : TakesPart (f.msti (suc j)) port
    pub same : IsSamePort port p

  pub tree_port : (p : TreePort N L K CistPort) → IsInternal f p → HasTree f (suc j) p.bridge → PortInTree p
  tree_port p i has = let q = (ok.nested j).ports p i has in record { port = q.0; part = q.1; same = q.2 }

  -- a walk in the tree stays in a part
  pub same_part : {x y : Node N L} → Walk port_ends (TakesPart (f.msti (suc j))) x y → SamePart f x y
  same_part stay = stay
  same_part (along {a = x} {b = y} q on l rest) = along p.0 p.1 (elim l [ inl h ↦ inl (ap bridge_at (sym p.2.bridge) ∙ h.0, ap lan_at (sym p.2.lan) ∙ h.1) | inr h ↦ inr (ap lan_at (sym p.2.lan) ∙ h.0, ap bridge_at (sym p.2.bridge) ∙ h.1) ]) (same_part rest)
    where
      p : (p : TreePort N L K CistPort) × IsInternal f p × IsSamePort q p
      p = (ok.nested j).from_ports q on

  -- all bridges of a part have the tree if one has
  pub part_tree : (n : N) → HasTree f (suc j) n → (k : N) (r : ℕ) → IsOf f tests ok r (bridge_at n) → IsOf f tests ok r (bridge_at k) → HasTree f (suc j) k
  part_tree n has k r a c = (ok.nested j).regions n k (record { bridge = a.0; has_bridge = a.1; other = c.0; has_other = c.1; same = a.2 ∙ sym c.2 }) has

  -- the region of a bridge that has the tree
  pub region_of : (n : N) → HasTree f (suc j) n → (r : ℕ) × IsOf f tests ok r (bridge_at n)
  region_of n has = let b = (ok.nested j).bridges n has in (b.0.region, (b.0, b.1, refl))

  pub tree_walk : (n : N) {y : Node N L} → HasTree f (suc j) n → SamePart f (bridge_at n) y → Walk port_ends (λ p. IsInternal f p × HasTree f (suc j) p.bridge) (bridge_at n) y
  tree_walk n has walk =
      let r = region_of n has in
      weaker port_ends (λ p h. (h.0, part_tree n has p.bridge r.0 r.1 h.1)) (stays_in port_ends (IsOf f tests ok r.0) (keeps_region f tests ok r.0) r.1 walk)

  -- the vector in the tree of a bridge, and of a LAN's designated bridge
  abbrev pub tree_vector_at : Node N L → Option MstiVector
  tree_vector_at x = node_vector (msti_tree f tests ok j) x

  pub tree_vector_on : {lan : L} → (d : HeardIn lan) → tree_vector_at (lan_at lan) ≡ Some d.designates.says.root
  tree_vector_on {lan} d = lan_vector_is (msti_tree f tests ok j) lan d ∙ d.designates.says.is_root

  first_component : (x y : MstiVector) → msti_within.shared x ≡ msti_within.shared y → x.regional ≡ y.regional
  first_component x y e = cc

  -- where a bridge's vector in the tree comes from
  pub record TreeRoot (n : N) (a : InTree n) : Type 0 where
    pub root : N
    pub at : InTree root
    pub is_named : at.bridge.id ≡ a.vector.regional
    pub no_cost : at.vector.internal ≡ 0
    pub same : at.vector.regional ≡ a.vector.regional
    pub in_part : SamePart f (bridge_at n) (bridge_at root)
    pub walk : CostWalk (TakesPart (f.msti (suc j))) (λ q. q.internal) root n a.vector.internal

  pub tree_root : (n : N) (a : InTree n) → TreeRoot n a
  tree_root n a =
      let o = origin (msti_tree f tests ok j) (TakesPart (f.msti (suc j))) tree_near n a in
      let same = first_component o.at.vector a.vector o.same in
      record {
        root = o.root;
        at = o.at;
        is_named = named o.at o.began ∙ same;
        no_cost = o.no_cost;
        same = same;
        in_part = back port_ends (same_part (walk_of o.walk));
        walk = o.walk;
      }
    where
      named : {k : N} → (c : InTree k) → (c.vector ≡ msti_bridge_vector c.bridge) ⊎ ((t : Took (msti_tree f tests ok j) k c) × (true ≡ false)) → c.bridge.id ≡ c.vector.regional
      named c (inl e) = sym (ap (λ (x : MstiVector). x.regional) e)
      named c (inr t) = let no = t.1 in cc

  -- no regional root is above a bridge's own identifier
  pub upto_own : (n : N) (a : InTree n) → a.vector.regional ≤ a.bridge.id
  upto_own n a = upto a.vector (msti_bridge_vector a.bridge) (((ok.msti j).settled.bridges n a.bridge a.vector a.has_bridge a.is_vector).upto (msti_bridge_vector a.bridge) (inl refl))
    where
      upto : (x y : MstiVector) → is_gt (msti_rules.order x y) ≡ false → x.regional ≤ y.regional
      upto x y h = first_upto x.regional y.regional (x.internal ∷ x.designated ∷ x.port ∷ x.receiver ∷ []) (y.internal ∷ y.designated ∷ y.port ∷ y.receiver ∷ []) h

  module _ (free : IsFree f) where
    tree_port_root : (q : TreePort N L K MstiPort) → TakesPart (f.msti (suc j)) q → tree_root_of (tree_vector_at (bridge_at q.bridge)) ≡ tree_root_of (tree_vector_at (lan_at q.lan))
    tree_port_root q on =
        let a = at_tree_port q on in
        let d = heard_in q on in
        let h = beside (msti_tree f tests ok j) q on (free.msti j q on.0) a d refl in
        ap tree_root_of a.is_vector ∙ (ap suc (first_component a.vector d.designates.says.root h.same) ∙ sym (ap tree_root_of (tree_vector_on d)))

    pub internal_tree_root : (p : TreePort N L K CistPort) → IsInternal f p → HasTree f (suc j) p.bridge → tree_root_of (tree_vector_at (bridge_at p.bridge)) ≡ tree_root_of (tree_vector_at (lan_at p.lan))
    internal_tree_root p i has =
        let q = tree_port p i has in
        ap (λ n. tree_root_of (tree_vector_at (bridge_at n))) (sym q.same.bridge) ∙ (tree_port_root q.port q.part ∙ ap (λ l. tree_root_of (tree_vector_at (lan_at l))) q.same.lan)

    -- a part has one regional root in the tree
    pub part_tree_root : (n : N) {y : Node N L} → HasTree f (suc j) n → SamePart f (bridge_at n) y → tree_root_of (tree_vector_at (bridge_at n)) ≡ tree_root_of (tree_vector_at y)
    part_tree_root n has walk = one_value port_ends (λ x. tree_root_of (tree_vector_at x)) (λ p h. internal_tree_root p h.0 h.1) (tree_walk n has walk)

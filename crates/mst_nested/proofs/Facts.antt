-- What the vectors of a part's bridges name, as laws say it.
use Rattle.std.proofs.Common.{◌≡◌, inl, inr, refl, sym, ◌∙◌, ap, ℕ, zero, suc, ◌<◌, ◌≤◌, [], ◌∷◌, Some, false, arith}
use Rattle.std.specs.Ordering.{is_gt}
use Rattle.mst_vector.specs.Cist.{cist_rules, cist_bridge_vector}
use Rattle.mst_vector.specs.declared.cist.CistVector.{CistVector}
use Rattle.mst_vector.specs.declared.cist.CistBridge.{CistBridge}
use Rattle.mst_vector.specs.declared.cist.CistPort.{CistPort}
use Rattle.mst_vector.specs.declared.msti.MstiVector.{MstiVector}
use Rattle.mst_vector.specs.declared.msti.MstiBridge.{MstiBridge}
use Rattle.mst_topology.specs.Topology.{TreePort, HasBridge, KeyTests}
use Rattle.mst_graph.specs.Walks.{Walk, bridge_at, lan_at, along}
use Rattle.mst_nested.specs.Ports.{port_ends}
use Rattle.mst_nested.specs.Trees.{Trees, TakesPart, IsEnabled, IsInternal, IsSettled, IsFree, SameRegion, SamePart}
use Rattle.mst_nested.specs.Parts.{SameRoots, HasRoot, HasRegionalRoot, HasMstiRoot}
use Rattle.mst_nested.proofs.Settled.{cist_tree, msti_tree}
use Rattle.mst_nested.proofs.Orders.{first_upto}
use Rattle.mst_nested.proofs.Origins.{reached, names_port}
use Rattle.mst_graph.proofs.Walks.{joined_to, weaker, one_value}
use Rattle.mst_nested.proofs.Parts.{At, heard_at, internal_near, part_region, vector_at, value, part_value}
use Rattle.mst_nested.proofs.Roots.{same_roots, Regional, regional, TookFar, far_outer, leads_out, root_of, enabled_root, sends}
use Rattle.mst_nested.proofs.Seats.{one_part, heard_part}
use Rattle.mst_nested.proofs.Mstis.{InTree, in_tree, tree_near, TreeRoot, tree_root, upto_own, tree_vector_at, tree_root_of, part_tree_root}

module _ {N L K : Type 0} (f : Trees N L K) (tests : KeyTests N L) (ok : IsSettled f) where
  abbrev pub at : (n : N) (x : CistVector) → f.cist_vector n ≡ Some x → At f tests ok n
  at n x e = let b = ok.cist.settled.is_bridge n x e in record { bridge = b.0; has_bridge = b.1; vector = x; is_vector = e }

  -- the LAN of an enabled port is in the part of a bridge
  pub lan_in_part : (p : TreePort N L K CistPort) → IsEnabled f p → (n : N) × (b : CistBridge) × HasBridge f.cist n b × SamePart f (lan_at p.lan) (bridge_at n)
  lan_in_part p on = let d = heard_at f tests ok p on in let a = sends f tests ok d in (d.port.bridge, a.bridge, a.has_bridge, heard_part f tests ok d)

  pub one_region : (n k : N) (b : CistBridge) → HasBridge f.cist n b → SamePart f (bridge_at n) (bridge_at k) → SameRegion f n k
  one_region n k b has walk =
      let c = part_region f tests ok b.region walk (b, has, refl) in
      record { bridge = b; has_bridge = has; other = c.0; has_other = c.1; same = sym c.2 }

  pub by_regional : (n k : N) (x y : CistVector) → f.cist_vector n ≡ Some x → f.cist_vector k ≡ Some y → x.regional ≡ y.regional → SamePart f (bridge_at n) (bridge_at k)
  by_regional n k x y e g h = (one_part f tests ok n k (at n x e) (at k y g) h).walk

  internal_enabled : (p : TreePort N L K CistPort) → IsInternal f p → IsEnabled f p
  internal_enabled p i = i.is_enabled

  -- where the chain of regional roots begins, by external root path costs
  record Top (n : N) (a : At f tests ok n) : Type 0 where
    root : N
    at : At f tests ok root
    is_own : at.vector ≡ cist_bridge_vector at.bridge
    is_linked : Walk port_ends (IsEnabled f) (bridge_at n) (bridge_at root)

  top_below : (bound : ℕ) (n : N) (a : At f tests ok n) → a.vector.external < bound → Top n a
  top_below zero n a low = absurd (omega arith)
  top_below (suc bound) n a low = go (regional f tests ok n a) (top_below bound)
    where
      go : Regional f tests ok n a → ((k : N) (c : At f tests ok k) → c.vector.external < bound → Top k c) → Top n a
      go r rest = elim r.began [
        | inl own ↦ record { root = r.root; at = r.at; is_own = own; is_linked = weaker port_ends internal_enabled r.in_part }
        | inr t ↦ over r rest t
      ]
        where
          over : (r : Regional f tests ok n a) → ((k : N) (c : At f tests ok k) → c.vector.external < bound → Top k c) → TookFar f tests ok r.root r.at → Top n a
          over r rest t =
              let o = far_outer f tests ok r.root r.at t in
              let e = r.same.external in
              let falls = (leads_out f tests ok t.0.port o t.0.part (names_port (cist_tree f tests ok) r.root r.at t.0)).falls in
              let from = sends f tests ok t.0.heard in
              let more = rest t.0.heard.port.bridge from (omega arith) in
              let up = along t.0.port t.0.part (inl (ap bridge_at t.0.on_bridge, refl)) (weaker port_ends internal_enabled (heard_part f tests ok t.0.heard)) in
              record { root = more.root; at = more.at; is_own = more.is_own; is_linked = joined_to port_ends (weaker port_ends internal_enabled r.in_part) (joined_to port_ends up more.is_linked) }

  module _ (free : IsFree f) where
    pub one_roots : (n k : N) (x y : CistVector) → f.cist_vector n ≡ Some x → f.cist_vector k ≡ Some y → SamePart f (bridge_at n) (bridge_at k) → SameRoots x y
    one_roots n k x y e g walk = same_roots x y (ap value (sym e) ∙ (part_value f tests ok free walk ∙ ap value g))

    pub has_regional_root : (n : N) (x : CistVector) → f.cist_vector n ≡ Some x → HasRegionalRoot f n x
    has_regional_root n x e =
        let a = at n x e in
        let r = regional f tests ok n a in
        record {
          root = r.root;
          bridge = r.at.bridge;
          has_bridge = r.at.has_bridge;
          is_named = r.is_named;
          in_part = r.in_part;
          walk = r.walk;
          cheapest = λ c walk. (let h = (reached (cist_tree f tests ok) (IsInternal f) (internal_near f tests ok) free.cist walk r.at a).cheap in let none = r.no_cost in omega arith);
        }

    pub has_msti_root : (j : ℕ) (n : N) (x : MstiVector) → f.msti_vector (suc j) n ≡ Some x → HasMstiRoot f n (suc j) x
    has_msti_root j n x e =
        let b = (ok.msti j).settled.is_bridge n x e in
        let a : InTree f tests ok j n = record { bridge = b.0; has_bridge = b.1; vector = x; is_vector = e } in
        let r = tree_root f tests ok j n a in
        record {
          root = r.root;
          bridge = r.at.bridge;
          has_bridge = r.at.has_bridge;
          is_named = r.is_named;
          in_part = r.in_part;
          least = λ k c has walk. least a r k c has walk;
          walk = r.walk;
          cheapest = λ c walk. (let h = (reached (msti_tree f tests ok j) (TakesPart (f.msti (suc j))) (tree_near f tests ok j) (free.msti j) walk r.at a).cheap in let none = r.no_cost in omega arith);
        }
      where
        least : (a : InTree f tests ok j n) → (r : TreeRoot f tests ok j n a) → (k : N) (c : MstiBridge) → HasBridge (f.msti (suc j)) k c → SamePart f (bridge_at n) (bridge_at k) → r.at.bridge.id ≤ c.id
        least a r k c has walk =
            let d = in_tree f tests ok j k (c, has) in
            let same = (ok.msti j).topology.one_bridge k d.bridge c d.has_bridge has in
            let there : tree_root_of (tree_vector_at f tests ok j (bridge_at n)) ≡ suc a.vector.regional = ap tree_root_of a.is_vector in
            let here : tree_root_of (tree_vector_at f tests ok j (bridge_at k)) ≡ suc d.vector.regional = ap tree_root_of d.is_vector in
            let one = part_tree_root f tests ok j free n (a.bridge, a.has_bridge) walk in
            let low = upto_own f tests ok j k d in
            let id : d.bridge.id ≡ c.id = ap (λ (b : MstiBridge). b.id) same in
            let named = r.is_named in
            omega arith

    -- no root is above a bridge's own identifier
    cist_upto_own : (n : N) (a : At f tests ok n) → a.vector.root ≤ a.bridge.id
    cist_upto_own n a = upto a.vector (cist_bridge_vector a.bridge) ((ok.cist.settled.bridges n a.bridge a.vector a.has_bridge a.is_vector).upto (cist_bridge_vector a.bridge) (inl refl))
      where
        upto : (x y : CistVector) → is_gt (cist_rules.order x y) ≡ false → x.root ≤ y.root
        upto x y h = first_upto x.root y.root (x.external ∷ x.regional ∷ x.internal ∷ x.designated ∷ x.port ∷ x.receiver ∷ []) (y.external ∷ y.regional ∷ y.internal ∷ y.designated ∷ y.port ∷ y.receiver ∷ []) h

    pub linked_root : (n k : N) (a : At f tests ok n) (c : At f tests ok k) → Walk port_ends (IsEnabled f) (bridge_at n) (bridge_at k) → a.vector.root ≡ c.vector.root
    linked_root n k a c walk =
        let one = one_value port_ends (λ x. root_of (vector_at f tests ok x)) (enabled_root f tests ok free) walk in
        let here : root_of (vector_at f tests ok (bridge_at n)) ≡ suc a.vector.root = ap root_of a.is_vector in
        let there : root_of (vector_at f tests ok (bridge_at k)) ≡ suc c.vector.root = ap root_of c.is_vector in
        omega arith

    pub has_root : (n : N) (x : CistVector) → f.cist_vector n ≡ Some x → HasRoot f n x
    has_root n x e = go (at n x e) (top_below (suc x.external) n (at n x e) (omega arith))
      where
        go : (a : At f tests ok n) → Top n a → HasRoot f n a.vector
        go a t =
            let named : t.at.vector.root ≡ t.at.bridge.id = ap (λ (y : CistVector). y.root) t.is_own in
            let one = linked_root n t.root a t.at t.is_linked in
            record {
              root = t.root;
              bridge = t.at.bridge;
              has_bridge = t.at.has_bridge;
              is_named = sym named ∙ sym one;
              is_linked = t.is_linked;
              least = λ k b has walk. (let x = ok.cist.settled.has_vector k b has in let c : At f tests ok k = record { bridge = b; has_bridge = has; vector = x.0; is_vector = x.1 } in let low = cist_upto_own k c in let same = linked_root n k a c walk in omega arith);
            }

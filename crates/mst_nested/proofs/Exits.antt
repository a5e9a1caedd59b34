-- A part has an exit, or holds the root of the CIST.
use Rattle.std.proofs.Common.{◌≡◌, ◌⊎◌, inl, inr, refl, sym, ◌∙◌, ap, subst, ℕ, Some, [], ◌∷◌, arith}
use Rattle.mst_vector.specs.Cist.{cist_bridge_vector, cist_components}
use Rattle.mst_vector.specs.declared.cist.CistVector.{CistVector}
use Rattle.mst_vector.specs.declared.cist.CistBridge.{CistBridge}
use Rattle.mst_vector.specs.declared.cist.CistPort.{CistPort}
use Rattle.mst_topology.specs.Topology.{TreePort, HasBridge, KeyTests}
use Rattle.mst_graph.specs.Walks.{bridge_at, stay, along}
use Rattle.mst_nested.specs.Ports.{port_ends}
use Rattle.mst_nested.specs.Trees.{Trees, IsEnabled, IsInternal, IsSettled, IsFree, HasTree, SamePart}
use Rattle.mst_nested.proofs.Settled.{cist_tree}
use Rattle.mst_nested.proofs.Orders.{Upto, first_upto, rest_upto}
use Rattle.mst_nested.proofs.Ports.{some_is}
use Rattle.mst_graph.proofs.Walks.{joined_to, back}
use Rattle.mst_nested.proofs.Parts.{At, IsOuter, sides, outer_not_internal}
use Rattle.mst_nested.proofs.Roots.{Regional, regional, TookFar, far_outer, LeadsOut, leads_out, sends}
use Rattle.mst_nested.proofs.Seats.{outer_part, walk_part, heard_part}
use Rattle.mst_nested.proofs.Facts.{at, one_roots}
use Rattle.mst_nested.specs.Roles.{IsCistRoot, Forwards}
use Rattle.mst_nested.specs.Exits.{IsCrossing, IsExit, HoldsRoot, HasOneExit}
use Rattle.mst_nested.proofs.OneTree.{one_root_port, took_root}
use Rattle.mst_nested.proofs.TreeRoles.{outer_role, outer_forwards}

module _ {N L K : Type 0} (f : Trees N L K) (tests : KeyTests N L) (ok : IsSettled f) (free : IsFree f) where
  -- the outer ports are those between parts
  crossing_outer : (p : TreePort N L K CistPort) → IsCrossing f p → IsOuter f tests ok p
  crossing_outer p c = elim (sides f tests ok p c.is_enabled) [ inl i ↦ absurd (c.apart (along p i (inl (refl, refl)) stay)) | inr o ↦ o ]

  outer_crossing : (p : TreePort N L K CistPort) → IsEnabled f p → IsOuter f tests ok p → IsCrossing f p
  outer_crossing p on o = record { is_enabled = on; apart = λ walk. outer_part f tests ok p o (walk_part f tests ok free walk) }

  crossing_not_internal : (p : TreePort N L K CistPort) → IsCrossing f p → IsInternal f p → ⊥
  crossing_not_internal p c i = outer_not_internal f tests ok p (crossing_outer p c) i

  vector_is : (p : TreePort N L K CistPort) → (o : IsOuter f tests ok p) (r : IsCistRoot f p) → o.at.vector ≡ r.vector
  vector_is p o r = some_is (sym o.at.is_vector ∙ r.is_vector)

  leads : (p : TreePort N L K CistPort) → IsEnabled f p → (o : IsOuter f tests ok p) → IsCistRoot f p → LeadsOut f tests ok p o
  leads p on o r = leads_out f tests ok p o on (ap (λ (x : CistVector). x.receiver) (vector_is p o r) ∙ r.came_by)

  root_exit : (p : TreePort N L K CistPort) → IsCrossing f p → IsCistRoot f p → IsExit f p
  root_exit p c r =
      let o = crossing_outer p c in
      record { is_crossing = c; is_root = r; bridge = o.at.bridge; has_bridge = o.at.has_bridge; is_regional = sym (leads p c.is_enabled o r).is_root ∙ ap (λ (x : CistVector). x.regional) (vector_is p o r) }

  -- a crossing port forwards in a tree of its bridge exactly where it is an exit
  pub forwards_exit : (i : ℕ) (p : TreePort N L K CistPort) → IsCrossing f p → Forwards f i p → IsExit f p
  forwards_exit i p c h = root_exit p c (outer_role f tests ok i p (crossing_not_internal p c) h)

  pub exit_forwards : (i : ℕ) (p : TreePort N L K CistPort) → IsExit f p → HasTree f i p.bridge → Forwards f i p
  exit_forwards i p e has = outer_forwards f tests ok i p (crossing_not_internal p e.is_crossing) has e.is_root

  -- the exit's bridge with its vector
  exit_at : (p : TreePort N L K CistPort) → (e : IsExit f p) → At f tests ok p.bridge
  exit_at p e = record { bridge = e.bridge; has_bridge = e.has_bridge; vector = e.is_root.vector; is_vector = e.is_root.is_vector }

  -- the root of the CIST has no external root path cost
  no_external : (n : N) (b : CistBridge) (x : CistVector) → HasBridge f.cist n b → f.cist_vector n ≡ Some x → x.root ≡ b.id → x.external ≡ 0
  no_external n b x has e h = upto ((ok.cist.settled.bridges n b x has e).upto (cist_bridge_vector b) (inl refl))
    where
      upto : Upto (cist_components x) (cist_components (cist_bridge_vector b)) → x.external ≡ 0
      upto u =
          let rest = rest_upto x.root b.id (x.external ∷ x.regional ∷ x.internal ∷ x.designated ∷ x.port ∷ x.receiver ∷ []) (0 ∷ b.id ∷ 0 ∷ b.id ∷ 0 ∷ 0 ∷ []) u (omega arith) in
          let low = first_upto x.external 0 (x.regional ∷ x.internal ∷ x.designated ∷ x.port ∷ x.receiver ∷ []) (b.id ∷ 0 ∷ b.id ∷ 0 ∷ 0 ∷ []) rest in
          omega arith

  -- no exit where the part holds the root
  pub no_exit : (n : N) (x : CistVector) → f.cist_vector n ≡ Some x → HoldsRoot f n x → (p : TreePort N L K CistPort) → IsExit f p → SamePart f (bridge_at n) (bridge_at p.bridge) → ⊥
  no_exit n x e h p exit walk =
      let y = ok.cist.settled.has_vector h.root h.bridge h.has_bridge in
      let there = one_roots f tests ok free n h.root x y.0 e y.1 h.in_part in
      let here = one_roots f tests ok free n p.bridge x exit.is_root.vector e exit.is_root.is_vector walk in
      let none = no_external h.root h.bridge y.0 h.has_bridge y.1 (sym there.root ∙ sym h.is_named) in
      let o = crossing_outer p exit.is_crossing in
      let falls = (leads p exit.is_crossing.is_enabled o exit.is_root).falls in
      let vector : o.at.vector.external ≡ exit.is_root.vector.external = ap (λ (z : CistVector). z.external) (vector_is p o exit.is_root) in
      let i = there.external in
      let k = here.external in
      absurd (omega arith)

  -- exits of one part are one
  one_exit : (p q : TreePort N L K CistPort) → IsExit f p → IsExit f q → SamePart f (bridge_at p.bridge) (bridge_at q.bridge) → p ≡ q
  one_exit p q e g walk =
      let a = exit_at p e in
      let c = exit_at q g in
      let roots = (one_roots f tests ok free p.bridge q.bridge e.is_root.vector g.is_root.vector e.is_root.is_vector g.is_root.is_vector walk).regional in
      let ids : e.bridge.id ≡ g.bridge.id = e.is_regional ∙ (roots ∙ sym g.is_regional) in
      one_root_port (cist_tree f tests ok) p q e.is_root g.is_root (ok.cist.topology.bridge_ids p.bridge q.bridge e.bridge g.bridge e.has_bridge g.has_bridge ids)

  pub holds_or_exits : (n : N) (x : CistVector) → f.cist_vector n ≡ Some x → HoldsRoot f n x ⊎ HasOneExit f n x
  holds_or_exits n x e = go (at f tests ok n x e)
    where
      go : (a : At f tests ok n) → HoldsRoot f n a.vector ⊎ HasOneExit f n a.vector
      go a = by (regional f tests ok n a)
        where
          by : Regional f tests ok n a → HoldsRoot f n a.vector ⊎ HasOneExit f n a.vector
          by r = elim r.began [
            | inl own ↦ inl (record { root = r.root; bridge = r.at.bridge; has_bridge = r.at.has_bridge; is_named = sym (ap (λ (y : CistVector). y.root) own) ∙ r.same.root; in_part = r.in_part })
            | inr t ↦ inr (exits r t)
          ]
            where
              exits : (r : Regional f tests ok n a) → TookFar f tests ok r.root r.at → HasOneExit f n a.vector
              exits r t =
                  let p = t.0.port in
                  let o = far_outer f tests ok r.root r.at t in
                  let cross = outer_crossing p t.0.part o in
                  let root = took_root (cist_tree f tests ok) r.root r.at t.0 in
                  let exit = root_exit p cross root in
                  let to : SamePart f (bridge_at n) (bridge_at p.bridge) = subst (λ k. SamePart f (bridge_at n) (bridge_at k)) (sym t.0.on_bridge) r.in_part in
                  record {
                    port = p;
                    is_exit = exit;
                    in_part = to;
                    alone = λ q g walk. one_exit q p g exit (joined_to port_ends (back port_ends walk) to);
                    falls = λ k y g walk. (let from = sends f tests ok t.0.heard in
                        let lan = (one_roots f tests ok free t.0.heard.port.bridge k from.vector y from.is_vector g (joined_to port_ends (back port_ends (heard_part f tests ok t.0.heard)) walk)).external in
                        let low = (leads p t.0.part o root).falls in
                        let same = r.same.external in
                        omega arith);
                  }

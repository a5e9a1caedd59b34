-- Settled vectors do not depend on the keys.
use Rattle.std.proofs.Common.{◌≡◌, Option, Some, None, refl, sym, ◌∙◌, ap, subst, inl, inr, IsTrue, true, false}
use Rattle.std.specs.Prelude.{MatchOption}
use Rattle.mst_vector.specs.Rules.{Rules, IsMetric}
use Rattle.mst_topology.specs.Topology.{TreePort, Topology, IsTopology, HasBridge, HasPort}
use Rattle.mst_topology.specs.Settled.{IsDesignatedVector, Designates, IsRootPathVector, Settled, IsDesignated}
use Rattle.mst_outcome.specs.Renamed.{Renaming, renamed, IsRenamed}
use Rattle.mst_topology.proofs.Search.{bind, bind-is}
use Rattle.mst_topology.proofs.Below.{one_designated}
use Rattle.mst_topology.proofs.Unique.{vectors_agree}

module _ {N L K O M J B P V : Type 0} (m : Rules B P V) (t : Topology N L K B P) (ok : IsTopology m t) (u : Topology O M J B P) (r : Renaming N L K O M J) (h : IsRenamed r t u) where
  -- what takes part under new keys did under the old ones
  part_back : (p : TreePort O M J P) (hp : HasPort u p) → IsTrue p.is_part → IsTrue (h.from_port p hp).0.is_part
  part_back p hp part = subst (λ (z : TreePort O M J P). IsTrue z.is_part) (sym (h.from_port p hp).2) part

  -- what is renamed is a topology too
  pub topology_renamed : IsTopology m u
  topology_renamed = record {
    one_bridge = λ o a b ha hb.
        let x = h.from_bridge o a ha in
        let y = h.from_bridge o b hb in
        let same : x.0 ≡ y.0 = h.one_bridge x.0 y.0 a b x.1 y.1 (x.2 ∙ sym y.2) in
        ok.one_bridge y.0 a b (subst (λ (n : N). HasBridge t n a) same x.1) y.1;
    one_port = λ p q hp hq e.
        let x = h.from_port p hp in
        let y = h.from_port q hq in
        let same : x.0 ≡ y.0 = ok.one_port x.0 y.0 x.1 y.1 (h.one_port x.0 y.0 x.1 y.1 (ap (λ (z : TreePort O M J P). z.number) x.2 ∙ e ∙ ap (λ (z : TreePort O M J P). z.number) (sym y.2))) in
        sym x.2 ∙ ap (renamed r) same ∙ y.2;
    has_bridge = λ p hp part.
        let x = h.from_port p hp in
        let b = ok.has_bridge x.0 x.1 (part_back p hp part) in
        (b.0, subst (λ (z : TreePort O M J P). HasBridge u z.bridge b.0) x.2 (h.bridges x.0.bridge b.0 b.1));
    in_range = λ p hp. let x = h.from_port p hp in subst (λ (z : TreePort O M J P). m.in_range z.settings ≡ true) x.2 (ok.in_range x.0 x.1);
    bridge_ids = λ o k a b ha hb e.
        let x = h.from_bridge o a ha in
        let y = h.from_bridge k b hb in
        sym x.2 ∙ ap r.bridge (ok.bridge_ids x.0 y.0 a b x.1 y.1 e) ∙ y.2;
    port_ids = λ p q hp part_p hq part_q e i.
        let x = h.from_port p hp in
        let y = h.from_port q hq in
        let bx = ok.has_bridge x.0 x.1 (part_back p hp part_p) in
        let by = ok.has_bridge y.0 y.1 (part_back q hq part_q) in
        let at : x.0.bridge ≡ y.0.bridge = h.one_bridge x.0.bridge y.0.bridge bx.0 by.0 bx.1 by.1 (ap (λ (z : TreePort O M J P). z.bridge) x.2 ∙ e ∙ ap (λ (z : TreePort O M J P). z.bridge) (sym y.2)) in
        let same : x.0 ≡ y.0 = ok.port_ids x.0 y.0 x.1 (part_back p hp part_p) y.1 (part_back q hq part_q) at (ap (λ (z : TreePort O M J P). m.port_id z.settings) x.2 ∙ i ∙ ap (λ (z : TreePort O M J P). m.port_id z.settings) (sym y.2)) in
        sym x.2 ∙ ap (renamed r) same ∙ y.2;
  }

  module _ (law : IsMetric m) (v : N → Option V) (w : O → Option V) (sv : Settled m t v) (sw : Settled m u w) where
    -- w under the keys of t's bridges
    abbrev back : N → Option V
    back n = bind (v n) (λ x. w (r.bridge n))

    back-at : (n : N) (b : B) → HasBridge t n b → back n ≡ w (r.bridge n)
    back-at n b bn = let x = sv.has_vector n b bn in ap (λ (o : Option V). bind o (λ y. w (r.bridge n))) x.1

    says_to : (p : TreePort N L K P) (x : V) → IsDesignatedVector m t back p x → IsDesignatedVector m u w (renamed r p) x
    says_to p x s = record {
      has_port = h.ports p s.has_port;
      is_part = s.is_part;
      bridge = s.bridge;
      has_bridge = h.bridges p.bridge s.bridge s.has_bridge;
      root = s.root;
      is_root = sym (back-at p.bridge s.bridge s.has_bridge) ∙ s.is_root;
      is_designated = s.is_designated;
    }

    says_from : (p : TreePort N L K P) (x : V) → HasPort t p → IsDesignatedVector m u w (renamed r p) x → IsDesignatedVector m t back p x
    says_from p x hp s =
        let b = ok.has_bridge p hp s.is_part in
        let y = h.from_bridge (r.bridge p.bridge) s.bridge s.has_bridge in
        let same : y.0 ≡ p.bridge = h.one_bridge y.0 p.bridge s.bridge b.0 y.1 b.1 y.2 in
        record {
          has_port = hp;
          is_part = s.is_part;
          bridge = s.bridge;
          has_bridge = subst (λ (n : N). HasBridge t n s.bridge) same y.1;
          root = s.root;
          is_root = back-at p.bridge b.0 b.1 ∙ s.is_root;
          is_designated = s.is_designated;
        }

    designates_to : (lan : L) (p : TreePort N L K P) (x : V) → Designates m t back lan p x → Designates m u w (r.lan lan) (renamed r p) x
    designates_to lan p x d = record {
      on_lan = ap r.lan d.on_lan;
      says = says_to p x d.says;
      upto = λ q y on s.
          let z = h.from_port q s.has_port in
          let at : r.lan z.0.lan ≡ r.lan p.lan = ap (λ (c : TreePort O M J P). c.lan) z.2 ∙ on ∙ ap r.lan (sym d.on_lan) in
          d.upto z.0 y (h.one_lan z.0 p z.1 d.says.has_port at ∙ d.on_lan) (says_from z.0 y z.1 (subst (λ (c : TreePort O M J P). IsDesignatedVector m u w c y) (sym z.2) s));
    }

    designates_from : (a : TreePort N L K P) (q : TreePort O M J P) (x : V) → HasPort t a → Designates m u w (r.lan a.lan) q x → (p : TreePort N L K P) × Designates m t back a.lan p x × (renamed r p ≡ q)
    designates_from a q x ha d =
        let z = h.from_port q d.says.has_port in (
          z.0,
          record {
            on_lan = h.one_lan z.0 a z.1 ha (ap (λ (c : TreePort O M J P). c.lan) z.2 ∙ d.on_lan);
            says = says_from z.0 x z.1 (subst (λ (c : TreePort O M J P). IsDesignatedVector m u w c x) (sym z.2) d.says);
            upto = λ p y on s. d.upto (renamed r p) y (ap r.lan on) (says_to p y s);
          },
          z.2,
        )

    steps_to : (n : N) (b c : B) (x : V) → HasBridge t n b → IsRootPathVector m t back n c x → IsRootPathVector m u w (r.bridge n) c x
    steps_to n b c x bn s = record {
      port = renamed r s.port;
      has_port = h.ports s.port s.has_port;
      is_part = s.is_part;
      is_free = s.is_free;
      on_bridge = ap r.bridge s.on_bridge;
      from = renamed r s.from;
      message = s.message;
      designates = designates_to s.port.lan s.from s.message s.designates;
      from_other = λ e. s.from_other (h.one_bridge s.from.bridge n s.sender b s.has_sender bn e);
      sender = s.sender;
      has_sender = h.bridges s.from.bridge s.sender s.has_sender;
      is_made = s.is_made;
    }

    steps_from : (n : N) (b c : B) (x : V) → HasBridge t n b → IsRootPathVector m u w (r.bridge n) c x → IsRootPathVector m t back n c x
    steps_from n b c x bn s =
        let p = h.from_port s.port s.has_port in
        let bp = ok.has_bridge p.0 p.1 (part_back s.port s.has_port s.is_part) in
        let d = designates_from p.0 s.from s.message p.1 (subst (λ (z : TreePort O M J P). Designates m u w z.lan s.from s.message) (sym p.2) s.designates) in
        let from : r.bridge d.0.bridge ≡ s.from.bridge = ap (λ (z : TreePort O M J P). z.bridge) d.2 in
        let y = h.from_bridge s.from.bridge s.sender s.has_sender in
        let there : y.0 ≡ d.0.bridge = h.one_bridge y.0 d.0.bridge s.sender d.1.says.bridge y.1 d.1.says.has_bridge (y.2 ∙ sym from) in
        record {
          port = p.0;
          has_port = p.1;
          is_part = part_back s.port s.has_port s.is_part;
          is_free = subst (λ (z : TreePort O M J P). z.is_restricted ≡ false) (sym p.2) s.is_free;
          on_bridge = h.one_bridge p.0.bridge n bp.0 b bp.1 bn (ap (λ (z : TreePort O M J P). z.bridge) p.2 ∙ s.on_bridge);
          from = d.0;
          message = s.message;
          designates = d.1;
          from_other = λ e. s.from_other (sym from ∙ ap r.bridge e);
          sender = s.sender;
          has_sender = subst (λ (k : N). HasBridge t k s.sender) there y.1;
          is_made = subst (λ (z : TreePort O M J P). m.root_path_vector s.message s.sender c z.settings ≡ x) (sym p.2) s.is_made;
        }

    settled_back : Settled m t back
    settled_back = record {
      has_vector = λ n b bn. let x = sw.has_vector (r.bridge n) b (h.bridges n b bn) in (x.0, back-at n b bn ∙ x.1);
      is_bridge = λ n x e. let y = bind-is (v n) (λ z. w (r.bridge n)) x e in sv.is_bridge n y.0 y.1;
      bridges = λ n b x bn e.
          let i = sw.bridges (r.bridge n) b x (h.bridges n b bn) (sym (back-at n b bn) ∙ e) in
          record {
            can_take = elim i.can_take [ inl f ↦ inl f | inr s ↦ inr (steps_from n b b x bn s) ];
            upto = λ y can. i.upto y (elim can [ inl f ↦ inl f | inr s ↦ inr (steps_to n b b y bn s) ]);
          };
    }

    agree : v ≡ back
    agree = λ i n. vectors_agree m law t ok v back sv settled_back n i

    -- each bridge has the same vector
    pub vectors_renamed : (n : N) (b : B) → HasBridge t n b → w (r.bridge n) ≡ v n
    vectors_renamed n b bn = sym (back-at n b bn) ∙ sym (vectors_agree m law t ok v back sv settled_back n)

    -- each LAN of a port has the same designated port
    pub ports_renamed : (a : TreePort N L K P) → HasPort t a → (o : Option K) (q : Option J) → IsDesignated m t v a.lan o → IsDesignated m u w (r.lan a.lan) q → MatchOption o (q ≡ None) (λ k. q ≡ Some (r.port k))
    ports_renamed a ha o q d e = go o q (subst (λ (z : N → Option V). IsDesignated m t z a.lan o) agree d) e
      where
        go : (o : Option K) (q : Option J) → IsDesignated m t back a.lan o → IsDesignated m u w (r.lan a.lan) q → MatchOption o (q ≡ None) (λ k. q ≡ Some (r.port k))
        go None None d e = refl
        go None (Some q) d e = let f = designates_from a e.0 e.1 ha e.3 in absurd (d f.0 e.1 f.1.on_lan f.1.says)
        go (Some k) None d e = let f = designates_to a.lan d.0 d.1 d.3 in absurd (e (renamed r d.0) d.1 f.on_lan f.says)
        go (Some k) (Some q) d e =
            let f = designates_to a.lan d.0 d.1 d.3 in
            let same : renamed r d.0 ≡ e.0 = one_designated m law u topology_renamed w (r.lan a.lan) (renamed r d.0) e.0 d.1 e.1 f e.3 in
            ap Some (sym e.2 ∙ ap (λ (z : TreePort O M J P). z.number) (sym same) ∙ ap r.port d.2)

-- Vectors that agree on the bridges whose leading part is below a bound give each bridge the same
-- vectors to take up to that bound.
use Rattle.std.proofs.Common.{◌≡◌, ℕ, List, Option, Some, refl, sym, ◌∙◌, ap, inl, inr, false, Less}
use Rattle.std.specs.declared.cmp.Ordering.{Ordering}
use Rattle.std.specs.Ordering.{is_gt, nat_cmp}
use Rattle.std.specs.Cmp.Lexicographic.{slice_cmp}
use Rattle.std.proofs.lemmas.Cmp.{nat_list_cmp_total, upto}
use Rattle.mst_vector.specs.Rules.{Rules, IsMetric, leading_order}
use Rattle.mst_topology.specs.Topology.{TreePort, Topology, IsTopology}
use Rattle.mst_topology.specs.Settled.{IsDesignatedVector, Designates, IsRootPathVector, CanTake, IsVectorOf}
use Rattle.mst_topology.proofs.Orders.{less_upto, both, first_part, not_less, less_is_upto}

-- whether a leading part is below k
abbrev pub IsBelow : List ℕ → List ℕ → Type 0
IsBelow l k = slice_cmp nat_cmp l k ≡ Less

-- each bridge of v whose leading part is below k has the same vector in w
abbrev pub Below : {N B P V : Type 0} → Rules B P V → List ℕ → (N → Option V) → (N → Option V) → Type 0
Below {N} {B} {P} {V} m k v w = (n : N) (x : V) → v n ≡ Some x → IsBelow (m.leading x) k → w n ≡ Some x

module _ {N L K B P V : Type 0} (m : Rules B P V) (law : IsMetric m) (t : Topology N L K B P) (ok : IsTopology m t) where
  -- of one designated vector there is one port
  pub one_speaker : (v w : N → Option V) (p q : TreePort N L K P) (x : V) → IsDesignatedVector m t v p x → IsDesignatedVector m t w q x → p ≡ q
  one_speaker v w p q x s r =
      let e = law.tells s.root r.root s.bridge r.bridge p.settings q.settings (s.is_designated ∙ sym r.is_designated) in
      ok.port_ids p q s.has_port s.is_part r.has_port r.is_part (ok.bridge_ids p.bridge q.bridge s.bridge r.bridge s.has_bridge r.has_bridge e.0) e.1

  -- a port says one vector
  pub one_message : (v : N → Option V) (p : TreePort N L K P) (x y : V) → IsDesignatedVector m t v p x → IsDesignatedVector m t v p y → x ≡ y
  one_message v p x y s r =
      let bridges : s.bridge ≡ r.bridge = ok.one_bridge p.bridge s.bridge r.bridge s.has_bridge r.has_bridge in
      let roots : s.root ≡ r.root = let u = s.is_root in let w = r.is_root in cc in
      cc

  -- a LAN has one designated port
  pub one_designated : (v : N → Option V) (lan : L) (p q : TreePort N L K P) (x y : V) → Designates m t v lan p x → Designates m t v lan q y → p ≡ q
  one_designated v lan p q x y d e =
      let same : x ≡ y = law.equal x y (both law.total x y (d.upto q y e.on_lan e.says) (e.upto p x d.on_lan d.says)) in
      one_speaker v v p q x d.says (rw same e.says)

  module _ (v w : N → Option V) (k : List ℕ) (vw : Below m k v w) (wv : Below m k w v) where
    -- a designated vector below the bound is said in both
    says_also : (p : TreePort N L K P) (x : V) → IsDesignatedVector m t v p x → IsBelow (m.leading x) k → IsDesignatedVector m t w p x
    says_also p x s l = record {
      has_port = s.has_port;
      is_part = s.is_part;
      bridge = s.bridge;
      has_bridge = s.has_bridge;
      root = s.root;
      is_root = vw p.bridge s.root s.is_root (rw (sym (law.keeps s.root s.bridge p.settings) ∙ ap m.leading s.is_designated) l);
      is_designated = s.is_designated;
    }

  module _ (v w : N → Option V) (k : List ℕ) (vw : Below m k v w) (wv : Below m k w v) where
    -- so is a designated port
    pub designates_also : (lan : L) (p : TreePort N L K P) (x : V) → Designates m t v lan p x → IsBelow (m.leading x) k → Designates m t w lan p x
    designates_also lan p x d l = record {
      on_lan = d.on_lan;
      says = says_also v w k vw wv p x d.says l;
      upto = λ q y on s. go q y on s (slice_cmp nat_cmp (m.leading y) k) refl;
    }
      where
        -- what is not below the bound is not below x either
        high : (y : V) → is_gt (slice_cmp nat_cmp k (m.leading y)) ≡ false → is_gt (m.order x y) ≡ false
        high y h = less_is_upto law.total x y (law.leads x y (less_upto nat_list_cmp_total (m.leading x) k (m.leading y) l h))

        go : (q : TreePort N L K P) (y : V) → q.lan ≡ lan → IsDesignatedVector m t w q y → (o : Ordering) → slice_cmp nat_cmp (m.leading y) k ≡ o → is_gt (m.order x y) ≡ false
        go q y on s Less e = d.upto q y on (says_also w v k wv vw q y s e)
        go q y on s _ e = high y (not_less nat_list_cmp_total (m.leading y) k (λ f. cc))

    -- what a bridge can take up to the bound, it can take in both
    pub take_also : (n : N) (c : B) (x : V) → CanTake m t v n c x → is_gt (slice_cmp nat_cmp (m.leading x) k) ≡ false → CanTake m t w n c x
    take_also n c x can u = elim can [ inl e ↦ inl e | inr s ↦ inr (go s) ]
      where
        go : IsRootPathVector m t v n c x → IsRootPathVector m t w n c x
        go s =
            let rise : leading_order m s.message x ≡ Less = rw s.is_made at (law.increases s.message s.sender c s.port.settings (ok.in_range s.port s.has_port)) in
            record {
              port = s.port;
              has_port = s.has_port;
              is_part = s.is_part;
              is_free = s.is_free;
              on_bridge = s.on_bridge;
              from = s.from;
              message = s.message;
              designates = designates_also s.port.lan s.from s.message s.designates (less_upto nat_list_cmp_total (m.leading s.message) (m.leading x) k rise u);
              from_other = s.from_other;
              sender = s.sender;
              has_sender = s.has_sender;
              is_made = s.is_made;
            }

  -- so a vector up to the bound is the same in both
  pub same_vector : (v w : N → Option V) (k : List ℕ) → Below m k v w → Below m k w v → (n : N) (c : B) (x y : V) → IsVectorOf m t v n c x → IsVectorOf m t w n c y → is_gt (slice_cmp nat_cmp (m.leading x) k) ≡ false → x ≡ y
  same_vector v w k vw wv n c x y ix iy u =
      let down : is_gt (m.order y x) ≡ false = iy.upto x (take_also v w k vw wv n c x ix.can_take u) in
      let low : is_gt (slice_cmp nat_cmp (m.leading y) k) ≡ false =
      upto nat_list_cmp_total (m.leading y) (m.leading x) k (first_part m.leading law.total nat_list_cmp_total law.leads y x down) u in
      let up : is_gt (m.order x y) ≡ false = ix.upto y (take_also w v k wv vw n c y iy.can_take low) in
      law.equal x y (both law.total x y up down)

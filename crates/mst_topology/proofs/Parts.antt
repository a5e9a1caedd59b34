-- What the functions that settle a tree rest on.
use Rattle.std.proofs.Common.{◌≡◌, ◌≢◌, ℕ, ◌≤◌, Option, Some, None, refl, sym, ◌∙◌, ap, subst, inl, inr, false, true, IsTrue, arith}
use Rattle.std.specs.Ordering.{is_gt}
use Rattle.std.proofs.lemmas.Cmp.{upto, tied_itself}
use Rattle.mst_vector.specs.Rules.{Rules, IsMetric}
use Rattle.mst_topology.specs.Topology.{TreePort, Topology, IsTopology, HasBridge, HasPort}
use Rattle.mst_topology.specs.Settled.{IsDesignatedVector, Designates, IsRootPathVector, IsDesignated}
use Rattle.mst_topology.specs.Settling.{IsRootPathVectorAlong, Offers, OffersOf, CostsWithin}
use Rattle.mst_topology.specs.Repair.{IsDue}
use Rattle.mst_topology.proofs.Orders.{not_less, less_is_upto}
use Rattle.mst_topology.proofs.Below.{one_message, one_designated}

module _ {N L K B P V : Type 0} (m : Rules B P V) (law : IsMetric m) (t : Topology N L K B P) (ok : IsTopology m t) (v : N → Option V) where
  -- a bridge's own ports are not heard
  pub own_heard : (n : N) (b : B) (p q : TreePort N L K P) (y : V) → Designates m t v p.lan q y → q.bridge ≡ n → (x : V) → IsRootPathVectorAlong m t v n b p x → ⊥
  own_heard n b p q y d e x s =
      let there : Designates m t v p.lan s.0.from s.0.message = let f : s.0.port.lan ≡ p.lan = ap (λ (c : TreePort N L K P). c.lan) s.1 in rw (sym f) s.0.designates in
      let same : q ≡ s.0.from = one_designated m law t ok v p.lan q s.0.from y s.0.message d there in
      s.0.from_other (ap (λ (c : TreePort N L K P). c.bridge) (sym same) ∙ e)

  -- of one number there is one port
  pub port_of_number : (n : K) (p q : TreePort N L K P) → HasPort t p → p.number ≡ n → HasPort t q × (q.number ≡ n) → p ≡ q
  port_of_number n p q h e there = ok.one_port p q h there.0 (e ∙ sym there.1)

  -- what a port says costs as much as its bridge's vector
  pub designated_cost : (p : TreePort N L K P) (x : V) (most : ℕ) → CostsWithin m v most → IsDesignatedVector m t v p x → m.cost x ≤ most
  designated_cost p x most c s = let e = c p.bridge s.root s.is_root in let f : m.cost x ≡ m.cost s.root = ap m.cost (sym s.is_designated) ∙ law.carries s.root s.bridge p.settings in omega arith

  -- a bridge steps to one vector along one port
  pub one_step : (n : N) (b : B) (p : TreePort N L K P) (x y : V) → IsRootPathVectorAlong m t v n b p x → IsRootPathVectorAlong m t v n b p y → x ≡ y
  one_step n b p x y r s =
      let lan : r.0.port.lan ≡ s.0.port.lan = ap (λ (c : TreePort N L K P). c.lan) (r.1 ∙ sym s.1) in
      let there : Designates m t v r.0.port.lan s.0.from s.0.message = rw lan s.0.designates in
      let same : r.0.from ≡ s.0.from = one_designated m law t ok v r.0.port.lan r.0.from s.0.from r.0.message s.0.message r.0.designates there in
      let message : r.0.message ≡ s.0.message = one_message m law t ok v r.0.from r.0.message s.0.message r.0.designates.says (rw same s.0.designates.says) in
      let at : r.0.from.bridge ≡ s.0.from.bridge = ap (λ (c : TreePort N L K P). c.bridge) same in
      let sender : r.0.sender ≡ s.0.sender = ok.one_bridge r.0.from.bridge r.0.sender s.0.sender r.0.has_sender (rw at s.0.has_sender) in
      let settings : r.0.port.settings ≡ s.0.port.settings = ap (λ (c : TreePort N L K P). c.settings) (r.1 ∙ sym s.1) in
      sym r.0.is_made ∙ ap (λ z. m.root_path_vector z r.0.sender b r.0.port.settings) message ∙ ap (λ z. m.root_path_vector s.0.message z b r.0.port.settings) sender ∙ ap (λ z. m.root_path_vector s.0.message s.0.sender b z) settings ∙ s.0.is_made

  pub one_offer : (p : TreePort N L K P) (x y : V) → Offers m t v p x → Offers m t v p y → x ≡ y
  one_offer p x y r s =
      let same : r.bridge ≡ s.bridge = ok.one_bridge p.bridge r.bridge s.bridge r.has_bridge s.has_bridge in
      one_step p.bridge r.bridge p x y r.along (subst (λ (b : B). IsRootPathVectorAlong m t v p.bridge b p y) (sym same) s.along)

  -- a step is offered by its port
  pub step_offered : (n : N) (b : B) (x : V) → HasBridge t n b → (s : IsRootPathVector m t v n b x) → Offers m t v s.port x
  step_offered n b x h s = record {
    bridge = b;
    has_bridge = subst (λ (z : N). HasBridge t z b) (sym s.on_bridge) h;
    along = subst (λ (z : N). IsRootPathVectorAlong m t v z b s.port x) (sym s.on_bridge) (s, refl);
  }

  pub offered_step : (n : N) (b : B) (p : TreePort N L K P) (x : V) → HasBridge t n b → p.bridge ≡ n → Offers m t v p x → IsRootPathVector m t v n b x
  offered_step n b p x h on o =
      let same : o.bridge ≡ b = ok.one_bridge n o.bridge b (subst (λ (z : N). HasBridge t z o.bridge) on o.has_bridge) h in
      subst (λ (c : B). IsRootPathVector m t v n c x) same (subst (λ (z : N). IsRootPathVector m t v z o.bridge x) on o.along.0)

  -- what is due, from the best step
  module _ (n : N) (b : B) (bn : HasBridge t n b) where
    itself : (x : V) → is_gt (m.order x x) ≡ false
    itself x = ap is_gt (tied_itself law.total x)

    pub due_alone : ((p : TreePort N L K P) (x : V) → OffersOf m t v n p x → ⊥) → IsDue m t v n (Some (m.bridge_vector b))
    due_alone none = (
      b,
      bn,
      record {
        can_take = inl refl;
        upto = λ y can. elim can [ inl e ↦ subst (λ z. is_gt (m.order (m.bridge_vector b) z) ≡ false) (sym e) (itself (m.bridge_vector b)) | inr s ↦ absurd (none s.port y (s.on_bridge, step_offered n b y bn s)) ];
      },
    )

    module _ (p : TreePort N L K P) (x : V) (offers : OffersOf m t v n p x) (least : (q : TreePort N L K P) (y : V) → OffersOf m t v n q y → is_gt (m.order x y) ≡ false) where
      pub due_own : is_gt (m.order (m.bridge_vector b) x) ≡ false → IsDue m t v n (Some (m.bridge_vector b))
      due_own low = (
        b,
        bn,
        record {
          can_take = inl refl;
          upto = λ y can. elim can [ inl e ↦ subst (λ z. is_gt (m.order (m.bridge_vector b) z) ≡ false) (sym e) (itself (m.bridge_vector b)) | inr s ↦ upto law.total (m.bridge_vector b) x y low (least s.port y (s.on_bridge, step_offered n b y bn s)) ];
        },
      )

      pub due_step : is_gt (m.order (m.bridge_vector b) x) ≡ true → IsDue m t v n (Some x)
      due_step high =
          let below : is_gt (m.order x (m.bridge_vector b)) ≡ false = not_less law.total (m.bridge_vector b) x (λ l. let q = less_is_upto law.total (m.bridge_vector b) x l in cc) in (
            b,
            bn,
            record {
              can_take = inr (offered_step n b p x bn offers.0 offers.1);
              upto = λ y can. elim can [ inl e ↦ subst (λ z. is_gt (m.order x z) ≡ false) (sym e) below | inr s ↦ least s.port y (s.on_bridge, step_offered n b y bn s) ];
            },
          )

  -- a step from the designated port
  module _ (p : TreePort N L K P) (q : K) (d : IsDesignated m t v p.lan (Some q)) where
    pub designated_there : (r : TreePort N L K P) → HasPort t r → r.number ≡ q → r ≡ d.0
    designated_there r h e = ok.one_port r d.0 h d.3.says.has_port (e ∙ sym d.2)

    pub no_designated : ((r : TreePort N L K P) → HasPort t r → r.number ≢ q) → ⊥
    no_designated none = none d.0 d.3.says.has_port d.2

    module _ (r : TreePort N L K P) (hr : HasPort t r) (e : r.number ≡ q) where
      there : Designates m t v p.lan r d.1
      there = subst (λ z. Designates m t v p.lan z d.1) (sym (designated_there r hr e)) d.3

      pub designated_silent : ((x : V) → IsDesignatedVector m t v r x → ⊥) → ⊥
      designated_silent none = none d.1 there.says

      pub offers_own : r.bridge ≡ p.bridge → (x : V) → Offers m t v p x → ⊥
      offers_own f x o = own_heard p.bridge o.bridge p r d.1 there f x o.along

      pub offers_some : (y : V) → IsDesignatedVector m t v r y → r.bridge ≢ p.bridge → HasPort t p → IsTrue p.is_part → p.is_restricted ≡ false → (b s : B) → HasBridge t p.bridge b → HasBridge t r.bridge s → Offers m t v p (m.root_path_vector y s b p.settings)
      offers_some y says other hp part free b s bp bs =
          let same : d.1 ≡ y = one_message m law t ok v r d.1 y there.says says in
          record {
            bridge = b;
            has_bridge = bp;
            along = (
              record {
                port = p;
                has_port = hp;
                is_part = part;
                is_free = free;
                on_bridge = refl;
                from = r;
                message = y;
                designates = subst (λ z. Designates m t v p.lan r z) same there;
                from_other = other;
                sender = s;
                has_sender = bs;
                is_made = refl;
              },
              refl,
            );
          }

  pub silent_offers : (p : TreePort N L K P) → IsDesignated m t v p.lan None → (x : V) → Offers m t v p x → ⊥
  silent_offers p none x o =
      let s = o.along.0 in
      none s.from s.message (s.designates.on_lan ∙ ap (λ (c : TreePort N L K P). c.lan) o.along.1) s.designates.says

-- A write at a bridge whose ports aren't the best on a LAN, and weren't, isn't heard there.
use Rattle.std.proofs.Common.{◌≡◌, ◌≢◌, ℕ, Option, Some, None, Bool, true, false, refl, sym, ◌∙◌, ap, subst, inl, inr}
use Rattle.std.specs.Prelude.{is_some}
use Rattle.std.specs.Ordering.{is_gt}
use Rattle.mst_vector.specs.Rules.{Rules, IsMetric}
use Rattle.mst_topology.specs.Topology.{TreePort, Topology, IsTopology, HasPort}
use Rattle.mst_topology.specs.Settled.{IsDesignatedVector, Designates, IsRootPathVector, CanTake, IsSilent}
use Rattle.mst_topology.specs.Repair.{IsDue}
use Rattle.mst_topology.specs.Effects.{IsUnconcerned, IsBridgeOn}
use Rattle.mst_topology.proofs.KeyTests.{numbers}
use Rattle.mst_topology.proofs.Below.{one_message, one_designated}
use Rattle.mst_topology.proofs.Offers.{chosen}
use Rattle.mst_topology.proofs.Entries.{same_or_other}
use Rattle.mst_topology.proofs.Locality.{says_other, says_back}

module _ {B P V : Type 0} (m : Rules B P V) (t : Topology ℕ ℕ ℕ B P) (v w : ℕ → Option V) where
  -- where the same ports are designated, the same is due
  steps_by : (k : ℕ) → ((p : TreePort ℕ ℕ ℕ P) → HasPort t p → p.bridge ≡ k → (q : TreePort ℕ ℕ ℕ P) (x : V) → Designates m t v p.lan q x → Designates m t w p.lan q x) → (b : B) (x : V) → IsRootPathVector m t v k b x → IsRootPathVector m t w k b x
  steps_by k forth b x s = record {
    port = s.port;
    has_port = s.has_port;
    is_part = s.is_part;
    is_free = s.is_free;
    on_bridge = s.on_bridge;
    from = s.from;
    message = s.message;
    designates = forth s.port s.has_port s.on_bridge s.from s.message s.designates;
    from_other = s.from_other;
    sender = s.sender;
    has_sender = s.has_sender;
    is_made = s.is_made;
  }

  take_by : (k : ℕ) → ((p : TreePort ℕ ℕ ℕ P) → HasPort t p → p.bridge ≡ k → (q : TreePort ℕ ℕ ℕ P) (x : V) → Designates m t v p.lan q x → Designates m t w p.lan q x) → (b : B) (x : V) → CanTake m t v k b x → CanTake m t w k b x
  take_by k forth b x can = elim can [ inl e ↦ inl e | inr s ↦ inr (steps_by k forth b x s) ]

module _ {B P V : Type 0} (m : Rules B P V) (t : Topology ℕ ℕ ℕ B P) (v w : ℕ → Option V) (k : ℕ)
    (forth : (p : TreePort ℕ ℕ ℕ P) → HasPort t p → p.bridge ≡ k → (q : TreePort ℕ ℕ ℕ P) (x : V) → Designates m t v p.lan q x → Designates m t w p.lan q x)
    (back : (p : TreePort ℕ ℕ ℕ P) → HasPort t p → p.bridge ≡ k → (q : TreePort ℕ ℕ ℕ P) (x : V) → Designates m t w p.lan q x → Designates m t v p.lan q x) where
  due_by : (o : Option V) → IsDue m t v k o → IsDue m t w k o
  due_by None none = none
  due_by (Some x) d = (
    d.0,
    d.1,
    record {
      can_take = take_by m t v w k forth d.0 x d.2.can_take;
      upto = λ y can. d.2.upto y (take_by m t w v k back d.0 y can);
    },
  )

module _ {B P V : Type 0} (m : Rules B P V) (law : IsMetric m) (t : Topology ℕ ℕ ℕ B P) (ok : IsTopology m t) (v w : ℕ → Option V) (n : ℕ) (same : (k : ℕ) → k ≢ n → w k ≡ v k) where
  spoke : (q : TreePort ℕ ℕ ℕ P) (y : V) → q.bridge ≡ n → IsDesignatedVector m t v q y → IsDesignatedVector m t (λ k. v n) q y
  spoke q y e s = record { has_port = s.has_port; is_part = s.is_part; bridge = s.bridge; has_bridge = s.has_bridge; root = s.root; is_root = ap v (sym e) ∙ s.is_root; is_designated = s.is_designated }

  module _ (lan : ℕ) (quiet : (q : TreePort ℕ ℕ ℕ P) → HasPort t q → q.bridge ≡ n → q.lan ≡ lan → IsUnconcerned m t w (v n) q) where
    quiet_back : (p : TreePort ℕ ℕ ℕ P) (x : V) → Designates m t w lan p x → Designates m t v lan p x
    quiet_back p x d = elim (same_or_other p.bridge n) [
      | inl e ↦ absurd ((quiet p d.says.has_port e d.on_lan).now x (subst (λ z. Designates m t w z p x) (sym d.on_lan) d))
      | inr other ↦ record {
        on_lan = d.on_lan;
        says = says_back m t v w n same p x other d.says;
        upto = λ q y on s. elim (same_or_other q.bridge n) [
          | inl e ↦ (quiet q s.has_port e on).order y x p (spoke q y e s) (subst (λ z. Designates m t w z p x) (sym on) d)
          | inr o ↦ d.upto q y on (says_other m t v w n same q y o s)
        ];
      }
    ]

    quiet_forth : (p : TreePort ℕ ℕ ℕ P) (x : V) → Designates m t v lan p x → Designates m t w lan p x
    quiet_forth p x d = elim (chosen m law t ok numbers w lan) [
      | inl c ↦ (
          let e = quiet_back c.0 c.1 c.2 in
          let port : c.0 ≡ p = one_designated m law t ok v lan c.0 p c.1 x e d in
          let there : IsDesignatedVector m t v p c.1 = subst (λ z. IsDesignatedVector m t v z c.1) port e.says in
          let message : c.1 ≡ x = one_message m law t ok v p c.1 x there d.says in
          subst (λ z. Designates m t w lan p z) message (subst (λ z. Designates m t w lan z c.1) port c.2))
      | inr silent ↦ absurd (elim (same_or_other p.bridge n) [
        | inl e ↦ (quiet p d.says.has_port e d.on_lan).before x (spoke p x e d.says) (subst (λ z. IsSilent m t w z) (sym d.on_lan) silent)
        | inr o ↦ silent p x d.on_lan (says_other m t v w n same p x o d.says)
      ])
    ]

  module _ (k : ℕ) (quiet : (q : TreePort ℕ ℕ ℕ P) → HasPort t q → q.bridge ≡ n → IsBridgeOn t q.lan k → IsUnconcerned m t w (v n) q) where
    on_lan : (p : TreePort ℕ ℕ ℕ P) → HasPort t p → p.bridge ≡ k → (q : TreePort ℕ ℕ ℕ P) → HasPort t q → q.bridge ≡ n → q.lan ≡ p.lan → IsUnconcerned m t w (v n) q
    on_lan p h on q hq onq e = quiet q hq onq (p, h, sym e, on)

    -- so the same is due at a bridge on such LANs alone
    pub due_quiet : (o : Option V) → IsDue m t w k o → IsDue m t v k o
    due_quiet = due_by m t w v k (λ p h on. quiet_back p.lan (on_lan p h on)) (λ p h on. quiet_forth p.lan (on_lan p h on))

module _ {B P V : Type 0} (m : Rules B P V) (t : Topology ℕ ℕ ℕ B P) (w : ℕ → Option V) (stored : Option V) (p : TreePort ℕ ℕ ℕ P) where
  not_gt : (r : Bool) → ((r ≡ false → ⊥) → ⊥) → r ≡ false
  not_gt false nay = refl
  not_gt true nay = absurd (nay (λ e. cc))

  pub unconcerned_stable : ((IsUnconcerned m t w stored p → ⊥) → ⊥) → IsUnconcerned m t w stored p
  unconcerned_stable nay = record {
    now = λ x d. nay (λ u. u.now x d);
    before = λ y s silent. nay (λ u. u.before y s silent);
    order = λ y x q s d. not_gt (is_gt (m.order x y)) (λ other. nay (λ u. other (u.order y x q s d)));
  }

  pub silent_before : IsSilent m t w p.lan → ((y : V) → IsDesignatedVector m t (λ n. stored) p y → ⊥) → IsUnconcerned m t w stored p
  silent_before silent none = record {
    now = λ x d. silent p x d.on_lan d.says;
    before = λ y s n. none y s;
    order = λ y x q s d. absurd (none y s);
  }

module _ {B P V : Type 0} (m : Rules B P V) (law : IsMetric m) (t : Topology ℕ ℕ ℕ B P) (ok : IsTopology m t) (w : ℕ → Option V) (stored : Option V) (p q : TreePort ℕ ℕ ℕ P) (x : V) (d : Designates m t w p.lan q x) (other : q.number ≢ p.number) where
  pub best_unconcerned : ((y : V) → IsDesignatedVector m t (λ n. stored) p y → is_gt (m.order x y) ≡ false) → IsUnconcerned m t w stored p
  best_unconcerned order = record {
    now = λ z e. other (ap (λ (c : TreePort ℕ ℕ ℕ P). c.number) (one_designated m law t ok w p.lan q p x z d e));
    before = λ y s silent. silent q x d.on_lan d.says;
    order = λ y z r s e.
        let port : r ≡ q = one_designated m law t ok w p.lan r q z x e d in
        let there : IsDesignatedVector m t w q z = subst (λ (c : TreePort ℕ ℕ ℕ P). IsDesignatedVector m t w c z) port e.says in
        let same : z ≡ x = one_message m law t ok w q z x there d.says in
        subst (λ c. is_gt (m.order c y) ≡ false) (sym same) (order y s);
  }

pub not_some : {V : Type 0} (o : Option V) → is_some o ≡ false → o ≡ None
not_some None e = refl
not_some (Some x) e = cc

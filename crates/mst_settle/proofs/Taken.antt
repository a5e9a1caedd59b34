-- What is left and what is done where ports are taken in, one after the other.
use Rattle.std.proofs.Common.{◌≡◌, ◌≢◌, ℕ, ◌==◌, List, ◌∷◌, Option, Some, None, Bool, true, false, cond, refl, sym, ◌∙◌, ap, subst, inl, inr, ◌⊎◌, eqb-true}
use Rattle.std.proofs.lemmas.Bool.{eqb-false}
use Rattle.std.specs.List.{Contains}
use Rattle.mst_vector.specs.Rules.{Rules, IsMetric}
use Rattle.mst_topology.specs.Topology.{TreePort, Topology, IsTopology, HasPort}
use Rattle.mst_topology.specs.Settled.{IsDesignatedVector, Designates, IsSilent}
use Rattle.mst_topology.specs.Settling.{Offers}
use Rattle.mst_topology.specs.Repair.{is_above, key_of, IsWritten}
use Rattle.mst_topology.specs.Seen.{Marks, IsSeen}
use Rattle.mst_topology.specs.Slots.{HasRoom, IsSetAt}
use Rattle.mst_topology.specs.Effects.{HasRightKey, KeysAreRight, IsUnconcerned}
use Rattle.mst_topology.proofs.Effects.{set_rooms}
use Rattle.mst_topology.proofs.Entries.{same_or_other}
use Rattle.mst_topology.proofs.Below.{one_message, one_designated}
use Rattle.mst_topology.proofs.Offers.{chosen}
use Rattle.mst_topology.proofs.KeyTests.{numbers}
use Rattle.mst_topology.proofs.Locality.{says_other, says_back}
use Rattle.mst_progress.specs.Progress.{vectors_with}
use Rattle.mst_settle.specs.Mixed.{is_upto, lower_by, IsTaking, IsMixedKey, HasMixedKey, TakesIn}
use Rattle.mst_settle.proofs.Compared.{high_above, upto_some}
use Rattle.mst_settle.proofs.Mixed.{more_first, more_stay, offers_are, becomes, stays, mixed_now, right_by_mixed}

-- the vectors, but for one bridge
pub with_here : {V : Type 0} (v : ℕ → Option V) (n : ℕ) (stored : Option V) → vectors_with v n stored n ≡ stored
with_here v n stored = go (n == n) refl
  where
    go : (c : Bool) → (n == n) ≡ c → cond c stored (v n) ≡ stored
    go true e = refl
    go false e = absurd (eqb-false n n e refl)

pub with_other : {V : Type 0} (v : ℕ → Option V) (n : ℕ) (stored : Option V) (k : ℕ) → k ≢ n → vectors_with v n stored k ≡ v k
with_other v n stored k other = go (k == n) refl
  where
    go : (c : Bool) → (k == n) ≡ c → cond c stored (v k) ≡ v k
    go true e = absurd (other (eqb-true k n e))
    go false e = refl

-- after a write, but for the bridge at which it was, they are those before it
pub with_before : {V : Type 0} (v w : ℕ → Option V) (n : ℕ) (o stored : Option V) → IsWritten v n o w → stored ≡ v n → vectors_with w n stored ≡ v
with_before v w n o stored put is = λ i k. each k i
  where
    each : (k : ℕ) → vectors_with w n stored k ≡ v k
    each k = elim (put k) [
      | inl e ↦ ap (vectors_with w n stored) e.0 ∙ with_here w n stored ∙ is ∙ ap v (sym e.0)
      | inr e ↦ with_other w n stored k e.0 ∙ e.1
    ]

module _ {B P V : Type 0} (m : Rules B P V) (t : Topology ℕ ℕ ℕ B P) (u v : ℕ → Option V) (written : ℕ) where
  -- one port of another bridge
  pub takes_one : (seen : Marks) (old new : List (ℕ × Option V)) (q : TreePort ℕ ℕ ℕ P) → q.bridge ≢ written → ((done : List (TreePort ℕ ℕ ℕ P)) → HasMixedKey m t u v done q.bridge old → HasMixedKey m t u v (q ∷ done) q.bridge new)
      → ((n : ℕ) (k : Option V) → n ≢ q.bridge → Contains new (n, k) → Contains old (n, k)) → ((n : ℕ) → HasRoom old n → HasRoom new n) → TakesIn m t u v written seen old seen new (λ p. p ≡ q)
  takes_one seen old new q other step others rooms = record {
    mixed = λ n done ne are h. elim (same_or_other n q.bridge) [
      | inl e ↦ (
        q ∷ done,
        subst (λ z. HasMixedKey m t u v (q ∷ done) z new) (sym e) (step done (subst (λ z. HasMixedKey m t u v done z old) e h)),
        λ p hp on s. more_stay q done p (are p hp on s),
        λ p hp on g. elim g [ inl c ↦ more_stay q done p c | inr is ↦ subst (λ z. Contains (q ∷ done) z) (sym is) (more_first q done) ],
      )
      | inr away ↦ (
        done,
        λ k c. h k (others n k away c),
        are,
        λ p hp on g. elim g [ inl c ↦ c | inr is ↦ absurd (away (sym on ∙ ap (λ (c : TreePort ℕ ℕ ℕ P). c.bridge) is)) ],
      )
    ];
    own = λ k c. others written k (λ e. other (sym e)) c;
    rooms = rooms;
  }

  -- no port
  pub takes_none : (seen : Marks) (queue : List (ℕ × Option V)) (On : TreePort ℕ ℕ ℕ P → Type 0) → ((n : ℕ) (p : TreePort ℕ ℕ ℕ P) → n ≢ written → HasPort t p → p.bridge ≡ n → On p → ⊥) → TakesIn m t u v written seen queue seen queue On
  takes_none seen queue On none = record {
    mixed = λ n done ne are h. (done, h, are, λ p hp on g. elim g [ inl c ↦ c | inr is ↦ absurd (none n p ne hp on is) ]);
    own = λ k c. c;
    rooms = λ n r. r;
  }

  -- some ports and then others
  pub takes_then : (r s w : Marks) (a b c : List (ℕ × Option V)) (On Then All : TreePort ℕ ℕ ℕ P → Type 0) → TakesIn m t u v written r a s b On → TakesIn m t u v written s b w c Then → ((p : TreePort ℕ ℕ ℕ P) → HasPort t p → All p → On p ⊎ Then p) → TakesIn m t u v written r a w c All
  takes_then r s w a b c On Then All h i split = record {
    mixed = λ n done ne are mixed.
        let f = h.mixed n done ne are mixed in
        let g = i.mixed n f.0 ne f.2 f.1 in (
          g.0,
          g.1,
          g.2,
          λ p hp on all. g.3 p hp on (elim all [
            | inl d ↦ inl (f.3 p hp on (inl d))
            | inr is ↦ elim (split p hp is) [ inl o ↦ inl (f.3 p hp on (inr o)) | inr o ↦ inr o ]
          ]),
        );
    own = λ k x. h.own k (i.own k x);
    rooms = λ n x. i.rooms n (h.rooms n x);
  }

  -- fewer ports
  pub takes_fewer : (r s : Marks) (a b : List (ℕ × Option V)) (On Fewer : TreePort ℕ ℕ ℕ P → Type 0) → TakesIn m t u v written r a s b On → ((p : TreePort ℕ ℕ ℕ P) → HasPort t p → Fewer p → On p) → TakesIn m t u v written r a s b Fewer
  takes_fewer r s a b On Fewer h few = record {
    mixed = λ n done ne are mixed.
        let f = h.mixed n done ne are mixed in
        (f.0, f.1, f.2, λ p hp on all. f.3 p hp on (elim all [ inl d ↦ inl d | inr is ↦ inr (few p hp is) ]));
    own = h.own;
    rooms = h.rooms;
  }

  -- a LAN more is seen, whose ports were done
  pub takes_lan : (r s w : Marks) (a b : List (ℕ × Option V)) (lan : ℕ) → TakesIn m t u v written r a s b (λ p. p.lan ≡ lan) → ((k : ℕ) → IsSeen w k → (k ≡ lan) ⊎ IsSeen s k) → TakesIn m t u v written r a w b (λ p. p.lan ≡ lan)
  takes_lan r s w a b lan h put = record {
    mixed = λ n done ne are mixed.
        let f = h.mixed n done ne are mixed in
        (f.0, f.1, λ p hp on seen. elim (put p.lan seen) [ inl e ↦ f.3 p hp on (inr e) | inr is ↦ f.2 p hp on is ], f.3);
    own = h.own;
    rooms = h.rooms;
  }

  -- the LAN was seen
  pub takes_seen : (seen : Marks) (queue : List (ℕ × Option V)) (lan : ℕ) → IsSeen seen lan → TakesIn m t u v written seen queue seen queue (λ p. p.lan ≡ lan)
  takes_seen seen queue lan is = record {
    mixed = λ n done ne are h. (done, h, are, λ p hp on g. elim g [ inl c ↦ c | inr at ↦ are p hp on (subst (λ z. IsSeen seen z) (sym at) is) ]);
    own = λ k c. c;
    rooms = λ n r. r;
  }

  module _ (law : IsMetric m) (ok : IsTopology m t) where
    -- the bridge was looked at
    pub takes_looked : (seen : Marks) (queue : List (ℕ × Option V)) (q : TreePort ℕ ℕ ℕ P) → q.bridge ≢ written → HasRightKey m t v queue q.bridge → TakesIn m t u v written seen queue seen queue (λ p. p ≡ q)
    takes_looked seen queue q other right = takes_one seen queue queue q other (λ done h. mixed_now m law t ok u v (q ∷ done) q.bridge queue right) (λ n k ne c. c) (λ n r. r)

    module _ (seen : Marks) (old : List (ℕ × Option V)) (q : TreePort ℕ ℕ ℕ P) (hq : HasPort t q) (other : q.bridge ≢ written) (known now vector lower : Option V)
        (is_vector : vector ≡ v q.bridge) (is_lower : lower ≡ lower_by known vector) (some : (x : V) → now ≡ Some x → Offers m t v q x) where
      lower_here : lower ≡ lower_by known (v q.bridge)
      lower_here = is_lower ∙ ap (lower_by known) is_vector

      -- the port is offered at most the lower one
      pub takes_low : (new : List (ℕ × Option V)) (key : Option V) → Contains old (q.bridge, known) → is_upto m.order now lower ≡ true → key ≡ key_of m.order vector now → IsSetAt old q.bridge key new → TakesIn m t u v written seen old seen new (λ p. p ≡ q)
      takes_low new key has low is_key set =
          let x = upto_some m.order now lower low in
          let here : is_upto m.order (Some x.0) (lower_by known (v q.bridge)) ≡ true = ap (λ z. is_upto m.order z (lower_by known (v q.bridge))) (sym x.1) ∙ ap (is_upto m.order now) (sym lower_here) ∙ low in
          let value : key ≡ key_of m.order (v q.bridge) (Some x.0) = is_key ∙ ap (λ z. key_of m.order z now) is_vector ∙ ap (key_of m.order (v q.bridge)) x.1 in
          takes_one seen old new q other
          (λ done h k c. subst (λ z. IsMixedKey m t u v (q ∷ done) q.bridge z) (sym (set.here k c ∙ value)) (becomes m law t ok u v done q.bridge q hq refl known (h known has) x.0 (some x.0 x.1) here))
          (λ n k ne c. set.others n k ne c) (set_rooms old q.bridge key new set)

      -- it is and was offered something above that
      pub takes_high : ((l : Option V) → Contains old (q.bridge, l) → l ≡ known) → (now ≡ None → (x : V) → Offers m t v q x → ⊥) → is_upto m.order now lower ≡ false → ((x : V) → Offers m t u q x → is_above m.order (Some x) lower ≡ true) → TakesIn m t u v written seen old seen old (λ p. p ≡ q)
      takes_high alone none high before = takes_one seen old old q other
          (λ done h k c.
          let lower_by_key : lower ≡ lower_by k (v q.bridge) = lower_here ∙ ap (λ z. lower_by z (v q.bridge)) (sym (alone k c)) in
          stays m law t ok u v done q.bridge q hq refl k (h k c)
          (λ x o. subst (λ z. is_above m.order (Some x) z ≡ true) lower_by_key (high_above m.order x lower (ap (λ z. is_upto m.order z lower) (sym (offers_are m law t ok v q now some none x o)) ∙ high)))
          (λ x o. subst (λ z. is_above m.order (Some x) z ≡ true) lower_by_key (before x o)))
          (λ n k ne c. c) (λ n r. r)

    -- keys that are right stay so
    pub takes_right : (r s : Marks) (a b : List (ℕ × Option V)) (On : TreePort ℕ ℕ ℕ P → Type 0) → TakesIn m t u v written r a s b On → (n : ℕ) → HasRightKey m t v a n → HasRightKey m t v b n
    takes_right r s a b On h n right = elim (same_or_other n written) [
      | inl e ↦ (λ k o c d. right k o (subst (λ z. Contains a (z, k)) (sym e) (h.own k (subst (λ z. Contains b (z, k)) e c))) d)
      | inr other ↦ (
          let f = h.mixed n t.ports other (λ p hp on is. hp) (mixed_now m law t ok u v t.ports n a right) in
          right_by_mixed m law t ok u v f.0 n b f.1 (λ p hp on left. absurd (left (f.3 p hp on (inl hp)))) (λ p hp on left. absurd (left (f.3 p hp on (inl hp)))))
    ]

    pub takes_keys : (seen r s : Marks) (a b : List (ℕ × Option V)) (On : TreePort ℕ ℕ ℕ P → Type 0) → TakesIn m t u v written r a s b On → KeysAreRight m t v seen a → KeysAreRight m t v seen b
    takes_keys seen r s a b On h right n is = takes_right r s a b On h n (right n is)

-- what is known stays
pub taking_on : {B P V : Type 0} (m : Rules B P V) (t : Topology ℕ ℕ ℕ B P) (v : ℕ → Option V) (written : ℕ) (stored : Option V) (f : ℕ → Option (Option ℕ)) (a b : List (ℕ × Option V)) → IsTaking m t v written stored f a → ((n : ℕ) → HasRoom a n → HasRoom b n) → IsTaking m t v written stored f b
taking_on m t v written stored f a b h rooms = record { topology = h.topology; rooms = λ p hp. rooms p.bridge (h.rooms p hp); noted = h.noted; cost = h.cost }

-- where no port of the bridge that was written is the best on a LAN, or was, the same is offered there
module _ {B P V : Type 0} (m : Rules B P V) (law : IsMetric m) (t : Topology ℕ ℕ ℕ B P) (ok : IsTopology m t) (v : ℕ → Option V) (written : ℕ) (stored : Option V)
    (lan : ℕ) (quiet : (q : TreePort ℕ ℕ ℕ P) → HasPort t q → q.bridge ≡ written → q.lan ≡ lan → IsUnconcerned m t v stored q) where
  abbrev u : ℕ → Option V
  u = vectors_with v written stored

  same : (k : ℕ) → k ≢ written → v k ≡ u k
  same k other = sym (with_other v written stored k other)

  spoke : (q : TreePort ℕ ℕ ℕ P) (y : V) → q.bridge ≡ written → IsDesignatedVector m t u q y → IsDesignatedVector m t (λ k. stored) q y
  spoke q y e s = record { has_port = s.has_port; is_part = s.is_part; bridge = s.bridge; has_bridge = s.has_bridge; root = s.root; is_root = sym (ap u e ∙ with_here v written stored) ∙ s.is_root; is_designated = s.is_designated }

  quiet_back : (p : TreePort ℕ ℕ ℕ P) (x : V) → Designates m t v lan p x → Designates m t u lan p x
  quiet_back p x d = elim (same_or_other p.bridge written) [
    | inl e ↦ absurd ((quiet p d.says.has_port e d.on_lan).now x (subst (λ z. Designates m t v z p x) (sym d.on_lan) d))
    | inr other ↦ record {
      on_lan = d.on_lan;
      says = says_back m t u v written same p x other d.says;
      upto = λ q y on s. elim (same_or_other q.bridge written) [
        | inl e ↦ (quiet q s.has_port e on).order y x p (spoke q y e s) (subst (λ z. Designates m t v z p x) (sym on) d)
        | inr o ↦ d.upto q y on (says_other m t u v written same q y o s)
      ];
    }
  ]

  quiet_forth : (p : TreePort ℕ ℕ ℕ P) (x : V) → Designates m t u lan p x → Designates m t v lan p x
  quiet_forth p x d = elim (chosen m law t ok numbers v lan) [
    | inl c ↦ (
        let e = quiet_back c.0 c.1 c.2 in
        let port : c.0 ≡ p = one_designated m law t ok u lan c.0 p c.1 x e d in
        let there : IsDesignatedVector m t u p c.1 = subst (λ z. IsDesignatedVector m t u z c.1) port e.says in
        let message : c.1 ≡ x = one_message m law t ok u p c.1 x there d.says in
        subst (λ z. Designates m t v lan p z) message (subst (λ z. Designates m t v lan z c.1) port c.2))
    | inr silent ↦ absurd (elim (same_or_other p.bridge written) [
      | inl e ↦ (quiet p d.says.has_port e d.on_lan).before x (spoke p x e d.says) (subst (λ z. IsSilent m t v z) (sym d.on_lan) silent)
      | inr o ↦ silent p x d.on_lan (says_other m t u v written same p x o d.says)
    ])
  ]

  offers_by : (a b : ℕ → Option V) → ((q : TreePort ℕ ℕ ℕ P) (x : V) → Designates m t a lan q x → Designates m t b lan q x) → (p : TreePort ℕ ℕ ℕ P) → p.lan ≡ lan → (x : V) → Offers m t a p x → Offers m t b p x
  offers_by a b forth p on x o =
      let s = o.along.0 in
      let at : s.port.lan ≡ lan = ap (λ (c : TreePort ℕ ℕ ℕ P). c.lan) o.along.1 ∙ on in
      record {
        bridge = o.bridge;
        has_bridge = o.has_bridge;
        along = (
          record {
            port = s.port;
            has_port = s.has_port;
            is_part = s.is_part;
            is_free = s.is_free;
            on_bridge = s.on_bridge;
            from = s.from;
            message = s.message;
            designates = subst (λ z. Designates m t b z s.from s.message) (sym at) (forth s.from s.message (subst (λ z. Designates m t a z s.from s.message) at s.designates));
            from_other = s.from_other;
            sender = s.sender;
            has_sender = s.has_sender;
            is_made = s.is_made;
          },
          o.along.1,
        );
      }

  pub offers_forth : (p : TreePort ℕ ℕ ℕ P) → p.lan ≡ lan → (x : V) → Offers m t (vectors_with v written stored) p x → Offers m t v p x
  offers_forth = offers_by (vectors_with v written stored) v quiet_forth

  pub offers_back : (p : TreePort ℕ ℕ ℕ P) → p.lan ≡ lan → (x : V) → Offers m t v p x → Offers m t (vectors_with v written stored) p x
  offers_back = offers_by v (vectors_with v written stored) quiet_back

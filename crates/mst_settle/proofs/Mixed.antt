-- What a bridge's key is while ports are done one after the other.
use Rattle.std.proofs.Common.{◌≡◌, ◌≢◌, ℕ, List, [], ◌∷◌, Option, Some, None, true, false, refl, sym, ◌∙◌, ap, subst, inl, inr, ◌⊎◌}
use Rattle.std.specs.Ordering.{is_gt}
use Rattle.std.specs.List.{Contains}
use Rattle.std.proofs.lemmas.Cmp.{tied_itself, upto}
use Rattle.mst_vector.specs.Rules.{Rules, IsMetric}
use Rattle.mst_topology.specs.Topology.{TreePort, Topology, IsTopology, HasBridge, HasPort}
use Rattle.mst_topology.specs.Settled.{IsRootPathVector}
use Rattle.mst_topology.specs.Settling.{Offers}
use Rattle.mst_topology.specs.Repair.{IsDue, is_above, key_of}
use Rattle.mst_topology.specs.Effects.{HasRightKey}
use Rattle.mst_topology.proofs.KeyTests.{numbers}
use Rattle.mst_topology.proofs.Rank.{contains-among, among-contains}
use Rattle.mst_topology.proofs.Entries.{same_or_other}
use Rattle.mst_topology.proofs.Due.{one_due, due_of}
use Rattle.mst_topology.proofs.Parts.{one_offer, step_offered, offered_step}
use Rattle.mst_settle.specs.Mixed.{is_upto, lower_by, CountsWith, TakesOnly, MayTake, IsMixedKey, HasMixedKey}
use Rattle.mst_settle.proofs.Compared.{low_upto, key_none, key_less, lower_same, gt_upto, above_upto, key_above, low_due, low_above, lower_is}

-- one more port
pub more_cases : {A : Type 0} (q : A) (done : List A) (p : A) → Contains (q ∷ done) p → (p ≡ q) ⊎ Contains done p
more_cases q done p c = elim (contains-among (q ∷ done) p c) [ inl e ↦ inl e | inr r ↦ inr (among-contains done p r) ]

pub more_first : {A : Type 0} (q : A) (done : List A) → Contains (q ∷ done) q
more_first q done = among-contains (q ∷ done) q (inl refl)

pub more_stay : {A : Type 0} (q : A) (done : List A) (p : A) → Contains done p → Contains (q ∷ done) p
more_stay q done p c = among-contains (q ∷ done) p (inr (contains-among done p c))

none_done : {A : Type 0} (p : A) → Contains [] p → ⊥
none_done p c = contains-among [] p c

module _ {B P V : Type 0} (m : Rules B P V) (law : IsMetric m) (t : Topology ℕ ℕ ℕ B P) (ok : IsTopology m t) where
  -- what the port is offered, if anything, is this
  pub offers_are : (w : ℕ → Option V) (q : TreePort ℕ ℕ ℕ P) (o : Option V) → ((x : V) → o ≡ Some x → Offers m t w q x) → (o ≡ None → (x : V) → Offers m t w q x → ⊥) → (x : V) → Offers m t w q x → o ≡ Some x
  offers_are w q None some none x h = absurd (none refl x h)
  offers_are w q (Some y) some none x h = ap Some (one_offer m law t ok w q y x (some y refl) h)

module _ {B P V : Type 0} (m : Rules B P V) (law : IsMetric m) (t : Topology ℕ ℕ ℕ B P) (ok : IsTopology m t) (u v : ℕ → Option V) where
  one_port : (p q : TreePort ℕ ℕ ℕ P) → HasPort t p → HasPort t q → (p ≡ q) ⊎ (p ≢ q)
  one_port p q hp hq = elim (same_or_other p.number q.number) [
    | inl e ↦ inl (ok.one_port p q hp hq e)
    | inr ne ↦ inr (λ e. ne (ap (λ (c : TreePort ℕ ℕ ℕ P). c.number) e))
  ]

  takes_map : (done : List (TreePort ℕ ℕ ℕ P)) (n : ℕ) (F G : V → Type 0) → ((x : V) → F x → G x) → TakesOnly m t u v done n F → TakesOnly m t u v done n G
  takes_map done n F G f h = record {
    own = λ b hb. f (m.bridge_vector b) (h.own b hb);
    ports = λ p hp on. elim (h.ports p hp on) [ inl a ↦ inl (λ x o. f x (a x o)) | inr a ↦ inr (a.0, λ x o. f x (a.1 x o)) ];
  }

  module _ (done : List (TreePort ℕ ℕ ℕ P)) (n : ℕ) (q : TreePort ℕ ℕ ℕ P) (hq : HasPort t q) where
    takes_more : (F : V → Type 0) → TakesOnly m t u v done n F → ((x : V) → Offers m t v q x → F x) → TakesOnly m t u v (q ∷ done) n F
    takes_more F h here = record {
      own = h.own;
      ports = λ p hp on. elim (one_port p q hp hq) [
        | inl e ↦ inl (λ x o. here x (subst (λ z. Offers m t v z x) e o))
        | inr ne ↦ elim (h.ports p hp on) [
          | inl f ↦ inl f
          | inr f ↦ inr (λ c. elim (more_cases q done p c) [ inl e ↦ ne e | inr r ↦ f.0 r ], f.1)
        ]
      ];
    }

    may_more : (b : B) (d : V) → MayTake m t u v done n b d → (Offers m t u q d → ⊥) → MayTake m t u v (q ∷ done) n b d
    may_more b d can never = elim can [
      | inl e ↦ inl e
      | inr f ↦ inr (
        f.0,
        f.1,
        f.2,
        elim f.3 [
          | inl o ↦ inl o
          | inr g ↦ elim (one_port f.0 q f.1 hq) [
            | inl e ↦ absurd (never (subst (λ z. Offers m t u z d) e g.1))
            | inr ne ↦ inr (λ c. elim (more_cases q done f.0 c) [ inl e ↦ ne e | inr r ↦ g.0 r ], g.1)
          ]
        ],
      )
    ]

    module _ (on : q.bridge ≡ n) (k : Option V) where
      -- the port is offered at most the lower one: that is due
      pub becomes : IsMixedKey m t u v done n k → (x : V) → Offers m t v q x → is_upto m.order (Some x) (lower_by k (v n)) ≡ true → IsMixedKey m t u v (q ∷ done) n (key_of m.order (v n) (Some x))
      becomes is x o low = inl (
        x,
        o.bridge,
        subst (λ z. HasBridge t z o.bridge) on o.has_bridge,
        inr (q, hq, on, inl o),
        takes_more (λ y. is_gt (m.order x y) ≡ false) below (λ y p. subst (λ z. is_gt (m.order x z) ≡ false) (one_offer m law t ok v q x y o p) (ap is_gt (tied_itself law.total x))),
        refl,
      )
        where
          upto_lower : is_above m.order (Some x) (lower_by k (v n)) ≡ false
          upto_lower = low_upto m.order x (lower_by k (v n)) low

          below : TakesOnly m t u v done n (λ y. is_gt (m.order x y) ≡ false)
          below = elim is [
            | inl f ↦ (
                let due : is_gt (m.order x f.0) ≡ false = low_due m.order law.total (v n) f.0 x (subst (λ z. is_above m.order (Some x) (lower_by z (v n)) ≡ false) f.5 upto_lower) in
                takes_map done n (λ y. is_gt (m.order f.0 y) ≡ false) (λ y. is_gt (m.order x y) ≡ false) (λ y g. upto law.total x f.0 y due g) f.4)
            | inr f ↦ takes_map done n (λ y. is_above m.order (Some y) (v n) ≡ true) (λ y. is_gt (m.order x y) ≡ false)
                (λ y g. low_above m.order law.total (v n) x y (subst (λ z. is_above m.order (Some x) (lower_by z (v n)) ≡ false) f.1 upto_lower) g) f.0
          ]

      -- the port is and was offered something above the lower one: the key stays
      pub stays : IsMixedKey m t u v done n k → ((x : V) → Offers m t v q x → is_above m.order (Some x) (lower_by k (v n)) ≡ true) → ((x : V) → Offers m t u q x → is_above m.order (Some x) (lower_by k (v n)) ≡ true) → IsMixedKey m t u v (q ∷ done) n k
      stays is now before = elim is [
        | inr f ↦ inr (takes_more (λ y. is_above m.order (Some y) (v n) ≡ true) f.0 (λ x o. subst (λ z. is_above m.order (Some x) z ≡ true) (ap (λ z. lower_by z (v n)) f.1 ∙ lower_same m.order (v n)) (now x o)), f.1)
        | inl f ↦ elim (lower_is m.order law.total law.equal (v n) f.0) [
          | inl e ↦ (
              let lower : lower_by k (v n) ≡ Some f.0 = ap (λ z. lower_by z (v n)) f.5 ∙ e in
              inl (
                f.0,
                f.1,
                f.2,
                may_more f.1 f.0 f.3 (λ o. let above : is_gt (m.order f.0 f.0) ≡ true = subst (λ z. is_above m.order (Some f.0) z ≡ true) lower (before f.0 o) in let tied : is_gt (m.order f.0 f.0) ≡ false = ap is_gt (tied_itself law.total f.0) in cc),
                takes_more (λ y. is_gt (m.order f.0 y) ≡ false) f.4 (λ x o. gt_upto m.order law.total f.0 x (subst (λ z. is_above m.order (Some x) z ≡ true) lower (now x o))),
                f.5,
              ))
          | inr g ↦ (
              let key : k ≡ v n = f.5 ∙ ap (λ z. key_of m.order z (Some f.0)) g.1 ∙ key_less m.order g.0 f.0 g.2 ∙ sym g.1 in
              inr (
                takes_more (λ y. is_above m.order (Some y) (v n) ≡ true)
                    (takes_map done n (λ y. is_gt (m.order f.0 y) ≡ false) (λ y. is_above m.order (Some y) (v n) ≡ true) (λ y h. subst (λ z. is_above m.order (Some y) z ≡ true) (sym g.1) (above_upto m.order law.total g.0 f.0 y g.2 h)) f.4)
                    (λ x o. subst (λ z. is_above m.order (Some x) z ≡ true) (ap (λ z. lower_by z (v n)) key ∙ lower_same m.order (v n)) (now x o)),
                key,
              ))
        ]
      ]

  -- a right key, by vectors with which each port counts
  module _ (w : ℕ → Option V) (done : List (TreePort ℕ ℕ ℕ P)) (n : ℕ) (same : w n ≡ v n) (queue : List (ℕ × Option V)) (right : HasRightKey m t w queue n)
      (counts : (p : TreePort ℕ ℕ ℕ P) (F : V → Type 0) → ((x : V) → Offers m t w p x → F x) → CountsWith m t u v done n F p)
      (may : (p : TreePort ℕ ℕ ℕ P) (x : V) → Offers m t w p x → Offers m t v p x ⊎ (Contains done p → ⊥) × Offers m t u p x) where
    mixed_by : HasMixedKey m t u v done n queue
    mixed_by k c = go (due_of m law t ok w numbers n)
      where
        go : (o : Option V) × IsDue m t w n o → IsMixedKey m t u v done n k
        go (None, none) = inr (
          record {
            own = λ b h. absurd (none b h);
            ports = λ p hp on. counts p (λ y. is_above m.order (Some y) (v n) ≡ true) (λ x o. absurd (none o.bridge (subst (λ z. HasBridge t z o.bridge) on o.has_bridge)));
          },
          right k None c none ∙ key_none m.order (w n) ∙ same,
        )
        go (Some d, is) = inl (
          d,
          is.0,
          is.1,
          elim is.2.can_take [ inl e ↦ inl e | inr s ↦ inr (s.port, s.has_port, s.on_bridge, may s.port d (step_offered m law t ok w n is.0 d is.1 s)) ],
          record {
            own = λ b h. is.2.upto (m.bridge_vector b) (inl (ap m.bridge_vector (ok.one_bridge n b is.0 h is.1)));
            ports = λ p hp on. counts p (λ y. is_gt (m.order d y) ≡ false) (λ x o. is.2.upto x (inr (offered_step m law t ok w n is.0 p x is.1 on o)));
          },
          right k (Some d) c is ∙ ap (λ z. key_of m.order z (Some d)) same,
        )

  -- all ports count with what they are offered before, or with what they are offered now
  pub mixed_before : (n : ℕ) (queue : List (ℕ × Option V)) → u n ≡ v n → HasRightKey m t u queue n → HasMixedKey m t u v [] n queue
  mixed_before n queue same right = mixed_by u [] n same queue right (λ p F f. inr (none_done p, f)) (λ p x o. inr (none_done p, o))

  pub mixed_now : (done : List (TreePort ℕ ℕ ℕ P)) (n : ℕ) (queue : List (ℕ × Option V)) → HasRightKey m t v queue n → HasMixedKey m t u v done n queue
  mixed_now done n queue right = mixed_by v done n refl queue right (λ p F f. inl f) (λ p x o. inl o)

  -- the key is right, if the ports that aren't done are offered the same now as before
  module _ (done : List (TreePort ℕ ℕ ℕ P)) (n : ℕ) (queue : List (ℕ × Option V)) (mixed : HasMixedKey m t u v done n queue)
      (forth : (p : TreePort ℕ ℕ ℕ P) → HasPort t p → p.bridge ≡ n → (Contains done p → ⊥) → (x : V) → Offers m t u p x → Offers m t v p x)
      (back : (p : TreePort ℕ ℕ ℕ P) → HasPort t p → p.bridge ≡ n → (Contains done p → ⊥) → (x : V) → Offers m t v p x → Offers m t u p x) where
    fits_step : (F : V → Type 0) → TakesOnly m t u v done n F → (b : B) (y : V) → HasBridge t n b → IsRootPathVector m t v n b y → F y
    fits_step F h b y hb s =
        let o = step_offered m law t ok v n b y hb s in
        elim (h.ports s.port s.has_port s.on_bridge) [ inl a ↦ a y o | inr a ↦ a.1 y (back s.port s.has_port s.on_bridge a.0 y o) ]

    fits_all : (F : V → Type 0) → TakesOnly m t u v done n F → (b : B) (y : V) → HasBridge t n b → (y ≡ m.bridge_vector b) ⊎ IsRootPathVector m t v n b y → F y
    fits_all F h b y hb can = elim can [ inl e ↦ subst F (sym e) (h.own b hb) | inr s ↦ fits_step F h b y hb s ]

    pub right_by_mixed : HasRightKey m t v queue n
    right_by_mixed k o c d = elim (mixed k c) [
      | inl f ↦ f.5 ∙ ap (key_of m.order (v n)) (one_due m law t ok v n (Some f.0) o (
        f.1,
        f.2,
        record {
          can_take = elim f.3 [ inl e ↦ inl e | inr g ↦ inr (offered_step m law t ok v n f.1 g.0 f.0 f.2 g.2 (elim g.3 [ inl p ↦ p | inr r ↦ forth g.0 g.1 g.2 r.0 f.0 r.1 ])) ];
          upto = λ y can. fits_all (λ z. is_gt (m.order f.0 z) ≡ false) f.4 f.1 y f.2 can;
        },
      ) d)
      | inr f ↦ f.1 ∙ sym (go f.0 o d)
    ]
      where
        go : TakesOnly m t u v done n (λ y. is_above m.order (Some y) (v n) ≡ true) → (o : Option V) → IsDue m t v n o → key_of m.order (v n) o ≡ v n
        go f None d = key_none m.order (v n)
        go f (Some y) d = key_above m.order law.total (v n) y (fits_all (λ z. is_above m.order (Some z) (v n) ≡ true) f d.0 y d.1 d.2.can_take)

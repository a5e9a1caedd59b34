-- Where two assignments, of one topology or of two, sound alike on a LAN, and step alike at a bridge.
use Rattle.std.proofs.Common.{◌≡◌, ◌≢◌, Option, Some, None, refl, sym, ◌∙◌, ap, inl, inr}
use Rattle.mst_vector.specs.Rules.{Rules}
use Rattle.mst_topology.specs.Topology.{TreePort, Topology, IsTopology, HasBridge, HasPort}
use Rattle.mst_topology.specs.Settled.{IsDesignatedVector, Designates, IsDesignated, IsRootPathVector, CanTake}
use Rattle.mst_topology.specs.Repair.{IsDue}
use Rattle.mst_topology.specs.Touched.{SameLan, SameBridge}

-- the ports on the LAN say the same in both
abbrev pub SoundsAlike : {N L K B P V : Type 0} → Rules B P V → (t u : Topology N L K B P) (v w : N → Option V) → L → Type 0
SoundsAlike {N} {L} {K} {B} {P} {V} m t u v w lan = (p : TreePort N L K P) (x : V) → p.lan ≡ lan → (IsDesignatedVector m t v p x → IsDesignatedVector m u w p x) × (IsDesignatedVector m u w p x → IsDesignatedVector m t v p x)

-- the bridge has the same own vector and the same steps in both
pub record StepsAlike {N L K B P V : Type 0} (m : Rules B P V) (t u : Topology N L K B P) (v w : N → Option V) (n : N) : Type 0 where
  pub there : (b : B) → HasBridge t n b → (c : B) × HasBridge u n c
  pub back : (c : B) → HasBridge u n c → (b : B) × HasBridge t n b
  pub own : (b c : B) → HasBridge t n b → HasBridge u n c → m.bridge_vector b ≡ m.bridge_vector c
  pub ports : (p : TreePort N L K P) → p.bridge ≡ n → (HasPort t p → HasPort u p) × (HasPort u p → HasPort t p)
  pub sounds : (p : TreePort N L K P) → p.bridge ≡ n → HasPort t p → SoundsAlike m t u v w p.lan
  pub steps : (p q : TreePort N L K P) (b c s r : B) (x : V) → p.bridge ≡ n → HasPort t p → q.lan ≡ p.lan → IsDesignatedVector m t v q x
      → HasBridge t n b → HasBridge u n c → HasBridge t q.bridge s → HasBridge u q.bridge r → m.root_path_vector x s b p.settings ≡ m.root_path_vector x r c p.settings

module _ {N L K B P V : Type 0} (m : Rules B P V) (t u : Topology N L K B P) (v w : N → Option V) where
  pub designates_alike : (lan : L) → SoundsAlike m t u v w lan → (p : TreePort N L K P) (x : V) → Designates m t v lan p x → Designates m u w lan p x
  designates_alike lan alike p x d = record {
    on_lan = d.on_lan;
    says = (alike p x d.on_lan).0 d.says;
    upto = λ q y on s. d.upto q y on ((alike q y on).1 s);
  }

  pub designated_alike : (lan : L) → SoundsAlike m t u v w lan → (o : Option K) → IsDesignated m t v lan o → IsDesignated m u w lan o
  designated_alike lan alike None silent = λ p x on s. silent p x on ((alike p x on).1 s)
  designated_alike lan alike (Some q) d = (d.0, d.1, d.2, designates_alike lan alike d.0 d.1 d.3)

  pub sounds_flip : (lan : L) → SoundsAlike m t u v w lan → SoundsAlike m u t w v lan
  sounds_flip lan alike p x on = ((alike p x on).1, (alike p x on).0)

  steps_alike : (n : N) → StepsAlike m t u v w n → (b c : B) (x : V) → HasBridge t n b → HasBridge u n c → IsRootPathVector m t v n b x → IsRootPathVector m u w n c x
  steps_alike n alike b c x hb hc s =
      let d = designates_alike s.port.lan (alike.sounds s.port s.on_bridge s.has_port) s.from s.message s.designates in
      let same = alike.steps s.port s.from b c s.sender d.says.bridge s.message s.on_bridge s.has_port s.designates.on_lan s.designates.says hb hc s.has_sender d.says.has_bridge in
      record {
        port = s.port;
        has_port = (alike.ports s.port s.on_bridge).0 s.has_port;
        is_part = s.is_part;
        is_free = s.is_free;
        on_bridge = s.on_bridge;
        from = s.from;
        message = s.message;
        designates = d;
        from_other = s.from_other;
        sender = d.says.bridge;
        has_sender = d.says.has_bridge;
        is_made = sym same ∙ s.is_made;
      }

  take_alike : (n : N) → StepsAlike m t u v w n → (b c : B) (x : V) → HasBridge t n b → HasBridge u n c → CanTake m t v n b x → CanTake m u w n c x
  take_alike n alike b c x hb hc can = elim can [ inl e ↦ inl (e ∙ alike.own b c hb hc) | inr s ↦ inr (steps_alike n alike b c x hb hc s) ]

module _ {N L K B P V : Type 0} (m : Rules B P V) (t u : Topology N L K B P) (v w : N → Option V) (n : N) (alike : StepsAlike m t u v w n) where
  pub steps_flip : StepsAlike m u t w v n
  steps_flip = record {
    there = alike.back;
    back = alike.there;
    own = λ c b hc hb. sym (alike.own b c hb hc);
    ports = λ p on. ((alike.ports p on).1, (alike.ports p on).0);
    sounds = λ p on h. sounds_flip m t u v w p.lan (alike.sounds p on ((alike.ports p on).1 h));
    steps = λ p q c b r s x on hp lan says hc hb hr hs.
        let there = (alike.ports p on).1 hp in
        sym (alike.steps p q b c s r x on there lan ((alike.sounds p on there q x lan).1 says) hb hc hs hr);
  }

  -- so the same is due
  pub due_alike : (o : Option V) → IsDue m t v n o → IsDue m u w n o
  due_alike None none = λ c h. let b = alike.back c h in none b.0 b.1
  due_alike (Some x) d =
      let c = alike.there d.0 d.1 in (
        c.0,
        c.1,
        record {
          can_take = take_alike m t u v w n alike d.0 c.0 x d.1 c.1 d.2.can_take;
          upto = λ y can. d.2.upto y (take_alike m u t w v n steps_flip c.0 d.0 y c.1 d.1 can);
        },
      )

-- n has no port on the LAN
abbrev pub IsApart : {N L K B P : Type 0} → Topology N L K B P → N → L → Type 0
IsApart {N} {L} {K} {B} {P} t n lan = (p : TreePort N L K P) → HasPort t p → p.bridge ≡ n → p.lan ≡ lan → ⊥

-- a write at n is heard on its LANs alone
module _ {N L K B P V : Type 0} (m : Rules B P V) (t : Topology N L K B P) (v w : N → Option V) (n : N) (same : (k : N) → k ≢ n → w k ≡ v k) where
  pub says_other : (p : TreePort N L K P) (x : V) → p.bridge ≢ n → IsDesignatedVector m t v p x → IsDesignatedVector m t w p x
  says_other p x other s = record { has_port = s.has_port; is_part = s.is_part; bridge = s.bridge; has_bridge = s.has_bridge; root = s.root; is_root = same p.bridge other ∙ s.is_root; is_designated = s.is_designated }

  pub says_back : (p : TreePort N L K P) (x : V) → p.bridge ≢ n → IsDesignatedVector m t w p x → IsDesignatedVector m t v p x
  says_back p x other s = record { has_port = s.has_port; is_part = s.is_part; bridge = s.bridge; has_bridge = s.has_bridge; root = s.root; is_root = sym (same p.bridge other) ∙ s.is_root; is_designated = s.is_designated }

  pub sounds_apart : (lan : L) → IsApart t n lan → SoundsAlike m t t v w lan
  sounds_apart lan apart p x on = (λ s. says_other p x (λ e. apart p s.has_port e on) s, λ s. says_back p x (λ e. apart p s.has_port e on) s)

-- bridges and LANs at which two topologies do not differ
module _ {N L K B P V : Type 0} (m : Rules B P V) (t u : Topology N L K B P) (v : N → Option V) where
  pub sounds_same : (lan : L) → SameLan m t u lan → ((p : TreePort N L K P) → HasPort u p → p.lan ≡ lan → SameBridge m t u p.bridge) → SoundsAlike m t u v v lan
  sounds_same lan same bridges p x on = (
    λ s.
        let hp = (same.ports p on).0 s.has_port in
        let c = (bridges p hp on).there s.bridge s.has_bridge in
        record { has_port = hp; is_part = s.is_part; bridge = c.0; has_bridge = c.1; root = s.root; is_root = s.is_root; is_designated = sym (c.2.1 s.root p.settings) ∙ s.is_designated },
    λ s.
        let c = (bridges p s.has_port on).back s.bridge s.has_bridge in
        record { has_port = (same.ports p on).1 s.has_port; is_part = s.is_part; bridge = c.0; has_bridge = c.1; root = s.root; is_root = s.is_root; is_designated = c.2.1 s.root p.settings ∙ s.is_designated },
  )

  pub steps_same : IsTopology m t → IsTopology m u → (n : N) → SameBridge m t u n → ((p : TreePort N L K P) → HasPort u p → p.bridge ≡ n → SameLan m t u p.lan × ((q : TreePort N L K P) → HasPort u q → q.lan ≡ p.lan → SameBridge m t u q.bridge)) → StepsAlike m t u v v n
  steps_same okt oku n same near = record {
    there = λ b h. let c = same.there b h in (c.0, c.1);
    back = λ c h. let b = same.back c h in (b.0, b.1);
    own = λ b c hb hc. let d = same.there b hb in d.2.0 ∙ ap m.bridge_vector (oku.one_bridge n d.0 c d.1 hc);
    ports = λ p on. same.ports p on;
    sounds = λ p on h. let near_p = near p ((same.ports p on).0 h) on in sounds_same p.lan near_p.0 near_p.1;
    steps = λ p q b c s r x on hp lan says hb hc hs hr.
        let near_p = near p ((same.ports p on).0 hp) on in
        near_p.0.steps p q b c s r x refl lan hp says.has_port (rw on hb) (rw on hc) hs hr;
  }

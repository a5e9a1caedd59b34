-- What ports say and what bridges can take, computed from the vectors.
use Rattle.std.proofs.Common.{◌≡◌, ◌≢◌, List, [], ◌∷◌, Option, Some, None, Bool, true, false, cond, not, IsTrue, refl, sym, ◌∙◌, ap, inl, inr, ◌⊎◌}
use Rattle.std.specs.Ordering.{is_gt}
use Rattle.std.proofs.lemmas.Cmp.{tied_itself, upto}
use Rattle.mst_vector.specs.Rules.{Rules, IsMetric}
use Rattle.mst_topology.specs.Topology.{TreePort, Topology, IsTopology, HasBridge, IsTest, KeyTests}
use Rattle.mst_topology.specs.Settled.{IsDesignatedVector, Designates, IsRootPathVector, IsVectorOf, IsSilent, IsDesignated}
use Rattle.mst_topology.proofs.Orders.{both, not_less, less_is_upto}
use Rattle.mst_topology.proofs.KeyTests.{passes, fails, misses}
use Rattle.mst_topology.proofs.Rank.{Among, among-contains, contains-among}
use Rattle.mst_topology.proofs.Search.{bind, bind-is, bind-at, keep, keep-is, keep-at, some_is, Best, NoKey, best}
use Rattle.mst_topology.proofs.Below.{one_speaker}

-- the bridge of that key
abbrev pub bridge_among : {N B : Type 0} → (N → N → Bool) → List (N × B) → N → Option B
bridge_among same [] n = None
bridge_among same (b ∷ bs) n = cond (same b.0 n) (Some b.1) (bridge_among same bs n)

module _ {N B : Type 0} {same : N → N → Bool} (test : IsTest same) where
  bridge_among-is : (bs : List (N × B)) (n : N) (c : B) → bridge_among same bs n ≡ Some c → Among (n, c) bs
  bridge_among-is [] n c e = cc
  bridge_among-is (b ∷ bs) n c e = go (same b.0 n) refl (bridge_among-is bs n c)
    where
      go : (t : Bool) → same b.0 n ≡ t → (bridge_among same bs n ≡ Some c → Among (n, c) bs) → Among (n, c) (b ∷ bs)
      go true q rest = let here : b.1 ≡ c = some_is b.1 c (rw q at e) in let key = test.alone b.0 n q in inl (λ i. (sym key i, sym here i))
      go false q rest = inr (rest (rw q at e))

  bridge_among-some : (bs : List (N × B)) (n : N) (c : B) → Among (n, c) bs → (d : B) × (bridge_among same bs n ≡ Some d)
  bridge_among-some [] n c h = absurd h
  bridge_among-some (b ∷ bs) n c h = go (same b.0 n) refl (bridge_among-some bs n c)
    where
      go : (t : Bool) → same b.0 n ≡ t → (Among (n, c) bs → (d : B) × (bridge_among same bs n ≡ Some d)) → (d : B) × (bridge_among same (b ∷ bs) n ≡ Some d)
      go true q rest = (b.1, rw q refl)
      go false q rest = elim h [
        | inl e ↦ (let key : n ≡ b.0 = ap (λ (d : N × B). d.0) e in absurd (fails test b.0 n q (sym key)))
        | inr r ↦ (let d = rest r in (d.0, rw q d.1))
      ]

-- the same of a topology
module _ {N L K B P : Type 0} (tests : KeyTests N L) (t : Topology N L K B P) where
  pub found : (n : N) (c : B) → bridge_among tests.same_bridge t.bridges n ≡ Some c → HasBridge t n c
  found n c e = among-contains t.bridges (n, c) (bridge_among-is tests.bridges t.bridges n c e)

  pub lost : (n : N) (c : B) → HasBridge t n c → bridge_among tests.same_bridge t.bridges n ≢ None
  lost n c h e = let d = bridge_among-some tests.bridges t.bridges n c (contains-among t.bridges (n, c) h) in cc

  -- what the port says
  abbrev pub designated_vector : {V : Type 0} → Rules B P V → (N → Option V) → TreePort N L K P → Option V
  designated_vector m v p = keep p.is_part (bind (bridge_among tests.same_bridge t.bridges p.bridge) (λ b. bind (v p.bridge) (λ x. Some (m.designated_vector x b p.settings))))

module _ {N L K B P V : Type 0} (m : Rules B P V) (law : IsMetric m) (t : Topology N L K B P) (ok : IsTopology m t) (tests : KeyTests N L) where
  pub says-is : (v : N → Option V) (p : TreePort N L K P) (x : V) → Among p t.ports → designated_vector tests t m v p ≡ Some x → IsDesignatedVector m t v p x
  says-is v p x among e =
      let part = keep-is p.is_part (bind (bridge_among tests.same_bridge t.bridges p.bridge) (λ b. bind (v p.bridge) (λ x. Some (m.designated_vector x b p.settings)))) x e in
      let b = bind-is (bridge_among tests.same_bridge t.bridges p.bridge) (λ b. bind (v p.bridge) (λ x. Some (m.designated_vector x b p.settings))) x part.1 in
      let y = bind-is (v p.bridge) (λ y. Some (m.designated_vector y b.0 p.settings)) x b.2 in
      record {
        has_port = among-contains t.ports p among;
        is_part = part.0;
        bridge = b.0;
        has_bridge = among-contains t.bridges (p.bridge, b.0) (bridge_among-is tests.bridges t.bridges p.bridge b.0 b.1);
        root = y.0;
        is_root = y.1;
        is_designated = some_is (m.designated_vector y.0 b.0 p.settings) x y.2;
      }

  pub says-designated_vector : (v : N → Option V) (p : TreePort N L K P) (x : V) → IsDesignatedVector m t v p x → designated_vector tests t m v p ≡ Some x
  says-designated_vector v p x s =
      let d = bridge_among-some tests.bridges t.bridges p.bridge s.bridge (contains-among t.bridges (p.bridge, s.bridge) s.has_bridge) in
      let same : d.0 ≡ s.bridge = ok.one_bridge p.bridge d.0 s.bridge (among-contains t.bridges (p.bridge, d.0) (bridge_among-is tests.bridges t.bridges p.bridge d.0 d.1)) s.has_bridge in
      keep-at p.is_part (bind (bridge_among tests.same_bridge t.bridges p.bridge) (λ b. bind (v p.bridge) (λ x. Some (m.designated_vector x b p.settings)))) x s.is_part
      (bind-at (bridge_among tests.same_bridge t.bridges p.bridge) (λ b. bind (v p.bridge) (λ x. Some (m.designated_vector x b p.settings))) s.bridge x (d.1 ∙ ap Some same)
      (bind-at (v p.bridge) (λ y. Some (m.designated_vector y s.bridge p.settings)) s.root x s.is_root (ap Some s.is_designated)))

  -- what the port says on the LAN
  abbrev designated_vector_on : (v : N → Option V) (lan : L) → TreePort N L K P → Option V
  designated_vector_on v lan p = keep (tests.same_lan p.lan lan) (designated_vector tests t m v p)

  speaks : (v : N → Option V) (lan : L) (p : TreePort N L K P) (x : V) → p.lan ≡ lan → IsDesignatedVector m t v p x → designated_vector_on v lan p ≡ Some x
  speaks v lan p x e s = keep-at (tests.same_lan p.lan lan) (designated_vector tests t m v p) x (passes tests.lans p.lan lan e) (says-designated_vector v p x s)

  -- the designated port, or that none speaks
  pub chosen : (v : N → Option V) (lan : L) → ((p : TreePort N L K P) × (x : V) × Designates m t v lan p x) ⊎ IsSilent m t v lan
  chosen v lan = elim (best m.order law.total (designated_vector_on v lan) t.ports) [
    | inl b ↦ inl (b.at, b.best, found_on b)
    | inr n ↦ inr (λ p x on s. let f = n p (contains-among t.ports p s.has_port) in let g = speaks v lan p x on s in cc)
  ]
    where
      found_on : (b : Best m.order (designated_vector_on v lan) t.ports) → Designates m t v lan b.at b.best
      found_on b =
          let k = keep-is (tests.same_lan b.at.lan lan) (designated_vector tests t m v b.at) b.best b.is_key in
          record {
            on_lan = tests.lans.alone b.at.lan lan k.0;
            says = says-is v b.at b.best b.among k.1;
            upto = λ p x on s. b.upto p x (contains-among t.ports p s.has_port) (speaks v lan p x on s);
          }

  pub designated : (v : N → Option V) (lan : L) → (o : Option K) × IsDesignated m t v lan o
  designated v lan = elim (chosen v lan) [ inl d ↦ (Some d.0.number, (d.0, d.1, refl, d.2)) | inr n ↦ (None, n) ]

  module _ (v : N → Option V) (n : N) (b : B) (bn : HasBridge t n b) where
    -- the step along the port
    abbrev stepped : (p : TreePort N L K P) → ((q : TreePort N L K P) × (x : V) × Designates m t v p.lan q x) ⊎ IsSilent m t v p.lan → Option V
    stepped p (inl d) = keep (not (tests.same_bridge d.0.bridge n)) (Some (m.root_path_vector d.1 d.2.says.bridge b p.settings))
    stepped p (inr s) = None

    abbrev offered : TreePort N L K P → Option V
    offered p = keep p.is_part (keep (not p.is_restricted) (keep (tests.same_bridge p.bridge n) (stepped p (chosen v p.lan))))

    not_true : (c : Bool) → not c ≡ true → c ≡ false
    not_true true e = cc
    not_true false e = refl

    steps-is : (p : TreePort N L K P) (x : V) → Among p t.ports → offered p ≡ Some x → IsRootPathVector m t v n b x
    steps-is p x among e =
        let part = keep-is p.is_part (keep (not p.is_restricted) (keep (tests.same_bridge p.bridge n) (stepped p (chosen v p.lan)))) x e in
        let free = keep-is (not p.is_restricted) (keep (tests.same_bridge p.bridge n) (stepped p (chosen v p.lan))) x part.1 in
        let k = keep-is (tests.same_bridge p.bridge n) (stepped p (chosen v p.lan)) x free.1 in
        go part.0 (not_true p.is_restricted free.0) k.0 (chosen v p.lan) k.1
      where
        go : IsTrue p.is_part → p.is_restricted ≡ false → (tests.same_bridge p.bridge n) ≡ true → (o : ((q : TreePort N L K P) × (x : V) × Designates m t v p.lan q x) ⊎ IsSilent m t v p.lan) → stepped p o ≡ Some x → IsRootPathVector m t v n b x
        go part free k (inl d) g =
            let l = keep-is (not (tests.same_bridge d.0.bridge n)) (Some (m.root_path_vector d.1 d.2.says.bridge b p.settings)) x g in
            record {
              port = p;
              has_port = among-contains t.ports p among;
              is_part = part;
              is_free = free;
              on_bridge = tests.bridges.alone p.bridge n k;
              from = d.0;
              message = d.1;
              designates = d.2;
              from_other = fails tests.bridges d.0.bridge n (not_true (tests.same_bridge d.0.bridge n) l.0);
              sender = d.2.says.bridge;
              has_sender = d.2.says.has_bridge;
              is_made = some_is (m.root_path_vector d.1 d.2.says.bridge b p.settings) x l.1;
            }
        go part free k (inr s) g = cc

    steps-offered : (x : V) → (s : IsRootPathVector m t v n b x) → offered s.port ≡ Some x
    steps-offered x s =
        keep-at s.port.is_part (keep (not s.port.is_restricted) (keep (tests.same_bridge s.port.bridge n) (stepped s.port (chosen v s.port.lan)))) x s.is_part
        (keep-at (not s.port.is_restricted) (keep (tests.same_bridge s.port.bridge n) (stepped s.port (chosen v s.port.lan))) x (ap not s.is_free)
        (keep-at (tests.same_bridge s.port.bridge n) (stepped s.port (chosen v s.port.lan)) x (passes tests.bridges s.port.bridge n s.on_bridge) (go (chosen v s.port.lan))))
      where
        go : (o : ((q : TreePort N L K P) × (x : V) × Designates m t v s.port.lan q x) ⊎ IsSilent m t v s.port.lan) → stepped s.port o ≡ Some x
        go (inr f) = absurd (f s.from s.message s.designates.on_lan s.designates.says)
        go (inl d) =
            let message : d.1 ≡ s.message = law.equal d.1 s.message (both law.total d.1 s.message (d.2.upto s.from s.message s.designates.on_lan s.designates.says) (s.designates.upto d.0 d.1 d.2.on_lan d.2.says)) in
            let plug : d.0 ≡ s.from = one_speaker m law t ok v v d.0 s.from d.1 d.2.says (rw message s.designates.says) in
            let at : d.0.bridge ≡ s.from.bridge = ap (λ (c : TreePort N L K P). c.bridge) plug in
            let sender : d.2.says.bridge ≡ s.sender = ok.one_bridge d.0.bridge d.2.says.bridge s.sender d.2.says.has_bridge (rw at s.has_sender) in
            let value : m.root_path_vector d.1 d.2.says.bridge b s.port.settings ≡ x = ap (λ y. m.root_path_vector y d.2.says.bridge b s.port.settings) message ∙ ap (λ c. m.root_path_vector s.message c b s.port.settings) sender ∙ s.is_made in
            keep-at (not (tests.same_bridge d.0.bridge n)) (Some (m.root_path_vector d.1 d.2.says.bridge b s.port.settings)) x (ap not (misses tests.bridges d.0.bridge n (λ e. s.from_other (sym at ∙ e)))) (ap Some value)

    -- the least that bridge n can take
    pub least_of : (x : V) × IsVectorOf m t v n b x
    least_of = go (best m.order law.total offered t.ports)
      where
        among : (x : V) (s : IsRootPathVector m t v n b x) → Among s.port t.ports
        among x s = contains-among t.ports s.port s.has_port

        itself : (x y : V) → y ≡ x → is_gt (m.order x y) ≡ false
        itself x y e = ap is_gt (ap (m.order x) e ∙ tied_itself law.total x)

        at_most : (k : Best m.order offered t.ports) (r : Bool) → is_gt (m.order (m.bridge_vector b) k.best) ≡ r → (x : V) × IsVectorOf m t v n b x
        at_most k false e = (
          m.bridge_vector b,
          record {
            can_take = inl refl;
            upto = λ y can. elim can [ inl s ↦ itself (m.bridge_vector b) y s | inr s ↦ upto law.total (m.bridge_vector b) k.best y e (k.upto s.port y (among y s) (steps-offered y s)) ];
          },
        )
        at_most k true e = (
          k.best,
          record {
            can_take = inr (steps-is k.at k.best k.among k.is_key);
            upto = λ y can. elim can [ inl s ↦ ap (λ z. is_gt (m.order k.best z)) s ∙ not_less law.total (m.bridge_vector b) k.best (λ l. let f = less_is_upto law.total (m.bridge_vector b) k.best l in cc) | inr s ↦ k.upto s.port y (among y s) (steps-offered y s) ];
          },
        )

        go : Best m.order offered t.ports ⊎ NoKey offered t.ports → (x : V) × IsVectorOf m t v n b x
        go (inl k) = at_most k (is_gt (m.order (m.bridge_vector b) k.best)) refl
        go (inr none) = (
          m.bridge_vector b,
          record {
            can_take = inl refl;
            upto = λ y can. elim can [ inl s ↦ itself (m.bridge_vector b) y s | inr s ↦ (let f = none s.port (among y s) in let g = steps-offered y s in cc) ];
          },
        )

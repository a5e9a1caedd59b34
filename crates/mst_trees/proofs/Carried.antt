-- Trees that are nested stay so where their keys are replaced.
use Rattle.std.proofs.Common.{◌≡◌, ℕ, suc, Option, Some, None, IsTrue, MatchOption, refl, sym, ap, subst, ◌∙◌}
use Rattle.mst_vector.specs.Rules.{Rules}
use Rattle.mst_vector.specs.Cist.{cist_rules}
use Rattle.mst_vector.specs.declared.cist.CistBridge.{CistBridge}
use Rattle.mst_vector.specs.declared.cist.CistPort.{CistPort}
use Rattle.mst_vector.specs.declared.msti.MstiBridge.{MstiBridge}
use Rattle.mst_vector.specs.declared.msti.MstiPort.{MstiPort}
use Rattle.mst_forest.specs.topology.Topology.{TreePort, Topology, IsTopology, HasBridge, HasPort}
use Rattle.mst_forest.specs.topology.Settled.{Designates, IsDesignated}
use Rattle.mst_forest.specs.outcome.Renamed.{Renaming, renamed, IsRenamed}
use Rattle.mst_forest.specs.nested.Trees.{Trees, IsLanOf, IsInternal, HasTree, IsNested}
use Rattle.mst_forest.proofs.Lists.{some_is, no_some}

-- what each LAN's designated port is, under the former keys and the new ones
pub record AreDesignated {N L K O M J B P V : Type 0} (m : Rules B P V) (t : Topology N L K B P) (u : Topology O M J B P) (r : Renaming N L K O M J) (v : N → Option V) (w : O → Option V) : Type 0 where
  pub former : (lan : L) → (o : Option K) × IsDesignated m t v lan o
  pub now : (lan : M) → (o : Option J) × IsDesignated m u w lan o
  pub same : (p : TreePort N L K P) → HasPort t p → (o : Option K) (q : Option J) → IsDesignated m t v p.lan o → IsDesignated m u w (r.lan p.lan) q → MatchOption o (q ≡ None) (λ k. q ≡ Some (r.port k))

module _ {N L K O M J B P V : Type 0} (m : Rules B P V) (t : Topology N L K B P) (u : Topology O M J B P) (ok : IsTopology m u) (r : Renaming N L K O M J) (h : IsRenamed r t u)
    (v : N → Option V) (w : O → Option V) (are : AreDesignated m t u r v w) where
  -- a designated port is so under its new key
  pub designates_to : (lan : L) (p : TreePort N L K P) (x : V) → Designates m t v lan p x → (y : V) × Designates m u w (r.lan lan) (renamed r p) y
  designates_to lan p x d =
      let on : lan ≡ p.lan = sym d.on_lan in
      let q = are.now (r.lan lan) in
      let chosen : q.0 ≡ Some (r.port p.number) =
      are.same p d.says.has_port (Some p.number) q.0 (subst (λ (l : L). IsDesignated m t v l (Some p.number)) on (p, x, refl, d)) (subst (λ (l : L). IsDesignated m u w (r.lan l) q.0) on q.1) in
      let g = subst (λ (o : Option J). IsDesignated m u w (r.lan lan) o) chosen q.1 in
      let one : g.0 ≡ renamed r p = ok.one_port g.0 (renamed r p) g.3.says.has_port (h.ports p d.says.has_port) g.2 in
      (g.1, subst (λ (c : TreePort O M J P). Designates m u w (r.lan lan) c g.1) one g.3)

  -- and was so under its former one
  pub designates_from : (a : TreePort N L K P) (q : TreePort O M J P) (x : V) → HasPort t a → Designates m u w (r.lan a.lan) q x → (p : TreePort N L K P) × (y : V) × Designates m t v a.lan p y × (renamed r p ≡ q)
  designates_from a q x ha d = go (are.former a.lan).0 (are.former a.lan).1
    where
      go : (o : Option K) → IsDesignated m t v a.lan o → (p : TreePort N L K P) × (y : V) × Designates m t v a.lan p y × (renamed r p ≡ q)
      go None g = absurd (no_some q.number (sym (are.same a ha None (Some q.number) g (q, x, refl, d))))
      go (Some k) g =
          let chosen : q.number ≡ r.port k = some_is q.number (r.port k) (are.same a ha (Some k) (Some q.number) g (q, x, refl, d)) in
          (g.0, g.1, g.3, ok.one_port (renamed r g.0) q (h.ports g.0 g.3.says.has_port) d.says.has_port (ap r.port g.2 ∙ sym chosen))

-- g is f under new keys
pub record AreRenamed {N L K O M J : Type 0} (r : Renaming N L K O M J) (f : Trees N L K) (g : Trees O M J) : Type 0 where
  pub topology : IsTopology cist_rules f.cist
  pub new_topology : IsTopology cist_rules g.cist
  pub cist : IsRenamed r f.cist g.cist
  pub designated : AreDesignated cist_rules f.cist g.cist r f.cist_vector g.cist_vector
  pub mstis : (i : ℕ) → IsRenamed r (f.msti (suc i)) (g.msti (suc i))

module _ {N L K O M J : Type 0} (r : Renaming N L K O M J) (f : Trees N L K) (g : Trees O M J) (are : AreRenamed r f g) where
  -- a bridge's settings are the same under both keys
  same_settings : (n : N) (b c : CistBridge) → HasBridge f.cist n b → HasBridge g.cist (r.bridge n) c → b ≡ c
  same_settings n b c hb hc = are.new_topology.one_bridge (r.bridge n) b c (are.cist.bridges n b hb) hc

  -- a LAN belongs to a region under both keys
  lan_to : (lan : L) (region : ℕ) → IsLanOf f lan region → IsLanOf g (r.lan lan) region
  lan_to lan region l =
      let d = designates_to cist_rules f.cist g.cist are.new_topology r are.cist f.cist_vector g.cist_vector are.designated lan l.port l.message l.designates in
      let one = same_settings l.port.bridge l.designates.says.bridge d.1.says.bridge l.designates.says.has_bridge d.1.says.has_bridge in
      record { port = renamed r l.port; message = d.0; designates = d.1; in_region = ap (λ (b : CistBridge). b.region) (sym one) ∙ l.in_region }

  lan_from : (a : TreePort N L K CistPort) → HasPort f.cist a → (region : ℕ) → IsLanOf g (r.lan a.lan) region → IsLanOf f a.lan region
  lan_from a ha region l =
      let d = designates_from cist_rules f.cist g.cist are.new_topology r are.cist f.cist_vector g.cist_vector are.designated a l.port l.message ha l.designates in
      let on : l.port.bridge ≡ r.bridge d.0.bridge = sym (ap (λ (c : TreePort O M J CistPort). c.bridge) d.3) in
      let one =
      same_settings d.0.bridge d.2.says.bridge l.designates.says.bridge d.2.says.has_bridge (subst (λ (o : O). HasBridge g.cist o l.designates.says.bridge) on l.designates.says.has_bridge) in
      record { port = d.0; message = d.1; designates = d.2; in_region = ap (λ (b : CistBridge). b.region) one ∙ l.in_region }

  internal_to : (p : TreePort N L K CistPort) → IsInternal f p → IsInternal g (renamed r p)
  internal_to p internal = record {
    is_enabled = (are.cist.ports p internal.is_enabled.0, internal.is_enabled.1);
    bridge = internal.bridge;
    has_bridge = are.cist.bridges p.bridge internal.bridge internal.has_bridge;
    own_lan = lan_to p.lan internal.bridge.region internal.own_lan;
  }

  internal_from : (p : TreePort N L K CistPort) → HasPort f.cist p → IsInternal g (renamed r p) → IsInternal f p
  internal_from p hp internal =
      let b = are.topology.has_bridge p hp internal.is_enabled.1 in
      let y = are.cist.from_bridge (r.bridge p.bridge) internal.bridge internal.has_bridge in
      let one : y.0 ≡ p.bridge = are.cist.one_bridge y.0 p.bridge internal.bridge b.0 y.1 b.1 y.2 in
      record {
        is_enabled = (hp, internal.is_enabled.1);
        bridge = internal.bridge;
        has_bridge = subst (λ (n : N). HasBridge f.cist n internal.bridge) one y.1;
        own_lan = lan_from p hp internal.bridge.region internal.own_lan;
      }

  module _ (i : ℕ) (nested : IsNested f (suc i)) where
    -- a bridge of the tree under its former key
    record FormerKey (o : O) : Type 0 where
      key : N
      settings : MstiBridge
      there : HasBridge (f.msti (suc i)) key settings
      is : r.bridge key ≡ o

    former : (o : O) → HasTree g (suc i) o → FormerKey o
    former o h = let x = (are.mstis i).from_bridge o h.0 h.1 in record { key = x.0; settings = h.0; there = x.1; is = x.2 }

    -- a key of the CIST that has the tree under its new key has it
    has_former : (n : N) (b : CistBridge) → HasBridge f.cist n b → HasTree g (suc i) (r.bridge n) → HasTree f (suc i) n
    has_former n b hb h =
        let x = former (r.bridge n) h in
        let c = nested.bridges x.key (x.settings, x.there) in
        let one : x.key ≡ n = are.cist.one_bridge x.key n c.0 b c.1 hb x.is in
        (x.settings, subst (λ (k : N). HasBridge (f.msti (suc i)) k x.settings) one x.there)

    has_now : (n : N) → HasTree f (suc i) n → HasTree g (suc i) (r.bridge n)
    has_now n h = (h.0, (are.mstis i).bridges n h.0 h.1)

    pub nested_renamed : IsNested g (suc i)
    nested_renamed = record {
      bridges = λ o h.
          let x = former o h in
          let c = nested.bridges x.key (x.settings, x.there) in
          (c.0, subst (λ (k : O). HasBridge g.cist k c.0) x.is (are.cist.bridges x.key c.0 c.1));
      regions = λ o k s h.
          let x = are.cist.from_bridge o s.bridge s.has_bridge in
          let y = are.cist.from_bridge k s.other s.has_other in
          let one = has_former x.0 s.bridge x.1 (subst (HasTree g (suc i)) (sym x.2) h) in
          subst (HasTree g (suc i)) y.2 (has_now y.0 (nested.regions x.0 y.0 (record { bridge = s.bridge; has_bridge = x.1; other = s.other; has_other = y.1; same = s.same }) one));
      ports = λ p internal h.
          let x = are.cist.from_port p internal.is_enabled.0 in
          let inside = internal_from x.0 x.1 (subst (IsInternal g) (sym x.2) internal) in
          let b = are.topology.has_bridge x.0 x.1 inside.is_enabled.1 in
          let on : r.bridge x.0.bridge ≡ p.bridge = ap (λ (c : TreePort O M J CistPort). c.bridge) x.2 in
          let q = nested.ports x.0 inside (has_former x.0.bridge b.0 b.1 (subst (HasTree g (suc i)) (sym on) h)) in (
            renamed r q.0,
            ((are.mstis i).ports q.0 q.1.0, q.1.1),
            record {
              number = ap r.port q.2.number ∙ ap (λ (c : TreePort O M J CistPort). c.number) x.2;
              bridge = ap r.bridge q.2.bridge ∙ on;
              lan = ap r.lan q.2.lan ∙ ap (λ (c : TreePort O M J CistPort). c.lan) x.2;
            },
          );
      from_ports = λ q part.
          let x = (are.mstis i).from_port q part.0 in
          let p = nested.from_ports x.0 (x.1, subst (λ (c : TreePort O M J MstiPort). IsTrue c.is_part) (sym x.2) part.1) in (
            renamed r p.0,
            internal_to p.0 p.1,
            record {
              number = sym (ap (λ (c : TreePort O M J MstiPort). c.number) x.2) ∙ ap r.port p.2.number;
              bridge = sym (ap (λ (c : TreePort O M J MstiPort). c.bridge) x.2) ∙ ap r.bridge p.2.bridge;
              lan = sym (ap (λ (c : TreePort O M J MstiPort). c.lan) x.2) ∙ ap r.lan p.2.lan;
            },
          );
    }

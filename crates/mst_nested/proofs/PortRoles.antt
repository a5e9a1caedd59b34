-- Each port of a settled tree has one role.
use Rattle.std.proofs.Common.{◌≡◌, ◌≢◌, ◌⊎◌, inl, inr, refl, sym, ◌∙◌, ap, subst, Option, Some, None, Bool, true, false}
use Rattle.mst_vector.specs.Rules.{Rules, IsMetric}
use Rattle.mst_vector.specs.declared.cist.CistBridge.{CistBridge}
use Rattle.mst_vector.specs.declared.cist.CistPort.{CistPort}
use Rattle.mst_topology.specs.Topology.{TreePort, Topology, IsTopology, KeyTests}
use Rattle.mst_topology.specs.Settled.{Designates, IsDesignated}
use Rattle.mst_topology.proofs.Below.{one_designated}
use Rattle.mst_topology.proofs.KeyTests.{fails}
use Rattle.mst_nested.specs.Trees.{Trees, TakesPart, IsSettled, IsBoundary}
use Rattle.mst_nested.proofs.Settled.{SettledTree, cist_tree}
use Rattle.mst_nested.proofs.Ports.{Placed, Heard, placed, heard, some_is}
use Rattle.mst_nested.proofs.Origins.{Took, took_along}
use Rattle.mst_nested.proofs.Parts.{HeardOn, at_port, internal}
use Rattle.mst_nested.proofs.Roots.{same_bridge, sends}
use Rattle.mst_nested.specs.Roles.{IsCistRoot, IsCistAlternate, IsRootPort, IsDesignatedPort, IsBackupPort, IsAlternatePort, HasOneRole}
use Rattle.mst_graph.proofs.Cut.{same_or_not}

module _ {N L K B P V : Type 0} (tree : SettledTree N L K B P V) where
  open tree use {rules as m, lawful as law, topology as t, vector as v, is_tree.{topology as ok, settled, port_ids}, tests, within as w, is_within as within}

  -- of a root port's LAN another bridge's port is the designated one
  root_hears_other : (p : TreePort N L K P) → IsRootPort m t v w.receiver p → (q : TreePort N L K P) (x : V) → Designates m t v p.lan q x → q.bridge ≢ p.bridge
  root_hears_other p r q x d e = go (took_along tree p r.part at r.came_by)
    where
      at : Placed tree p.bridge
      at = let b = ok.has_bridge p r.part.0 r.part.1 in record { bridge = b.0; has_bridge = b.1; vector = r.vector; is_vector = r.is_vector }

      go : (k : Took tree p.bridge at) × (k.port ≡ p) → ⊥
      go k =
          let h = k.0.heard in
          let lan : p.lan ≡ k.0.port.lan = sym (ap (λ (c : TreePort N L K P). c.lan) k.1) in
          let same : h.port ≡ q = one_designated m law t ok v k.0.port.lan h.port q h.message x h.designates (subst (λ (l : L). Designates m t v l q x) lan d) in
          k.0.from_other (ap (λ (c : TreePort N L K P). c.bridge) same ∙ e)

  -- a root port's role isn't restricted
  pub root_is_free : (p : TreePort N L K P) → IsRootPort m t v w.receiver p → p.is_restricted ≡ false
  root_is_free p r = go (took_along tree p r.part at r.came_by)
    where
      at : Placed tree p.bridge
      at = let b = ok.has_bridge p r.part.0 r.part.1 in record { bridge = b.0; has_bridge = b.1; vector = r.vector; is_vector = r.is_vector }

      go : (k : Took tree p.bridge at) × (k.port ≡ p) → p.is_restricted ≡ false
      go k = subst (λ (c : TreePort N L K P). c.is_restricted ≡ false) k.1 k.0.is_free

  one_designated_on : (p q r : TreePort N L K P) (x y : V) → Designates m t v p.lan q x → Designates m t v p.lan r y → q ≡ r
  one_designated_on p q r x y d e = one_designated m law t ok v p.lan q r x y d e

  -- the root port, or not
  root_or_not : (p : TreePort N L K P) → TakesPart t p → IsRootPort m t v w.receiver p ⊎ (IsRootPort m t v w.receiver p → ⊥)
  root_or_not p on = go (placed tree p on)
    where
      go : Placed tree p.bridge → IsRootPort m t v w.receiver p ⊎ (IsRootPort m t v w.receiver p → ⊥)
      go a = elim (same_or_not (w.receiver a.vector) (m.port_id p.settings)) [
        | inl e ↦ inl (record { part = on; vector = a.vector; is_vector = a.is_vector; came_by = e })
        | inr n ↦ inr (λ r. n (ap w.receiver (some_is (sym a.is_vector ∙ r.is_vector)) ∙ r.came_by))
      ]

  abbrev Role : TreePort N L K P → Type 0
  Role p = IsRootPort m t v w.receiver p ⊎ (IsDesignatedPort m t v p ⊎ (IsBackupPort m t v p ⊎ IsAlternatePort m t v w.receiver p))

  -- the role by the LAN's designated port
  role : (p : TreePort N L K P) → TakesPart t p → Heard tree p.lan → Role p
  role p on d = go (tests.same_bridge d.port.bridge p.bridge) refl
    where
      other : d.port.bridge ≢ p.bridge → Role p
      other n = elim (root_or_not p on) [
        | inl r ↦ inl r
        | inr isnt ↦ inr (inr (inr (record {
          part = on;
          not_root = isnt;
          not_designated = λ h. n (ap (λ (c : TreePort N L K P). c.bridge) (one_designated_on p d.port p d.message h.message d.designates h.designates));
          not_backup = λ h. n (ap (λ (c : TreePort N L K P). c.bridge) (one_designated_on p d.port h.port d.message h.message d.designates h.designates) ∙ h.same_bridge);
        })))
      ]

      go : (c : Bool) → tests.same_bridge d.port.bridge p.bridge ≡ c → Role p
      go false e = other (fails tests.bridges d.port.bridge p.bridge e)
      go true e =
          let same : d.port.bridge ≡ p.bridge = tests.bridges.alone d.port.bridge p.bridge e in
          elim (same_or_not (m.port_id d.port.settings) (m.port_id p.settings)) [
            | inl i ↦ inr (inl (record { message = d.message; designates = subst (λ (c : TreePort N L K P). Designates m t v p.lan c d.message) (ok.port_ids d.port p d.designates.says.has_port d.designates.says.is_part on.0 on.1 same i) d.designates }))
            | inr n ↦ inr (inr (inl (record { part = on; port = d.port; message = d.message; designates = d.designates; is_other = λ h. n (ap (λ (c : TreePort N L K P). m.port_id c.settings) h); same_bridge = same })))
          ]

  pub has_one_role : (p : TreePort N L K P) → TakesPart t p → HasOneRole m t v w.receiver p
  has_one_role p on = record {
    role = role p on (heard tree p on);
    not_both = λ r d. root_hears_other p r p d.message d.designates refl;
    not_root = λ b r. root_hears_other p r b.port b.message b.designates b.same_bridge;
    not_designated = λ b d. b.is_other (one_designated_on p b.port p b.message d.message b.designates d.designates);
  }

-- a boundary port is the root port or an alternate port of the CIST
module _ {N L K : Type 0} (f : Trees N L K) (tests : KeyTests N L) (ok : IsSettled f) where
  boundary_outer : (p : TreePort N L K CistPort) → IsBoundary f p → (d : HeardOn f tests ok p.lan) → d.port.bridge ≢ p.bridge
  boundary_outer p b d e =
      let a = at_port f tests ok p b.is_enabled in
      b.not_internal (internal f tests ok p b.is_enabled a d (ap (λ (c : CistBridge). c.region) (same_bridge f tests ok e (sends f tests ok d) a)))

  pub boundary_role : (p : TreePort N L K CistPort) → IsBoundary f p → IsCistRoot f p ⊎ IsCistAlternate f p
  boundary_role p b = elim (has_one_role (cist_tree f tests ok) p b.is_enabled).role [
    | inl r ↦ inl r
    | inr h ↦ elim h [
      | inl d ↦ absurd (boundary_outer p b (record { port = p; message = d.message; designates = d.designates }) refl)
      | inr g ↦ elim g [ inl k ↦ absurd (boundary_outer p b (record { port = k.port; message = k.message; designates = k.designates }) k.same_bridge) | inr a ↦ inr a ]
    ]
  ]

-- the designated port by its key
module _ {N L K B P V : Type 0} (m : Rules B P V) (law : IsMetric m) (t : Topology N L K B P) (ok : IsTopology m t) (v : N → Option V) where
  pub designated_key : (p : TreePort N L K P) (o : Option K) → IsDesignated m t v p.lan o → IsDesignatedPort m t v p → o ≡ Some p.number
  designated_key p None h d = absurd (h p d.message d.designates.on_lan d.designates.says)
  designated_key p (Some k) h d = ap Some (sym h.2 ∙ ap (λ (c : TreePort N L K P). c.number) (one_designated m law t ok v p.lan h.0 p h.1 d.message h.3 d.designates))

  pub key_designated : (p : TreePort N L K P) (o : Option K) → TakesPart t p → IsDesignated m t v p.lan o → o ≡ Some p.number → IsDesignatedPort m t v p
  key_designated p None on h e = cc
  key_designated p (Some k) on h e = record { message = h.1; designates = subst (λ (c : TreePort N L K P). Designates m t v p.lan c h.1) (ok.one_port h.0 p h.3.says.has_port on.0 (h.2 ∙ some_is e)) h.3 }

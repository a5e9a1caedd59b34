-- The parts of regions in the CIST.
use Rattle.std.proofs.Common.{◌≡◌, ◌⊎◌, inl, inr, refl, sym, ◌∙◌, ap, subst, ℕ, ◌+◌, List, [], ◌∷◌, Option, Some, None, Bool, true, false, ◌==◌, eqb-true, eq-eqb}
use Rattle.std.proofs.lemmas.Bool.{eqb-false}
use Rattle.mst_vector.specs.Cist.{cist_rules}
use Rattle.mst_vector.specs.CistLaws.{cist_lawful}
use Rattle.mst_vector.specs.declared.cist.CistVector.{CistVector}
use Rattle.mst_vector.specs.declared.cist.CistBridge.{CistBridge}
use Rattle.mst_vector.specs.declared.cist.CistPort.{CistPort}
use Rattle.mst_topology.specs.Topology.{TreePort, HasBridge, KeyTests}
use Rattle.mst_topology.proofs.Below.{one_designated}
use Rattle.mst_graph.specs.Walks.{Node, bridge_at, lan_at}
use Rattle.mst_nested.specs.Ports.{port_ends}
use Rattle.mst_nested.specs.Trees.{Trees, IsEnabled, IsLanOf, IsInternal, IsSettled, IsFree, SamePart}
use Rattle.mst_nested.proofs.Settled.{cist_tree}
use Rattle.mst_nested.proofs.Orders.{AreClose}
use Rattle.mst_nested.proofs.Within.{cist_within}
use Rattle.mst_nested.proofs.Ports.{Placed, Heard, placed, heard, beside, node_vector, lan_vector_is}
use Rattle.mst_nested.proofs.Origins.{AreNear}
use Rattle.mst_graph.proofs.Walks.{stays, one_value, Keeps}

-- the root, the external root path cost and the regional root
abbrev pub value : Option CistVector → List ℕ
value None = []
value (Some x) = x.root ∷ x.external ∷ x.regional ∷ []

module _ {N L K : Type 0} (f : Trees N L K) (tests : KeyTests N L) (ok : IsSettled f) where
  abbrev pub At : N → Type 0
  At n = Placed (cist_tree f tests ok) n

  abbrev pub HeardOn : L → Type 0
  HeardOn lan = Heard (cist_tree f tests ok) lan

  pub at_port : (p : TreePort N L K CistPort) → IsEnabled f p → At p.bridge
  at_port p on = placed (cist_tree f tests ok) p on

  pub heard_at : (p : TreePort N L K CistPort) → IsEnabled f p → HeardOn p.lan
  heard_at p on = heard (cist_tree f tests ok) p on

  -- a LAN belongs to one region, that of whatever designated bridge is named
  pub one_region : (lan : L) (r : ℕ) → IsLanOf f lan r → (d : HeardOn lan) → d.designates.says.bridge.region ≡ r
  one_region lan r own d =
      let ports = one_designated cist_rules cist_lawful f.cist ok.cist.topology f.cist_vector lan d.port own.port d.message own.message d.designates own.designates in
      let bridges : d.designates.says.bridge ≡ own.designates.says.bridge = ok.cist.topology.one_bridge own.port.bridge d.designates.says.bridge own.designates.says.bridge (subst (λ (q : TreePort N L K CistPort). HasBridge f.cist q.bridge d.designates.says.bridge) ports d.designates.says.has_bridge) own.designates.says.has_bridge in
      ap (λ (b : CistBridge). b.region) bridges ∙ own.in_region

  pub internal : (p : TreePort N L K CistPort) → IsEnabled f p → (a : At p.bridge) (d : HeardOn p.lan) → d.designates.says.bridge.region ≡ a.bridge.region → IsInternal f p
  internal p on a d e = record { is_enabled = on; bridge = a.bridge; has_bridge = a.has_bridge; own_lan = record { port = d.port; message = d.message; designates = d.designates; in_region = e } }

  pub internal_region : (p : TreePort N L K CistPort) → IsInternal f p → (a : At p.bridge) (d : HeardOn p.lan) → d.designates.says.bridge.region ≡ a.bridge.region
  internal_region p i a d = one_region p.lan i.bridge.region i.own_lan d ∙ ap (λ (b : CistBridge). b.region) (ok.cist.topology.one_bridge p.bridge i.bridge a.bridge i.has_bridge a.has_bridge)

  pub internal_near : AreNear (cist_tree f tests ok) (IsInternal f)
  internal_near = record {
    part = λ p i. i.is_enabled;
    near = λ p i a d. eq-eqb d.designates.says.bridge.region a.bridge.region (internal_region p i a d);
    from_near = λ p on a d e. internal p on a d (eqb-true d.designates.says.bridge.region a.bridge.region e);
  }

  -- an enabled port is internal, or its LAN belongs to another region
  pub record IsOuter (p : TreePort N L K CistPort) : Type 0 where
    pub at : At p.bridge
    pub heard : HeardOn p.lan
    pub is_far : (heard.designates.says.bridge.region == at.bridge.region) ≡ false

  pub sides : (p : TreePort N L K CistPort) → IsEnabled f p → IsInternal f p ⊎ IsOuter p
  sides p on = go (at_port p on) (heard_at p on)
    where
      go : (a : At p.bridge) (d : HeardOn p.lan) → IsInternal f p ⊎ IsOuter p
      go a d = by (d.designates.says.bridge.region == a.bridge.region) refl
        where
          by : (t : Bool) → (d.designates.says.bridge.region == a.bridge.region) ≡ t → IsInternal f p ⊎ IsOuter p
          by true e = inl (internal p on a d (eqb-true d.designates.says.bridge.region a.bridge.region e))
          by false e = inr (record { at = a; heard = d; is_far = e })

  pub outer_not_internal : (p : TreePort N L K CistPort) → IsOuter p → IsInternal f p → ⊥
  outer_not_internal p o i = eqb-false o.heard.designates.says.bridge.region o.at.bridge.region o.is_far (internal_region p i o.at o.heard)

  -- the region of a bridge or a LAN
  abbrev pub IsOf : ℕ → Node N L → Type 0
  IsOf r (bridge_at n) = (b : CistBridge) × HasBridge f.cist n b × (b.region ≡ r)
  IsOf r (lan_at l) = IsLanOf f l r

  pub keeps_region : (r : ℕ) (p : TreePort N L K CistPort) → IsInternal f p → Keeps port_ends (IsOf r) p
  keeps_region r p i = (
    λ b. record { port = i.own_lan.port; message = i.own_lan.message; designates = i.own_lan.designates; in_region = i.own_lan.in_region ∙ (ap (λ (c : CistBridge). c.region) (ok.cist.topology.one_bridge p.bridge i.bridge b.0 i.has_bridge b.1) ∙ b.2) },
    λ o. (let d : HeardOn p.lan = record { port = i.own_lan.port; message = i.own_lan.message; designates = i.own_lan.designates } in (i.bridge, i.has_bridge, sym i.own_lan.in_region ∙ one_region p.lan r o d)),
  )

  pub part_region : (r : ℕ) {x y : Node N L} → SamePart f x y → IsOf r x → IsOf r y
  part_region r walk = stays port_ends (IsOf r) (keeps_region r) walk

  -- the vector of a bridge, and of a LAN's designated bridge
  abbrev pub vector_at : Node N L → Option CistVector
  vector_at x = node_vector (cist_tree f tests ok) x

  pub vector_on : {lan : L} → (d : HeardOn lan) → vector_at (lan_at lan) ≡ Some d.designates.says.root
  vector_on {lan} d = lan_vector_is (cist_tree f tests ok) lan d ∙ d.designates.says.is_root

  module _ (free : IsFree f) where
    pub internal_close : (p : TreePort N L K CistPort) → IsInternal f p → (a : At p.bridge) (d : HeardOn p.lan) → AreClose (cist_within.shared a.vector) (cist_within.shared d.designates.says.root) a.vector.internal (d.designates.says.root.internal + p.settings.internal) d.designates.says.root.internal a.vector.internal
    internal_close p i a d = beside (cist_tree f tests ok) p i.is_enabled (free.cist p i.is_enabled.0) a d (internal_near.near p i a d)

    pub internal_value : (p : TreePort N L K CistPort) → IsInternal f p → value (vector_at (bridge_at p.bridge)) ≡ value (vector_at (lan_at p.lan))
    internal_value p i =
        let a = at_port p i.is_enabled in
        let d = heard_at p i.is_enabled in
        ap value a.is_vector ∙ ((internal_close p i a d).same ∙ sym (ap value (vector_on d)))

    pub part_value : {x y : Node N L} → SamePart f x y → value (vector_at x) ≡ value (vector_at y)
    part_value walk = one_value port_ends (λ x. value (vector_at x)) internal_value walk

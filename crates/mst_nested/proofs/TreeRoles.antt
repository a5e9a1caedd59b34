-- Root and designated ports inside parts, tree by tree.
use Rattle.std.proofs.Common.{◌≡◌, ◌⊎◌, inl, inr, refl, sym, ◌∙◌, ap, subst, ℕ, zero, suc, ◌<◌, Bool, true, false, ◌==◌, Some, eqb-true, arith}
use Rattle.mst_vector.specs.Cist.{cist_rules, cist_bridge_vector}
use Rattle.mst_vector.specs.CistLaws.{cist_lawful}
use Rattle.mst_vector.specs.Msti.{msti_rules, msti_bridge_vector}
use Rattle.mst_vector.specs.MstiLaws.{msti_lawful}
use Rattle.mst_vector.specs.declared.cist.CistVector.{CistVector}
use Rattle.mst_vector.specs.declared.cist.CistPort.{CistPort}
use Rattle.mst_vector.specs.declared.msti.MstiPort.{MstiPort}
use Rattle.mst_topology.specs.Topology.{TreePort, KeyTests}
use Rattle.mst_topology.specs.Settled.{Designates}
use Rattle.mst_topology.proofs.Below.{one_designated}
use Rattle.mst_graph.specs.Walks.{Node, bridge_at, lan_at}
use Rattle.mst_nested.specs.Trees.{Trees, IsSamePort, IsInternal, IsSettled, IsFree, HasTree, SamePart}
use Rattle.mst_nested.proofs.Settled.{cist_tree, msti_tree}
use Rattle.mst_nested.proofs.Within.{cist_far_regional}
use Rattle.mst_nested.proofs.Origins.{Took, took, same_placed, designated_port}
use Rattle.mst_nested.proofs.Parts.{At, heard_at, internal, internal_near}
use Rattle.mst_nested.proofs.Roots.{one_id, same_vector}
use Rattle.mst_nested.proofs.Mstis.{InTree, heard_in, in_tree, tree_port, tree_vector_at, tree_root_of, part_tree_root}
use Rattle.mst_nested.specs.Roles.{IsCistRoot, IsCistDesignated, IsMstiRoot, IsMstiDesignated, Forwards}
use Rattle.mst_nested.proofs.OneTree.{one_root_port, took_root, cost_at, designated_cost, root_cost}

module _ {N L K : Type 0} (f : Trees N L K) (tests : KeyTests N L) (ok : IsSettled f) where
  -- an internal port that has the role in the MSTI
  pub record HasRoleIn (j : ℕ) (Role : TreePort N L K MstiPort → Type 0) (e : TreePort N L K CistPort) : Type 0 where
    pub is_internal : IsInternal f e
    pub port : TreePort N L K MstiPort
    pub same : IsSamePort port e
    pub role : Role port

  -- an internal port that is the root port, or the designated port, in the tree
  abbrev pub Root : ℕ → TreePort N L K CistPort → Type 0
  Root zero e = IsInternal f e × IsCistRoot f e
  Root (suc j) e = HasRoleIn j (IsMstiRoot f (suc j)) e

  abbrev pub Designated : ℕ → TreePort N L K CistPort → Type 0
  Designated zero e = IsInternal f e × IsCistDesignated f e
  Designated (suc j) e = HasRoleIn j (IsMstiDesignated f (suc j)) e

  pub root_internal : (i : ℕ) (e : TreePort N L K CistPort) → Root i e → IsInternal f e
  root_internal zero e r = r.0
  root_internal (suc j) e r = r.is_internal

  pub designated_internal_port : (i : ℕ) (e : TreePort N L K CistPort) → Designated i e → IsInternal f e
  designated_internal_port zero e d = d.0
  designated_internal_port (suc j) e d = d.is_internal

  pub root_forwards : (i : ℕ) (e : TreePort N L K CistPort) → Root i e → Forwards f i e
  root_forwards zero e r = inl r.1
  root_forwards (suc j) e r = inl (record { is_internal = r.is_internal; port = r.port; same = r.same; role = inl r.role })

  pub designated_forwards : (i : ℕ) (e : TreePort N L K CistPort) → Designated i e → Forwards f i e
  designated_forwards zero e d = inr d.1
  designated_forwards (suc j) e d = inl (record { is_internal = d.is_internal; port = d.port; same = d.same; role = inr d.role })

  -- an internal port that forwards is one of these
  pub internal_role : (i : ℕ) (e : TreePort N L K CistPort) → IsInternal f e → Forwards f i e → Designated i e ⊎ Root i e
  internal_role zero e i (inl r) = inr (i, r)
  internal_role zero e i (inr d) = inl (i, d)
  internal_role (suc j) e i (inl h) = elim h.role [
    | inl r ↦ inr (record { is_internal = i; port = h.port; same = h.same; role = r })
    | inr d ↦ inl (record { is_internal = i; port = h.port; same = h.same; role = d })
  ]
  internal_role (suc j) e i (inr h) = absurd (h.is_boundary.not_internal i)

  -- an outer port that forwards is the root port of the CIST, in whatever tree
  pub outer_role : (i : ℕ) (e : TreePort N L K CistPort) → (IsInternal f e → ⊥) → Forwards f i e → IsCistRoot f e
  outer_role zero e o (inl r) = r
  outer_role zero e o (inr d) = absurd (o (designated_port (cist_tree f tests ok) (IsInternal f) (internal_near f tests ok) (record { port = e; message = d.message; designates = d.designates })))
  outer_role (suc j) e o (inl h) = absurd (o h.is_internal)
  outer_role (suc j) e o (inr h) = h.is_root

  -- and the root port of the CIST forwards in each tree of its bridge, if it is an outer port
  pub outer_forwards : (i : ℕ) (e : TreePort N L K CistPort) → (IsInternal f e → ⊥) → HasTree f i e.bridge → IsCistRoot f e → Forwards f i e
  outer_forwards zero e o has r = inl r
  outer_forwards (suc j) e o has r = inr (record { is_boundary = record { is_enabled = r.part; not_internal = o }; has_tree = has; is_root = r })

  -- ports of one number are one
  same_port : (j : ℕ) (Role : TreePort N L K MstiPort → Type 0) (e g : TreePort N L K CistPort) → (r : HasRoleIn j Role e) (s : HasRoleIn j Role g) → r.port ≡ s.port → e ≡ g
  same_port j Role e g r s h = ok.cist.topology.one_port e g r.is_internal.is_enabled.0 s.is_internal.is_enabled.0 (sym r.same.number ∙ (ap (λ (q : TreePort N L K MstiPort). q.number) h ∙ s.same.number))

  pub one_root : (i : ℕ) (e g : TreePort N L K CistPort) → Root i e → Root i g → e.bridge ≡ g.bridge → e ≡ g
  one_root zero e g r s h = one_root_port (cist_tree f tests ok) e g r.1 s.1 h
  one_root (suc j) e g r s h = same_port j (IsMstiRoot f (suc j)) e g r s (one_root_port (msti_tree f tests ok j) r.port s.port r.role s.role (r.same.bridge ∙ (h ∙ sym s.same.bridge)))

  pub one_designated_port : (i : ℕ) (e g : TreePort N L K CistPort) → Designated i e → Designated i g → e.lan ≡ g.lan → e ≡ g
  one_designated_port zero e g d c h = one_designated cist_rules cist_lawful f.cist ok.cist.topology f.cist_vector g.lan e g d.1.message c.1.message (subst (λ (l : L). Designates cist_rules f.cist f.cist_vector l e d.1.message) h d.1.designates) c.1.designates
  one_designated_port (suc j) e g d c h = same_port j (IsMstiDesignated f (suc j)) e g d c (one_designated msti_rules msti_lawful (f.msti (suc j)) (ok.msti j).topology (f.msti_vector (suc j)) c.port.lan d.port c.port d.role.message c.role.message (subst (λ (l : L). Designates msti_rules (f.msti (suc j)) (f.msti_vector (suc j)) l d.port d.role.message) (d.same.lan ∙ (h ∙ sym c.same.lan)) d.role.designates) c.role.designates)

  -- the internal root path cost in the tree
  abbrev pub cost_in : ℕ → Node N L → ℕ
  cost_in zero x = cost_at (cist_tree f tests ok) x
  cost_in (suc j) x = cost_at (msti_tree f tests ok j) x

  -- at the port in the tree it is that at the port
  same_cost : (j : ℕ) (q : TreePort N L K MstiPort) (e : TreePort N L K CistPort) → IsSamePort q e → (cost_in (suc j) (lan_at q.lan) ≡ cost_in (suc j) (lan_at e.lan)) × (cost_in (suc j) (bridge_at q.bridge) ≡ cost_in (suc j) (bridge_at e.bridge))
  same_cost j q e s = (ap (λ (l : L). cost_in (suc j) (lan_at l)) s.lan, ap (λ (n : N). cost_in (suc j) (bridge_at n)) s.bridge)

  pub designated_level : (i : ℕ) (e : TreePort N L K CistPort) → Designated i e → cost_in i (lan_at e.lan) ≡ cost_in i (bridge_at e.bridge)
  designated_level zero e d = designated_cost (cist_tree f tests ok) e d.1
  designated_level (suc j) e d =
      let s = same_cost j d.port e d.same in
      sym s.0 ∙ (designated_cost (msti_tree f tests ok j) d.port d.role ∙ s.1)

  pub root_level : (i : ℕ) (e : TreePort N L K CistPort) → Root i e → cost_in i (lan_at e.lan) < cost_in i (bridge_at e.bridge)
  root_level zero e r = root_cost (cist_tree f tests ok) e r.1 (λ a d. (internal_near f tests ok).near e r.0 a d)
  root_level (suc j) e r =
      let s = same_cost j r.port e r.same in
      let a = s.0 in
      let b = s.1 in
      let l = root_cost (msti_tree f tests ok j) r.port r.role (λ x d. refl) in
      omega arith

  -- a LAN with an internal port has a designated port in the tree
  pub record HasDesignatedPort (i : ℕ) (lan : L) : Type 0 where
    pub port : TreePort N L K CistPort
    pub role : Designated i port
    pub on_lan : port.lan ≡ lan

  pub has_designated_port : (i : ℕ) (e : TreePort N L K CistPort) → IsInternal f e → HasTree f i e.bridge → HasDesignatedPort i e.lan
  has_designated_port zero e i has = (let d = heard_at f tests ok e i.is_enabled in record {
    port = d.port;
    role = (designated_port (cist_tree f tests ok) (IsInternal f) (internal_near f tests ok) d, record { message = d.message; designates = record { on_lan = refl; says = d.designates.says; upto = λ q y on s. d.designates.upto q y (on ∙ d.designates.on_lan) s } });
    on_lan = d.designates.on_lan;
  })
  has_designated_port (suc j) e i has =
      let q = tree_port f tests ok j e i has in
      let d = heard_in f tests ok j q.port q.part in
      let s = d.designates.says in
      let p = (ok.nested j).from_ports d.port (s.has_port, s.is_part) in
      record {
        port = p.0;
        role = record { is_internal = p.1; port = d.port; same = p.2; role = record { message = d.message; designates = record { on_lan = refl; says = s; upto = λ q y on r. d.designates.upto q y (on ∙ d.designates.on_lan) r } } };
        on_lan = sym p.2.lan ∙ (d.designates.on_lan ∙ q.same.lan);
      }

  -- the bridge is the root of its part in the tree
  abbrev pub IsTreeRoot : ℕ → N → Type 0
  IsTreeRoot zero n = (a : At f tests ok n) × (a.vector.regional ≡ a.bridge.id)
  IsTreeRoot (suc j) n = (a : InTree f tests ok j n) × (a.vector ≡ msti_bridge_vector a.bridge)

  -- any other bridge has a root port inside its part
  pub record HasRootPort (i : ℕ) (n : N) : Type 0 where
    pub port : TreePort N L K CistPort
    pub role : Root i port
    pub on_bridge : port.bridge ≡ n

  pub has_root_port : (i : ℕ) (n : N) → At f tests ok n → HasTree f i n → HasRootPort i n ⊎ IsTreeRoot i n
  has_root_port zero n a has = go (took (cist_tree f tests ok) n a)
    where
      go : (a.vector ≡ cist_bridge_vector a.bridge) ⊎ Took (cist_tree f tests ok) n a → HasRootPort zero n ⊎ IsTreeRoot zero n
      go (inl e) = inr (a, ap (λ (x : CistVector). x.regional) e)
      go (inr k) = by (k.heard.designates.says.bridge.region == a.bridge.region) refl
        where
          by : (t : Bool) → (k.heard.designates.says.bridge.region == a.bridge.region) ≡ t → HasRootPort zero n ⊎ IsTreeRoot zero n
          by false e = inr (a, ap (λ (x : CistVector). x.regional) k.is_made ∙ cist_far_regional k.heard.message k.heard.designates.says.bridge a.bridge k.port.settings e)
          by true e = inl (record {
            port = k.port;
            role = (internal f tests ok k.port k.part (same_placed (sym k.on_bridge) a) k.heard (eqb-true k.heard.designates.says.bridge.region a.bridge.region e), took_root (cist_tree f tests ok) n a k);
            on_bridge = k.on_bridge;
          })
  has_root_port (suc j) n at has = go (in_tree f tests ok j n has)
    where
      go : InTree f tests ok j n → HasRootPort (suc j) n ⊎ IsTreeRoot (suc j) n
      go a = elim (took (msti_tree f tests ok j) n a) [
        | inl e ↦ inr (a, e)
        | inr k ↦ (let p = (ok.nested j).from_ports k.port k.part in inl (record {
          port = p.0;
          role = record { is_internal = p.1; port = k.port; same = p.2; role = took_root (msti_tree f tests ok j) n a k };
          on_bridge = sym p.2.bridge ∙ k.on_bridge;
        }))
      ]

  -- a part has one root in a tree
  module _ (free : IsFree f) where
    pub one_tree_root : (i : ℕ) (n k : N) → SamePart f (bridge_at n) (bridge_at k) → (a : At f tests ok n) (c : At f tests ok k) → a.vector.regional ≡ c.vector.regional → IsTreeRoot i n → IsTreeRoot i k → n ≡ k
    one_tree_root zero n k walk a c e r s =
        let one = same_vector f tests ok refl a r.0 in
        let two = same_vector f tests ok refl c s.0 in
        one_id f tests ok r.0 s.0 (sym r.1 ∙ (ap (λ (x : CistVector). x.regional) (sym one) ∙ (e ∙ (ap (λ (x : CistVector). x.regional) two ∙ s.1))))
    one_tree_root (suc j) n k walk a c e r s =
        let x : tree_root_of (tree_vector_at f tests ok j (bridge_at n)) ≡ suc r.0.bridge.id = ap tree_root_of (r.0.is_vector ∙ ap Some r.1) in
        let y : tree_root_of (tree_vector_at f tests ok j (bridge_at k)) ≡ suc s.0.bridge.id = ap tree_root_of (s.0.is_vector ∙ ap Some s.1) in
        let z = part_tree_root f tests ok j free n (r.0.bridge, r.0.has_bridge) walk in
        (ok.msti j).topology.bridge_ids n k r.0.bridge s.0.bridge r.0.has_bridge s.0.has_bridge (omega arith)

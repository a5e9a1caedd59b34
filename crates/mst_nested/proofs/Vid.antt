-- The active ports of a VID have the roles of a forest of parts.
use Rattle.std.proofs.Common.{◌≡◌, ◌⊎◌, inl, inr, sym, ◌∙◌, ap, subst, ℕ, ◌<◌, arith}
use Rattle.mst_vector.specs.Cist.{cist_rules}
use Rattle.mst_vector.specs.CistLaws.{cist_lawful}
use Rattle.mst_vector.specs.declared.cist.CistVector.{CistVector}
use Rattle.mst_vector.specs.declared.cist.CistPort.{CistPort}
use Rattle.mst_topology.specs.Topology.{TreePort, KeyTests}
use Rattle.mst_topology.specs.Settled.{Designates, IsSilent}
use Rattle.mst_topology.proofs.Below.{one_designated}
use Rattle.mst_topology.proofs.Offers.{chosen}
use Rattle.mst_graph.specs.Walks.{Node, bridge_at, lan_at}
use Rattle.mst_nested.specs.Ports.{port_ends}
use Rattle.mst_nested.specs.Trees.{Trees, IsEnabled, IsInternal, IsSettled, IsFree, HasTree}
use Rattle.mst_nested.proofs.Settled.{cist_tree}
use Rattle.mst_nested.proofs.Ports.{some_is}
use Rattle.mst_nested.proofs.Parts.{At, HeardOn, at_port, heard_at, internal_region, IsOuter, sides, outer_not_internal, vector_on}
use Rattle.mst_nested.proofs.Roots.{one_id, LeadsOut, leads_out, sends}
use Rattle.mst_nested.proofs.Seats.{height_of, part_at, height_at, heard_internal, seat_at, same_regional, same_height, outer_part, internal_part}
use Rattle.mst_graph.specs.Joined.{HasNoLoop}
use Rattle.mst_nested.specs.Roles.{IsCistRoot}
use Rattle.mst_nested.specs.Active.{IsTreeOfVid, IsActive}
use Rattle.mst_nested.proofs.Places.{Places, levels, IsInside, IsAcross, HasRoles, LanWay, BridgeWay}
use Rattle.mst_graph.proofs.Cut.{no_loop}
use Rattle.mst_nested.proofs.RoleForest.{forest}
use Rattle.mst_nested.proofs.OneTree.{one_root_port}
use Rattle.mst_nested.proofs.TreeRoles.{Root, Designated, root_internal, designated_internal_port, root_forwards, designated_forwards, internal_role, outer_role, one_root, one_designated_port, cost_in, designated_level, root_level, has_designated_port, IsTreeRoot, has_root_port}

module _ {N L K : Type 0} (f : Trees N L K) (tests : KeyTests N L) (ok : IsSettled f) (free : IsFree f) (tree : N → ℕ) (of_vid : IsTreeOfVid f tree) where
  -- the tree of a bridge, and of a LAN's designated bridge
  abbrev lan_tree : (lan : L) → ((q : TreePort N L K CistPort) × (x : CistVector) × Designates cist_rules f.cist f.cist_vector lan q x) ⊎ IsSilent cist_rules f.cist f.cist_vector lan → ℕ
  lan_tree lan (inl d) = tree d.0.bridge
  lan_tree lan (inr s) = 0

  abbrev pub tree_at : Node N L → ℕ
  tree_at (bridge_at n) = tree n
  tree_at (lan_at l) = lan_tree l (chosen cist_rules cist_lawful f.cist ok.cist.topology tests f.cist_vector l)

  tree_on : {lan : L} → (d : HeardOn f tests ok lan) → tree_at (lan_at lan) ≡ tree d.port.bridge
  tree_on {lan} d = go (chosen cist_rules cist_lawful f.cist ok.cist.topology tests f.cist_vector lan)
    where
      go : (o : ((q : TreePort N L K CistPort) × (x : CistVector) × Designates cist_rules f.cist f.cist_vector lan q x) ⊎ IsSilent cist_rules f.cist f.cist_vector lan) → lan_tree lan o ≡ tree d.port.bridge
      go (inl e) = ap (λ (q : TreePort N L K CistPort). tree q.bridge) (one_designated cist_rules cist_lawful f.cist ok.cist.topology f.cist_vector lan e.0 d.port e.1 d.message e.2 d.designates)
      go (inr s) = absurd (s d.port d.message d.designates.on_lan d.designates.says)

  -- bridges of one region have one tree
  pub one_tree : {n k : N} → (a : At f tests ok n) (c : At f tests ok k) → a.bridge.region ≡ c.bridge.region → tree n ≡ tree k
  one_tree {n} {k} a c e = of_vid.one_tree n k (record { bridge = a.bridge; has_bridge = a.has_bridge; other = c.bridge; has_other = c.has_bridge; same = e })

  -- so an internal port's bridge has the tree of its LAN
  pub internal_tree : (e : TreePort N L K CistPort) → IsInternal f e → tree_at (lan_at e.lan) ≡ tree e.bridge
  internal_tree e i =
      let a = at_port f tests ok e i.is_enabled in
      let d = heard_at f tests ok e i.is_enabled in
      tree_on d ∙ one_tree (sends f tests ok d) a (internal_region f tests ok e i a d)

  pub has_tree : {n : N} → At f tests ok n → HasTree f (tree n) n
  has_tree {n} a = of_vid.has_tree n a.bridge a.has_bridge

  -- roles inside a part, in the bridge's own tree
  abbrev pub RootHere : TreePort N L K CistPort → Type 0
  RootHere e = Root f tests ok (tree e.bridge) e

  abbrev pub DesignatedHere : TreePort N L K CistPort → Type 0
  DesignatedHere e = Designated f tests ok (tree e.bridge) e

  abbrev pub places : Places N L
  places = record { part = part_at f tests ok; height = height_at f tests ok; lead = λ x. cost_in f tests ok (tree_at x) x }

  -- a port inside a part is internal, one across parts is outer
  pub inside_internal : (e : TreePort N L K CistPort) → IsEnabled f e → IsInside places e → IsInternal f e
  inside_internal e on i = elim (sides f tests ok e on) [ inl h ↦ h | inr o ↦ absurd (outer_part f tests ok e o i) ]

  pub across_outer : (e : TreePort N L K CistPort) → IsEnabled f e → IsAcross places e → IsOuter f tests ok e
  across_outer e on n = elim (sides f tests ok e on) [ inl h ↦ absurd (n (internal_part f tests ok free e h)) | inr o ↦ o ]

  -- an active outer port is the root port of a regional root
  pub exit_root : (e : TreePort N L K CistPort) → IsActive f tree e → IsOuter f tests ok e → IsCistRoot f e
  exit_root e act o = outer_role f tests ok (tree e.bridge) e (outer_not_internal f tests ok e o) act.forwards

  pub exit_leads : (e : TreePort N L K CistPort) → IsActive f tree e → (o : IsOuter f tests ok e) → LeadsOut f tests ok e o
  exit_leads e act o =
      let r = exit_root e act o in
      leads_out f tests ok e o act.is_enabled (ap (λ (x : CistVector). x.receiver) (some_is (sym o.at.is_vector ∙ r.is_vector)) ∙ r.came_by)

  role : (e : TreePort N L K CistPort) → IsActive f tree e → IsInside places e → DesignatedHere e ⊎ RootHere e
  role e act i = internal_role f tests ok (tree e.bridge) e (inside_internal e act.is_enabled i) act.forwards

  one_root_here : (e g : TreePort N L K CistPort) → RootHere e → RootHere g → e.bridge ≡ g.bridge → e ≡ g
  one_root_here e g r s h = one_root f tests ok (tree g.bridge) e g (subst (λ i. Root f tests ok i e) (ap tree h) r) s h

  one_designated_here : (e g : TreePort N L K CistPort) → DesignatedHere e → DesignatedHere g → e.lan ≡ g.lan → e ≡ g
  one_designated_here e g d c h =
      let trees : tree e.bridge ≡ tree g.bridge = sym (internal_tree e (designated_internal_port f tests ok (tree e.bridge) e d)) ∙ (ap (λ l. tree_at (lan_at l)) h ∙ internal_tree g (designated_internal_port f tests ok (tree g.bridge) g c)) in
      one_designated_port f tests ok (tree g.bridge) e g (subst (λ i. Designated f tests ok i e) trees d) c h

  designated_lead : (e : TreePort N L K CistPort) → DesignatedHere e → places.lead (lan_at e.lan) ≡ places.lead (bridge_at e.bridge)
  designated_lead e d =
      ap (λ i. cost_in f tests ok i (lan_at e.lan)) (internal_tree e (designated_internal_port f tests ok (tree e.bridge) e d)) ∙ designated_level f tests ok (tree e.bridge) e d

  root_lead : (e : TreePort N L K CistPort) → RootHere e → places.lead (lan_at e.lan) < places.lead (bridge_at e.bridge)
  root_lead e r =
      let here : places.lead (lan_at e.lan) ≡ cost_in f tests ok (tree e.bridge) (lan_at e.lan) = ap (λ i. cost_in f tests ok i (lan_at e.lan)) (internal_tree e (root_internal f tests ok (tree e.bridge) e r)) in
      let l = root_level f tests ok (tree e.bridge) e r in
      omega arith

  pub one_exit : (e g : TreePort N L K CistPort) → IsActive f tree e → IsActive f tree g → IsAcross places e → IsAcross places g → places.part (bridge_at e.bridge) ≡ places.part (bridge_at g.bridge) → e ≡ g
  one_exit e g a b n k h =
      let o = across_outer e a.is_enabled n in
      let u = across_outer g b.is_enabled k in
      let roots = same_regional f tests ok (seat_at f tests ok o.at) (seat_at f tests ok u.at) h in
      let same = one_id f tests ok o.at u.at (sym (exit_leads e a o).is_root ∙ (roots ∙ (exit_leads g b u).is_root)) in
      one_root_port (cist_tree f tests ok) e g (exit_root e a o) (exit_root g b u) same

  falls : (e : TreePort N L K CistPort) → IsActive f tree e → IsAcross places e → places.height (lan_at e.lan) < places.height (bridge_at e.bridge)
  falls e a n =
      let o = across_outer e a.is_enabled n in
      let low = (exit_leads e a o).falls in
      let here : places.height (bridge_at e.bridge) ≡ o.at.vector.external = ap height_of o.at.is_vector in
      let there : places.height (lan_at e.lan) ≡ o.heard.designates.says.root.external = ap height_of (vector_on f tests ok o.heard) in
      omega arith

  pub has_roles : HasRoles places (IsActive f tree) RootHere DesignatedHere
  has_roles = record {
    role = role;
    one_root_port = one_root_here;
    one_designated = one_designated_here;
    designated_lead = designated_lead;
    root_lead = root_lead;
    one_exit = one_exit;
    falls = falls;
    same_height = same_height f tests ok;
  }

  pub active_has_no_loop : HasNoLoop port_ends (IsActive f tree)
  active_has_no_loop = no_loop port_ends (IsActive f tree) (levels places) (forest places (IsActive f tree) RootHere DesignatedHere has_roles)

  -- the ports with these roles are active
  active_designated : (i : ℕ) (d : TreePort N L K CistPort) → tree d.bridge ≡ i → Designated f tests ok i d → IsActive f tree d × DesignatedHere d
  active_designated i d h r =
      let here = subst (λ k. Designated f tests ok k d) (sym h) r in
      (record { is_enabled = (designated_internal_port f tests ok i d r).is_enabled; forwards = designated_forwards f tests ok (tree d.bridge) d here }, here)

  active_root : (i : ℕ) (d : TreePort N L K CistPort) → tree d.bridge ≡ i → Root f tests ok i d → IsActive f tree d × RootHere d
  active_root i d h r =
      let here = subst (λ k. Root f tests ok k d) (sym h) r in
      (record { is_enabled = (root_internal f tests ok i d r).is_enabled; forwards = root_forwards f tests ok (tree d.bridge) d here }, here)

  pub lan_way : (e : TreePort N L K CistPort) → IsEnabled f e → LanWay places (IsActive f tree) DesignatedHere e
  lan_way e on =
      let h = heard_at f tests ok e on in
      let i = tree h.port.bridge in
      let d = has_designated_port f tests ok i h.port (heard_internal f tests ok h) (has_tree (sends f tests ok h)) in
      let on_lan : d.port.lan ≡ e.lan = d.on_lan ∙ h.designates.on_lan in
      let internal_port = designated_internal_port f tests ok i d.port d.role in
      let a = active_designated i d.port (sym (internal_tree d.port internal_port) ∙ (ap (λ l. tree_at (lan_at l)) on_lan ∙ tree_on h)) d.role in
      record { port = d.port; is_active = a.0; is_designated = a.1; on_lan = on_lan; same_part = internal_part f tests ok free d.port internal_port ∙ ap (λ l. places.part (lan_at l)) on_lan }

  pub bridge_way : (e : TreePort N L K CistPort) → IsEnabled f e → BridgeWay places (IsActive f tree) RootHere e ⊎ IsTreeRoot f tests ok (tree e.bridge) e.bridge
  bridge_way e on = elim (has_root_port f tests ok (tree e.bridge) e.bridge (at_port f tests ok e on) (has_tree (at_port f tests ok e on))) [
    | inl d ↦ (let a = active_root (tree e.bridge) d.port (ap tree d.on_bridge) d.role in inl (record {
      port = d.port;
      is_active = a.0;
      is_root = a.1;
      on_bridge = d.on_bridge;
      same_part = sym (internal_part f tests ok free d.port (root_internal f tests ok (tree e.bridge) d.port d.role)) ∙ ap (λ n. places.part (bridge_at n)) d.on_bridge;
    }))
    | inr r ↦ inr r
  ]

-- The ports that forward by their roles are those that forward in nested trees.
use Rattle.std.proofs.Common.{◌≡◌, ℕ, zero, suc, ◌==◌, ◌&&◌, Bool, true, false, List, Option, Some, None, refl, sym, ap, subst, ◌∙◌, true≢false, eq-eqb, ◌⊎◌, inl, inr, arith}
use Rattle.std.specs.Prelude.{if◌then◌else◌, ◌↔◌}
use Rattle.std.specs.List.{Contains}
use Rattle.std.specs.Option.{option_map, option_map_or}
use Rattle.std.proofs.lemmas.Bool.{eqb-true}
use Rattle.mst_ids.specs.declared.name.PortName.{PortName}
use Rattle.mst_vector.specs.Rules.{Rules}
use Rattle.mst_vector.specs.Cist.{cist_rules}
use Rattle.mst_vector.specs.Msti.{msti_rules}
use Rattle.mst_vector.specs.declared.cist.CistPort.{CistPort}
use Rattle.mst_vector.specs.declared.msti.MstiPort.{MstiPort}
use Rattle.mst_forest.specs.topology.Topology.{TreePort, Topology, IsTopology, HasPort}
use Rattle.mst_forest.specs.topology.Settled.{IsDesignated}
use Rattle.mst_forest.specs.nested.Trees.{Trees, TakesPart, IsEnabled, IsInternal, HasTree}
use Rattle.mst_forest.specs.nested.Roles.{IsRootPort, IsDesignatedPort, IsMstiRoot, IsMstiDesignated, ForwardsInRegion, Forwards}
use Rattle.mst_tables.specs.Tables.{Net, IsNetwork, port_eq}
use Rattle.mst_tables.specs.ByTree.{by_tree}
use Rattle.mst_view.specs.Aggregation.{same_name}
use Rattle.mst_view.specs.View.{LogicalPort, view_ports}
use Rattle.mst_forest.specs.Sight.{tree_port}
use Rattle.mst_forest.specs.Cist.{cist_port, cist_sight, cist_of}
use Rattle.mst_forest.specs.Msti.{msti_bridge, msti_port, msti_sight, msti_of, has_msti, is_internal}
use Rattle.mst_forest.specs.Outcome.{Outcome, IsOutcome, trees_of}
use Rattle.mst_forest.proofs.Lists.{some_is, no_some, all_contained}
use Rattle.mst_forest.proofs.Views.{IsPort, ports_are, row_on}
use Rattle.mst_forest.proofs.Outcomes.{OnePorts}
use Rattle.mst_forest.proofs.Sights.{bridge_in, port_in}
use Rattle.mst_forest.proofs.CistTopology.{cist_is_sight, cist_topology}
use Rattle.mst_forest.proofs.MstiTopology.{msti_is_sight, msti_topology}
use Rattle.mst_forest.proofs.NestedTrees.{internal_told, internal_port}
use Rattle.mst_roles.specs.Roles.{beside, role_by, outside, cist_role, msti_role, role_in, forwards}
use Rattle.mst_roles.specs.declared.kind.Role.{Role}
use Rattle.mst_roles.specs.declared.kind.Role.TheVariants.{Root, Designated, Alternate, Backup, Disabled}
use Rattle.mst_roles.proofs.Named.{port_is, port_same}

-- the laws that the designated port is told by its key, at names
abbrev pub KeyOfDesignated : {B P V : Type 0} → Rules B P V → Type 0
KeyOfDesignated {B} {P} {V} m =
    (t : Topology (List ℕ) (List ℕ) PortName B P) (v : List ℕ → Option V) → IsTopology m t → (p : TreePort (List ℕ) (List ℕ) PortName P) (o : Option PortName)
    → IsDesignated m t v p.lan o → IsDesignatedPort m t v p → o ≡ Some p.number

abbrev pub DesignatedByKey : {B P V : Type 0} → Rules B P V → Type 0
DesignatedByKey {B} {P} {V} m =
    (t : Topology (List ℕ) (List ℕ) PortName B P) (v : List ℕ → Option V) → IsTopology m t → (p : TreePort (List ℕ) (List ℕ) PortName P) (o : Option PortName)
    → TakesPart t p → IsDesignated m t v p.lan o → o ≡ Some p.number → IsDesignatedPort m t v p

not_zero : (i : ℕ) → (suc i == 0) ≡ false
not_zero i = go (suc i == 0) refl
  where
    go : (b : Bool) → (suc i == 0) ≡ b → (suc i == 0) ≡ false
    go false e = e
    go true e = let zero_is : suc i ≡ 0 = eqb-true (suc i) 0 e in absurd (omega arith)

-- beside the designated port of its LAN a port forwards where it is that port
forwards_beside : (a b : Bool) → forwards (if a then Designated else (if b then Backup else Alternate)) ≡ true → a ≡ true
forwards_beside true b e = refl
forwards_beside false true e = absurd (true≢false (sym e))
forwards_beside false false e = absurd (true≢false (sym e))

-- and never by external information
never_outside : (a b : Bool) → forwards (outside (if a then Designated else (if b then Backup else Alternate))) ≡ true → ⊥
never_outside true b e = true≢false (sym e)
never_outside false true e = true≢false (sym e)
never_outside false false e = true≢false (sym e)

-- in one tree
module _ {B P V : Type 0} (m : Rules B P V) (t : Topology (List ℕ) (List ℕ) PortName B P) (ok : IsTopology m t) (v : List ℕ → Option V) (receiver : V → ℕ)
    (key : KeyOfDesignated m) (by_key : DesignatedByKey m) (q : TreePort (List ℕ) (List ℕ) PortName P) (part : TakesPart t q) (d : Option PortName) (is : IsDesignated m t v q.lan d) where
  -- whether the vector came by the port
  abbrev came_by : Option V → Bool
  came_by x = option_map_or (λ r. r == m.port_id q.settings) (option_map receiver x) false

  abbrev role_where : Bool → Option PortName → Role
  role_where came x = if came then Root else option_map_or (beside q.number) x Alternate

  is_root : came_by (v q.bridge) ≡ true → IsRootPort m t v receiver q
  is_root e = go (v q.bridge) refl
    where
      go : (x : Option V) → v q.bridge ≡ x → IsRootPort m t v receiver q
      go None f = absurd (true≢false (sym e ∙ ap came_by f))
      go (Some x) f = record { part = part; vector = x; is_vector = f; came_by = eqb-true (receiver x) (m.port_id q.settings) (sym (ap came_by f) ∙ e) }

  root_is : IsRootPort m t v receiver q → came_by (v q.bridge) ≡ true
  root_is r = ap came_by r.is_vector ∙ eq-eqb (receiver r.vector) (m.port_id q.settings) r.came_by

  pub forwards_to : forwards (role_by (m.port_id q.settings) (option_map receiver (v q.bridge)) d q.number) ≡ true → IsRootPort m t v receiver q ⊎ IsDesignatedPort m t v q
  forwards_to e = go (came_by (v q.bridge)) refl d refl e
    where
      go : (c : Bool) → came_by (v q.bridge) ≡ c → (x : Option PortName) → d ≡ x → forwards (role_where c x) ≡ true → IsRootPort m t v receiver q ⊎ IsDesignatedPort m t v q
      go true f x g h = inl (is_root f)
      go false f None g h = absurd (true≢false (sym h))
      go false f (Some k) g h = inr (by_key t v ok q d part is (g ∙ ap Some (port_is k q.number (forwards_beside (port_eq k q.number) (same_name k.bridge q.number.bridge) h))))

  pub forwards_from : IsRootPort m t v receiver q ⊎ IsDesignatedPort m t v q → forwards (role_by (m.port_id q.settings) (option_map receiver (v q.bridge)) d q.number) ≡ true
  forwards_from s = elim s [
    | inl r ↦ ap (λ c. forwards (role_where c d)) (root_is r)
    | inr h ↦ go (came_by (v q.bridge)) d (key t v ok q d is h)
  ]
    where
      go : (c : Bool) (x : Option PortName) → x ≡ Some q.number → forwards (role_where c x) ≡ true
      go true x g = refl
      go false x g =
          ap (λ y. forwards (role_where false y)) g
          ∙ ap (λ b. forwards (if b then Designated else (if same_name q.number.bridge q.number.bridge then Backup else Alternate))) (port_same q.number q.number refl)

  pub outside_to : forwards (outside (role_by (m.port_id q.settings) (option_map receiver (v q.bridge)) d q.number)) ≡ true → IsRootPort m t v receiver q
  outside_to e = go (came_by (v q.bridge)) refl d e
    where
      go : (c : Bool) → came_by (v q.bridge) ≡ c → (x : Option PortName) → forwards (outside (role_where c x)) ≡ true → IsRootPort m t v receiver q
      go true f x h = is_root f
      go false f None h = absurd (true≢false (sym h))
      go false f (Some k) h = absurd (never_outside (port_eq k q.number) (same_name k.bridge q.number.bridge) h)

  pub outside_from : IsRootPort m t v receiver q → forwards (outside (role_by (m.port_id q.settings) (option_map receiver (v q.bridge)) d q.number)) ≡ true
  outside_from r = ap (λ c. forwards (outside (role_where c d))) (root_is r)

-- in all trees
module _ (net : Net) (ok : IsNetwork net) (one_ports : OnePorts cist_rules) (o : Outcome) (is : IsOutcome net o)
    (key : KeyOfDesignated cist_rules) (by_key : DesignatedByKey cist_rules) (msti_key : KeyOfDesignated msti_rules) (msti_by_key : DesignatedByKey msti_rules)
    (p : LogicalPort) (there : Contains (view_ports net) p) (enabled : p.is_enabled ≡ true) where
  abbrev f : Trees (List ℕ) (List ℕ) PortName
  f = trees_of net o

  abbrev d : List ℕ → Option PortName
  d = o.cist.designated

  abbrev q : TreePort (List ℕ) (List ℕ) PortName CistPort
  q = tree_port p (cist_port (by_tree net) p)

  is_port : IsPort net p
  is_port = all_contained (IsPort net) (view_ports net) p (ports_are net) there

  seen : (cist_sight net).port p ≡ Some (cist_port (by_tree net) p)
  seen = ap (λ (t : Bool). if t then Some (cist_port (by_tree net) p) else None) enabled

  part : IsEnabled f q
  part = (port_in net ok cist_rules (cist_sight net) (cist_is_sight net ok) p (cist_port (by_tree net) p) there seen, refl)

  internal_test : IsInternal f q → is_internal net d p ≡ true
  internal_test i = internal_told net ok one_ports o is q i (record { port = p; there = there; is_port = is_port; settings = cist_port (by_tree net) p; seen = seen; is = refl })

  abbrev enabled_role : Role
  enabled_role = role_by (cist_port (by_tree net) p).id (option_map (λ v. v.receiver) (o.cist.vector p.name.bridge)) (d p.lan) p.name

  cist_is : cist_role net o p ≡ enabled_role
  cist_is = ap (λ (t : Bool). if t then enabled_role else Disabled) enabled

  cist_forwards : forwards (cist_role net o p) ≡ true ↔ Forwards f 0 q
  cist_forwards = (
    λ e. forwards_to cist_rules (cist_of net) (cist_topology net ok) o.cist.vector (λ x. x.receiver) key by_key q part (d p.lan) (is.cist.designated p.lan) (sym (ap forwards cist_is) ∙ e),
    λ s. ap forwards cist_is ∙ forwards_from cist_rules (cist_of net) (cist_topology net ok) o.cist.vector (λ x. x.receiver) key by_key q part (d p.lan) (is.cist.designated p.lan) s,
  )

  -- in an MSTI that the port's bridge has
  module _ (i : ℕ) (has : has_msti net (suc i) p.name.bridge ≡ true) where
    abbrev r : TreePort (List ℕ) (List ℕ) PortName MstiPort
    r = tree_port p (msti_port (by_tree net) (suc i) p)

    abbrev internal_role : Role
    internal_role = role_by (msti_port (by_tree net) (suc i) p).id (option_map (λ v. v.receiver) ((o.msti (suc i)).vector p.name.bridge)) ((o.msti (suc i)).designated p.lan) p.name

    abbrev role_where_internal : Bool → Role
    role_where_internal internal = if internal then internal_role else outside (cist_role net o p)

    msti_is : msti_role net o (suc i) p ≡ role_where_internal (is_internal net d p)
    msti_is = ap (λ (t : Bool). if t then role_where_internal (is_internal net d p) else Disabled) enabled

    in_msti : is_internal net d p ≡ true → TakesPart (msti_of net (suc i) d) r
    in_msti internal =
        let settings = msti_port (by_tree net) (suc i) p in
        let seen_there : (msti_sight net (suc i) d).port p ≡ Some settings =
        ap (λ (t : Bool). if t && is_internal net d p && has_msti net (suc i) p.name.bridge then Some settings else None) enabled
        ∙ ap (λ (t : Bool). if t && has_msti net (suc i) p.name.bridge then Some settings else None) internal
        ∙ ap (λ (t : Bool). if t then Some settings else None) has in
        (port_in net ok msti_rules (msti_sight net (suc i) d) (msti_is_sight net ok (suc i) d) p settings there seen_there, refl)

    bridge_has : HasTree f (suc i) p.name.bridge
    bridge_has =
        let on = row_on net p.name.bridge (is_port.bridge_on enabled) in
        let b = msti_bridge (by_tree net) (suc i) p.name.bridge on.row in (
          b,
          bridge_in net ok msti_rules (msti_sight net (suc i) d) (msti_is_sight net ok (suc i) d) p.name.bridge b (record {
            row = on.row;
            has_row = on.is_row;
            seen = ap (λ (t : Bool). if t && has_msti net (suc i) p.name.bridge then Some b else None) on.is_power ∙ ap (λ (t : Bool). if t then Some b else None) has;
          }),
        )

    msti_to : (b : Bool) → is_internal net d p ≡ b → forwards (role_where_internal b) ≡ true → Forwards f (suc i) q
    msti_to true e h = inl (record {
      is_internal = internal_port net ok one_ports o is p there is_port enabled e;
      port = r;
      same = record { number = refl; bridge = refl; lan = refl };
      role = forwards_to msti_rules (msti_of net (suc i) d) (msti_topology net ok (suc i) d) (o.msti (suc i)).vector (λ x. x.receiver) msti_key msti_by_key r (in_msti e)
          ((o.msti (suc i)).designated p.lan) ((is.mstis (suc i)).designated p.lan) h;
    })
    msti_to false e h = inr (record {
      is_boundary = record { is_enabled = part; not_internal = λ j. true≢false (sym (internal_test j) ∙ e) };
      has_tree = bridge_has;
      is_root = outside_to cist_rules (cist_of net) (cist_topology net ok) o.cist.vector (λ x. x.receiver) key by_key q part (d p.lan) (is.cist.designated p.lan)
          (sym (ap (λ x. forwards (outside x)) cist_is) ∙ h);
    })

    -- the port of the tree is this one
    same_port : (w : ForwardsInRegion f (suc i) q) → is_internal net d p ≡ true → w.port ≡ r
    same_port w e = (msti_topology net ok (suc i) d).one_port w.port r in_tree (in_msti e).0 w.same.number
      where
        in_tree : HasPort (msti_of net (suc i) d) w.port
        in_tree = elim w.role [ inl x ↦ x.part.0 | inr x ↦ x.designates.says.has_port ]

    msti_from : (b : Bool) → is_internal net d p ≡ b → Forwards f (suc i) q → forwards (role_where_internal b) ≡ true
    msti_from true e s = elim s [
      | inl w ↦ forwards_from msti_rules (msti_of net (suc i) d) (msti_topology net ok (suc i) d) (o.msti (suc i)).vector (λ x. x.receiver) msti_key msti_by_key r (in_msti e)
          ((o.msti (suc i)).designated p.lan) ((is.mstis (suc i)).designated p.lan)
          (subst (λ (c : TreePort (List ℕ) (List ℕ) PortName MstiPort). IsMstiRoot f (suc i) c ⊎ IsMstiDesignated f (suc i) c) (same_port w e) w.role)
      | inr w ↦ absurd (w.is_boundary.not_internal (internal_port net ok one_ports o is p there is_port enabled e))
    ]
    msti_from false e s = elim s [
      | inl w ↦ absurd (true≢false (sym (internal_test w.is_internal) ∙ e))
      | inr w ↦ ap (λ x. forwards (outside x)) cist_is
          ∙ outside_from cist_rules (cist_of net) (cist_topology net ok) o.cist.vector (λ x. x.receiver) key by_key q part (d p.lan) (is.cist.designated p.lan) w.is_root
    ]

    msti_forwards : forwards (msti_role net o (suc i) p) ≡ true ↔ Forwards f (suc i) q
    msti_forwards = (
      λ e. msti_to (is_internal net d p) refl (sym (ap forwards msti_is) ∙ e),
      λ s. ap forwards msti_is ∙ msti_from (is_internal net d p) refl s,
    )

  pub forwards_in : (tree : ℕ) (role : Role) → role_in net o tree p ≡ Some role → forwards role ≡ true ↔ Forwards f tree q
  forwards_in zero role e = subst (λ (x : Role). forwards x ≡ true ↔ Forwards f 0 q) (some_is (cist_role net o p) role e) cist_forwards
  forwards_in (suc i) role e = go (has_msti net (suc i) p.name.bridge) refl (sym (ap by_tree_number (not_zero i)) ∙ e)
    where
      by_tree_number : Bool → Option Role
      by_tree_number b = if b then Some (cist_role net o p) else (if has_msti net (suc i) p.name.bridge then Some (msti_role net o (suc i) p) else None)

      go : (b : Bool) → has_msti net (suc i) p.name.bridge ≡ b → (if b then Some (msti_role net o (suc i) p) else None) ≡ Some role → forwards role ≡ true ↔ Forwards f (suc i) q
      go true h k = subst (λ (x : Role). forwards x ≡ true ↔ Forwards f (suc i) q) (some_is (msti_role net o (suc i) p) role k) (msti_forwards i h)
      go false h k = absurd (no_some role k)

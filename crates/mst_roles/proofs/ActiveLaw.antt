-- The active ports of a VID join what is enabled, without a loop.
use Rattle.std.proofs.Common.{◌≡◌, ℕ, zero, suc, ◌==◌, ◌&&◌, Bool, true, false, List, Option, Some, None, refl, sym, ap, subst, ◌∙◌, inl, inr, true≢false, eq-eqb, Less, arith}
use Rattle.std.specs.Prelude.{if◌then◌else◌, ◌↔◌}
use Rattle.std.specs.List.{Contains}
use Rattle.std.specs.Option.{option_map_or}
use Rattle.std.specs.FinMap as fin
use Rattle.std.proofs.lemmas.Bool.{eqb-true}
use Rattle.mst_ids.specs.Names.{port_cmp}
use Rattle.mst_ids.specs.declared.name.PortName.{PortName}
use Rattle.mst_vector.specs.Cist.{cist_rules}
use Rattle.mst_vector.specs.Msti.{msti_rules}
use Rattle.mst_vector.specs.declared.cist.CistBridge.{CistBridge}
use Rattle.mst_vector.specs.declared.cist.CistPort.{CistPort}
use Rattle.mst_vector.specs.declared.msti.MstiBridge.{MstiBridge}
use Rattle.mst_forest.specs.topology.Topology.{TreePort, HasBridge, KeyTests}
use Rattle.mst_graph.specs.Joined.{IsJoined, HasNoLoop, Other}
use Rattle.mst_graph.proofs.Members.{in_filter, from_filter}
use Rattle.mst_forest.specs.nested.Ports.{port_ends as plug_ends}
use Rattle.mst_forest.specs.nested.Trees.{Trees, IsSettled, IsFree, IsEnabled as IsEnabledPlug, HasTree, SameRegion}
use Rattle.mst_forest.specs.nested.Roles.{Forwards}
use Rattle.mst_forest.specs.nested.Active.{IsTreeOfVid, IsActive}
use Rattle.mst_tables.specs.Tables.{Net, BridgeRow, IsNetwork}
use Rattle.mst_tables.specs.ByTree.{by_tree}
use Rattle.mst_view.specs.View.{LogicalPort, view_ports}
use Rattle.mst_forest.specs.config.Regions.{same_region, region_of}
use Rattle.mst_forest.proofs.config_lemmas.SameRegion.{told}
use Rattle.mst_forest.specs.Sight.{tree_port}
use Rattle.mst_forest.specs.Cist.{cist_bridge, cist_port, cist_sight, cist_of}
use Rattle.mst_forest.specs.Msti.{msti_bridge, msti_sight, has_msti}
use Rattle.mst_forest.specs.Outcome.{Outcome, trees_of}
use Rattle.mst_forest.proofs.CistTopology.{given, cist_is_sight}
use Rattle.mst_forest.proofs.MstiTopology.{msti_is_sight}
use Rattle.mst_forest.proofs.Lists.{apart_cases}
use Rattle.mst_forest.proofs.Sights.{bridge_from, bridge_in, port_from}
use Rattle.mst_forest.proofs.Views.{ports_rise, port_names_differ}
use Rattle.mst_roles.specs.Roles.{cist_role, msti_role, role_in, forwards, tree_of_vid, forwards_for}
use Rattle.mst_roles.specs.declared.kind.Role.{Role}
use Rattle.mst_roles.specs.declared.kind.Role.TheVariants.{Disabled}
use Rattle.mst_roles.specs.Active.{active_ports, port_ends, JoinWithoutLoop}
use Rattle.mst_roles.proofs.Carried.{HasEnds, carried}
use Rattle.mst_roles.proofs.Names.{tests}
use Rattle.mst_roles.proofs.Plugs.{plug, enabled_plug}
use Rattle.mst_roles.proofs.VidTrees.{has_its_tree, one_tree}

-- the laws that it rests on, at names
abbrev pub Joined : Type 0
Joined =
    (f : Trees (List ℕ) (List ℕ) PortName) (tree : List ℕ → ℕ) → KeyTests (List ℕ) (List ℕ) → IsSettled f → IsFree f → IsTreeOfVid f tree → IsJoined plug_ends (IsEnabledPlug f) (IsActive f tree)

abbrev pub NoLoop : Type 0
NoLoop = (f : Trees (List ℕ) (List ℕ) PortName) (tree : List ℕ → ℕ) → KeyTests (List ℕ) (List ℕ) → IsSettled f → IsFree f → IsTreeOfVid f tree → HasNoLoop plug_ends (IsActive f tree)

abbrev pub Forwarding : Net → Outcome → Type 0
Forwarding net o =
    (p : LogicalPort) → Contains (view_ports net) p → p.is_enabled ≡ true → (tree : ℕ) (role : Role) → role_in net o tree p ≡ Some role
    → forwards role ≡ true ↔ Forwards (trees_of net o) tree (tree_port p (cist_port (by_tree net) p))

pub not_zero : (i : ℕ) → (suc i == 0) ≡ false
not_zero i = go (suc i == 0) refl
  where
    go : (b : Bool) → (suc i == 0) ≡ b → (suc i == 0) ≡ false
    go false e = e
    go true e = let zero_is : suc i ≡ 0 = eqb-true (suc i) 0 e in absurd (omega arith)

-- a port that forwards has a role that does
forwards_by : (o : Option Role) → option_map_or forwards o false ≡ true → (role : Role) × (o ≡ Some role) × (forwards role ≡ true)
forwards_by None e = absurd (true≢false (sym e))
forwards_by (Some role) e = (role, refl, e)

-- no port of the role Disabled does
never : (z has : Bool) → option_map_or forwards (if z then Some Disabled else (if has then Some Disabled else None)) false ≡ true → ⊥
never true has e = true≢false (sym e)
never false true e = true≢false (sym e)
never false false e = true≢false (sym e)

module _ (net : Net) (o : Outcome) (vid : ℕ) where
  -- an active port is enabled
  pub active_enabled : (p : LogicalPort) → forwards_for net o vid p ≡ true → p.is_enabled ≡ true
  active_enabled p e = go p.is_enabled refl
    where
      cist_disabled : p.is_enabled ≡ false → cist_role net o p ≡ Disabled
      cist_disabled f = rw f refl

      msti_disabled : (tree : ℕ) → p.is_enabled ≡ false → msti_role net o tree p ≡ Disabled
      msti_disabled tree f = rw f refl

      go : (b : Bool) → p.is_enabled ≡ b → p.is_enabled ≡ true
      go true f = f
      go false f =
          let tree : ℕ = tree_of_vid net p.name.bridge vid in
          let same : option_map_or forwards (role_in net o tree p) false
          ≡ option_map_or forwards (if tree == 0 then Some Disabled else (if has_msti net tree p.name.bridge then Some Disabled else None)) false
          = λ i. option_map_or forwards (if tree == 0 then Some (cist_disabled f i) else (if has_msti net tree p.name.bridge then Some (msti_disabled tree f i) else None)) false in
          absurd (never (tree == 0) (has_msti net tree p.name.bridge) (sym same ∙ e))

  -- the ports of a view differ in name
  pub one_port : (p q : LogicalPort) → Contains (view_ports net) p → Contains (view_ports net) q → p.name ≡ q.name → p ≡ q
  one_port p q h j e =
      elim (apart_cases (λ (p q : LogicalPort). port_cmp p.name q.name ≡ Less) (view_ports net) p q (ports_rise net) h j) [
        | inl same ↦ same
        | inr apart ↦ absurd (elim apart [ inl l ↦ port_names_differ p.name q.name l e | inr l ↦ port_names_differ q.name p.name l (sym e) ])
      ]

  -- the role of a port in a tree that its bridge has
  role_there : (tree : ℕ) (p : LogicalPort) → ((i : ℕ) → tree ≡ suc i → has_msti net (suc i) p.name.bridge ≡ true) → (role : Role) × (role_in net o tree p ≡ Some role)
  role_there zero p has = (cist_role net o p, refl)
  role_there (suc i) p has = (
    msti_role net o (suc i) p,
    ap (λ b. if b then Some (cist_role net o p) else (if has_msti net (suc i) p.name.bridge then Some (msti_role net o (suc i) p) else None)) (not_zero i)
        ∙ ap (λ b. if b then Some (msti_role net o (suc i) p) else None) (has i refl),
  )

module _ (net : Net) (ok : IsNetwork net) (o : Outcome) (settled : IsSettled (trees_of net o)) (free : IsFree (trees_of net o)) (law : Forwarding net o) (vid : ℕ) where
  abbrev f : Trees (List ℕ) (List ℕ) PortName
  f = trees_of net o

  abbrev tree : List ℕ → ℕ
  tree name = tree_of_vid net name vid

  -- ---- the trees of the VID
  -- a bridge of the CIST is on, and has its region
  record InCist (n : List ℕ) (b : CistBridge) : Type 0 where
    row : BridgeRow
    has_row : fin.get net.bridges n ≡ Some row
    is_on : row.is_on ≡ true
    region : b.region ≡ region_of net n

  in_cist : (n : List ℕ) (b : CistBridge) → HasBridge (cist_of net) n b → InCist n b
  in_cist n b h =
      let x = bridge_from net ok cist_rules (cist_sight net) (cist_is_sight net ok) n b h in
      let p = given x.row.is_on (cist_bridge (by_tree net) (region_of net n) n x.row) b x.seen in
      record { row = x.row; has_row = x.has_row; is_on = p.0; region = sym (ap (λ (c : CistBridge). c.region) p.1) }

  has_tree : (n : List ℕ) (b : CistBridge) → HasBridge (cist_of net) n b → (t : ℕ) → tree n ≡ t → HasTree f t n
  has_tree n b h zero e = (b, h)
  has_tree n b h (suc i) e =
      let x = in_cist n b h in
      let has : has_msti net (suc i) n ≡ true = has_its_tree net ok n x.row vid i x.has_row e in
      let c : MstiBridge = msti_bridge (by_tree net) (suc i) n x.row in (
        c,
        bridge_in net ok msti_rules (msti_sight net (suc i) o.cist.designated) (msti_is_sight net ok (suc i) o.cist.designated) n c (record {
          row = x.row;
          has_row = x.has_row;
          seen = ap (λ (t : Bool). if t && has_msti net (suc i) n then Some c else None) x.is_on ∙ ap (λ (t : Bool). if t then Some c else None) has;
        }),
      )

  shared : (n k : List ℕ) → SameRegion f n k → tree n ≡ tree k
  shared n k s =
      let x = in_cist n s.bridge s.has_bridge in
      let y = in_cist k s.other s.has_other in
      one_tree net n k x.row y.row vid x.has_row y.has_row (region n k x y (sym x.region ∙ s.same ∙ y.region))
    where
      region : (n k : List ℕ) (x : InCist n s.bridge) (y : InCist k s.other) → region_of net n ≡ region_of net k → same_region net n k ≡ true
      region n k x y e = sym (told net ok n k x.row y.row x.has_row y.has_row) ∙ eq-eqb (region_of net n) (region_of net k) e

  of_vid : IsTreeOfVid f tree
  of_vid = record { has_tree = λ n b h. has_tree n b h (tree n) refl; one_tree = shared }

  -- ---- ports and plugs
  active_plug : (p : LogicalPort) → Contains (active_ports net o vid) p → IsActive f tree (plug net p)
  active_plug p h =
      let x = from_filter (forwards_for net o vid) (view_ports net) p h in
      let enabled = active_enabled net o vid p x.1 in
      let r = forwards_by (role_in net o (tree p.name.bridge) p) x.1 in
      record { is_enabled = enabled_plug net ok p (x.0, enabled); forwards = (law p x.0 enabled (tree p.name.bridge) r.0 r.1).0 r.2 }

  -- and an active plug is that of an active port
  record IsOfActive (e : TreePort (List ℕ) (List ℕ) PortName CistPort) : Type 0 where
    port : LogicalPort
    is_active : Contains (active_ports net o vid) port
    is : plug net port ≡ e

  of_active : (e : TreePort (List ℕ) (List ℕ) PortName CistPort) → IsActive f tree e → IsOfActive e
  of_active e a =
      let x = port_from net ok cist_rules (cist_sight net) (cist_is_sight net ok) e a.is_enabled.0 in
      let g = given x.port.is_enabled (cist_port (by_tree net) x.port) x.settings x.seen in
      let same : plug net x.port ≡ e = ap (tree_port x.port) g.1 ∙ x.is in
      let active : IsActive f tree (plug net x.port) = subst (IsActive f tree) (sym same) a in
      let own = settled.cist.topology.has_bridge (plug net x.port) active.is_enabled.0 active.is_enabled.1 in
      let on = in_cist x.port.name.bridge own.0 own.1 in
      let r = role_there net o vid (tree x.port.name.bridge) x.port (λ i k. has_its_tree net ok x.port.name.bridge on.row vid i on.has_row k) in
      let forwards_so : forwards_for net o vid x.port ≡ true = ap (λ (q : Option Role). option_map_or forwards q false) r.1 ∙ (law x.port x.there g.0 (tree x.port.name.bridge) r.0 r.1).1 active.forwards in
      record { port = x.port; is_active = in_filter (forwards_for net o vid) (view_ports net) x.port x.there forwards_so; is = same }

  -- ---- the law
  pub joined_without_loop : Joined → NoLoop → JoinWithoutLoop net (active_ports net o vid)
  joined_without_loop joined no_loop = record {
    joined = λ p h. carried plug_ends port_ends (λ e a. let x = of_active e a in record { edge = x.port; kind = x.is_active; from = ap plug_ends.from x.is; to = ap plug_ends.to x.is })
        (joined f tree tests settled free of_vid (plug net p) (enabled_plug net ok p h));
    no_loop = λ p h walk. no_loop f tree tests settled free of_vid (plug net p) (active_plug p h) (carried port_ends plug_ends (others p h) walk);
  }
    where
      others : (p : LogicalPort) → Contains (active_ports net o vid) p → (q : LogicalPort) → Other (Contains (active_ports net o vid)) p q → HasEnds port_ends plug_ends (Other (IsActive f tree) (plug net p)) q
      others p h q other = record {
        edge = plug net q;
        kind = (
          active_plug q other.0,
          λ same. other.1 (one_port net o vid q p (from_filter (forwards_for net o vid) (view_ports net) q other.0).0 (from_filter (forwards_for net o vid) (view_ports net) p h).0
              (ap (λ (r : TreePort (List ℕ) (List ℕ) PortName CistPort). r.number) same)),
        );
        from = refl;
        to = refl;
      }

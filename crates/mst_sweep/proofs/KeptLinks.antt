-- Which links of a VID a failure leaves, by the ports that have other roles afterwards.
use Rattle.std.proofs.Common.{◌≡◌, ℕ, ◌+◌, ◌<◌, ◌==◌, ◌&&◌, ◌||◌, not, nat_eq, Bool, true, false, List, [], ◌∷◌, map, length, get_or, Option, Some, None, ◌⊎◌, inl, inr, refl, sym, ap, subst, ◌∙◌, true≢false, arith, eq-eqb}
use Rattle.std.specs.Prelude.{if◌then◌else◌}
use Rattle.std.specs.List.{Contains, list_any, filter, range_with_len}
use Rattle.std.specs.Option.{option_map, option_map_or}
use Rattle.std.specs.FinMap as fin
use Rattle.std.proofs.lemmas.Bool.{eqb-true}
use Rattle.std.proofs.lemmas.List.{length-map, get_or-map, get_or_default}
use Rattle.std.proofs.lemmas.List.FromFn.{length-range_with_len, get_or-range_with_len}
use Rattle.mst_graph.specs.Islands.{Link}
use Rattle.mst_graph.proofs.Members.{in_map, from_map, in_filter, from_filter, passing}
use Rattle.mst_ids.specs.Vids.{has}
use Rattle.mst_ids.specs.declared.name.PortName.{PortName}
use Rattle.mst_net.specs.tables.ByTree.{table_in, vlans_in}
use Rattle.mst_net.specs.tables.Table.{tree_in, has_tree, mstis_in}
use Rattle.mst_net.specs.tables.After.{table_of}
use Rattle.mst_net.specs.tables.Tables.{Net, Numbers, BridgeRow}
use Rattle.mst_view.specs.Trees.{is_among, mstis_of}
use Rattle.mst_view.specs.View.{LogicalPort, view_ports}
use Rattle.mst_view.specs.Viewed.{Viewed, named_port}
use Rattle.mst_view.specs.declared.in_view.PortInView.{PortInView}
use Rattle.mst_vlan.specs.forest.Agrees.{AreOf}
use Rattle.mst_vlan.specs.forest.Forest.{Forest, IsForest}
use Rattle.mst_vlan.specs.forest.InUse.{is_in_use, seen_mstis}
use Rattle.mst_vlan.specs.forest.Msti.{has_msti}
use Rattle.mst_vlan.specs.forest.Outcome.{Outcome}
use Rattle.mst_vlan.proofs.forest_lemmas.Lists.{mapped_twice, some_is}
use Rattle.mst_vlan.proofs.forest_lemmas.Seen.{port_of_net, port_seen, port_there}
use Rattle.mst_vlan.specs.roles.Roles.{forwards, forwards_for, cist_role, msti_role, role_in, tree_of_vid}
use Rattle.mst_vlan.specs.roles.SeenRoles.{seen_role, seen_forwards}
use Rattle.mst_vlan.proofs.roles_lemmas.Forwarded.{each_forwards}
use Rattle.mst_vlan.proofs.roles_lemmas.Named.{each_same}
use Rattle.mst_vlan.specs.roles.Active.{active_ports}
use Rattle.mst_vlan.specs.Reach.{is_member, link_of, vid_links}
use Rattle.mst_vlan.specs.Seen.{seen_member}
use Rattle.mst_vlan.proofs.forest_lemmas.NotInUse.{unused}
use Rattle.mst_sweep.specs.Touched.{AreWhereTouched, BreakNoLinks, seen_is_link, seen_beside_link}
use Rattle.mst_sweep.specs.Left.{AreLeft}
use Rattle.mst_sweep.proofs.Positions.{any_passes}
use Rattle.mst_sweep.proofs.StillJoined.{IsAlone}
use Rattle.mst_sweep.proofs.Untouched.{had_listed}

-- ---- trees
-- the tree of a VID is another one neither by the table nor by the kind of the bridge
by_kind : (table : List ℕ) (vid : ℕ) (o : Option BridgeRow) → option_map_or (λ (row : BridgeRow). if row.is_rstp then 0 else tree_in table vid) o 0
    ≡ option_map_or (λ r. if r then 0 else tree_in table vid) (option_map (λ (row : BridgeRow). row.is_rstp) o) 0
by_kind table vid None = refl
by_kind table vid (Some row) = refl

tree_left : (a b : Net) → AreLeft a b → (name : List ℕ) (vid : ℕ) → tree_of_vid a name vid ≡ tree_of_vid b name vid
tree_left a b left name vid =
    by_kind (table_of a name) vid (fin.get a.bridges name)
    ∙ (λ i. option_map_or (λ r. if r then 0 else tree_in (table_in (left.settings i).tables name) vid) (left.kinds name i) 0)
    ∙ sym (by_kind (table_of b name) vid (fin.get b.bridges name))

-- the numbers of MSTIs
among_small : (table : List ℕ) (tree : ℕ) → is_among (mstis_in table) tree ≡ true → tree < 4095
unfolding mstis_in
among_small table tree e =
    let r = passing (λ t. t == tree) (filter (has_tree table) (range_with_len 1 4094)) e in
    let in_range = (from_filter (has_tree table) (range_with_len 1 4094) r.0 r.1).0 in
    let small : in_range.0 < 4094 = subst (λ n. in_range.0 < n) (length-range_with_len 1 4094) in_range.1 in
    let number : 1 + in_range.0 ≡ r.0 = sym (get_or-range_with_len 1 4094 in_range.0 r.0 small) ∙ in_range.2 in
    let same : r.0 ≡ tree = eqb-true r.0 tree r.2 in
    omega arith

msti_small : (net : Net) (tree : ℕ) (name : List ℕ) → has_msti net tree name ≡ true → tree < 4095
msti_small net tree name = go (fin.get net.bridges name)
  where
    by_row : (row : BridgeRow) (rstp : Bool) → is_among (if rstp then [] else mstis_in (table_of net name)) tree ≡ true → tree < 4095
    by_row row true e = absurd (true≢false (sym e))
    by_row row false e = among_small (table_of net name) tree e

    go : (o : Option BridgeRow) → option_map_or (λ (row : BridgeRow). is_among (mstis_of net name row) tree) o false ≡ true → tree < 4095
    go None e = absurd (true≢false (sym e))
    go (Some row) e = by_row row row.is_rstp e

-- ---- a port that forwards has its tree in use
module _ (net : Net) (numbers : Numbers) (v : Viewed) (classes : List (ℕ × ℕ)) (of : AreOf net numbers v classes) (o : Outcome) (tree : ℕ) (q : LogicalPort)
    (goes : option_map_or forwards (role_in net o tree q) false ≡ true) where
  by_tests : (first second : Bool) → option_map_or forwards (if first then Some (cist_role net o q) else (if second then Some (msti_role net o tree q) else None)) false ≡ true → (first || second) ≡ true
  by_tests true second e = refl
  by_tests false true e = refl
  by_tests false false e = absurd (true≢false (sym e))

  has_it : (tree == 0 || has_msti net tree q.name.bridge) ≡ true
  has_it = by_tests (tree == 0) (has_msti net tree q.name.bridge) goes

  pub is_used : (tree == 0 || is_in_use v tree) ≡ true
  is_used = go (tree == 0) (has_msti net tree q.name.bridge) refl (is_in_use v tree) refl has_it
    where
      go : (first second : Bool) → has_msti net tree q.name.bridge ≡ second → (third : Bool) → is_in_use v tree ≡ third → (first || second) ≡ true → (first || third) ≡ true
      go true second e third f h = refl
      go false second e true f h = refl
      go false second e false f h = absurd (true≢false (sym h ∙ sym e ∙ unused net numbers v classes of tree f q.name.bridge))

  pub is_small : tree < 4095
  is_small = go (tree == 0) refl (has_msti net tree q.name.bridge) refl has_it
    where
      go : (first : Bool) → (tree == 0) ≡ first → (second : Bool) → has_msti net tree q.name.bridge ≡ second → (first || second) ≡ true → tree < 4095
      go true e second f h = let none : tree ≡ 0 = eqb-true tree 0 e in omega arith
      go false e true f h = msti_small net tree q.name.bridge f
      go false e false f h = absurd (true≢false (sym h))

  pub is_listed : Contains (0 ∷ seen_mstis v) tree
  is_listed = had_listed v tree is_small is_used

-- ---- links
module _ (a b : Net) (n k : Numbers) (v w : Viewed) (f g : Forest) (of : AreOf a n v f.regions) (so : AreOf b k w g.regions) (is : IsForest a n f) (are : IsForest b k g) (left : AreLeft a b)
    (vid : ℕ) (places : List ℕ) (keep : AreWhereTouched v f w g places) (none : BreakNoLinks v f w g vid places) where
  -- ---- the ports at a place
  abbrev names : Viewed → List PortName
  names u = map (λ (x : PortInView). x.name) u.ports

  abbrev lans : Viewed → List (List ℕ)
  lans u = map (λ (x : PortInView). x.lan) u.ports

  same_names : names v ≡ names w
  same_names =
      sym (mapped_twice (λ (q : LogicalPort). q.name) named_port v.ports) ∙ ap (map (λ (q : LogicalPort). q.name)) of.view.ports ∙ left.ports
      ∙ sym (ap (map (λ (q : LogicalPort). q.name)) so.view.ports) ∙ mapped_twice (λ (q : LogicalPort). q.name) named_port w.ports

  same_lans : lans v ≡ lans w
  same_lans =
      sym (mapped_twice (λ (q : LogicalPort). q.lan) named_port v.ports) ∙ ap (map (λ (q : LogicalPort). q.lan)) of.view.ports ∙ left.lans
      ∙ sym (ap (map (λ (q : LogicalPort). q.lan)) so.view.ports) ∙ mapped_twice (λ (q : LogicalPort). q.lan) named_port w.ports

  as_long : length v.ports ≡ length w.ports
  as_long = sym (length-map v.ports (λ (x : PortInView). x.name)) ∙ ap length same_names ∙ length-map w.ports (λ (x : PortInView). x.name)

  -- what is told of the two ports at a place by equal lists is the same
  told_same : {T : Type 0} (tell : PortInView → T) → map tell v.ports ≡ map tell w.ports → (i : ℕ) (x y : PortInView) → i < length v.ports → i < length w.ports
      → get_or v.ports i x ≡ x → get_or w.ports i y ≡ y → tell y ≡ tell x
  told_same tell e i x y l m is_x is_y =
      let first : get_or (map tell v.ports) i (tell x) ≡ tell x = get_or-map tell v.ports i x (tell x) l ∙ ap tell is_x in
      let second : get_or (map tell w.ports) i (tell x) ≡ tell y = get_or-map tell w.ports i y (tell x) m ∙ ap tell is_y in
      sym second ∙ ap (λ ts. get_or ts i (tell x)) (sym e) ∙ first

  module _ (x y : PortInView) (i : ℕ) (l : i < length v.ports) (is_x : get_or v.ports i x ≡ x) (is_y : get_or w.ports i y ≡ y) where
    abbrev x_there : Contains v.ports x
    x_there = (i, l, is_x)

    below : i < length w.ports
    below = subst (λ m. i < m) as_long l

    abbrev y_there : Contains w.ports y
    y_there = (i, below, is_y)

    name : y.name ≡ x.name
    name = told_same (λ (z : PortInView). z.name) same_names i x y l below is_x is_y

    lan : y.lan ≡ x.lan
    lan = told_same (λ (z : PortInView). z.lan) same_lans i x y l below is_x is_y

    -- the link of the port is that of the other one
    one_link : link_of (named_port y) ≡ link_of (named_port x)
    one_link = λ j. let k : Link (List ℕ) (List ℕ) = record { bridge = (name j).bridge; lan = lan j } in k

    member_too : is_member a vid (named_port x) ≡ true → is_member b vid (named_port y) ≡ true
    member_too e = (λ j. has (vlans_in (sym left.settings j).vlans (name j)) vid) ∙ e

    -- where it still forwards the link is left
    link_left : is_member a vid (named_port x) ≡ true → seen_forwards w g vid y ≡ true → Contains (vid_links b are.outcome vid) (link_of (named_port x))
    link_left member goes =
        let own = port_seen b k w so.view y y_there in
        let active = in_filter (forwards_for b are.outcome vid) (view_ports b) (named_port y) (port_of_net b k w so.view y y_there) (sym (each_forwards b k w g so are vid y own) ∙ goes) in
        subst (Contains (vid_links b are.outcome vid)) one_link
        (in_map link_of (filter (is_member b vid) (active_ports b are.outcome vid)) (named_port y) (in_filter (is_member b vid) (active_ports b are.outcome vid) (named_port y) active (member_too member)))

    -- a port that kept its roles still forwards
    still_goes : (Contains places i → ⊥) → seen_forwards v f vid x ≡ true → seen_forwards w g vid y ≡ true
    still_goes other goes =
        let own = port_seen a n v of.view x x_there in
        let own_too = port_seen b k w so.view y y_there in
        let tree = tree_of_vid a x.name.bridge vid in
        let named : option_map_or forwards (role_in a is.outcome tree (named_port x)) false ≡ true = sym (each_forwards a n v f of is vid x own) ∙ goes in
        let kept : seen_role v f tree x ≡ seen_role w g tree y =
        keep i other x y l is_x is_y tree (is_listed a n v f.regions of is.outcome tree (named_port x) named) in
        let roles : role_in a is.outcome tree (named_port x) ≡ role_in b are.outcome tree (named_port y) = sym (each_same a n v f of is tree x own) ∙ kept ∙ each_same b k w g so are tree y own_too in
        let one : tree_of_vid b y.name.bridge vid ≡ tree = ap (λ (p : PortName). tree_of_vid b p.bridge vid) name ∙ sym (tree_left a b left x.name.bridge vid) in
        each_forwards b k w g so are vid y own_too ∙ ap (λ t. option_map_or forwards (role_in b are.outcome t (named_port y)) false) one
        ∙ ap (λ r. option_map_or forwards r false) (sym roles) ∙ named

  -- ---- a link that goes is alone on its LAN
  -- a link is that of a port
  record IsOf (j : Link (List ℕ) (List ℕ)) : Type 0 where
    port : PortInView
    there : Contains v.ports port
    member : is_member a vid (named_port port) ≡ true
    goes : seen_forwards v f vid port ≡ true
    link : link_of (named_port port) ≡ j

  of_port : (j : Link (List ℕ) (List ℕ)) → Contains (vid_links a is.outcome vid) j → IsOf j
  of_port j h =
      let r = from_map link_of (filter (is_member a vid) (active_ports a is.outcome vid)) j h in
      let s = from_filter (is_member a vid) (active_ports a is.outcome vid) r.0 r.1 in
      let t = from_filter (forwards_for a is.outcome vid) (view_ports a) r.0 s.0 in
      let x = port_there a n v of.view r.0 t.0 in
      record {
        port = x.0;
        there = x.1;
        member = ap (is_member a vid) x.2 ∙ s.1;
        goes = each_forwards a n v f of is vid x.0 (port_seen a n v of.view x.0 x.1) ∙ ap (forwards_for a is.outcome vid) x.2 ∙ t.1;
        link = ap link_of x.2 ∙ r.2;
      }

  is_link : (z : PortInView) → is_member a vid (named_port z) ≡ true → seen_forwards v f vid z ≡ true → seen_is_link v f vid z ≡ true
  is_link z member goes =
      let seen : seen_member v vid z ≡ true = (λ j. has (vlans_in (of.view.settings j).vlans z.name) vid) ∙ member in
      (λ j. seen j && seen_forwards v f vid z) ∙ goes

  lone : (x z : PortInView) → Contains v.ports x → Contains v.ports z → list_any (seen_beside_link v f vid x) v.ports ≡ false → seen_is_link v f vid z ≡ true → z.lan ≡ x.lan
      → z.name.bridge ≡ x.name.bridge
  lone x z first second alone linked lan =
      let own = (port_seen a n v of.view x first).has_numbers in
      let other = (port_seen a n v of.view z second).has_numbers in
      let lan_number : z.lan_number ≡ x.lan_number = some_is z.lan_number x.lan_number (sym other.lan ∙ ap (fin.get n.lans) lan ∙ own.lan) in
      go (z.bridge == x.bridge) refl (eq-eqb z.lan_number x.lan_number lan_number) own.bridge other.bridge
    where
      go : (t : Bool) → (z.bridge == x.bridge) ≡ t → (z.lan_number == x.lan_number) ≡ true → fin.get n.bridges x.name.bridge ≡ Some x.bridge → fin.get n.bridges z.name.bridge ≡ Some z.bridge
          → z.name.bridge ≡ x.name.bridge
      go true e same own other = of.numbered.bridges_differ z.name.bridge x.name.bridge x.bridge (other ∙ ap Some (eqb-true z.bridge x.bridge e)) own
      go false e same own other =
          let passes : seen_beside_link v f vid x z ≡ true = (λ j. same j && not (e j) && linked j) in
          absurd (true≢false (sym (any_passes (seen_beside_link v f vid x) v.ports z second passes) ∙ alone))

  -- ---- each link is left, or was alone on its LAN
  pub kept_or_alone : (j : Link (List ℕ) (List ℕ)) → Contains (vid_links a is.outcome vid) j → Contains (vid_links b are.outcome vid) j ⊎ IsAlone (vid_links a is.outcome vid) j
  kept_or_alone j h = go (seen_forwards w g vid y) refl
    where
      own : IsOf j
      own = of_port j h

      x : PortInView
      x = own.port

      i : ℕ
      i = own.there.0

      y : PortInView
      y = get_or w.ports i x

      l : i < length v.ports
      l = own.there.1

      is_x : get_or v.ports i x ≡ x
      is_x = own.there.2

      is_y : get_or w.ports i y ≡ y
      is_y = get_or_default w.ports i y x (subst (λ m. i < m) as_long l)

      beside_none : seen_forwards w g vid y ≡ false → (t : Bool) → list_any (nat_eq i) places ≡ t → list_any (seen_beside_link v f vid x) v.ports ≡ false
      beside_none e true q =
          let r = passing (nat_eq i) places q in
          let listed : Contains places i = subst (Contains places) (sym (eqb-true i r.0 r.2)) r.1 in
          let linked = is_link x own.member own.goes in
          sym (λ m. linked m && not (e m) && list_any (seen_beside_link v f vid x) v.ports) ∙ none i listed x y l is_x is_y
      beside_none e false q =
          let other : Contains places i → ⊥ = λ c. true≢false (sym (any_passes (nat_eq i) places i c (eq-eqb i i refl)) ∙ q) in
          absurd (true≢false (sym (still_goes x y i l is_x is_y other own.goes) ∙ e))

      go : (t : Bool) → seen_forwards w g vid y ≡ t → Contains (vid_links b are.outcome vid) j ⊎ IsAlone (vid_links a is.outcome vid) j
      go true e = inl (subst (Contains (vid_links b are.outcome vid)) own.link (link_left x y i l is_x is_y own.member e))
      go false e = inr (λ m c same.
          let other = of_port m c in
          let lan : other.port.lan ≡ x.lan = ap (λ (q : Link (List ℕ) (List ℕ)). q.lan) other.link ∙ same ∙ sym (ap (λ (q : Link (List ℕ) (List ℕ)). q.lan) own.link) in
          let bridge : other.port.name.bridge ≡ x.name.bridge = lone x other.port own.there other.there (beside_none e (list_any (nat_eq i) places) refl) (is_link other.port other.member other.goes) lan in
          sym (ap (λ (q : Link (List ℕ) (List ℕ)). q.bridge) other.link) ∙ bridge ∙ ap (λ (q : Link (List ℕ) (List ℕ)). q.bridge) own.link)

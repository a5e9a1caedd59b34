-- The trees of an outcome are nested: each MSTI stands in the regions of the CIST.
use Rattle.std.proofs.Common.{◌≡◌, ℕ, suc, ◌==◌, ◌&&◌, ◌||◌, Bool, true, false, not, nat_eq, List, [], Option, Some, None, refl, sym, ap, subst, ◌∙◌, true≢false, eq-eqb}
use Rattle.std.specs.Prelude.{if◌then◌else◌}
use Rattle.std.specs.List.{Contains}
use Rattle.std.specs.Option.{option_map_or}
use Rattle.std.specs.Cmp.Lexicographic.{pointwise, bytes_decides}
use Rattle.std.specs.FinMap as fin
use Rattle.std.proofs.lemmas.Bool.{and_parts, eqb-true}
use Rattle.mst_ids.specs.declared.name.PortName.{PortName}
use Rattle.mst_vector.specs.Cist.{cist_rules}
use Rattle.mst_vector.specs.Msti.{msti_rules}
use Rattle.mst_vector.specs.declared.cist.CistBridge.{CistBridge}
use Rattle.mst_vector.specs.declared.cist.CistPort.{CistPort}
use Rattle.mst_vector.specs.declared.msti.MstiBridge.{MstiBridge}
use Rattle.mst_vector.specs.declared.msti.MstiPort.{MstiPort}
use Rattle.mst_topology.specs.Topology.{TreePort, HasBridge, HasPort}
use Rattle.mst_topology.specs.Settled.{IsDesignated}
use Rattle.mst_net.specs.tables.Tables.{Net, BridgeRow, IsNetwork}
use Rattle.mst_net.specs.tables.After.{table_of}
use Rattle.mst_net.specs.tables.ByTree.{by_tree}
use Rattle.mst_view.specs.View.{LogicalPort, view_ports, IsUnrestricted}
use Rattle.mst_net.specs.tables.Table.{mstis_in}
use Rattle.mst_view.specs.Trees.{mstis_of, is_among}
use Rattle.mst_config.specs.Regions.{same_region, same_configuration, region_of}
use Rattle.mst_config.proofs.SameRegion.{told}
use Rattle.mst_forest.specs.Sight.{tree_port}
use Rattle.mst_forest.specs.Cist.{cist_bridge, cist_port, cist_sight, cist_of}
use Rattle.mst_forest.specs.Msti.{msti_bridge, msti_port, has_msti, is_internal, msti_sight, msti_of}
use Rattle.mst_forest.specs.Outcome.{Outcome, IsOutcome, trees_of}
use Rattle.mst_nested.specs.Trees.{Trees, TakesPart, IsSamePort, IsLanOf, IsInternal, SameRegion, IsSettled, IsFree}
use Rattle.mst_forest.proofs.Lists.{some_is}
use Rattle.mst_forest.proofs.Outcomes.{OnePorts}
use Rattle.mst_forest.proofs.Views.{IsPort}
use Rattle.mst_forest.proofs.CistTopology.{given, cist_is_sight, cist_topology}
use Rattle.mst_forest.proofs.MstiTopology.{msti_port_is, msti_is_sight, msti_topology}
use Rattle.mst_forest.proofs.Sights.{PortOf, bridge_from, bridge_in, port_from, port_in, has_port_ids}

is_false : (b : Bool) → not b ≡ true → b ≡ false
is_false true e = absurd (true≢false (sym e))
is_false false e = refl

-- bridges of one region have the same trees
same_trees : (net : Net) (a b : List ℕ) (x y : BridgeRow) → fin.get net.bridges a ≡ Some x → fin.get net.bridges b ≡ Some y → same_region net a b ≡ true → mstis_of net a x ≡ mstis_of net b y
same_trees net a b x y e f h = go (pointwise nat_eq a b) refl (sym (λ i. pointwise nat_eq a b || option_map_or (λ x. option_map_or (λ y. same_configuration net a b x y) (f i) false) (e i) false) ∙ h)
  where
    go : (t : Bool) → pointwise nat_eq a b ≡ t → (t || same_configuration net a b x y) ≡ true → mstis_of net a x ≡ mstis_of net b y
    go true one k =
        let names : a ≡ b = (bytes_decides a b).0 one in
        let rows : x ≡ y = some_is x y (sym e ∙ ap (fin.get net.bridges) names ∙ f) in
        λ i. mstis_of net (names i) (rows i)
    go false one k =
        let tables = and_parts (not x.is_rstp && not y.is_rstp && pointwise nat_eq x.conf_name y.conf_name && x.revision == y.revision) (pointwise nat_eq (table_of net a) (table_of net b)) k in
        let revisions = and_parts (not x.is_rstp && not y.is_rstp && pointwise nat_eq x.conf_name y.conf_name) (x.revision == y.revision) tables.0 in
        let names = and_parts (not x.is_rstp && not y.is_rstp) (pointwise nat_eq x.conf_name y.conf_name) revisions.0 in
        let kinds = and_parts (not x.is_rstp) (not y.is_rstp) names.0 in
        ap (λ t. if t then [] else mstis_in (table_of net a)) (is_false x.is_rstp kinds.0)
        ∙ ap mstis_in ((bytes_decides (table_of net a) (table_of net b)).0 tables.1)
        ∙ sym (ap (λ t. if t then [] else mstis_in (table_of net b)) (is_false y.is_rstp kinds.1))

module _ (net : Net) (ok : IsNetwork net) (one_ports : OnePorts cist_rules) (o : Outcome) (is : IsOutcome net o) where
  abbrev f : Trees (List ℕ) (List ℕ) PortName
  f = trees_of net o

  abbrev d : List ℕ → Option PortName
  d = o.cist.designated

  -- a bridge of the CIST: it is on, and has its region
  record InCist (n : List ℕ) (b : CistBridge) : Type 0 where
    row : BridgeRow
    has_row : fin.get net.bridges n ≡ Some row
    is_on : row.is_on ≡ true
    region : b.region ≡ region_of net n

  in_cist : (n : List ℕ) (b : CistBridge) → HasBridge (cist_of net) n b → InCist n b
  in_cist n b h =
      let x = bridge_from net ok cist_rules (cist_sight net) (cist_is_sight net ok) n b h in
      let p = given x.row.is_on (cist_bridge (by_tree net) (region_of net n) n x.row) b x.seen in
      record { row = x.row; has_row = x.has_row; is_on = p.0; region = sym (ap (λ (c : CistBridge). c.region) p.1) }

  -- two bridges of one region by their identifiers
  one_region : (n k : List ℕ) (a b : CistBridge) → HasBridge (cist_of net) n a → HasBridge (cist_of net) k b → a.region ≡ b.region → same_region net n k ≡ true
  one_region n k a b h j e =
      let x = in_cist n a h in
      let y = in_cist k b j in
      sym (told net ok n k x.row y.row x.has_row y.has_row) ∙ eq-eqb (region_of net n) (region_of net k) (sym x.region ∙ e ∙ y.region)

  cist_port_from : (p : TreePort (List ℕ) (List ℕ) PortName CistPort) → HasPort (cist_of net) p → PortOf net (cist_sight net) p
  cist_port_from p h = port_from net ok cist_rules (cist_sight net) (cist_is_sight net ok) p h

  -- a port's bridge has the name in the port's
  own_name : (p : TreePort (List ℕ) (List ℕ) PortName CistPort) → HasPort (cist_of net) p → p.number.bridge ≡ p.bridge
  own_name p h = let x = cist_port_from p h in sym (ap (λ (r : TreePort (List ℕ) (List ℕ) PortName CistPort). r.number.bridge) x.is) ∙ ap (λ (r : TreePort (List ℕ) (List ℕ) PortName CistPort). r.bridge) x.is

  -- an internal port of the CIST passes the test of internal ports
  pub internal_told : (p : TreePort (List ℕ) (List ℕ) PortName CistPort) → IsInternal f p → (x : PortOf net (cist_sight net) p) → is_internal net d x.port ≡ true
  internal_told p internal x =
      let l = internal.own_lan in
      let chosen : d p.lan ≡ Some l.port.number =
      one_ports (cist_of net) o.cist.vector o.cist.vector (cist_topology net ok) is.cist.settled is.cist.settled p.lan (d p.lan) (Some l.port.number)
      (is.cist.designated p.lan) (l.port, l.message, refl, l.designates) in
      let lan : x.port.lan ≡ p.lan = ap (λ (r : TreePort (List ℕ) (List ℕ) PortName CistPort). r.lan) x.is in
      let on : x.port.name.bridge ≡ p.bridge = ap (λ (r : TreePort (List ℕ) (List ℕ) PortName CistPort). r.bridge) x.is in
      let region : same_region net l.port.bridge p.bridge ≡ true = one_region l.port.bridge p.bridge l.designates.says.bridge internal.bridge l.designates.says.has_bridge internal.has_bridge l.in_region in
      ap (λ (w : Option PortName). option_map_or (λ q. same_region net q.bridge x.port.name.bridge) w false) (ap d lan ∙ chosen)
      ∙ (λ i. same_region net (own_name l.port l.designates.says.has_port i) (on i)) ∙ region

  -- a LAN whose designated port is on a bridge of the port's region belongs to that region
  lan_of : (p : LogicalPort) (b : CistBridge) → HasBridge (cist_of net) p.name.bridge b → (w : Option PortName) → d p.lan ≡ w → is_internal net d p ≡ true → IsLanOf f p.lan b.region
  lan_of p b h None e internal = absurd (true≢false (sym internal ∙ ap (λ (w : Option PortName). option_map_or (λ q. same_region net q.bridge p.name.bridge) w false) e))
  lan_of p b h (Some k) e internal =
      let g = subst (λ (w : Option PortName). IsDesignated cist_rules (cist_of net) o.cist.vector p.lan w) e (is.cist.designated p.lan) in
      let says = g.3.says in
      let x = in_cist g.0.bridge says.bridge says.has_bridge in
      let y = in_cist p.name.bridge b h in
      let name : k.bridge ≡ g.0.bridge = sym (ap (λ (n : PortName). n.bridge) g.2) ∙ own_name g.0 says.has_port in
      let region : same_region net g.0.bridge p.name.bridge ≡ true =
      ap (λ n. same_region net n p.name.bridge) (sym name) ∙ sym (ap (λ (w : Option PortName). option_map_or (λ q. same_region net q.bridge p.name.bridge) w false) e) ∙ internal in
      record {
        port = g.0;
        message = g.1;
        designates = g.3;
        in_region = x.region ∙ eqb-true (region_of net g.0.bridge) (region_of net p.name.bridge) (told net ok g.0.bridge p.name.bridge x.row y.row x.has_row y.has_row ∙ region) ∙ sym y.region;
      }

  -- so a port that passes the test is an internal port of the CIST
  pub internal_port : (p : LogicalPort) → Contains (view_ports net) p → IsPort net p → p.is_enabled ≡ true → is_internal net d p ≡ true → IsInternal f (tree_port p (cist_port (by_tree net) p))
  internal_port p there is_port enabled internal =
      let settings = cist_port (by_tree net) p in
      let seen : (cist_sight net).port p ≡ Some settings = ap (λ (t : Bool). if t then Some settings else None) enabled in
      let port : HasPort (cist_of net) (tree_port p settings) = port_in net ok cist_rules (cist_sight net) (cist_is_sight net ok) p settings there seen in
      let own = (cist_is_sight net ok).own_bridge p settings is_port seen in
      let has = bridge_in net ok cist_rules (cist_sight net) (cist_is_sight net ok) p.name.bridge own.0 own.1 in
      record { is_enabled = (port, refl); bridge = own.0; has_bridge = has; own_lan = lan_of p own.0 has (d p.lan) refl internal }

  module _ (tree : ℕ) where
    -- a bridge of the MSTI: it is on, and has the tree
    record InMsti (n : List ℕ) : Type 0 where
      row : BridgeRow
      has_row : fin.get net.bridges n ≡ Some row
      is_on : row.is_on ≡ true
      has_tree : has_msti net tree n ≡ true

    in_msti : (n : List ℕ) (b : MstiBridge) → HasBridge (msti_of net tree d) n b → InMsti n
    in_msti n b h =
        let x = bridge_from net ok msti_rules (msti_sight net tree d) (msti_is_sight net ok tree d) n b h in
        let p = given (x.row.is_on && has_msti net tree n) (msti_bridge (by_tree net) tree n x.row) b x.seen in
        let both = and_parts x.row.is_on (has_msti net tree n) p.0 in
        record { row = x.row; has_row = x.has_row; is_on = both.0; has_tree = both.1 }

    to_msti : (n : List ℕ) → InMsti n → (b : MstiBridge) × HasBridge (msti_of net tree d) n b
    to_msti n x =
        let b = msti_bridge (by_tree net) tree n x.row in (
          b,
          bridge_in net ok msti_rules (msti_sight net tree d) (msti_is_sight net ok tree d) n b (record {
            row = x.row;
            has_row = x.has_row;
            seen = ap (λ (t : Bool). if t && has_msti net tree n then Some b else None) x.is_on ∙ ap (λ (t : Bool). if t then Some b else None) x.has_tree;
          }),
        )

    to_cist : (n : List ℕ) → InMsti n → (b : CistBridge) × HasBridge (cist_of net) n b
    to_cist n x =
        let b = cist_bridge (by_tree net) (region_of net n) n x.row in
        (b, bridge_in net ok cist_rules (cist_sight net) (cist_is_sight net ok) n b (record { row = x.row; has_row = x.has_row; seen = ap (λ (t : Bool). if t then Some b else None) x.is_on }))

    -- a bridge of the same region has the tree too
    shares : (n k : List ℕ) → SameRegion f n k → (b : MstiBridge) → HasBridge (msti_of net tree d) n b → (c : MstiBridge) × HasBridge (msti_of net tree d) k c
    shares n k s b h =
        let x = in_msti n b h in
        let y = in_cist k s.other s.has_other in
        let region : same_region net n k ≡ true = one_region n k s.bridge s.other s.has_bridge s.has_other s.same in
        let has : has_msti net tree k ≡ true =
        ap (λ (r : Option BridgeRow). option_map_or (λ row. is_among (mstis_of net k row) tree) r false) y.has_row
        ∙ ap (λ ts. is_among ts tree) (sym (same_trees net n k x.row y.row x.has_row y.has_row region))
        ∙ sym (ap (λ (r : Option BridgeRow). option_map_or (λ row. is_among (mstis_of net n row) tree) r false) x.has_row)
        ∙ x.has_tree in
        to_msti k (record { row = y.row; has_row = y.has_row; is_on = y.is_on; has_tree = has })

    -- an internal port of the CIST is in the tree where its bridge is
    internal_in : (p : TreePort (List ℕ) (List ℕ) PortName CistPort) → IsInternal f p → (b : MstiBridge) → HasBridge (msti_of net tree d) p.bridge b
        → (q : TreePort (List ℕ) (List ℕ) PortName MstiPort) × TakesPart (msti_of net tree d) q × IsSamePort q p
    internal_in p internal b h =
        let x = cist_port_from p internal.is_enabled.0 in
        let enabled = (given x.port.is_enabled (cist_port (by_tree net) x.port) x.settings x.seen).0 in
        let lan : x.port.lan ≡ p.lan = ap (λ (r : TreePort (List ℕ) (List ℕ) PortName CistPort). r.lan) x.is in
        let on : x.port.name.bridge ≡ p.bridge = ap (λ (r : TreePort (List ℕ) (List ℕ) PortName CistPort). r.bridge) x.is in
        let is_in : is_internal net d x.port ≡ true = internal_told p internal x in
        let has : has_msti net tree x.port.name.bridge ≡ true = ap (has_msti net tree) on ∙ (in_msti p.bridge b h).has_tree in
        let settings = msti_port (by_tree net) tree x.port in
        let seen : (msti_sight net tree d).port x.port ≡ Some settings =
        ap (λ (t : Bool). if t && is_internal net d x.port && has_msti net tree x.port.name.bridge then Some settings else None) enabled
        ∙ ap (λ (t : Bool). if t && has_msti net tree x.port.name.bridge then Some settings else None) is_in
        ∙ ap (λ (t : Bool). if t then Some settings else None) has in (
          tree_port x.port settings,
          (port_in net ok msti_rules (msti_sight net tree d) (msti_is_sight net ok tree d) x.port settings x.there seen, refl),
          record { number = ap (λ (r : TreePort (List ℕ) (List ℕ) PortName CistPort). r.number) x.is; bridge = on; lan = lan },
        )

    -- and a port of the tree is an internal port of the CIST
    internal_from : (q : TreePort (List ℕ) (List ℕ) PortName MstiPort) → TakesPart (msti_of net tree d) q → (p : TreePort (List ℕ) (List ℕ) PortName CistPort) × IsInternal f p × IsSamePort q p
    internal_from q part =
        let y = port_from net ok msti_rules (msti_sight net tree d) (msti_is_sight net ok tree d) q part.0 in
        let m = msti_port_is net ok tree d y.port y.settings y.seen in (
          tree_port y.port (cist_port (by_tree net) y.port),
          internal_port y.port y.there y.is_port m.is_enabled m.internal,
          record {
            number = sym (ap (λ (r : TreePort (List ℕ) (List ℕ) PortName MstiPort). r.number) y.is);
            bridge = sym (ap (λ (r : TreePort (List ℕ) (List ℕ) PortName MstiPort). r.bridge) y.is);
            lan = sym (ap (λ (r : TreePort (List ℕ) (List ℕ) PortName MstiPort). r.lan) y.is);
          },
        )

  pub is_settled : IsSettled (trees_of net o)
  is_settled = record {
    cist = record { topology = cist_topology net ok; settled = is.cist.settled; port_ids = has_port_ids net ok cist_rules (cist_sight net) (cist_is_sight net ok) };
    msti = λ i. record {
      topology = msti_topology net ok (suc i) d;
      settled = (is.mstis (suc i)).settled;
      port_ids = has_port_ids net ok msti_rules (msti_sight net (suc i) d) (msti_is_sight net ok (suc i) d);
    };
    nested = λ i. record {
      bridges = λ n h. to_cist (suc i) n (in_msti (suc i) n h.0 h.1);
      regions = λ n k s h. shares (suc i) n k s h.0 h.1;
      ports = λ p internal h. internal_in (suc i) p internal h.0 h.1;
      from_ports = internal_from (suc i);
    };
  }

  -- where no logical port's role is restricted, none is in any tree
  pub is_free : IsUnrestricted net → IsFree (trees_of net o)
  is_free free = record {
    cist = λ p h.
        let y = cist_port_from p h in
        sym (ap (λ (r : TreePort (List ℕ) (List ℕ) PortName CistPort). r.is_restricted) y.is) ∙ free y.port y.there;
    msti = λ i p h.
        let y = port_from net ok msti_rules (msti_sight net (suc i) d) (msti_is_sight net ok (suc i) d) p h in
        sym (ap (λ (r : TreePort (List ℕ) (List ℕ) PortName MstiPort). r.is_restricted) y.is) ∙ free y.port y.there;
  }

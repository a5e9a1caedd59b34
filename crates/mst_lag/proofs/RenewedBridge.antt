-- A view in which one bridge was renewed is that of the network now.
use Rattle.std.proofs.Common.{◌≡◌, ℕ, ◌+◌, ◌≤◌, ◌<◌, ◌&&◌, ◌||◌, Bool, true, false, cond, nat_lt, List, [], ◌∷◌, map, Option, Some, None, is_some, refl, sym, ap, subst, ◌∙◌, arith, true≢false, unwrap_or}
use Rattle.std.specs.List.{AllByRecursion, filter, filter_map, list_any, sum_by}
use Rattle.std.specs.Option.{option_map, option_map_or, option_and_then}
use Rattle.std.specs.Cmp.Lexicographic.{nat_list_cmp_total}
use Rattle.std.specs.Ordering.{eq_by_cmp}
use Rattle.std.proofs.lemmas.Bool.{lt-ltb}
use Rattle.std.proofs.lemmas.List.Sums.{sum_by-cons}
use Rattle.std.specs.FinMap as fin
use Rattle.std.specs.FinMap.{contains_key-keys}
use Rattle.mst_ids.specs.Names.{name_cmp}
use Rattle.mst_tables.specs.Tables.{Net, Numbers, BridgeRow, LanRow, IsNetwork, port_eq}
use Rattle.mst_tables.specs.Seen.{bridge_row}
use Rattle.mst_view.specs.Aggregation.{Plug, Side, plugs, same_name, sides}
use Rattle.mst_view.specs.Lag.{lag_of, lag_between, end_of}
use Rattle.mst_view.specs.Trees.{mstis_of}
use Rattle.mst_view.specs.View.{LogicalPort, logical_lan, logical_port, members, is_up, speed, is_on, as_lan, as_port, view_lans, view_ports}
use Rattle.mst_view.specs.Viewed.{Viewed, IsView, named_bridge, named_port, bridge_trees, HasNumbers}
use Rattle.mst_lag.specs.Seen.{named_row}
use Rattle.mst_lag.specs.Renewed.{BridgePart, bridge_part, IsViewButBridge, port_powered}
use Rattle.mst_view.specs.declared.lag.LagEnd.{LagEnd}
use Rattle.mst_view.specs.declared.in_view.BridgeInView.{BridgeInView}
use Rattle.mst_view.specs.declared.in_view.PortInView.{PortInView}
use Rattle.mst_view.proofs.Lists.{all_weaker, all_both, all_of, all_mapped, all_filtered, mapped_twice, same_map, kept_mapped}
use Rattle.mst_view.proofs.Entries.{entries_found}
use Rattle.mst_view.proofs.Names.{same_names}
use Rattle.mst_lag.proofs.Viewing.{bridges_are}
use Rattle.mst_lag.proofs.Renewal.{there_is, swapped, entries_by}

-- where each LAN has a speed, members together have one where one is up
up_by_speed : (es : List (List ℕ × LanRow)) → AllByRecursion (λ e. 1 ≤ e.1.speed) es → nat_lt 0 (sum_by (λ e. e.1.speed) (filter (λ e. e.1.is_up) es)) ≡ list_any (λ e. e.1.is_up) es
up_by_speed [] h = refl
up_by_speed (e ∷ es) h = go e.1.is_up (up_by_speed es h.1)
  where
    rest : List (List ℕ × LanRow)
    rest = filter (λ (f : List ℕ × LanRow). f.1.is_up) es

    go : (b : Bool) → nat_lt 0 (sum_by (λ (f : List ℕ × LanRow). f.1.speed) rest) ≡ list_any (λ (f : List ℕ × LanRow). f.1.is_up) es
        → nat_lt 0 (sum_by (λ (f : List ℕ × LanRow). f.1.speed) (cond b (e ∷ rest) rest)) ≡ (b || list_any (λ (f : List ℕ × LanRow). f.1.is_up) es)
    go true later = let one : 1 ≤ e.1.speed = h.0 in lt-ltb 0 (sum_by (λ (f : List ℕ × LanRow). f.1.speed) (e ∷ rest)) (let s = sum_by-cons (λ (f : List ℕ × LanRow). f.1.speed) e rest in omega arith)
    go false later = later

module _ (net : Net) (b : fin.FinMap name_cmp BridgeRow) (bridge : List ℕ) (names : fin.keys b ≡ fin.keys net.bridges)
    (others : (a : List ℕ) → same_name bridge a ≡ false → fin.get b a ≡ fin.get net.bridges a)
    (parts : (a : List ℕ) → option_map bridge_part (fin.get b a) ≡ option_map bridge_part (fin.get net.bridges a)) where
  abbrev now : Net
  now = record net { bridges = b }

  abbrev rows : List (List ℕ × BridgeRow)
  rows = fin.entries net.bridges

  record IsRow (e : List ℕ × BridgeRow) : Type 0 where
    was : fin.get net.bridges e.0 ≡ Some e.1
    is : is_some (fin.get b e.0) ≡ true

  all_rows : AllByRecursion IsRow rows
  all_rows = all_weaker _ IsRow (λ e h. record {
    was = h;
    is = contains_key-keys b e.0 ∙ ap (list_any (eq_by_cmp name_cmp e.0)) names ∙ sym (contains_key-keys net.bridges e.0) ∙ ap is_some h;
  }) rows (entries_found nat_list_cmp_total net.bridges)

  abbrev patch : List ℕ × BridgeRow → List ℕ × BridgeRow
  patch e = (e.0, unwrap_or (fin.get b e.0) e.1)

  patched : fin.entries b ≡ map patch rows
  patched =
      sym (entries_by b) ∙ ap (filter_map (λ k. option_map (λ x. (k, x)) (fin.get b k))) names
      ∙ kept_mapped (λ k. option_map (λ x. (k, x)) (fin.get b k)) (λ (e : List ℕ × BridgeRow). e.0) patch rows
      (all_weaker IsRow _ (λ e h. ap (option_map (λ x. (e.0, x))) (there_is (fin.get b e.0) e.1 h.is)) rows all_rows)

  -- ---- identifiers of groups
  end_by : (key : ℕ) (o : Option BridgeRow) → option_map {U = LagEnd} (λ row. record { priority = row.system_priority; mac = row.mac; key = key }) o
      ≡ option_map {U = LagEnd} (λ p. record { priority = p.system_priority; mac = p.mac; key = key }) (option_map bridge_part o)
  end_by key None = refl
  end_by key (Some row) = refl

  end_same : (s : Side) → end_of now s ≡ end_of net s
  end_same s =
      end_by s.key (fin.get b s.bridge) ∙ ap (option_map {U = LagEnd} (λ (p : BridgePart). record { priority = p.system_priority; mac = p.mac; key = s.key })) (parts s.bridge)
      ∙ sym (end_by s.key (fin.get net.bridges s.bridge))

  lag_same : (l : List ℕ) → lag_of now l ≡ lag_of net l
  lag_same l = λ i. option_and_then (λ s. option_and_then (λ a. option_map (lag_between a) (end_same s.1 i)) (end_same s.0 i)) (sides net l)

  -- ---- the trees of bridges
  module _ (numbers : Numbers) where
    abbrev numbered_trees : List ℕ × BridgeRow → ℕ × List ℕ
    numbered_trees e = (unwrap_or (fin.get numbers.bridges e.0) 0, mstis_of net e.0 e.1)

    one_listed : (x : BridgeInView) → fin.get numbers.bridges x.name ≡ Some x.bridge.number → bridge_trees net x ≡ numbered_trees (named_bridge x)
    one_listed x h = ap (λ (o : Option ℕ). (unwrap_or o 0, mstis_of net x.name (bridge_row x.bridge))) (sym h)

    trees_listed : (xs : List BridgeInView) → AllByRecursion (λ x. fin.get numbers.bridges x.name ≡ Some x.bridge.number) xs → map (bridge_trees net) xs ≡ map numbered_trees (map named_bridge xs)
    trees_listed xs h = same_map (bridge_trees net) (λ x. numbered_trees (named_bridge x)) xs (all_weaker _ _ one_listed xs h) ∙ sym (mapped_twice numbered_trees named_bridge xs)

    rstp_of : (o p : Option BridgeRow) (x y : BridgeRow) → o ≡ Some x → p ≡ Some y → option_map bridge_part o ≡ option_map bridge_part p → x.is_rstp ≡ y.is_rstp
    rstp_of o p x y e f h = ap (λ (q : Option BridgePart). option_map_or (λ (r : BridgePart). r.is_rstp) q false) (sym (ap (option_map bridge_part) e) ∙ h ∙ ap (option_map bridge_part) f)

    one_patched : (e : List ℕ × BridgeRow) → IsRow e → numbered_trees (patch e) ≡ numbered_trees e
    one_patched e h =
        ap (λ (t : Bool). (unwrap_or (fin.get numbers.bridges e.0) 0, mstis_of net e.0 (record e.1 { is_rstp = t })))
        (rstp_of (fin.get b e.0) (fin.get net.bridges e.0) (unwrap_or (fin.get b e.0) e.1) e.1 (there_is (fin.get b e.0) e.1 h.is) h.was (parts e.0))

    trees_same : (xs ys : List BridgeInView)
        → AllByRecursion (λ x. fin.get numbers.bridges x.name ≡ Some x.bridge.number) xs → map named_bridge xs ≡ rows
        → AllByRecursion (λ x. fin.get numbers.bridges x.name ≡ Some x.bridge.number) ys → map named_bridge ys ≡ fin.entries b
        → map (bridge_trees net) xs ≡ map (bridge_trees now) ys
    trees_same xs ys h are k be =
        trees_listed xs h ∙ ap (map numbered_trees) are
        ∙ sym (trees_listed ys k ∙ ap (map numbered_trees) (be ∙ patched) ∙ mapped_twice numbered_trees patch rows
        ∙ same_map (λ e. numbered_trees (patch e)) numbered_trees rows (all_weaker IsRow _ one_patched rows all_rows))

  -- ---- logical ports
  speeds : IsNetwork now → (l : List ℕ) → AllByRecursion (λ e. 1 ≤ e.1.speed) (members net l)
  speeds ok l = all_filtered (λ (e : List ℕ × LanRow). 1 ≤ e.1.speed) (λ e. same_name (logical_lan net e.0) l) (fin.entries net.lans)
      (all_weaker _ _ (λ (e : List ℕ × LanRow) h. (ok.lans.speed_fits e.0 e.1 h).0) (fin.entries net.lans) (entries_found nat_list_cmp_total net.lans))

  abbrev powered : LogicalPort → LogicalPort
  powered x = cond (same_name x.name.bridge bridge) (record x { is_enabled = is_on now bridge && nat_lt 0 x.speed }) x

  port_named : (p : PortInView) → named_port (port_powered bridge (is_on now bridge) p) ≡ powered (named_port p)
  port_named p = go (same_name p.name.bridge bridge)
    where
      go : (t : Bool) → named_port (cond t (record p { is_enabled = is_on now bridge && nat_lt 0 p.speed }) p) ≡ cond t (record (named_port p) { is_enabled = is_on now bridge && nat_lt 0 p.speed }) (named_port p)
      go true = refl
      go false = refl

  port_now : IsNetwork now → (p : Plug) → powered (as_port net p) ≡ as_port now p
  port_now ok p = go (same_name p.port.bridge bridge) refl
    where
      l : List ℕ
      l = logical_lan net p.lan

      go : (t : Bool) → same_name p.port.bridge bridge ≡ t → cond t (record (as_port net p) { is_enabled = is_on now bridge && nat_lt 0 (speed net l) }) (as_port net p) ≡ as_port now p
      go true e =
          let on : is_on now bridge ≡ is_on now p.port.bridge = ap (is_on now) (sym (same_names p.port.bridge bridge e)) in
          let up : nat_lt 0 (speed net l) ≡ is_up net l = up_by_speed (members net l) (speeds ok l) in
          λ i. record { name = p.port; lan = l; speed = speed net l; settings = p.settings; is_enabled = on i && up i }
      go false e =
          let on : is_on net p.port.bridge ≡ is_on now p.port.bridge =
          ap (λ (o : Option BridgeRow). option_map_or (λ (row : BridgeRow). row.is_on) o false) (sym (others p.port.bridge (swapped bridge p.port.bridge ∙ e))) in
          λ i. record { name = p.port; lan = l; speed = speed net l; settings = p.settings; is_enabled = on i && is_up net l }

  ports_are : IsNetwork now → (ps : List PortInView) → map named_port ps ≡ view_ports net → map named_port (map (port_powered bridge (is_on now bridge)) ps) ≡ view_ports now
  ports_are ok ps was =
      mapped_twice named_port (port_powered bridge (is_on now bridge)) ps
      ∙ same_map (λ p. named_port (port_powered bridge (is_on now bridge) p)) (λ p. powered (named_port p)) ps (all_of _ port_named ps)
      ∙ sym (mapped_twice powered named_port ps) ∙ ap (map powered) was
      ∙ mapped_twice powered (as_port net) (filter (λ p. port_eq (logical_port net p).port p.port) (plugs net))
      ∙ same_map (λ p. powered (as_port net p)) (as_port now) (filter (λ p. port_eq (logical_port net p).port p.port) (plugs net)) (all_of _ (port_now ok) _)

  port_numbered : (numbers : Numbers) (p : PortInView) → HasNumbers numbers p → HasNumbers numbers (port_powered bridge (is_on now bridge) p)
  port_numbered numbers p h = go (same_name p.name.bridge bridge)
    where
      go : (t : Bool) → HasNumbers numbers (cond t (record p { is_enabled = is_on now bridge && nat_lt 0 p.speed }) p)
      go true = record { port = h.port; bridge = h.bridge; lan = h.lan }
      go false = h

  -- ---- the view
  renewed_here : (numbers : Numbers) (v : Viewed) → IsView net numbers v → IsNetwork now
      → (bs : List BridgeInView) → map named_bridge bs ≡ fin.entries b → AllByRecursion (λ x. fin.get numbers.bridges x.name ≡ Some x.bridge.number) bs
      → IsView now numbers (record v { bridges = bs; ports = map (port_powered bridge (is_on now bridge)) v.ports })
  renewed_here numbers v was ok bs are have = record {
    bridges = are;
    trees = was.trees ∙ trees_same numbers v.bridges bs was.bridge_numbers was.bridges have are;
    ports = ports_are ok v.ports was.ports;
    lans = was.lans ∙ (λ i. map (λ (k : List ℕ). record { name = k; speed = speed net k; is_up = is_up net k; lag = sym (lag_same k) i }) (filter (λ (k : List ℕ). same_name (logical_lan net k) k) (fin.keys net.lans)));
    member_lans = was.member_lans;
    member_ports = was.member_ports;
    bridge_numbers = have;
    port_numbers = all_mapped (HasNumbers numbers) (port_powered bridge (is_on now bridge)) v.ports (all_weaker _ _ (port_numbered numbers) v.ports was.port_numbers);
    lan_numbers = was.lan_numbers;
    lags = λ lan n h. was.lags lan n h ∙ sym (lag_same lan);
    no_lags = was.no_lags;
    settings = was.settings;
  }

pub is_renewed : (bridge : List ℕ) (net : Net) (numbers : Numbers) (v : Viewed) → IsViewButBridge bridge net numbers v → IsNetwork net
    → (bs : List BridgeInView) → map named_bridge bs ≡ filter_map (named_row net) (fin.keys net.bridges) → AllByRecursion (λ x. fin.get numbers.bridges x.name ≡ Some x.bridge.number) bs
    → IsView net numbers (record v { bridges = bs; ports = map (port_powered bridge (is_on net bridge)) v.ports })
is_renewed bridge net numbers v was ok bs are have =
    subst (λ n. IsNetwork n → map named_bridge bs ≡ fin.entries n.bridges → IsView n numbers (record v { bridges = bs; ports = map (port_powered bridge (is_on n bridge)) v.ports })) (sym was.differ.is)
    (λ fits here. renewed_here was.old was.differ.bridges bridge was.differ.names was.differ.others was.differ.parts numbers v was.view fits bs here have) ok (are ∙ bridges_are net)

-- the view of these lists
pub is_view : (bridge : List ℕ) (net : Net) (numbers : Numbers) (v : Viewed) → IsViewButBridge bridge net numbers v → IsNetwork net
    → (bs : List BridgeInView) → map named_bridge bs ≡ filter_map (named_row net) (fin.keys net.bridges) → AllByRecursion (λ x. fin.get numbers.bridges x.name ≡ Some x.bridge.number) bs
    → (on : Bool) → on ≡ is_on net bridge → (ports : List PortInView) → ports ≡ map (port_powered bridge on) v.ports
    → IsView net numbers (record v { bridges = bs; ports = ports })
is_view bridge net numbers v was ok bs are have on on_is ports ports_are =
    let ports_is : map (port_powered bridge (is_on net bridge)) v.ports ≡ ports = ap (λ o. map (port_powered bridge o) v.ports) (sym on_is) ∙ sym ports_are in
    let is : record v { bridges = bs; ports = map (port_powered bridge (is_on net bridge)) v.ports } ≡ record v { bridges = bs; ports = ports } = λ i. record v { bridges = bs; ports = ports_is i } in
    subst (IsView net numbers) is (is_renewed bridge net numbers v was ok bs are have)

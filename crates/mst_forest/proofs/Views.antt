-- The bridges and the logical ports of a network, under names.
use Rattle.std.proofs.Common.{◌≡◌, ◌≢◌, ℕ, ◌+◌, ◌*◌, ◌^◌, ◌<◌, ◌≤◌, true, false, ◌&&◌, nat_le, min, max, ◌/◌, List, map, Option, Some, None, is_some, IsTrue, refl, sym, ap, subst, ◌∙◌, Bool, arith, true≢false, Less, Equal, Greater}
use Rattle.std.specs.declared.cmp.Ordering.{Ordering}
use Rattle.std.specs.List.{AllByRecursion, Contains, filter}
use Rattle.std.specs.Option.{option_map, option_map_or, unwrap_or}
use Rattle.std.specs.Ordering.{is_eq, eq_by_cmp}
use Rattle.std.specs.Cmp.{IsTotalOrder, tied_itself}
use Rattle.std.specs.Cmp.Lexicographic.{nat_list_cmp_total}
use Rattle.std.proofs.lemmas.Cmp.{on_total, then_total, nat_cmp_total}
use Rattle.std.proofs.lemmas.Bool.{le-leb, and_parts, and_from}
use Rattle.std.specs.FinMap as fin
use Rattle.std.specs.FinMap.{slice_cmp-IsAntisymmetric, nat_cmp-IsAntisymmetric, contains_key-keys}
use Rattle.mst_ids.specs.Names.{name_cmp, port_cmp}
use Rattle.mst_ids.specs.Identifiers.{bridge_id, port_id}
use Rattle.mst_ids.specs.Costs.{automatic_cost}
use Rattle.mst_ids.specs.declared.name.PortName.{PortName}
use Rattle.mst_vector.specs.Rules.{is_cost}
use Rattle.mst_net.specs.tables.Tables.{Net, BridgeRow, PortRow, IsPathCost, port_eq}
use Rattle.mst_view.specs.Aggregation.{Plug, plug_of, plugs}
use Rattle.mst_view.specs.View.{LogicalPort, logical_port, as_port, is_on, is_up, logical_lan, view_ports}
use Rattle.mst_forest.specs.Apart.{Apart}
use Rattle.mst_forest.proofs.Entries.{all_weaker, entries_apart, entries_found}
use Rattle.mst_forest.proofs.Lists.{some_is, no_some, all_kept, all_mapped, all_passing, apart_kept, apart_mapped, apart_filtered, all_contained, all_there, passed}

pub name_is : (a b : List ℕ) → name_cmp a b ≡ Equal → a ≡ b
name_is = slice_cmp-IsAntisymmetric nat_cmp-IsAntisymmetric

less_equal : Less ≡ Equal → ⊥
less_equal e = true≢false (sym (ap is_eq e))

-- a name is not below itself
pub names_differ : (a b : List ℕ) → name_cmp a b ≡ Less → a ≢ b
names_differ a b l e = less_equal (sym l ∙ ap (λ x. name_cmp x b) e ∙ tied_itself nat_list_cmp_total b)

pub ports_total : IsTotalOrder port_cmp
ports_total = then_total (on_total (λ (p : PortName). p.bridge) nat_list_cmp_total) (on_total (λ (p : PortName). p.number) nat_cmp_total)

pub port_names_differ : (a b : PortName) → port_cmp a b ≡ Less → a ≢ b
port_names_differ a b l e = less_equal (sym l ∙ ap (λ x. port_cmp x b) e ∙ tied_itself ports_total b)

-- equal identifiers come of equal MACs
pub same_mac : (tree a b c d : ℕ) → a < 2 ^ 48 → b < 2 ^ 48 → bridge_id c tree a ≡ bridge_id d tree b → a ≡ b
same_mac tree a b c d l m e = by_parts (c * 4096 + tree) (d * 4096 + tree) l m e
  where
    by_parts : (x y : ℕ) → a < 2 ^ 48 → b < 2 ^ 48 → x * 2 ^ 48 + a ≡ y * 2 ^ 48 + b → a ≡ b
    by_parts x y l m e = omega arith

-- equal identifiers of ports come of equal numbers
pub same_port_number : (a b c d : ℕ) → a ≤ 4095 → b ≤ 4095 → port_id c a ≡ port_id d b → a ≡ b
same_port_number a b c d l m e = by_parts c d l m e
  where
    by_parts : (x y : ℕ) → a ≤ 4095 → b ≤ 4095 → x * 4096 + a ≡ y * 4096 + b → a ≡ b
    by_parts x y l m e = omega arith

within : (q : ℕ) → IsTrue (nat_le 1 (max 1 (min 200_000_000 q)) && nat_le (max 1 (min 200_000_000 q)) 200_000_000)
within q =
    let low = le-leb 1 (max 1 (min 200_000_000 q)) (omega arith) in
    let high = le-leb (max 1 (min 200_000_000 q)) 200_000_000 (omega arith) in
    ap (λ b. b && nat_le (max 1 (min 200_000_000 q)) 200_000_000) low ∙ high

-- an automatic cost is in range
automatic_in_range : (speed : ℕ) → IsTrue (is_cost (automatic_cost speed))
automatic_in_range speed = within (20_000_000_000 / speed)

-- a cost that is set, or the automatic one
pub cost_or_automatic : (cost : Option ℕ) (speed : ℕ) → ((c : ℕ) → cost ≡ Some c → IsPathCost c) → IsTrue (is_cost (unwrap_or cost (automatic_cost speed)))
cost_or_automatic None speed fits = automatic_in_range speed
cost_or_automatic (Some cost) speed fits = let f = fits cost refl in and_from (nat_le 1 cost) (nat_le cost 200_000_000) (le-leb 1 cost f.0) (le-leb cost 200_000_000 f.1)

tied : (o : Ordering) → is_eq o ≡ true → o ≡ Equal
tied Less e = absurd (true≢false (sym e))
tied Equal e = refl
tied Greater e = absurd (true≢false (sym e))

-- a name that is a key is among the keys
key_there : (net : Net) (name : List ℕ) → fin.contains_key net.bridges name ≡ true → Contains (fin.keys net.bridges) name
key_there net name here =
    let found = passed (eq_by_cmp name_cmp name) (fin.keys net.bridges) (sym (contains_key-keys net.bridges name) ∙ here) in
    subst (Contains (fin.keys net.bridges)) (sym (name_is name found.0 (tied (name_cmp name found.0) found.2))) found.1

-- a key is the key of an entry
entry_of : {K X : Type 0} (es : List (K × X)) (k : K) → Contains (map (λ e. e.0) es) k → (x : X) × Contains es (k, x)
entry_of {K} {X} es k c =
    all_contained (λ k. (x : X) × Contains es (k, x)) (map (λ e. e.0) es) k
    (all_mapped (λ k. (x : X) × Contains es (k, x)) (λ (e : K × X). e.0) es (all_weaker (Contains es) _ (λ e h. (e.1, h)) es (all_there es))) c

-- the entry of a bridge's row
pub entry_there : (net : Net) (name : List ℕ) (row : BridgeRow) → fin.get net.bridges name ≡ Some row → Contains (fin.entries net.bridges) (name, row)
entry_there net name row is =
    let entry = entry_of (fin.entries net.bridges) name (key_there net name (ap is_some is)) in
    let found = all_contained (λ (e : List ℕ × BridgeRow). fin.get net.bridges e.0 ≡ Some e.1) (fin.entries net.bridges) (name, entry.0) (entries_found nat_list_cmp_total net.bridges) entry.1 in
    subst (λ r. Contains (fin.entries net.bridges) (name, r)) (some_is entry.0 row (sym found ∙ is)) entry.1

-- a bridge that is on has a row that says so
pub record IsOn (net : Net) (name : List ℕ) : Type 0 where
  pub row : BridgeRow
  pub is_row : fin.get net.bridges name ≡ Some row
  pub is_power : row.is_on ≡ true

pub row_on : (net : Net) (name : List ℕ) → is_on net name ≡ true → IsOn net name
row_on net name on = go (fin.get net.bridges name) refl on
  where
    go : (o : Option BridgeRow) → fin.get net.bridges name ≡ o → option_map_or (λ row. row.is_on) o false ≡ true → IsOn net name
    go None e h = absurd (true≢false (sym h))
    go (Some row) e h = record { row = row; is_row = e; is_power = h }

-- what a plug takes of its port's row
record IsPlugOf (e : PortName × PortRow) (p : Plug) : Type 0 where
  is_port : e.0 ≡ p.port
  is_settings : e.1.settings ≡ p.settings

plug_is : (e : PortName × PortRow) (p : Plug) → plug_of e ≡ Some p → IsPlugOf e p
plug_is e p h = go e.1.lan h
  where
    go : (o : Option (List ℕ)) → option_map (λ lan. record { port = e.0; lan = lan; settings = e.1.settings }) o ≡ Some p → IsPlugOf e p
    go None k = absurd (no_some p k)
    go (Some lan) k =
        let is = some_is (record { port = e.0; lan = lan; settings = e.1.settings }) p k in
        record { is_port = ap (λ (x : Plug). x.port) is; is_settings = ap (λ (x : Plug). x.settings) is }

-- a logical port has a row, with its settings, and its bridge is on where it is enabled
pub record IsPort (net : Net) (p : LogicalPort) : Type 0 where
  pub row : PortRow
  pub is_row : fin.get net.ports p.name ≡ Some row
  pub is_settings : row.settings ≡ p.settings
  pub bridge_on : p.is_enabled ≡ true → is_on net p.name.bridge ≡ true

module _ (net : Net) where
  -- a plug with a row of these settings
  record HasRow (p : Plug) : Type 0 where
    row : PortRow
    is_row : fin.get net.ports p.port ≡ Some row
    is_settings : row.settings ≡ p.settings

  plugs_are : AllByRecursion HasRow (plugs net)
  plugs_are =
      all_kept (λ (e : PortName × PortRow). fin.get net.ports e.0 ≡ Some e.1) HasRow plug_of
      (λ e p h k. let is = plug_is e p k in record { row = e.1; is_row = ap (fin.get net.ports) (sym is.is_port) ∙ h; is_settings = is.is_settings })
      (fin.entries net.ports) (entries_found ports_total net.ports)

  port_is : (p : Plug) → HasRow p → IsPort net (as_port net p)
  port_is p h = record {
    row = h.row;
    is_row = h.is_row;
    is_settings = h.is_settings;
    bridge_on = λ enabled. (and_parts (is_on net p.port.bridge) (is_up net (logical_lan net p.lan)) enabled).0;
  }

  abbrev is_logical : Plug → Bool
  is_logical p = port_eq (logical_port net p).port p.port

  pub ports_are : AllByRecursion (IsPort net) (view_ports net)
  ports_are =
      all_mapped (IsPort net) (as_port net) (filter is_logical (plugs net))
      (all_passing HasRow (λ p. IsPort net (as_port net p)) is_logical (λ p h _. port_is p h) (plugs net) plugs_are)

  pub bridges_are : AllByRecursion (λ (e : List ℕ × BridgeRow). fin.get net.bridges e.0 ≡ Some e.1) (fin.entries net.bridges)
  bridges_are = entries_found nat_list_cmp_total net.bridges

  -- names rise, so no two are the same
  pub bridges_rise : Apart (λ (e f : List ℕ × BridgeRow). name_cmp e.0 f.0 ≡ Less) (fin.entries net.bridges)
  bridges_rise = entries_apart nat_list_cmp_total net.bridges

  plugs_rise : Apart (λ (p q : Plug). port_cmp p.port q.port ≡ Less) (plugs net)
  plugs_rise =
      apart_kept (λ (e f : PortName × PortRow). port_cmp e.0 f.0 ≡ Less) (λ (p q : Plug). port_cmp p.port q.port ≡ Less) plug_of
      (λ e f p q l h k. (λ i. port_cmp (sym (plug_is e p h).is_port i) (sym (plug_is f q k).is_port i)) ∙ l)
      (fin.entries net.ports) (entries_apart ports_total net.ports)

  pub ports_rise : Apart (λ (p q : LogicalPort). port_cmp p.name q.name ≡ Less) (view_ports net)
  ports_rise =
      apart_mapped (λ (p q : Plug). port_cmp p.port q.port ≡ Less) (λ (p q : LogicalPort). port_cmp p.name q.name ≡ Less) (as_port net) (λ p q l. l) (filter is_logical (plugs net))
      (apart_filtered (λ (p q : Plug). port_cmp p.port q.port ≡ Less) is_logical (plugs net) plugs_rise)

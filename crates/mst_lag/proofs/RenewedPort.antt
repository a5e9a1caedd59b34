-- A view in which one port was renewed is that of the network now.
use Rattle.std.proofs.Common.{◌≡◌, ℕ, ◌&&◌, ◌||◌, Bool, true, false, cond, not, nat_le, List, [], ◌∷◌, map, Option, Some, None, is_some, refl, sym, ap, subst, ◌∙◌, true≢false, unwrap_or}
use Rattle.std.specs.List.{AllByRecursion, filter, filter_map, find, list_any, sum_by}
use Rattle.std.specs.Option.{option_map, option_map_or, option_and_then}
use Rattle.std.specs.Ordering.{eq_by_cmp}
use Rattle.std.specs.FinMap as fin
use Rattle.std.specs.FinMap.{contains_key-keys}
use Rattle.mst_ids.specs.Names.{port_cmp}
use Rattle.mst_ids.specs.declared.name.PortName.{PortName}
use Rattle.mst_tables.specs.Tables.{Net, Numbers, PortRow, LanRow, IsNetwork, port_eq}
use Rattle.mst_tables.specs.declared.settings.PortSettings.{PortSettings}
use Rattle.mst_tables.specs.After.{new_settings}
use Rattle.mst_tables.specs.Contents.{IsNumbered}
use Rattle.mst_view.specs.Aggregation.{Plug, Side, plug_of, plugs, plugs_in, same_name, same_sides, sides_of, sides, lans_as_one, ports_as_one}
use Rattle.mst_view.specs.Lag.{lag_of, lag_between, end_of}
use Rattle.mst_view.specs.View.{LogicalPort, logical_lan, logical_port, is_up, speed, is_on, as_port, view_lans, view_ports}
use Rattle.mst_view.specs.Viewed.{Viewed, IsView, named_port, member_port, HasNumbers}
use Rattle.mst_lag.specs.Renewed.{PortPart, port_part, IsViewButPort, settings_there, port_set}
use Rattle.mst_view.specs.declared.in_view.PortInView.{PortInView}
use Rattle.mst_view.proofs.Lists.{some_is, all_weaker, all_of, all_mapped, all_filtered, filter_mapped, filter_same, find_same, mapped_twice, same_map, map_itself, kept_mapped, kept_alike}
use Rattle.mst_view.proofs.Entries.{entries_found}
use Rattle.mst_view.proofs.Names.{same_ports, own_port}
use Rattle.mst_lag.proofs.Known.{IsPlug, all_plugs}
use Rattle.mst_view.proofs.Orders.{ports_total}
use Rattle.mst_lag.proofs.Renewal.{there_is}

-- the first that passes of a list that is changed
find_mapped : {A B : Type 0} (test : B → Bool) (f : A → B) (xs : List A) → find test (map f xs) ≡ option_map f (find (λ x. test (f x)) xs)
find_mapped test f [] = refl
find_mapped {A} {B} test f (x ∷ xs) = by (test (f x)) (find_mapped test f xs)
  where
    by : (b : Bool) → find test (map f xs) ≡ option_map f (find (λ x. test (f x)) xs) → cond b (Some (f x)) (find test (map f xs)) ≡ option_map f (cond b (Some x) (find (λ x. test (f x)) xs))
    by true h = refl
    by false h = h

module _ (net : Net) (ps : fin.FinMap port_cmp PortRow) (port : PortName) (names : fin.keys ps ≡ fin.keys net.ports)
    (others : (p : PortName) → port_eq port p ≡ false → fin.get ps p ≡ fin.get net.ports p)
    (parts : (p : PortName) → option_map port_part (fin.get ps p) ≡ option_map port_part (fin.get net.ports p))
    (numbers : Numbers) (ok : IsNetwork net) (num : IsNumbered net numbers) where
  abbrev now : Net
  now = record net { ports = ps }

  abbrev rows : List (PortName × PortRow)
  rows = fin.entries net.ports

  record IsRow (e : PortName × PortRow) : Type 0 where
    was : fin.get net.ports e.0 ≡ Some e.1
    is : is_some (fin.get ps e.0) ≡ true

  all_rows : AllByRecursion IsRow rows
  all_rows = all_weaker _ IsRow (λ e h. record {
    was = h;
    is = contains_key-keys ps e.0 ∙ ap (list_any (eq_by_cmp port_cmp e.0)) names ∙ sym (contains_key-keys net.ports e.0) ∙ ap is_some h;
  }) rows (entries_found ports_total net.ports)

  abbrev patch : PortName × PortRow → PortName × PortRow
  patch e = (e.0, unwrap_or (fin.get ps e.0) e.1)

  entries_by : filter_map (λ k. option_map (λ x. (k, x)) (fin.get ps k)) (fin.keys ps) ≡ fin.entries ps
  entries_by = kept_mapped (λ k. option_map (λ x. (k, x)) (fin.get ps k)) (λ (e : PortName × PortRow). e.0) (λ e. e) (fin.entries ps)
      (all_weaker _ _ (λ e h. ap (option_map (λ x. (e.0, x))) h) (fin.entries ps) (entries_found ports_total ps))
      ∙ map_itself (fin.entries ps)

  patched : fin.entries ps ≡ map patch rows
  patched =
      sym entries_by ∙ ap (filter_map (λ k. option_map (λ x. (k, x)) (fin.get ps k))) names
      ∙ kept_mapped (λ k. option_map (λ x. (k, x)) (fin.get ps k)) (λ (e : PortName × PortRow). e.0) patch rows
      (all_weaker IsRow _ (λ e h. ap (option_map (λ x. (e.0, x))) (there_is (fin.get ps e.0) e.1 h.is)) rows all_rows)

  -- ---- plugs
  abbrev again : Plug → Plug
  again p = record p { settings = settings_there now p.port }

  part_of : (o p : Option PortRow) (x y : PortRow) → o ≡ Some x → p ≡ Some y → option_map port_part o ≡ option_map port_part p → port_part x ≡ port_part y
  part_of o p x y e f h = some_is (port_part x) (port_part y) (sym (ap (option_map port_part) e) ∙ h ∙ ap (option_map port_part) f)

  plug_patched : (e : PortName × PortRow) → IsRow e → plug_of (patch e) ≡ option_map again (plug_of e)
  plug_patched e h =
      let there = there_is (fin.get ps e.0) e.1 h.is in
      let lans : (patch e).1.lan ≡ e.1.lan = ap (λ (q : PortPart). q.lan) (part_of (fin.get ps e.0) (fin.get net.ports e.0) (patch e).1 e.1 there h.was (parts e.0)) in
      let set : (patch e).1.settings ≡ settings_there now e.0 = sym (ap (λ (o : Option PortRow). option_map_or (λ (r : PortRow). r.settings) o new_settings) there) in
      (λ i. option_map {U = Plug} (λ lan. record { port = e.0; lan = lan; settings = set i }) (lans i)) ∙ by e.1.lan
    where
      by : (o : Option (List ℕ)) → option_map {U = Plug} (λ lan. record { port = e.0; lan = lan; settings = settings_there now e.0 }) o
          ≡ option_map again (option_map {U = Plug} (λ lan. record { port = e.0; lan = lan; settings = e.1.settings }) o)
      by None = refl
      by (Some lan) = refl

  plugs_now : plugs now ≡ map again (plugs net)
  plugs_now = ap (filter_map plug_of) patched ∙ kept_alike plug_of patch plug_of again rows (all_weaker IsRow _ plug_patched rows all_rows)

  abbrev Keeps : Plug → Type 0
  Keeps p = (again p).settings.key ≡ p.settings.key

  keeps : (p : Plug) → IsPlug net p → Keeps p
  keeps p h = by (fin.get ps p.port) refl
    where
      by : (o : Option PortRow) → fin.get ps p.port ≡ o → Keeps p
      by None e = absurd (true≢false (ap (λ (o : Option PortRow). is_some (option_map port_part o)) (sym h.row) ∙ ap is_some (sym (parts p.port)) ∙ ap (λ (o : Option PortRow). is_some (option_map port_part o)) e))
      by (Some x) e =
          ap (λ (o : Option PortRow). (option_map_or (λ (r : PortRow). r.settings) o new_settings).key) e
          ∙ ap (λ (q : PortPart). q.key) (part_of (fin.get ps p.port) (fin.get net.ports p.port) x (record { lan = Some p.lan; settings = p.settings }) e h.row (parts p.port))

  all_keep : AllByRecursion Keeps (plugs net)
  all_keep = all_weaker (IsPlug net) Keeps keeps (plugs net) (all_plugs net numbers ok num)

  -- ---- sides
  sides_kept : (qs : List Plug) → AllByRecursion Keeps qs → sides_of (map again qs) ≡ sides_of qs
  sides_kept [] h = refl
  sides_kept (p ∷ []) h = refl
  sides_kept (p ∷ q ∷ []) h = λ i. cond (not (same_name p.port.bridge q.port.bridge) && nat_le 1 (h.0 i) && nat_le 1 (h.1.0 i))
      (Some (record { bridge = p.port.bridge; key = h.0 i }, record { bridge = q.port.bridge; key = h.1.0 i })) None
  sides_kept (p ∷ q ∷ r ∷ rs) h = refl

  sides_same : (l : List ℕ) → sides now l ≡ sides net l
  sides_same l =
      ap (λ qs. sides_of (plugs_in l qs)) plugs_now ∙ ap sides_of (filter_mapped (λ (p : Plug). same_name p.lan l) again (plugs net))
      ∙ sides_kept (plugs_in l (plugs net)) (all_filtered Keeps (λ p. same_name p.lan l) (plugs net) all_keep)

  class_same : (l m : List ℕ) → option_map_or (λ a. option_map_or (same_sides a) (sides now m) false) (sides now l) false ≡ option_map_or (λ a. option_map_or (same_sides a) (sides net m) false) (sides net l) false
  class_same l m = λ i. option_map_or (λ a. option_map_or (same_sides a) (sides_same m i) false) (sides_same l i) false

  lan_same : (l : List ℕ) → logical_lan now l ≡ logical_lan net l
  lan_same l = λ i. unwrap_or (find (λ m. same_name l m || class_same l m i) (fin.keys net.lans)) l

  lag_same : (l : List ℕ) → lag_of now l ≡ lag_of net l
  lag_same l = ap (option_and_then (λ s. option_and_then (λ a. option_map (lag_between a) (end_of net s.1)) (end_of net s.0))) (sides_same l)

  speed_same : (k : List ℕ) → speed now k ≡ speed net k
  speed_same k = λ i. sum_by (λ (e : List ℕ × LanRow). e.1.speed) (filter (λ (e : List ℕ × LanRow). e.1.is_up) (filter (λ (e : List ℕ × LanRow). same_name (lan_same e.0 i) k) (fin.entries net.lans)))

  is_up_same : (k : List ℕ) → is_up now k ≡ is_up net k
  is_up_same k = λ i. list_any (λ (e : List ℕ × LanRow). e.1.is_up) (filter (λ (e : List ℕ × LanRow). same_name (lan_same e.0 i) k) (fin.entries net.lans))

  -- ---- logical ports
  one_same : (p q : Plug) → ports_as_one now (again p) (again q) ≡ ports_as_one net p q
  one_same p q = λ i. port_eq p.port q.port || (same_name p.port.bridge q.port.bridge && class_same p.lan q.lan i)

  port_same : (p : Plug) → (logical_port now (again p)).port ≡ (logical_port net p).port
  port_same p =
      ap (λ qs. (unwrap_or (find (ports_as_one now (again p)) qs) (again p)).port) plugs_now
      ∙ ap (λ o. (unwrap_or o (again p)).port) (find_mapped (ports_as_one now (again p)) again (plugs net)
      ∙ ap (option_map again) (find_same (λ q. ports_as_one now (again p) (again q)) (ports_as_one net p) (plugs net) (all_of _ (one_same p) (plugs net))))
      ∙ by (find (ports_as_one net p) (plugs net))
    where
      by : (o : Option Plug) → (unwrap_or (option_map again o) (again p)).port ≡ (unwrap_or o p).port
      by None = refl
      by (Some q) = refl

  abbrev own_ports : List Plug
  own_ports = filter (λ p. port_eq (logical_port net p).port p.port) (plugs net)

  own_now : filter (λ p. port_eq (logical_port now p).port p.port) (plugs now) ≡ map again own_ports
  own_now =
      ap (filter (λ p. port_eq (logical_port now p).port p.port)) plugs_now
      ∙ filter_mapped (λ p. port_eq (logical_port now p).port p.port) again (plugs net)
      ∙ ap (map again) (filter_same (λ p. port_eq (logical_port now (again p)).port p.port) (λ p. port_eq (logical_port net p).port p.port) (plugs net)
      (all_of _ (λ p. ap (λ q. port_eq q p.port) (port_same p)) (plugs net)))

  abbrev set_again : LogicalPort → LogicalPort
  set_again x = cond (port_eq x.name port) (record x { settings = settings_there now port }) x

  port_named : (p : PortInView) → named_port (port_set port (settings_there now port) p) ≡ set_again (named_port p)
  port_named p = go (port_eq p.name port)
    where
      go : (b : Bool) → named_port (cond b (record p { settings = settings_there now port }) p) ≡ cond b (record (named_port p) { settings = settings_there now port }) (named_port p)
      go true = refl
      go false = refl

  port_now : (p : Plug) → IsPlug net p → set_again (as_port net p) ≡ as_port now (again p)
  port_now p h = go (port_eq p.port port) refl
    where
      l : List ℕ
      l = logical_lan net p.lan

      rest : (s t : PortSettings) → s ≡ t → record (as_port net p) { settings = s } ≡ record (as_port now (again p)) { settings = t }
      rest s t e = λ i. record {
        name = p.port;
        lan = sym (lan_same p.lan) i;
        speed = (sym (speed_same l) ∙ ap (speed now) (sym (lan_same p.lan))) i;
        settings = e i;
        is_enabled = is_on net p.port.bridge && (sym (is_up_same l) ∙ ap (is_up now) (sym (lan_same p.lan))) i;
      }

      swapped : port_eq p.port port ≡ false → port_eq port p.port ≡ false
      swapped e = by (port_eq port p.port) refl
        where
          by : (b : Bool) → port_eq port p.port ≡ b → b ≡ false
          by false f = refl
          by true f = absurd (true≢false (sym (ap (λ q. port_eq q port) (sym (same_ports port p.port f)) ∙ own_port port) ∙ e))

      go : (b : Bool) → port_eq p.port port ≡ b → cond b (record (as_port net p) { settings = settings_there now port }) (as_port net p) ≡ as_port now (again p)
      go true e = rest (settings_there now port) (settings_there now p.port) (ap (settings_there now) (sym (same_ports p.port port e)))
      go false e = rest p.settings (settings_there now p.port) (sym (ap (λ (o : Option PortRow). option_map_or (λ (r : PortRow). r.settings) o new_settings) (others p.port (swapped e) ∙ h.row)))

  ports_are : (qs : List PortInView) → map named_port qs ≡ view_ports net → map named_port (map (port_set port (settings_there now port)) qs) ≡ view_ports now
  ports_are qs was =
      mapped_twice named_port (port_set port (settings_there now port)) qs
      ∙ same_map (λ p. named_port (port_set port (settings_there now port) p)) (λ p. set_again (named_port p)) qs (all_of _ port_named qs)
      ∙ sym (mapped_twice set_again named_port qs) ∙ ap (map set_again) was
      ∙ mapped_twice set_again (as_port net) own_ports
      ∙ same_map (λ p. set_again (as_port net p)) (λ p. as_port now (again p)) own_ports
      (all_weaker (IsPlug net) _ port_now own_ports (all_filtered (IsPlug net) (λ p. port_eq (logical_port net p).port p.port) (plugs net) (all_plugs net numbers ok num)))
      ∙ sym (mapped_twice (as_port now) again own_ports) ∙ sym (ap (map (as_port now)) own_now)

  port_numbered : (p : PortInView) → HasNumbers numbers p → HasNumbers numbers (port_set port (settings_there now port) p)
  port_numbered p h = go (port_eq p.name port)
    where
      go : (b : Bool) → HasNumbers numbers (cond b (record p { settings = settings_there now port }) p)
      go true = record { port = h.port; bridge = h.bridge; lan = h.lan }
      go false = h

  -- ---- the view
  renewed_here : (v : Viewed) → IsView net numbers v → IsView now numbers (record v { ports = map (port_set port (settings_there now port)) v.ports })
  renewed_here v was = record {
    bridges = was.bridges;
    trees = was.trees;
    ports = ports_are v.ports was.ports;
    lans = was.lans ∙ (λ i. map (λ (k : List ℕ). record { name = k; speed = sym (speed_same k) i; is_up = sym (is_up_same k) i; lag = sym (lag_same k) i })
        (filter (λ (k : List ℕ). same_name (sym (lan_same k) i) k) (fin.keys net.lans)));
    member_lans = was.member_lans ∙ (λ i. map (λ (e : List ℕ × LanRow). record { name = e.0; lan = sym (lan_same e.0) i; is_up = e.1.is_up }) (fin.entries net.lans));
    member_ports = was.member_ports ∙ (λ i. map (λ (p : Plug). record { name = p.port; lan = sym (lan_same p.lan) i }) (plugs net))
        ∙ sym (mapped_twice (member_port now) again (plugs net)) ∙ sym (ap (map (member_port now)) plugs_now);
    bridge_numbers = was.bridge_numbers;
    port_numbers = all_mapped (HasNumbers numbers) (port_set port (settings_there now port)) v.ports (all_weaker _ _ port_numbered v.ports was.port_numbers);
    lan_numbers = was.lan_numbers;
    lags = λ lan n h. was.lags lan n h ∙ sym (lag_same lan);
    no_lags = was.no_lags;
    settings = was.settings;
  }

pub is_view : (port : PortName) (net : Net) (numbers : Numbers) (v : Viewed) → IsViewButPort port net numbers v
    → (set : PortSettings) → set ≡ settings_there net port → (ports : List PortInView) → ports ≡ map (port_set port set) v.ports
    → IsView net numbers (record v { ports = ports })
is_view port net numbers v but set set_is ports ports_are =
    subst (IsView net numbers)
    (λ i. record v { ports = (ap (λ s. map (port_set port s) v.ports) (sym set_is) ∙ sym ports_are) i })
    (subst (λ n. IsView n numbers (record v { ports = map (port_set port (settings_there n port)) v.ports })) (sym but.differ.is)
    (renewed_here but.old but.differ.ports port but.differ.names but.differ.others but.differ.parts numbers but.network but.numbered v but.view))

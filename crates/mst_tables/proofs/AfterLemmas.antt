-- An edit that nothing refuses makes a network of a network.
use Rattle.std.proofs.Common.{◌≡◌, ℕ, ◌<◌, ◌≤◌, ◌^◌, Bool, true, false, not, ◌⊎◌, inl, inr, List, Option, Some, None, is_some, nat_eq, refl, sym, ap, subst, ◌∙◌, arith, true≢false}
use Rattle.std.specs.Prelude.{⊤, Result, Ok, Err, IsTrue, ◌==◌, if◌then◌else◌}
use Rattle.std.specs.Option.{option_map_or, unwrap_or, ForSome}
use Rattle.std.specs.Bool.{beq}
use Rattle.std.specs.List.{list_all, AllByRecursion}
use Rattle.std.specs.FinMap as fin
use Rattle.std.specs.FinMap.{FinMap, get-empty, len-empty}
use Rattle.std.proofs.lemmas.Bool.{leb-false, ltb-false}
use Rattle.std.specs.Cmp.{unsigned_Decides}
use Rattle.std.specs.Cmp.Lexicographic.{pointwise}
use Rattle.mst_ids.specs.Names.{name_cmp, port_cmp}
use Rattle.mst_ids.specs.Texts.{is_conf_name}
use Rattle.mst_ids.specs.Vids.{IsVidSet}
use Rattle.mst_ids.proofs.ConfNameLemmas.{is_conf_name-mac_text}
use Rattle.mst_ids.specs.declared.name.PortName.{PortName}
use Rattle.mst_lang.specs.declared.line.Edit.{Edit}
use Rattle.mst_lang.specs.declared.line.Edit.TheVariants.{AddBridge, DelBridge, SetBridge, AddPort, DelPort, SetPort, AddLan, DelLan, SetLan, Plug, Unplug, SetByTree}
use Rattle.mst_lang.specs.declared.line.BridgeChange.{BridgeChange}
use Rattle.mst_lang.specs.declared.line.BridgeChange.TheVariants.{Power, Kind, SystemPriority, Configuration, MaxHops, MaxAge}
use Rattle.mst_lang.specs.declared.line.PortChange.{PortChange}
use Rattle.mst_lang.specs.declared.line.PortChange.TheVariants.{Key, PathCost, RestrictedRole}
use Rattle.mst_lang.specs.declared.line.LanChange.{LanChange}
use Rattle.mst_lang.specs.declared.line.LanChange.TheVariants.{State, Speed}
use Rattle.mst_lang.specs.declared.line.TreeChange.TheVariants.{Priority, PortPriority, PortCost, Table, Vlans}
use Rattle.mst_lang.specs.Ranges.{InRange, BridgeFits, PortFits, LanFits, IsName}
use Rattle.mst_tables.specs.Table.{no_table, mapped, tree_count}
use Rattle.mst_tables.specs.Tables.{Net, IsNetwork, AreBridges, AreLans, ArePorts, IsLimit, IsPathCost, IsOwnPriority, IsTable, BridgeRow, PortRow, LanRow, BridgeTree, PortTree, bridge_tree_cmp, port_tree_cmp, port_eq, empty_net}
use Rattle.mst_tables.specs.After.{has_bridge, has_port, has_lan, mac_taken, is_plugged, is_of_bridge, is_in_lan, some_port, all_vids, table_of, refusal_of, effect, after, new_bridge, new_port, new_lan, in_lan, bridge_with, settings_with, port_with, lan_with, change, change_bridge, change_port, change_lan, keep, own_priority, own_table, own_vlans}
use Rattle.mst_tables.specs.declared.settings.PortSettings.{PortSettings}
use Rattle.mst_tables.specs.declared.refusal.Refusal.{Refusal}
use Rattle.mst_tables.specs.declared.refusal.Refusal.TheVariants.{E04, E05, E06}
use Rattle.mst_tables.proofs.Somes.{some_is, no_some}
use Rattle.mst_tables.proofs.Keyed.{after_insert, after_keep, still_there, len_added, any_value}
use Rattle.mst_tables.proofs.Changed.{changed_from, contains_changed, len_changed, left_of, other_left, len_removed, left_without}
use Rattle.mst_tables.proofs.Counting.{none_counted}
use Rattle.mst_tables.proofs.TableFits.{mapped_fits, no_table_fits}
use Rattle.mst_tables.proofs.Keys.{name_eq, names, ports, bridge_trees, port_trees}

-- ---- tests that don't refuse
passed : (b : Bool) (r : Refusal) (rest : Option Refusal) → (if b then Some r else rest) ≡ None → (b ≡ false) × (rest ≡ None)
passed true r rest h = absurd (true≢false (ap is_some h))
passed false r rest h = (refl, h)

not_false : (b : Bool) → not b ≡ false → b ≡ true
not_false true e = refl
not_false false e = absurd (true≢false e)

found : {X : Type 0} (o : Option X) → is_some o ≡ true → (x : X) × (o ≡ Some x)
found None h = absurd (true≢false (sym h))
found (Some x) h = (x, refl)

plugged_row : (test : PortRow → Bool) (o : Option PortRow) → not (option_map_or test o false) ≡ false → (row : PortRow) × (o ≡ Some row) × (test row ≡ true)
plugged_row test None h = absurd (true≢false h)
plugged_row test (Some row) h = (row, refl, not_false (test row) h)

-- what nothing refusing says of the network, for each edit that asks for more than its record
module _ (net : Net) where
  pub bridge_there : (bridge : List ℕ) (rest : Option Refusal) → (if not (has_bridge bridge net) then Some E04 else rest) ≡ None → (has_bridge bridge net ≡ true) × (rest ≡ None)
  bridge_there bridge rest h = let a = passed _ _ _ h in (not_false _ a.0, a.1)

  pub port_there : (port : PortName) (rest : Option Refusal) → (if not (has_bridge port.bridge net) then Some E04 else (if not (has_port port net) then Some E05 else rest)) ≡ None → (has_port port net ≡ true) × (rest ≡ None)
  port_there port rest h = let a = passed _ _ _ h in let b = passed _ _ _ a.1 in (not_false _ b.0, b.1)

  pub lan_there : (lan : List ℕ) (rest : Option Refusal) → (if not (has_lan lan net) then Some E06 else rest) ≡ None → (has_lan lan net ≡ true) × (rest ≡ None)
  lan_there lan rest h = let a = passed _ _ _ h in (not_false _ a.0, a.1)

  pub bridge_addable : (bridge : List ℕ) (mac : ℕ) → refusal_of (AddBridge bridge mac) net ≡ None → (has_bridge bridge net ≡ false) × (mac_taken mac net ≡ false) × (fin.len net.bridges < 1024)
  bridge_addable bridge mac h =
      let a = passed _ _ _ h in let b = passed _ _ _ a.1 in let c = passed _ _ _ b.1 in
      (a.0, b.0, leb-false 1024 (fin.len net.bridges) c.0)

  pub bridge_deletable : (bridge : List ℕ) → refusal_of (DelBridge bridge) net ≡ None → (has_bridge bridge net ≡ true) × (some_port (is_of_bridge bridge) net ≡ false)
  bridge_deletable bridge h = let a = bridge_there bridge _ h in let b = passed _ _ _ a.1 in (a.0, b.0)

  pub port_addable : (port : PortName) → refusal_of (AddPort port) net ≡ None → (has_bridge port.bridge net ≡ true) × (has_port port net ≡ false) × (fin.len net.ports < 16384)
  port_addable port h =
      let a = bridge_there port.bridge _ h in let b = passed _ _ _ a.1 in let c = passed _ _ _ b.1 in
      (a.0, b.0, leb-false 16384 (fin.len net.ports) c.0)

  pub port_deletable : (port : PortName) → refusal_of (DelPort port) net ≡ None → (has_port port net ≡ true) × (is_plugged port net ≡ false)
  port_deletable port h = let a = port_there port _ h in let b = passed _ _ _ a.1 in (a.0, b.0)

  pub lan_addable : (lan : List ℕ) → refusal_of (AddLan lan) net ≡ None → (has_lan lan net ≡ false) × (fin.len net.lans < 8192)
  lan_addable lan h = let a = passed _ _ _ h in let b = passed _ _ _ a.1 in (a.0, leb-false 8192 (fin.len net.lans) b.0)

  pub lan_deletable : (lan : List ℕ) → refusal_of (DelLan lan) net ≡ None → (has_lan lan net ≡ true) × (some_port (is_in_lan lan) net ≡ false)
  lan_deletable lan h = let a = lan_there lan _ h in let b = passed _ _ _ a.1 in (a.0, b.0)

  pub port_pluggable : (port : PortName) (lan : List ℕ) → refusal_of (Plug port lan) net ≡ None → (has_port port net ≡ true) × (has_lan lan net ≡ true) × (is_plugged port net ≡ false)
  port_pluggable port lan h = let a = port_there port _ h in let b = lan_there lan _ a.1 in let c = passed _ _ _ b.1 in (a.0, b.0, c.0)

  pub port_unpluggable : (port : PortName) → refusal_of (Unplug port) net ≡ None → (row : PortRow) × (fin.get net.ports port ≡ Some row) × (is_some row.lan ≡ true)
  port_unpluggable port h = let a = port_there port _ h in let b = passed _ _ _ a.1 in plugged_row (λ row. is_some row.lan) (fin.get net.ports port) b.0

  pub vids_mappable : (bridge : List ℕ) (tree : ℕ) (vids : List Bool) → refusal_of (SetByTree (Table bridge tree vids)) net ≡ None → (has_bridge bridge net ≡ true) × (tree_count (mapped vids tree (table_of net bridge)) ≤ 64)
  vids_mappable bridge tree vids h =
      let a = bridge_there bridge _ h in let b = passed _ _ _ a.1 in
      let few = ltb-false 64 (tree_count (mapped vids tree (table_of net bridge))) b.0 in
      (a.0, omega arith)

pub no_network : IsNetwork empty_net
no_network = record {
  bridges = record {
    named = λ a x h. absurd (no_some x (sym (get-empty name_cmp a) ∙ h));
    macs_differ = λ a b x y h i same. absurd (no_some x (sym (get-empty name_cmp a) ∙ h));
    mac_fits = λ a x h. absurd (no_some x (sym (get-empty name_cmp a) ∙ h));
    names_fit = λ a x h. absurd (no_some x (sym (get-empty name_cmp a) ∙ h));
    sixteen_bits = λ a x h. absurd (no_some x (sym (get-empty name_cmp a) ∙ h));
    limits_fit = λ a x h. absurd (no_some x (sym (get-empty name_cmp a) ∙ h));
    few = omega (arith, len-empty name_cmp BridgeRow);
  };
  lans = record {
    named = λ l x h. absurd (no_some x (sym (get-empty name_cmp l) ∙ h));
    speed_fits = λ l x h. absurd (no_some x (sym (get-empty name_cmp l) ∙ h));
    few = omega (arith, len-empty name_cmp LanRow);
  };
  ports = record {
    has_bridge = λ p x h. absurd (no_some x (sym (get-empty port_cmp p) ∙ h));
    number_fits = λ p x h. absurd (no_some x (sym (get-empty port_cmp p) ∙ h));
    key_fits = λ p x h. absurd (no_some x (sym (get-empty port_cmp p) ∙ h));
    has_lan = λ p x lan h i. absurd (no_some x (sym (get-empty port_cmp p) ∙ h));
    cost_fits = λ p x cost h i. absurd (no_some x (sym (get-empty port_cmp p) ∙ h));
    few = omega (arith, len-empty port_cmp PortRow);
  };
  priorities = λ k n h. absurd (no_some n (sym (get-empty bridge_tree_cmp k) ∙ h));
  port_priorities = λ k n h. absurd (no_some n (sym (get-empty port_tree_cmp k) ∙ h));
  port_costs = λ k n h. absurd (no_some n (sym (get-empty port_tree_cmp k) ∙ h));
  tables = λ a t h. absurd (no_some t (sym (get-empty name_cmp a) ∙ h));
  vlans = λ p v h. absurd (no_some v (sym (get-empty port_cmp p) ∙ h));
}

-- a priority that is kept isn't the default
own_fits : (priority n : ℕ) → priority ≤ 15 → own_priority priority ≡ Some n → IsOwnPriority n
own_fits priority n fits h = by (nat_eq priority 8) refl h
  where
    by : (t : Bool) → nat_eq priority 8 ≡ t → (if t then None else Some priority) ≡ Some n → IsOwnPriority n
    by true e h = absurd (no_some n h)
    by false e h =
        let same : priority ≡ n = some_is priority n h in
        (subst (λ m. m ≤ 15) same fits, λ eight. true≢false (sym ((unsigned_Decides priority 8).1 (same ∙ eight)) ∙ e))

-- what is kept of a value is the value, and isn't a default
kept_is : {X : Type 0} (t : Bool) (x y : X) → (if t then None else Some x) ≡ Some y → (x ≡ y) × (t ≡ false)
kept_is true x y h = absurd (no_some y h)
kept_is false x y h = (some_is x y h, refl)

-- a table that is kept, or the default
table_fits : (o : Option (List ℕ)) → ForSome o (λ t. AllByRecursion (λ tree. tree ≤ 4094) t) → AllByRecursion (λ tree. tree ≤ 4094) (unwrap_or o no_table)
table_fits None h = no_table_fits
table_fits (Some t) h = h t refl

-- no port passes a test that finds none
none_passes : (test : PortName → PortRow → Bool) (net : Net) → some_port test net ≡ false → (p : PortName) (x : PortRow) → fin.get net.ports p ≡ Some x → test p x ≡ false
none_passes test net none p x there = by (test p x) refl
  where
    by : (t : Bool) → test p x ≡ t → test p x ≡ false
    by true e = absurd (none_counted ports test net.ports none p x there e)
    by false e = e

-- ---- what stays true of the records
-- what changes leave of a bridge's settings
pub record Kept (new old : BridgeRow) : Type 0 where
  pub mac : new.mac ≡ old.mac
  pub name : IsTrue (is_conf_name old.conf_name) → IsTrue (is_conf_name new.conf_name)
  pub sixteen_bits : (old.system_priority < 2 ^ 16) × (old.revision < 2 ^ 16) → (new.system_priority < 2 ^ 16) × (new.revision < 2 ^ 16)
  pub limits : IsLimit old.max_hops × IsLimit old.max_age → IsLimit new.max_hops × IsLimit new.max_age

unchanged : (row : BridgeRow) → Kept row row
unchanged row = record { mac = refl; name = λ h. h; sixteen_bits = λ h. h; limits = λ h. h }

-- of each change of a bridge
pub bridge_kept : (change : BridgeChange) → BridgeFits change → (row : BridgeRow) → Kept (bridge_with change row) row
bridge_kept (Power power) fits row = record { mac = refl; name = λ h. h; sixteen_bits = λ h. h; limits = λ h. h }
bridge_kept (Kind kind) fits row = record { mac = refl; name = λ h. h; sixteen_bits = λ h. h; limits = λ h. h }
bridge_kept (SystemPriority priority) fits row = record { mac = refl; name = λ h. h; sixteen_bits = λ h. (fits, h.1); limits = λ h. h }
bridge_kept (Configuration revision name) fits row = record { mac = refl; name = λ _. fits.1; sixteen_bits = λ h. (h.0, fits.0); limits = λ h. h }
bridge_kept (MaxHops limit) fits row = record { mac = refl; name = λ h. h; sixteen_bits = λ h. h; limits = λ h. (fits, h.1) }
bridge_kept (MaxAge limit) fits row = record { mac = refl; name = λ h. h; sixteen_bits = λ h. h; limits = λ h. (h.0, fits) }

bridges_changed : (bridges : FinMap name_cmp BridgeRow) (bridge : List ℕ) (f : BridgeRow → BridgeRow) → ((row : BridgeRow) → fin.get bridges bridge ≡ Some row → Kept (f row) row) → AreBridges bridges → AreBridges (change bridges bridge f)
bridges_changed bridges bridge f kept are =
    let from = changed_from names Kept unchanged bridges bridge f kept in
    record {
      named = λ a x h. let p = from a x h in are.named a p.0 p.1;
      macs_differ = λ a b x y h i same. let p = from a x h in let q = from b y i in are.macs_differ a b p.0 q.0 p.1 q.1 (sym p.2.mac ∙ same ∙ q.2.mac);
      mac_fits = λ a x h. let p = from a x h in subst (λ n. n < 2 ^ 48) (sym p.2.mac) (are.mac_fits a p.0 p.1);
      names_fit = λ a x h. let p = from a x h in p.2.name (are.names_fit a p.0 p.1);
      sixteen_bits = λ a x h. let p = from a x h in p.2.sixteen_bits (are.sixteen_bits a p.0 p.1);
      limits_fit = λ a x h. let p = from a x h in p.2.limits (are.limits_fit a p.0 p.1);
      few = omega (arith, len_changed names bridges bridge f, are.few);
    }

bridges_left : (bridges : FinMap name_cmp BridgeRow) (bridge : List ℕ) → AreBridges bridges → AreBridges (fin.remove bridges bridge)
bridges_left bridges bridge are =
    let from : (a : List ℕ) (x : BridgeRow) → fin.get (fin.remove bridges bridge) a ≡ Some x → fin.get bridges a ≡ Some x = λ a x h. (left_of names bridges bridge a x h).1 in
    record {
      named = λ a x h. are.named a x (from a x h);
      macs_differ = λ a b x y h i. are.macs_differ a b x y (from a x h) (from b y i);
      mac_fits = λ a x h. are.mac_fits a x (from a x h);
      names_fit = λ a x h. are.names_fit a x (from a x h);
      sixteen_bits = λ a x h. are.sixteen_bits a x (from a x h);
      limits_fit = λ a x h. are.limits_fit a x (from a x h);
      few = omega (arith, len_removed names bridges bridge, are.few);
    }

bridges_added : (bridges : FinMap name_cmp BridgeRow) (bridge : List ℕ) (mac : ℕ) → IsName bridge → mac < 2 ^ 48 → ((a : List ℕ) (x : BridgeRow) → fin.get bridges a ≡ Some x → x.mac ≡ mac → ⊥) → fin.contains_key bridges bridge ≡ false
    → fin.len bridges < 1024 → AreBridges bridges → AreBridges (fin.insert bridges bridge (new_bridge mac))
bridges_added bridges bridge mac named fits free absent room are =
    let was = after_insert names bridges bridge (new_bridge mac) in
    record {
      named = λ a x h. elim (was a x h) [ inl p ↦ subst IsName p.0 named | inr p ↦ are.named a x p ];
      macs_differ = λ a b x y h i same. elim (was a x h) [
        | inl p ↦ elim (was b y i) [
          | inl q ↦ sym p.0 ∙ q.0
          | inr q ↦ absurd (free b y q (sym same ∙ ap (λ (r : BridgeRow). r.mac) (sym p.1)))
        ]
        | inr p ↦ elim (was b y i) [
          | inl q ↦ absurd (free a x p (same ∙ ap (λ (r : BridgeRow). r.mac) (sym q.1)))
          | inr q ↦ are.macs_differ a b x y p q same
        ]
      ];
      mac_fits = λ a x h. elim (was a x h) [
        | inl p ↦ subst (λ (r : BridgeRow). r.mac < 2 ^ 48) p.1 fits
        | inr p ↦ are.mac_fits a x p
      ];
      names_fit = λ a x h. elim (was a x h) [
        | inl p ↦ subst (λ (r : BridgeRow). IsTrue (is_conf_name r.conf_name)) p.1 (is_conf_name-mac_text mac fits)
        | inr p ↦ are.names_fit a x p
      ];
      sixteen_bits = λ a x h. elim (was a x h) [
        | inl p ↦ subst (λ (r : BridgeRow). (r.system_priority < 2 ^ 16) × (r.revision < 2 ^ 16)) p.1 (omega arith, omega arith)
        | inr p ↦ are.sixteen_bits a x p
      ];
      limits_fit = λ a x h. elim (was a x h) [
        | inl p ↦ subst (λ (r : BridgeRow). IsLimit r.max_hops × IsLimit r.max_age) p.1 ((omega arith, omega arith), (omega arith, omega arith))
        | inr p ↦ are.limits_fit a x p
      ];
      few = omega (arith, len_added names bridges bridge (new_bridge mac) absent, room);
    }

lans_changed : (lans : FinMap name_cmp LanRow) (lan : List ℕ) (f : LanRow → LanRow) → ((row : LanRow) → fin.get lans lan ≡ Some row → (1 ≤ row.speed) × (row.speed ≤ 9_999_999_999) → (1 ≤ (f row).speed) × ((f row).speed ≤ 9_999_999_999)) → AreLans lans → AreLans (change lans lan f)
lans_changed lans lan f fits are = record {
  named = λ l x h. let p = changed_from names (λ (new old : LanRow). ⊤) (λ _. tt) lans lan f (λ _ _. tt) l x h in are.named l p.0 p.1;
  speed_fits = λ l x h.
      let p = changed_from names (λ (new old : LanRow). (1 ≤ old.speed) × (old.speed ≤ 9_999_999_999) → (1 ≤ new.speed) × (new.speed ≤ 9_999_999_999)) (λ row h. h) lans lan f fits l x h in
      p.2 (are.speed_fits l p.0 p.1);
  few = omega (arith, len_changed names lans lan f, are.few);
}

lans_left : (lans : FinMap name_cmp LanRow) (lan : List ℕ) → AreLans lans → AreLans (fin.remove lans lan)
lans_left lans lan are = record {
  named = λ l x h. are.named l x (left_of names lans lan l x h).1;
  speed_fits = λ l x h. are.speed_fits l x (left_of names lans lan l x h).1;
  few = omega (arith, len_removed names lans lan, are.few);
}

lans_added : (lans : FinMap name_cmp LanRow) (lan : List ℕ) → IsName lan → fin.contains_key lans lan ≡ false → fin.len lans < 8192 → AreLans lans → AreLans (fin.insert lans lan new_lan)
lans_added lans lan named absent room are = record {
  named = λ l x h. elim (after_insert names lans lan new_lan l x h) [ inl q ↦ subst IsName q.0 named | inr q ↦ are.named l x q ];
  speed_fits = λ l x h. elim (after_insert names lans lan new_lan l x h) [
    | inl q ↦ subst (λ (r : LanRow). (1 ≤ r.speed) × (r.speed ≤ 9_999_999_999)) q.1 (omega arith, omega arith)
    | inr q ↦ are.speed_fits l x q
  ];
  few = omega (arith, len_added names lans lan new_lan absent, room);
}

-- a speed that a change of a LAN leaves or sets
speed_kept : (change : LanChange) → LanFits change → (row : LanRow) → (1 ≤ row.speed) × (row.speed ≤ 9_999_999_999) → (1 ≤ (lan_with change row).speed) × ((lan_with change row).speed ≤ 9_999_999_999)
speed_kept (State state) fits row h = h
speed_kept (Speed speed) fits row h = fits

-- what a change of a port leaves of its settings
pub record SettingsKept (new old : PortSettings) : Type 0 where
  pub key : old.key < 2 ^ 16 → new.key < 2 ^ 16
  pub cost : (c : ℕ) → new.external ≡ Some c → (old.external ≡ Some c) ⊎ IsPathCost c

settings_kept : (change : PortChange) → PortFits change → (s : PortSettings) → SettingsKept (settings_with change s) s
settings_kept (Key key) fits s = record { key = λ _. fits; cost = λ c e. inl e }
settings_kept (PathCost cost) fits s = record { key = λ h. h; cost = λ c e. inr (fits c e) }
settings_kept (RestrictedRole restricted) fits s = record { key = λ h. h; cost = λ c e. inl e }

module _ (bridges : FinMap name_cmp BridgeRow) (lans : FinMap name_cmp LanRow) where
  -- what changes leave of a port's settings: it is in a LAN that is there, or where it was
  pub record PortKept (new old : PortRow) : Type 0 where
    pub settings : SettingsKept new.settings old.settings
    pub lan : (l : List ℕ) → new.lan ≡ Some l → (old.lan ≡ Some l) ⊎ (fin.contains_key lans l ≡ true)

  ports_changed : (table : FinMap port_cmp PortRow) (port : PortName) (f : PortRow → PortRow) → ((row : PortRow) → fin.get table port ≡ Some row → PortKept (f row) row) → ArePorts bridges lans table → ArePorts bridges lans (change table port f)
  ports_changed table port f kept are =
      let from = changed_from ports PortKept (λ row. record { settings = record { key = λ h. h; cost = λ c h. inl h }; lan = λ l h. inl h }) table port f kept in
      record {
        has_bridge = λ p x h. let q = from p x h in are.has_bridge p q.0 q.1;
        number_fits = λ p x h. let q = from p x h in are.number_fits p q.0 q.1;
        key_fits = λ p x h. let q = from p x h in q.2.settings.key (are.key_fits p q.0 q.1);
        has_lan = λ p x l h i. let q = from p x h in elim (q.2.lan l i) [ inl was ↦ are.has_lan p q.0 l q.1 was | inr there ↦ there ];
        cost_fits = λ p x c h i. let q = from p x h in elim (q.2.settings.cost c i) [ inl was ↦ are.cost_fits p q.0 c q.1 was | inr fits ↦ fits ];
        few = omega (arith, len_changed ports table port f, are.few);
      }

  ports_left : (table : FinMap port_cmp PortRow) (port : PortName) → ArePorts bridges lans table → ArePorts bridges lans (fin.remove table port)
  ports_left table port are =
      let from : (p : PortName) (x : PortRow) → fin.get (fin.remove table port) p ≡ Some x → fin.get table p ≡ Some x = λ p x h. (left_of ports table port p x h).1 in
      record {
        has_bridge = λ p x h. are.has_bridge p x (from p x h);
        number_fits = λ p x h. are.number_fits p x (from p x h);
        key_fits = λ p x h. are.key_fits p x (from p x h);
        has_lan = λ p x l h. are.has_lan p x l (from p x h);
        cost_fits = λ p x c h. are.cost_fits p x c (from p x h);
        few = omega (arith, len_removed ports table port, are.few);
      }

  ports_added : (table : FinMap port_cmp PortRow) (port : PortName) → (1 ≤ port.number) × (port.number ≤ 4095) → fin.contains_key bridges port.bridge ≡ true → fin.contains_key table port ≡ false → fin.len table < 16384
      → ArePorts bridges lans table → ArePorts bridges lans (fin.insert table port new_port)
  ports_added table port fits there absent room are =
      let was = after_insert ports table port new_port in
      record {
        has_bridge = λ p x h. elim (was p x h) [
          | inl q ↦ subst (λ (p : PortName). fin.contains_key bridges p.bridge ≡ true) q.0 there
          | inr q ↦ are.has_bridge p x q
        ];
        number_fits = λ p x h. elim (was p x h) [
          | inl q ↦ subst (λ (p : PortName). (1 ≤ p.number) × (p.number ≤ 4095)) q.0 fits
          | inr q ↦ are.number_fits p x q
        ];
        key_fits = λ p x h. elim (was p x h) [
          | inl q ↦ subst (λ (r : PortRow). r.settings.key < 2 ^ 16) q.1 (omega arith)
          | inr q ↦ are.key_fits p x q
        ];
        has_lan = λ p x l h i. elim (was p x h) [
          | inl q ↦ absurd (no_some l (ap (λ (r : PortRow). r.lan) q.1 ∙ i))
          | inr q ↦ are.has_lan p x l q i
        ];
        cost_fits = λ p x c h i. elim (was p x h) [
          | inl q ↦ absurd (no_some c (ap (λ (r : PortRow). r.settings.external) q.1 ∙ i))
          | inr q ↦ are.cost_fits p x c q i
        ];
        few = omega (arith, len_added ports table port new_port absent, room);
      }

module _ (net : Net) (is : IsNetwork net) where
  -- ---- other bridges, ports or LANs, in which those that were there still are
  with_bridges : (bridges : FinMap name_cmp BridgeRow) → ((a : List ℕ) → has_bridge a net ≡ true → fin.contains_key bridges a ≡ true) → AreBridges bridges → IsNetwork (record net { bridges = bridges })
  with_bridges bridges still are = record {
    bridges = are;
    lans = is.lans;
    ports = record {
      has_bridge = λ p x h. still p.bridge (is.ports.has_bridge p x h);
      number_fits = is.ports.number_fits;
      key_fits = is.ports.key_fits;
      has_lan = is.ports.has_lan;
      cost_fits = is.ports.cost_fits;
      few = is.ports.few;
    };
    priorities = λ k n h. let was = is.priorities k n h in (still k.bridge was.0, was.1, was.2);
    port_priorities = is.port_priorities;
    port_costs = is.port_costs;
    tables = λ a t h. let was = is.tables a t h in (still a was.0, was.1, was.2);
    vlans = is.vlans;
  }

  with_ports : (table : FinMap port_cmp PortRow) → ((p : PortName) → has_port p net ≡ true → fin.contains_key table p ≡ true) → ArePorts net.bridges net.lans table → IsNetwork (record net { ports = table })
  with_ports table still are = record {
    bridges = is.bridges;
    lans = is.lans;
    ports = are;
    priorities = is.priorities;
    port_priorities = λ k n h. let was = is.port_priorities k n h in (still k.port was.0, was.1, was.2);
    port_costs = λ k n h. let was = is.port_costs k n h in (still k.port was.0, was.1, was.2);
    tables = is.tables;
    vlans = λ p v h. let was = is.vlans p v h in (still p was.0, was.1, was.2);
  }

  with_lans : (lans : FinMap name_cmp LanRow) → ((p : PortName) (x : PortRow) (l : List ℕ) → fin.get net.ports p ≡ Some x → x.lan ≡ Some l → fin.contains_key lans l ≡ true) → AreLans lans → IsNetwork (record net { lans = lans })
  with_lans lans there are = record {
    bridges = is.bridges;
    lans = are;
    ports = record { has_bridge = is.ports.has_bridge; number_fits = is.ports.number_fits; key_fits = is.ports.key_fits; has_lan = there; cost_fits = is.ports.cost_fits; few = is.ports.few };
    priorities = is.priorities;
    port_priorities = is.port_priorities;
    port_costs = is.port_costs;
    tables = is.tables;
    vlans = is.vlans;
  }

  -- ---- other settings of a bridge, a port or a LAN
  pub bridge_changed : (bridge : List ℕ) (f : BridgeRow → BridgeRow) → ((row : BridgeRow) → fin.get net.bridges bridge ≡ Some row → Kept (f row) row) → IsNetwork (change_bridge bridge f net)
  bridge_changed bridge f kept = with_bridges (change net.bridges bridge f) (λ a h. contains_changed names net.bridges bridge f a ∙ h) (bridges_changed net.bridges bridge f kept is.bridges)

  pub port_changed : (port : PortName) (f : PortRow → PortRow) → ((row : PortRow) → fin.get net.ports port ≡ Some row → PortKept net.bridges net.lans (f row) row) → IsNetwork (change_port port f net)
  port_changed port f kept = with_ports (change net.ports port f) (λ p h. contains_changed ports net.ports port f p ∙ h) (ports_changed net.bridges net.lans net.ports port f kept is.ports)

  pub lan_changed : (lan : List ℕ) (f : LanRow → LanRow) → ((row : LanRow) → fin.get net.lans lan ≡ Some row → (1 ≤ row.speed) × (row.speed ≤ 9_999_999_999) → (1 ≤ (f row).speed) × ((f row).speed ≤ 9_999_999_999)) → IsNetwork (change_lan lan f net)
  lan_changed lan f fits = with_lans (change net.lans lan f) (λ p x l h i. contains_changed names net.lans lan f l ∙ is.ports.has_lan p x l h i) (lans_changed net.lans lan f fits is.lans)

  -- ---- records that are taken away
  bridge_left : (bridge : List ℕ) → some_port (is_of_bridge bridge) net ≡ false → IsNetwork (effect (DelBridge bridge) net)
  bridge_left bridge none =
      let still : (a : List ℕ) → name_eq bridge a ≡ false → has_bridge a net ≡ true → fin.contains_key (fin.remove net.bridges bridge) a ≡ true = λ a other there. ap is_some (other_left names net.bridges bridge a other) ∙ there in
      record {
        bridges = bridges_left net.bridges bridge is.bridges;
        lans = is.lans;
        ports = record {
          has_bridge = λ p x h. still p.bridge (none_passes (is_of_bridge bridge) net none p x h) (is.ports.has_bridge p x h);
          number_fits = is.ports.number_fits;
          key_fits = is.ports.key_fits;
          has_lan = is.ports.has_lan;
          cost_fits = is.ports.cost_fits;
          few = is.ports.few;
        };
        priorities = λ k n h. let was = left_without bridge_trees net.priorities (λ k. name_eq bridge k.bridge) k n h in let fits = is.priorities k n was.1 in (still k.bridge was.0 fits.0, fits.1, fits.2);
        port_priorities = is.port_priorities;
        port_costs = is.port_costs;
        tables = λ a t h. let was = left_of names net.tables bridge a t h in let fits = is.tables a t was.1 in (still a was.0 fits.0, fits.1, fits.2);
        vlans = is.vlans;
      }

  port_left : (port : PortName) → IsNetwork (effect (DelPort port) net)
  port_left port =
      let still : (p : PortName) → port_eq port p ≡ false → has_port p net ≡ true → fin.contains_key (fin.remove net.ports port) p ≡ true = λ p other there. ap is_some (other_left ports net.ports port p other) ∙ there in
      record {
        bridges = is.bridges;
        lans = is.lans;
        ports = ports_left net.bridges net.lans net.ports port is.ports;
        priorities = is.priorities;
        port_priorities = λ k n h. let was = left_without port_trees net.port_priorities (λ k. port_eq port k.port) k n h in let fits = is.port_priorities k n was.1 in (still k.port was.0 fits.0, fits.1, fits.2);
        port_costs = λ k n h. let was = left_without port_trees net.port_costs (λ k. port_eq port k.port) k n h in let fits = is.port_costs k n was.1 in (still k.port was.0 fits.0, fits.1, fits.2);
        tables = is.tables;
        vlans = λ p v h. let was = left_of ports net.vlans port p v h in let fits = is.vlans p v was.1 in (still p was.0 fits.0, fits.1, fits.2);
      }

  lan_left : (lan : List ℕ) → some_port (is_in_lan lan) net ≡ false → IsNetwork (effect (DelLan lan) net)
  lan_left lan none = with_lans (fin.remove net.lans lan)
      (λ p x l h i. ap is_some (other_left names net.lans lan l (ap (λ o. option_map_or (name_eq lan) o false) (sym i) ∙ none_passes (is_in_lan lan) net none p x h)) ∙ is.ports.has_lan p x l h i)
      (lans_left net.lans lan is.lans)

  free : (mac : ℕ) → mac_taken mac net ≡ false → (a : List ℕ) (x : BridgeRow) → fin.get net.bridges a ≡ Some x → x.mac ≡ mac → ⊥
  free mac none a x there same = true≢false (sym (any_value names (λ b. nat_eq b.mac mac) net.bridges a x there ((unsigned_Decides x.mac mac).1 same)) ∙ none)

  -- ---- what is set by tree or VID
  priority_set : (k : BridgeTree) (priority : ℕ) → (k.tree ≤ 4094) × (priority ≤ 15) → has_bridge k.bridge net ≡ true → IsNetwork (record net { priorities = keep net.priorities k (own_priority priority) })
  priority_set k priority fits there = record {
    bridges = is.bridges;
    lans = is.lans;
    ports = is.ports;
    priorities = λ q n h. elim (after_keep bridge_trees net.priorities k (own_priority priority) q n h) [
      | inl p ↦ (subst (λ (b : BridgeTree). has_bridge b.bridge net ≡ true) p.0 there, subst (λ (b : BridgeTree). b.tree ≤ 4094) p.0 fits.0, own_fits priority n fits.1 p.1)
      | inr p ↦ is.priorities q n p
    ];
    port_priorities = is.port_priorities;
    port_costs = is.port_costs;
    tables = is.tables;
    vlans = is.vlans;
  }

  port_priority_set : (k : PortTree) (priority : ℕ) → (k.tree ≤ 4094) × (priority ≤ 15) → has_port k.port net ≡ true → IsNetwork (record net { port_priorities = keep net.port_priorities k (own_priority priority) })
  port_priority_set k priority fits there = record {
    bridges = is.bridges;
    lans = is.lans;
    ports = is.ports;
    priorities = is.priorities;
    port_priorities = λ q n h. elim (after_keep port_trees net.port_priorities k (own_priority priority) q n h) [
      | inl p ↦ (subst (λ (b : PortTree). has_port b.port net ≡ true) p.0 there, subst (λ (b : PortTree). b.tree ≤ 4094) p.0 fits.0, own_fits priority n fits.1 p.1)
      | inr p ↦ is.port_priorities q n p
    ];
    port_costs = is.port_costs;
    tables = is.tables;
    vlans = is.vlans;
  }

  port_cost_set : (k : PortTree) (cost : Option ℕ) → (k.tree ≤ 4094) × ForSome cost IsPathCost → has_port k.port net ≡ true → IsNetwork (record net { port_costs = keep net.port_costs k cost })
  port_cost_set k cost fits there = record {
    bridges = is.bridges;
    lans = is.lans;
    ports = is.ports;
    priorities = is.priorities;
    port_priorities = is.port_priorities;
    port_costs = λ q n h. elim (after_keep port_trees net.port_costs k cost q n h) [
      | inl p ↦ (subst (λ (b : PortTree). has_port b.port net ≡ true) p.0 there, subst (λ (b : PortTree). b.tree ≤ 4094) p.0 fits.0, fits.1 n p.1)
      | inr p ↦ is.port_costs q n p
    ];
    tables = is.tables;
    vlans = is.vlans;
  }

  table_set : (bridge table : List ℕ) → IsTable table → has_bridge bridge net ≡ true → IsNetwork (record net { tables = keep net.tables bridge (own_table table) })
  table_set bridge table fits there = record {
    bridges = is.bridges;
    lans = is.lans;
    ports = is.ports;
    priorities = is.priorities;
    port_priorities = is.port_priorities;
    port_costs = is.port_costs;
    tables = λ a t h. elim (after_keep names net.tables bridge (own_table table) a t h) [
      | inl p ↦
          let kept = kept_is _ table t p.1 in
          (subst (λ (b : List ℕ). has_bridge b net ≡ true) p.0 there, subst IsTable kept.0 fits, subst (λ t. list_all (λ tree. tree == 0) t ≡ false) kept.0 kept.1)
      | inr p ↦ is.tables a t p
    ];
    vlans = is.vlans;
  }

  vlans_set : (port : PortName) (vids : List Bool) → IsVidSet vids → has_port port net ≡ true → IsNetwork (record net { vlans = keep net.vlans port (own_vlans vids) })
  vlans_set port vids fits there = record {
    bridges = is.bridges;
    lans = is.lans;
    ports = is.ports;
    priorities = is.priorities;
    port_priorities = is.port_priorities;
    port_costs = is.port_costs;
    tables = is.tables;
    vlans = λ p v h. elim (after_keep ports net.vlans port (own_vlans vids) p v h) [
      | inl q ↦
          let kept = kept_is _ vids v q.1 in
          (subst (λ (p : PortName). has_port p net ≡ true) q.0 there, subst IsVidSet kept.0 fits, subst (λ v. pointwise beq v all_vids ≡ false) kept.0 kept.1)
      | inr q ↦ is.vlans p v q
    ];
  }

  -- ---- any edit whose values are in their ranges and that nothing refuses
  pub effect_is_network : (edit : Edit) → InRange edit → refusal_of edit net ≡ None → IsNetwork (effect edit net)
  effect_is_network (AddBridge bridge mac) fits h =
      let ok = bridge_addable net bridge mac h in
      with_bridges (fin.insert net.bridges bridge (new_bridge mac)) (still_there names net.bridges bridge (new_bridge mac)) (bridges_added net.bridges bridge mac fits.names fits.values (free mac ok.1) ok.0 ok.2 is.bridges)
  effect_is_network (DelBridge bridge) fits h = bridge_left bridge (bridge_deletable net bridge h).1
  effect_is_network (SetBridge bridge change) fits h = bridge_changed bridge (bridge_with change) (λ row _. bridge_kept change fits.values row)
  effect_is_network (AddPort port) fits h =
      let ok = port_addable net port h in
      with_ports (fin.insert net.ports port new_port) (still_there ports net.ports port new_port) (ports_added net.bridges net.lans net.ports port (fits.names.1, fits.names.2) ok.0 ok.1 ok.2 is.ports)
  effect_is_network (DelPort port) fits h = port_left port
  effect_is_network (AddLan lan) fits h =
      let ok = lan_addable net lan h in
      with_lans (fin.insert net.lans lan new_lan) (λ p x l there in_it. still_there names net.lans lan new_lan l (is.ports.has_lan p x l there in_it)) (lans_added net.lans lan fits.names ok.0 ok.1 is.lans)
  effect_is_network (DelLan lan) fits h = lan_left lan (lan_deletable net lan h).1
  effect_is_network (SetLan lan change) fits h = lan_changed lan (lan_with change) (λ row _. speed_kept change fits.values row)
  effect_is_network (Plug port lan) fits h = port_changed port (in_lan (Some lan)) (λ row _. record {
    settings = record { key = λ h. h; cost = λ c e. inl e };
    lan = λ l e. inr (subst (λ (l : List ℕ). has_lan l net ≡ true) (some_is lan l e) (port_pluggable net port lan h).1);
  })
  effect_is_network (Unplug port) fits h = port_changed port (in_lan None) (λ row _. record { settings = record { key = λ h. h; cost = λ c e. inl e }; lan = λ l e. absurd (no_some l e) })
  effect_is_network (SetPort port change) fits h = port_changed port (port_with change) (λ row _. record { settings = settings_kept change fits.values row.settings; lan = λ l e. inl e })
  effect_is_network (SetByTree (Priority bridge tree priority)) fits h = priority_set (record { bridge = bridge; tree = tree }) priority fits.values (bridge_there net bridge None h).0
  effect_is_network (SetByTree (PortPriority port tree priority)) fits h = port_priority_set (record { port = port; tree = tree }) priority fits.values (port_there net port None h).0
  effect_is_network (SetByTree (PortCost port tree cost)) fits h = port_cost_set (record { port = port; tree = tree }) cost fits.values (port_there net port None h).0
  effect_is_network (SetByTree (Table bridge tree vids)) fits h =
      let ok = vids_mappable net bridge tree vids h in
      let new = mapped_fits vids tree (table_of net bridge) fits.values.0 (table_fits (fin.get net.tables bridge) (λ t there. (is.tables bridge t there).1.1)) in
      table_set bridge (mapped vids tree (table_of net bridge)) (new.0, new.1, ok.1) ok.0
  effect_is_network (SetByTree (Vlans port vids)) fits h = vlans_set port vids fits.values (port_there net port None h).0

-- ---- edits that are accepted
pub after_accepted : (edit : Edit) (net : Net) → refusal_of edit net ≡ None → after edit net ≡ Ok (effect edit net)
after_accepted edit net h = ap (λ o. option_map_or Err o (Ok (effect edit net))) h

pub accepted_after : (edit : Edit) (net new : Net) → after edit net ≡ Ok new → (refusal_of edit net ≡ None) × (effect edit net ≡ new)
accepted_after edit net new h = by (refusal_of edit net) h
  where
    net_of : Result Net Refusal → Net → Net
    net_of (Ok n) other = n
    net_of (Err e) other = other

    is_fine : Result Net Refusal → Bool
    is_fine (Ok n) = true
    is_fine (Err e) = false

    by : (o : Option Refusal) → option_map_or Err o (Ok (effect edit net)) ≡ Ok new → (o ≡ None) × (effect edit net ≡ new)
    by None h = (refl, ap (λ r. net_of r net) h)
    by (Some r) h = absurd (true≢false (sym (ap is_fine h)))

pub after_is_network : (net : Net) → IsNetwork net → (edit : Edit) (new : Net) → InRange edit → after edit net ≡ Ok new → IsNetwork new
after_is_network net is edit new fits h = let ok = accepted_after edit net new h in subst IsNetwork ok.1 (effect_is_network net is edit fits ok.0)

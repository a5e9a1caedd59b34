-- What comes and is set is refused nowhere: what it needs stands by then, and there is never more than in the new network.
use Rattle.std.proofs.Common.{◌≡◌, ℕ, ◌≤◌, Bool, true, false, cond, not, ◌&&◌, List, [], ◌∷◌, length, Option, Some, None, is_some, nat_eq, refl, sym, ap, ◌∙◌, arith, true≢false, inl, inr}
use Rattle.std.specs.Prelude.{◌==◌, if◌then◌else◌}
use Rattle.std.specs.Bool.{beq}
use Rattle.std.specs.List.{flat_map, AllByRecursion}
use Rattle.std.specs.Option.{option_map, option_map_or}
use Rattle.std.specs.FinMap as fin
use Rattle.std.specs.Cmp.Lexicographic.{pointwise}
use Rattle.std.proofs.lemmas.Bool.{and_parts, eqb-true, lt-leb}
use Rattle.mst_ids.specs.declared.name.PortName.{PortName}
use Rattle.mst_lang.specs.Ranges.{IsName}
use Rattle.mst_lang.specs.declared.line.Edit.{Edit}
use Rattle.mst_lang.specs.declared.line.Edit.TheVariants.{AddBridge, SetBridge, AddPort, SetPort, AddLan, SetLan, Plug, SetByTree}
use Rattle.mst_lang.specs.declared.line.BridgeChange.{BridgeChange}
use Rattle.mst_lang.specs.declared.line.BridgeChange.TheVariants.{Power as PowerOf, Kind as KindOf, SystemPriority, Configuration, MaxHops, MaxAge}
use Rattle.mst_lang.specs.declared.line.LanChange.TheVariants.{State, Speed}
use Rattle.mst_lang.specs.declared.line.TreeChange.TheVariants.{Priority, PortPriority, PortCost, Table, Vlans}
use Rattle.mst_net.specs.tables.declared.refusal.Refusal.TheVariants.{E04, E05, E06, E07, E08, E09, E10, E14}
use Rattle.mst_net.specs.tables.Table.{tree_count}
use Rattle.mst_net.specs.tables.Tables.{Net, IsNetwork, BridgeRow, PortRow, LanRow, IsTable, port_eq}
use Rattle.mst_net.specs.tables.Settings.{kind_of, power_of, state_of}
use Rattle.mst_net.specs.tables.Contents.{priority_of, port_priority_of, port_cost_of}
use Rattle.mst_net.specs.tables.declared.settings.PortSettings.{PortSettings}
use Rattle.mst_lang.specs.declared.line.PortChange.TheVariants.{Key, PathCost, RestrictedRole}
use Rattle.mst_net.specs.tables.After.{effect, refusal_of, first_of, has_bridge, has_port, has_lan, mac_taken, is_plugged, table_of, vlans_of, new_bridge, new_port, new_lan, bridge_with, port_with, lan_with, change_bridge, change_port, change_lan}
use Rattle.mst_net.proofs.tables_lemmas.Keyed.{same_keys, get_inserted, after_insert}
use Rattle.mst_net.proofs.tables_lemmas.Keys.{name_eq, names, ports}
use Rattle.mst_net.proofs.tables_lemmas.Changed.{itself, contains_changed, changed_from, value_found}
use Rattle.mst_net.proofs.tables_lemmas.Somes.{no_some}
use Rattle.mst_edits.specs.Making.{made, Accepted}
use Rattle.mst_edits.specs.Edits.{when, joined, ports_of, in_trees, is_same_cost, is_same_configuration, priority_edits, port_cost_edits, port_priority_edits, port_set, bridge_settings, port_settings, lan_settings, bridge_edits, port_edits, lan_edits, bridge_part, plug_edits, power_settings, power_edits, state_settings, state_edits, going, coming}
use Rattle.mst_edits.proofs.Lists.{all_when, all_map, all_flat, all_as, in_filter, distinct_filter, keys_distinct, keys_hold, all_joined}
use Rattle.mst_edit_laws.proofs.Steps.{steps, Stays}
use Rattle.mst_edit_laws.proofs.Seen.{AtBridge, at_bridge, bridge_step, bridge_made, AtPort, at_port, port_step, port_made, lan_step, lan_made}
use Rattle.mst_edits.proofs.TreesMapped.{few_trees}
use Rattle.mst_edits.specs.Staying.{has_mac, bridge_stays, port_stays, plug_stays, lan_of, bridge_before, settings_before, lan_before, table_before, priority_before, port_priority_before, port_cost_before, vlans_before}
use Rattle.mst_edits.specs.TableLines.{edit_of, with_ways, direct_moves, table_edits}
use Rattle.mst_edit_laws.proofs.Accepting.{Fine, fine_none, fine_append, in_turn, keeps_bridge, keeps_port, keeps_lan, fewer}
use Rattle.mst_edit_laws.proofs.BridgeMade as of_bridge
use Rattle.mst_edit_laws.proofs.PortMade as of_port
use Rattle.mst_edit_laws.proofs.LanMade as of_lan
use Rattle.mst_edit_laws.proofs.Whose.{BridgeEdit, LanEdit, bridge_by_lan, port_by_bridge, port_by_lan, bridges_of, lans_of, all_leave, all_in_trees}
use Rattle.mst_edit_laws.proofs.Plain.{found}

-- ---- lists of edits each of which is fine
all_fine : (I : Net → Type 0) (P : Edit → Type 0) → ((e : Edit) (net : Net) → P e → I net → (refusal_of e net ≡ None) × I (effect e net)) → (es : List Edit) → AllByRecursion P es → (net : Net) → I net → Fine I es net
all_fine I P one [] h net i = fine_none I net i
all_fine I P one (e ∷ es) h net i =
    let first = one e net h.0 i in
    let rest = all_fine I P one es h.1 (effect e net) first.1 in
    record { accepted = (first.0, rest.accepted); kept = rest.kept }

all_kept : (I : Net → Type 0) (P : Edit → Type 0) → ((e : Edit) (net : Net) → P e → I net → I (effect e net)) → (es : List Edit) → AllByRecursion P es → (net : Net) → I net → I (made es net)
all_kept I P one [] h net i = i
all_kept I P one (e ∷ es) h net i = all_kept I P one es h.1 (effect e net) (one e net h.0 i)

fine_so : (I J : Net → Type 0) (es : List Edit) (net : Net) → Fine I es net → ((new : Net) → I new → J new) → Fine J es net
fine_so I J es net fine so = record { accepted = fine.accepted; kept = so (made es net) fine.kept }

-- nine lists one after another: from the fifth on they leave another fact
nine : (I J : Net → Type 0) (a b c d e f g h i : List Edit) (net : Net) → Fine J a net → ((n : Net) → J n → Fine J b n) → ((n : Net) → J n → Fine J c n) → ((n : Net) → J n → Fine J d n) → ((n : Net) → J n → Fine J e n) → ((n : Net) → J n → Fine I f n) → ((n : Net) → I n → Fine I g n) → ((n : Net) → I n → Fine I h n) → ((n : Net) → I n → Fine I i n)
    → Fine I (joined (a ∷ b ∷ c ∷ d ∷ e ∷ f ∷ g ∷ h ∷ i ∷ [])) net
nine I J a b c d e f g h i net x1 x2 x3 x4 x5 x6 x7 x8 x9 =
    fine_append J I a (joined (b ∷ c ∷ d ∷ e ∷ f ∷ g ∷ h ∷ i ∷ [])) net x1 (λ r1. let n1 = made a net in
    fine_append J I b (joined (c ∷ d ∷ e ∷ f ∷ g ∷ h ∷ i ∷ [])) n1 (x2 n1 r1) (λ r2. let n2 = made b n1 in
    fine_append J I c (joined (d ∷ e ∷ f ∷ g ∷ h ∷ i ∷ [])) n2 (x3 n2 r2) (λ r3. let n3 = made c n2 in
    fine_append J I d (joined (e ∷ f ∷ g ∷ h ∷ i ∷ [])) n3 (x4 n3 r3) (λ r4. let n4 = made d n3 in
    fine_append J I e (joined (f ∷ g ∷ h ∷ i ∷ [])) n4 (x5 n4 r4) (λ r5. let n5 = made e n4 in
    fine_append I I f (joined (g ∷ h ∷ i ∷ [])) n5 (x6 n5 r5) (λ r6. let n6 = made f n5 in
    fine_append I I g (joined (h ∷ i ∷ [])) n6 (x7 n6 r6) (λ r7. let n7 = made g n6 in
    fine_append I I h (joined (i ∷ [])) n7 (x8 n7 r7) (λ r8. let n8 = made h n7 in
    fine_append I I i [] n8 (x9 n8 r8) (λ r9. fine_none I (made i n8) r9)))))))))

bridge_named : (net : Net) (b : List ℕ) → has_bridge b net ≡ true → first_of ((not (has_bridge b net), E04) ∷ []) ≡ None
bridge_named net b there = ap (λ t. first_of ((not t, E04) ∷ [])) there

port_named : (net : Net) (p : PortName) → has_bridge p.bridge net ≡ true → has_port p net ≡ true → first_of ((not (has_bridge p.bridge net), E04) ∷ (not (has_port p net), E05) ∷ []) ≡ None
port_named net p home there = λ i. first_of ((not (home i), E04) ∷ (not (there i), E05) ∷ [])

lan_named : (net : Net) (l : List ℕ) → has_lan l net ≡ true → first_of ((not (has_lan l net), E06) ∷ []) ≡ None
lan_named net l there = ap (λ t. first_of ((not t, E06) ∷ [])) there

mac_stays : (change : BridgeChange) (row : BridgeRow) → (bridge_with change row).mac ≡ row.mac
mac_stays (PowerOf power) row = refl
mac_stays (KindOf kind) row = refl
mac_stays (SystemPriority priority) row = refl
mac_stays (Configuration revision name) row = refl
mac_stays (MaxHops limit) row = refl
mac_stays (MaxAge limit) row = refl

-- settings of a bridge beside its table, and lines of the table
abbrev BridgeSets : List ℕ → Edit → Type 0
BridgeSets b (SetBridge bridge change) = bridge ≡ b
BridgeSets b (SetByTree (Priority bridge tree priority)) = bridge ≡ b
BridgeSets b _ = ⊥

-- settings of a port, and of a LAN
abbrev PortSets : PortName → Edit → Type 0
PortSets p (SetPort port change) = port ≡ p
PortSets p (SetByTree (PortPriority port tree priority)) = port ≡ p
PortSets p (SetByTree (PortCost port tree cost)) = port ≡ p
PortSets p (SetByTree (Vlans port vids)) = port ≡ p
PortSets p _ = ⊥

abbrev LanSets : List ℕ → Edit → Type 0
LanSets l (SetLan lan change) = lan ≡ l
LanSets l _ = ⊥

abbrev MapsVids : Edit → Type 0
MapsVids (SetByTree (Table bridge tree vids)) = Unit {0}
MapsVids _ = ⊥

abbrev all_but_first : List (List Edit) → List (List Edit)
all_but_first [] = []
all_but_first (es ∷ ess) = ess

-- no line of a table is refused
abbrev pub TableRoom : Type 0
TableRoom = (k before after : List ℕ) (net : Net) → IsName k → length before ≡ 4094 → tree_count before ≤ 64 → IsTable after → has_bridge k net ≡ true → table_of net k ≡ before → Accepted (table_edits k before after) net

module _ (b : Net) (is_b : IsNetwork b) where
  -- a network whose records are all in the new one
  record Within (net : Net) : Type 0 where
    bridges : (q : List ℕ) (x : BridgeRow) → fin.get net.bridges q ≡ Some x → (y : BridgeRow) × (fin.get b.bridges q ≡ Some y) × (y.mac ≡ x.mac)
    ports : (q : PortName) → has_port q net ≡ true → has_port q b ≡ true
    lans : (q : List ℕ) → has_lan q net ≡ true → has_lan q b ≡ true

  module _ (net : Net) (w : Within net) where
    set_by_tree : (new : Net) → new.bridges ≡ net.bridges → new.ports ≡ net.ports → new.lans ≡ net.lans → Within new
    set_by_tree new x y z = record {
      bridges = λ q r h. w.bridges q r (ap (λ m. fin.get m q) (sym x) ∙ h);
      ports = λ q h. w.ports q (ap (λ m. fin.contains_key m q) (sym y) ∙ h);
      lans = λ q h. w.lans q (ap (λ m. fin.contains_key m q) (sym z) ∙ h);
    }

    bridge_changed : (k : List ℕ) (change : BridgeChange) → Within (change_bridge k (bridge_with change) net)
    bridge_changed k change = record {
      bridges = λ q x h.
          let was = changed_from names (λ (x y : BridgeRow). x.mac ≡ y.mac) (λ y. refl) net.bridges k (bridge_with change) (λ y _. mac_stays change y) q x h in
          let new = w.bridges q was.0 was.1 in
          (new.0, new.1, new.2 ∙ sym was.2);
      ports = w.ports;
      lans = w.lans;
    }

    port_changed : (p : PortName) (f : PortRow → PortRow) → Within (change_port p f net)
    port_changed p f = record { bridges = w.bridges; ports = λ q h. w.ports q (sym (contains_changed ports net.ports p f q) ∙ h); lans = w.lans }

    lan_changed : (l : List ℕ) (f : LanRow → LanRow) → Within (change_lan l f net)
    lan_changed l f = record { bridges = w.bridges; ports = w.ports; lans = λ q h. w.lans q (sym (contains_changed names net.lans l f q) ∙ h) }

    bridge_added : (k : List ℕ) (row : BridgeRow) → fin.get b.bridges k ≡ Some row → Within (effect (AddBridge k row.mac) net)
    bridge_added k row there = record {
      bridges = λ q x h. elim (after_insert names net.bridges k (new_bridge row.mac) q x h) [
        | inl p ↦ (row, ap (fin.get b.bridges) (sym p.0) ∙ there, ap (λ (r : BridgeRow). r.mac) p.1)
        | inr p ↦ w.bridges q x p
      ];
      ports = w.ports;
      lans = w.lans;
    }

    port_added : (p : PortName) → has_port p b ≡ true → Within (effect (AddPort p) net)
    port_added p there = record {
      bridges = w.bridges;
      ports = λ q h. by q (port_eq p q) refl (sym (ap is_some (get_inserted ports net.ports p new_port q)) ∙ h);
      lans = w.lans;
    }
      where
        by : (q : PortName) (t : Bool) → port_eq p q ≡ t → is_some (cond t (Some new_port) (fin.get net.ports q)) ≡ true → has_port q b ≡ true
        by q true e h = ap (λ k. has_port k b) (sym (same_keys ports p q e)) ∙ there
        by q false e h = w.ports q h

    lan_added : (l : List ℕ) → has_lan l b ≡ true → Within (effect (AddLan l) net)
    lan_added l there = record {
      bridges = w.bridges;
      ports = w.ports;
      lans = λ q h. by q (name_eq l q) refl (sym (ap is_some (get_inserted names net.lans l new_lan q)) ∙ h);
    }
      where
        by : (q : List ℕ) (t : Bool) → name_eq l q ≡ t → is_some (cond t (Some new_lan) (fin.get net.lans q)) ≡ true → has_lan q b ≡ true
        by q true e h = ap (λ k. has_lan k b) (sym (same_keys names l q e)) ∙ there
        by q false e h = w.lans q h

    -- ---- what is added isn't refused
    bridge_addable : (k : List ℕ) (row : BridgeRow) → fin.get b.bridges k ≡ Some row → has_bridge k net ≡ false → refusal_of (AddBridge k row.mac) net ≡ None
    bridge_addable k row there absent =
        let less = fewer names net.bridges b.bridges k absent (ap is_some there) (λ q h. let x = found (fin.get net.bridges q) h in ap is_some ((w.bridges q x.0 x.1).1)) in
        let room = lt-leb 1024 (fin.len net.bridges) (omega (arith, less, is_b.bridges.few)) in
        let free = no_mac (mac_taken row.mac net) refl in
        λ i. first_of ((absent i, E07) ∷ (free i, E08) ∷ (room i, E14) ∷ [])
      where
        no_mac : (t : Bool) → mac_taken row.mac net ≡ t → t ≡ false
        no_mac false e = refl
        no_mac true e =
            let f = value_found names (λ r. r.mac == row.mac) net.bridges e in
            let new = w.bridges f.0 f.1 f.2 in
            let same : f.0 ≡ k = is_b.bridges.macs_differ f.0 k new.0 row new.1 there (new.2 ∙ eqb-true f.1.mac row.mac f.3) in
            absurd (true≢false (sym (ap is_some (sym (ap (fin.get net.bridges) same) ∙ f.2)) ∙ absent))

    port_addable : (p : PortName) → has_bridge p.bridge net ≡ true → has_port p b ≡ true → has_port p net ≡ false → refusal_of (AddPort p) net ≡ None
    port_addable p home there absent =
        let less = fewer ports net.ports b.ports p absent there w.ports in
        let room = lt-leb 16384 (fin.len net.ports) (omega (arith, less, is_b.ports.few)) in
        λ i. first_of ((not (home i), E04) ∷ (absent i, E09) ∷ (room i, E14) ∷ [])

    lan_addable : (l : List ℕ) → has_lan l b ≡ true → has_lan l net ≡ false → refusal_of (AddLan l) net ≡ None
    lan_addable l there absent =
        let less = fewer names net.lans b.lans l absent there w.lans in
        let room = lt-leb 8192 (fin.len net.lans) (omega (arith, less, is_b.lans.few)) in
        λ i. first_of ((absent i, E07) ∷ (room i, E14) ∷ [])

  -- ---- settings of what is there
  abbrev BridgeReady : List ℕ → Net → Type 0
  BridgeReady k net = (has_bridge k net ≡ true) × Within net

  abbrev TableReady : List ℕ → List ℕ → Net → Type 0
  TableReady k table net = BridgeReady k net × (table_of net k ≡ table)

  abbrev PortReady : PortName → Net → Type 0
  PortReady p net = (has_bridge p.bridge net ≡ true) × (has_port p net ≡ true) × Within net

  abbrev LanReady : List ℕ → Net → Type 0
  LanReady l net = (has_lan l net ≡ true) × Within net

  bridge_set_fine : (k : List ℕ) (e : Edit) (net : Net) → BridgeSets k e → BridgeReady k net → (refusal_of e net ≡ None) × BridgeReady k (effect e net) × (table_of (effect e net) k ≡ table_of net k)
  bridge_set_fine k (SetBridge bridge change) net of ready =
      (bridge_named net bridge (ap (λ q. has_bridge q net) of ∙ ready.0), (contains_changed names net.bridges bridge (bridge_with change) k ∙ ready.0, bridge_changed net ready.1 bridge change), refl)
  bridge_set_fine k (SetByTree (Priority bridge tree priority)) net of ready =
      (bridge_named net bridge (ap (λ q. has_bridge q net) of ∙ ready.0), (ready.0, set_by_tree net ready.1 _ refl refl refl), refl)
  bridge_set_fine k e net of ready = absurd of

  port_set_fine : (p : PortName) (e : Edit) (net : Net) → PortSets p e → PortReady p net → (refusal_of e net ≡ None) × PortReady p (effect e net)
  port_set_fine p (SetPort port change) net of ready =
      (port_named net port (ap (λ (q : PortName). has_bridge q.bridge net) of ∙ ready.0) (ap (λ q. has_port q net) of ∙ ready.1), (ready.0, contains_changed ports net.ports port (port_with change) p ∙ ready.1, port_changed net ready.2 port (port_with change)))
  port_set_fine p (SetByTree (PortPriority port tree priority)) net of ready =
      (port_named net port (ap (λ (q : PortName). has_bridge q.bridge net) of ∙ ready.0) (ap (λ q. has_port q net) of ∙ ready.1), (ready.0, ready.1, set_by_tree net ready.2 _ refl refl refl))
  port_set_fine p (SetByTree (PortCost port tree cost)) net of ready =
      (port_named net port (ap (λ (q : PortName). has_bridge q.bridge net) of ∙ ready.0) (ap (λ q. has_port q net) of ∙ ready.1), (ready.0, ready.1, set_by_tree net ready.2 _ refl refl refl))
  port_set_fine p (SetByTree (Vlans port vids)) net of ready =
      (port_named net port (ap (λ (q : PortName). has_bridge q.bridge net) of ∙ ready.0) (ap (λ q. has_port q net) of ∙ ready.1), (ready.0, ready.1, set_by_tree net ready.2 _ refl refl refl))
  port_set_fine p e net of ready = absurd of

  lan_set_fine : (l : List ℕ) (e : Edit) (net : Net) → LanSets l e → LanReady l net → (refusal_of e net ≡ None) × LanReady l (effect e net)
  lan_set_fine l (SetLan lan change) net of ready =
      (lan_named net lan (ap (λ q. has_lan q net) of ∙ ready.0), (contains_changed names net.lans lan (lan_with change) l ∙ ready.0, lan_changed net ready.1 lan (lan_with change)))
  lan_set_fine l e net of ready = absurd of

  mapped_ready : (k : List ℕ) (e : Edit) (net : Net) → MapsVids e → BridgeReady k net → BridgeReady k (effect e net)
  mapped_ready k (SetByTree (Table bridge tree vids)) net of ready = (ready.0, set_by_tree net ready.1 _ refl refl refl)
  mapped_ready k e net of ready = absurd of

module _ (in_place : Bool) (tables_made : of_bridge.TableMade) (room : TableRoom) (a b : Net) (is_a : IsNetwork a) (is_b : IsNetwork b) where
  abbrev In : Net → Type 0
  In net = Within b is_b net

  abbrev stayed_bridge : List ℕ → AtBridge
  stayed_bridge k = of_bridge.stayed tables_made a b is_a is_b k 0 (bridge_stays a b k)

  abbrev stayed_port : PortName → AtPort
  stayed_port p = of_port.stayed a b is_a is_b p 0 (port_stays a b p)

  -- ---- a bridge
  bridge_fine : (k : List ℕ) (row : BridgeRow) (net : Net) → fin.get b.bridges k ≡ Some row → In net → at_bridge k 0 net ≡ stayed_bridge k → Fine (BridgeReady b is_b k) (bridge_settings in_place a b k row) net
  bridge_fine k row net there w seen =
      let stays = bridge_stays a b k in
      let before = bridge_before a k row in
      let e0 : Edit = SetBridge k (PowerOf (power_of row.is_on)) in
      let e1 : Edit = SetBridge k (KindOf (kind_of row.is_rstp)) in
      let e2 : Edit = SetBridge k (SystemPriority row.system_priority) in
      let e3 : Edit = SetBridge k (Configuration row.revision row.conf_name) in
      let e5 : Edit = SetBridge k (MaxHops row.max_hops) in
      let e6 : Edit = SetBridge k (MaxAge row.max_age) in
      let t0 = in_place && not (beq row.is_on before.is_on) in
      let t1 = not (beq row.is_rstp before.is_rstp) in
      let t2 = not (row.system_priority == before.system_priority) in
      let t3 = not (is_same_configuration row before) in
      let t5 = not (row.max_hops == before.max_hops) in
      let t6 = not (row.max_age == before.max_age) in
      nine (BridgeReady b is_b k) (TableReady b is_b k (table_before a stays k)) (when (not stays) (AddBridge k row.mac)) (when t0 e0) (when t1 e1) (when t2 e2) (when t3 e3) (table_edits k (table_before a stays k) (table_of b k)) (when t5 e5) (when t6 e6) (in_trees (priority_edits a b stays k)) net
      (begins stays refl seen)
      (λ n r. sets (when t0 e0) n r (all_when (BridgeSets k) t0 e0 (λ _. refl)))
      (λ n r. sets (when t1 e1) n r (all_when (BridgeSets k) t1 e1 (λ _. refl)))
      (λ n r. sets (when t2 e2) n r (all_when (BridgeSets k) t2 e2 (λ _. refl)))
      (λ n r. sets (when t3 e3) n r (all_when (BridgeSets k) t3 e3 (λ _. refl)))
      maps
      (λ n r. plain (when t5 e5) n r (all_when (BridgeSets k) t5 e5 (λ _. refl)))
      (λ n r. plain (when t6 e6) n r (all_when (BridgeSets k) t6 e6 (λ _. refl)))
      (λ n r. plain (in_trees (priority_edits a b stays k)) n r (all_in_trees (BridgeSets k) (priority_edits a b stays k) (λ t. all_when (BridgeSets k) (not (priority_of b k t == priority_before a stays k t)) (SetByTree (Priority k t (priority_of b k t))) (λ _. refl))))
    where
      begins : (s : Bool) → bridge_stays a b k ≡ s → at_bridge k 0 net ≡ of_bridge.stayed tables_made a b is_a is_b k 0 s → Fine (TableReady b is_b k (table_before a s k)) (when (not s) (AddBridge k row.mac)) net
      begins true e seen = fine_none (TableReady b is_b k (table_of a k)) net ((ap is_some (ap (λ (s : AtBridge). s.row) seen) ∙ of_bridge.stays_there tables_made a b is_a is_b k 0 e, w), ap (λ (s : AtBridge). s.table) seen)
      begins false e seen =
          let absent : has_bridge k net ≡ false = ap is_some (ap (λ (s : AtBridge). s.row) seen) in
          record {
            accepted = (bridge_addable b is_b net w k row there absent, tt);
            kept = ((ap is_some (get_inserted names net.bridges k (new_bridge row.mac) k) ∙ ap (λ t. is_some (cond t (Some (new_bridge row.mac)) (fin.get net.bridges k))) (itself names k), bridge_added b is_b net w k row there), ap (λ (s : AtBridge). s.table) seen);
          }

      sets : (es : List Edit) (new : Net) → TableReady b is_b k (table_before a (bridge_stays a b k) k) new → AllByRecursion (BridgeSets k) es → Fine (TableReady b is_b k (table_before a (bridge_stays a b k) k)) es new
      sets es new r of = all_fine (TableReady b is_b k (table_before a (bridge_stays a b k) k)) (BridgeSets k) (λ e net of r. let one = bridge_set_fine b is_b k e net of r.0 in (one.0, (one.1, one.2 ∙ r.1))) es of new r

      plain : (es : List Edit) (new : Net) → BridgeReady b is_b k new → AllByRecursion (BridgeSets k) es → Fine (BridgeReady b is_b k) es new
      plain es new r of = all_fine (BridgeReady b is_b k) (BridgeSets k) (λ e net of r. let one = bridge_set_fine b is_b k e net of r in (one.0, one.1)) es of new r

      few : (s : Bool) → tree_count (table_before a s k) ≤ 64
      few true = few_trees a is_a k
      few false = of_bridge.no_table_count

      maps : (new : Net) → TableReady b is_b k (table_before a (bridge_stays a b k) k) new → Fine (BridgeReady b is_b k) (table_edits k (table_before a (bridge_stays a b k) k) (table_of b k)) new
      maps new r = record {
        accepted = room k (table_before a (bridge_stays a b k) k) (table_of b k) new (is_b.bridges.named k row there) (of_bridge.table_long tables_made a b is_a is_b k 0 row there) (few (bridge_stays a b k)) (of_bridge.table_wanted tables_made a b is_a is_b k 0 row there) (r.0.0) r.1;
        kept = all_kept (BridgeReady b is_b k) MapsVids (mapped_ready b is_b k) (table_edits k (table_before a (bridge_stays a b k) k) (table_of b k)) (all_map MapsVids (edit_of k) (with_ways k (table_of b k) (table_before a (bridge_stays a b k) k) (direct_moves k (table_before a (bridge_stays a b k) k) (table_of b k))) (λ line. tt)) new r.0;
      }

  -- ---- a port
  abbrev PortSeen : List ℕ → PortName → Net → Type 0
  PortSeen k p net = (at_port p 0 net ≡ stayed_port p) × (p.bridge ≡ k) × (has_port p b ≡ true)

  port_fine : (k : List ℕ) (p : PortName) (net : Net) → BridgeReady b is_b k net → PortSeen k p net → Fine (BridgeReady b is_b k) (port_edits a b p) net
  port_fine k p net ready seen = fine_so (PortReady b is_b p) (BridgeReady b is_b k) (port_edits a b p) net (by (fin.get b.ports p) refl seen.2) (λ new r. (ap (λ q. has_bridge q new) (sym seen.1) ∙ r.0, r.2))
    where
      home : has_bridge p.bridge net ≡ true
      home = ap (λ q. has_bridge q net) seen.1 ∙ ready.0

      begins : (s : Bool) → port_stays a b p ≡ s → at_port p 0 net ≡ of_port.stayed a b is_a is_b p 0 s → Fine (PortReady b is_b p) (when (not s) (AddPort p)) net
      begins true e at = fine_none (PortReady b is_b p) net (home, ap is_some (ap (λ (s : AtPort). s.row) at) ∙ mapped_some (fin.get a.ports p) (of_port.stays_there a b is_a is_b p 0 e), ready.1)
        where
          mapped_some : (o : Option PortRow) → is_some o ≡ true → is_some (option_map (λ (row : PortRow). record row { lan = of_port.lan_kept a b is_a is_b p 0 }) o) ≡ true
          mapped_some None h = absurd (true≢false (sym h))
          mapped_some (Some row) h = refl
      begins false e at =
          let absent : has_port p net ≡ false = ap is_some (ap (λ (s : AtPort). s.row) at) in
          record {
            accepted = (port_addable b is_b net ready.1 p home seen.2 absent, tt);
            kept = (home, ap is_some (get_inserted ports net.ports p new_port p) ∙ ap (λ t. is_some (cond t (Some new_port) (fin.get net.ports p))) (itself ports p), port_added b is_b net ready.1 p seen.2);
          }

      by : (o : Option PortRow) → fin.get b.ports p ≡ o → is_some o ≡ true → Fine (PortReady b is_b p) (option_map_or (port_settings a b p) o []) net
      by None e h = absurd (true≢false (sym h))
      by (Some row) e h =
          fine_append (PortReady b is_b p) (PortReady b is_b p) (when (not (port_stays a b p)) (AddPort p)) (joined (all_but_first (port_set a b (port_stays a b p) p (settings_before a (port_stays a b p) p) row.settings))) net (begins (port_stays a b p) refl seen.0) (λ r.
          all_fine (PortReady b is_b p) (PortSets p) (port_set_fine b is_b p) (joined (all_but_first (port_set a b (port_stays a b p) p (settings_before a (port_stays a b p) p) row.settings))) (rest (port_stays a b p) (settings_before a (port_stays a b p) p) row.settings) (made (when (not (port_stays a b p)) (AddPort p)) net) r)
        where
          rest : (s : Bool) (was new : PortSettings) → AllByRecursion (PortSets p) (joined (all_but_first (port_set a b s p was new)))
          rest s was new = all_joined (PortSets p) (all_but_first (port_set a b s p was new)) (
            all_when (PortSets p) (not (new.key == was.key)) (SetPort p (Key new.key)) (λ _. refl),
            (
              all_when (PortSets p) (not (is_same_cost new.external was.external)) (SetPort p (PathCost new.external)) (λ _. refl),
              (
                all_in_trees (PortSets p) (port_cost_edits a b s p) (λ t. all_when (PortSets p) (not (is_same_cost (port_cost_of b p t) (port_cost_before a s p t))) (SetByTree (PortCost p t (port_cost_of b p t))) (λ _. refl)),
                (
                  all_in_trees (PortSets p) (port_priority_edits a b s p) (λ t. all_when (PortSets p) (not (port_priority_of b p t == port_priority_before a s p t)) (SetByTree (PortPriority p t (port_priority_of b p t))) (λ _. refl)),
                  (
                    all_when (PortSets p) (not (pointwise beq (vlans_of b p) (vlans_before a s p))) (SetByTree (Vlans p (vlans_of b p))) (λ _. refl),
                    (all_when (PortSets p) (not (beq new.is_restricted was.is_restricted)) (SetPort p (RestrictedRole new.is_restricted)) (λ _. refl), tt),
                  ),
                ),
              ),
            ),
          )

  -- ---- a bridge with its ports
  abbrev PartSeen : List ℕ → Net → Type 0
  PartSeen k net = (at_bridge k 0 net ≡ stayed_bridge k) × (has_bridge k b ≡ true) × ((p : PortName) → p.bridge ≡ k → at_port p 0 net ≡ stayed_port p)

  part_fine : (k : List ℕ) (net : Net) → In net → PartSeen k net → Fine In (bridge_part in_place a b k) net
  part_fine k net w seen =
      fine_append (BridgeReady b is_b k) In (bridge_edits in_place a b k) (flat_map (port_edits a b) (ports_of b k)) net (by (fin.get b.bridges k) refl seen.1) (λ r.
      fine_so (BridgeReady b is_b k) In (flat_map (port_edits a b) (ports_of b k)) (made (bridge_edits in_place a b k) net)
      (in_turn ports (BridgeReady b is_b k) (PortSeen k) (port_edits a b) (port_fine k)
      (λ p q new other s. (keeps_port q (port_edits a b p) new (of_port.other_port a b is_a is_b q 0 p other) ∙ s.0, s.1, s.2))
      (ports_of b k) (distinct_filter ports (λ port. pointwise nat_eq k port.bridge) (fin.keys b.ports) (keys_distinct ports b.ports)) (made (bridge_edits in_place a b k) net) r
      (λ q h.
      let i = in_filter ports (λ port. pointwise nat_eq k port.bridge) (fin.keys b.ports) q h in
      let home = sym (same_keys names k q.bridge i.1) in
      (keeps_port q (bridge_edits in_place a b k) net (all_as (BridgeEdit k) (Stays (port_step q 0)) (port_by_bridge q 0 k) (bridge_edits in_place a b k) (bridges_of a b in_place k)) ∙ seen.2 q home, home, sym (keys_hold ports b.ports q) ∙ i.0)))
      (λ new r. r.1))
    where
      by : (o : Option BridgeRow) → fin.get b.bridges k ≡ o → is_some o ≡ true → Fine (BridgeReady b is_b k) (option_map_or (bridge_settings in_place a b k) o []) net
      by None e h = absurd (true≢false (sym h))
      by (Some row) e h = bridge_fine k row net e w seen.0

  part_kept : (k q : List ℕ) (net : Net) → name_eq k q ≡ false → PartSeen q net → PartSeen q (made (bridge_part in_place a b k) net)
  part_kept k q net other seen = (
    keeps_bridge q (bridge_part in_place a b k) net (of_bridge.others_part tables_made a b is_a is_b q 0 in_place k other) ∙ seen.0,
    seen.1,
    λ p home. keeps_port p (bridge_part in_place a b k) net (of_port.other_bridges a b is_a is_b p 0 in_place k (ap (name_eq k) home ∙ other)) ∙ seen.2 p home,
  )

  abbrev gone : Net
  gone = made (joined (going a b)) a

  bridge_gone : (q : List ℕ) → at_bridge q 0 gone ≡ stayed_bridge q
  bridge_gone q = bridge_made q 0 (joined (going a b)) a ∙ of_bridge.gone_all tables_made a b is_a is_b q 0

  port_gone : (q : PortName) → at_port q 0 gone ≡ stayed_port q
  port_gone q = port_made q 0 (joined (going a b)) a ∙ of_port.gone_all a b is_a is_b q 0

  lan_gone : (q : List ℕ) → fin.get gone.lans q ≡ of_lan.stayed a b q (has_lan q b)
  lan_gone q = lan_made q (joined (going a b)) a ∙ of_lan.gone_all a b q

  within_gone : In gone
  within_gone = record {
    bridges = λ q x h. of_bridges q x (bridge_stays a b q) refl (sym (ap (λ (s : AtBridge). s.row) (bridge_gone q)) ∙ h);
    ports = λ q h. of_ports q (port_stays a b q) refl (sym (ap is_some (ap (λ (s : AtPort). s.row) (port_gone q))) ∙ h);
    lans = λ q h. of_lans q (has_lan q b) refl (sym (ap is_some (lan_gone q)) ∙ h);
  }
    where
      of_bridges : (q : List ℕ) (x : BridgeRow) (s : Bool) → bridge_stays a b q ≡ s → (of_bridge.stayed tables_made a b is_a is_b q 0 s).row ≡ Some x → (y : BridgeRow) × (fin.get b.bridges q ≡ Some y) × (y.mac ≡ x.mac)
      of_bridges q x false e h = absurd (no_some x h)
      of_bridges q x true e h = at_row (fin.get b.bridges q) refl e
        where
          at_row : (o : Option BridgeRow) → fin.get b.bridges q ≡ o → option_map_or (λ y. has_mac y.mac (fin.get a.bridges q)) o false ≡ true → (y : BridgeRow) × (fin.get b.bridges q ≡ Some y) × (y.mac ≡ x.mac)
          at_row None f e = absurd (true≢false (sym e))
          at_row (Some y) f e = (y, f, sym (eqb-true x.mac y.mac (sym (ap (has_mac y.mac) h) ∙ e)))

      of_ports : (q : PortName) (s : Bool) → port_stays a b q ≡ s → is_some (of_port.stayed a b is_a is_b q 0 s).row ≡ true → has_port q b ≡ true
      of_ports q true e h = (and_parts (has_port q a) (has_port q b) (and_parts (bridge_stays a b q.bridge) (has_port q a && has_port q b) e).1).1
      of_ports q false e h = absurd (true≢false (sym h))

      of_lans : (q : List ℕ) (s : Bool) → has_lan q b ≡ s → is_some (of_lan.stayed a b q s) ≡ true → has_lan q b ≡ true
      of_lans q true e h = e
      of_lans q false e h = absurd (true≢false (sym h))

  parts_fine : Fine In (flat_map (bridge_part in_place a b) (fin.keys b.bridges)) gone
  parts_fine = in_turn names In PartSeen (bridge_part in_place a b) part_fine part_kept (fin.keys b.bridges) (keys_distinct names b.bridges) gone within_gone
      (λ q h. (bridge_gone q, sym (keys_hold names b.bridges q) ∙ h, λ p home. port_gone p))

  abbrev with_bridges : Net
  with_bridges = made (flat_map (bridge_part in_place a b) (fin.keys b.bridges)) gone

  -- ---- LANs
  abbrev LanSeen : List ℕ → Net → Type 0
  LanSeen l net = (fin.get net.lans l ≡ fin.get a.lans l) × (has_lan l b ≡ true)

  lan_fine : (l : List ℕ) (net : Net) → In net → LanSeen l net → Fine In (lan_edits in_place a b l) net
  lan_fine l net w seen = fine_so (LanReady b is_b l) In (lan_edits in_place a b l) net (by (fin.get b.lans l) refl seen.1) (λ new r. r.1)
    where
      begins : (s : Bool) → has_lan l a ≡ s → Fine (LanReady b is_b l) (when (not s) (AddLan l)) net
      begins true e = fine_none (LanReady b is_b l) net (ap is_some seen.0 ∙ e, w)
      begins false e = record {
        accepted = (lan_addable b is_b net w l seen.1 (ap is_some seen.0 ∙ e), tt);
        kept = (ap is_some (get_inserted names net.lans l new_lan l) ∙ ap (λ t. is_some (cond t (Some new_lan) (fin.get net.lans l))) (itself names l), lan_added b is_b net w l seen.1);
      }

      by : (o : Option LanRow) → fin.get b.lans l ≡ o → is_some o ≡ true → Fine (LanReady b is_b l) (option_map_or (lan_settings in_place a l) o []) net
      by None e h = absurd (true≢false (sym h))
      by (Some row) e h =
          let before = lan_before a l in
          let t0 = in_place && not (beq row.is_up before.is_up) in
          let t1 = not (row.speed == before.speed) in
          let rest = joined (when t0 (SetLan l (State (state_of row.is_up))) ∷ when t1 (SetLan l (Speed row.speed)) ∷ []) in
          fine_append (LanReady b is_b l) (LanReady b is_b l) (when (not (has_lan l a)) (AddLan l)) rest net (begins (has_lan l a) refl) (λ r.
          all_fine (LanReady b is_b l) (LanSets l) (lan_set_fine b is_b l) rest
          (all_joined (LanSets l) (when t0 (SetLan l (State (state_of row.is_up))) ∷ when t1 (SetLan l (Speed row.speed)) ∷ [])
          (all_when (LanSets l) t0 (SetLan l (State (state_of row.is_up))) (λ _. refl), (all_when (LanSets l) t1 (SetLan l (Speed row.speed)) (λ _. refl), tt)))
          (made (when (not (has_lan l a)) (AddLan l)) net) r)

  lans_fine : Fine In (flat_map (lan_edits in_place a b) (fin.keys b.lans)) with_bridges
  lans_fine = in_turn names In LanSeen (lan_edits in_place a b) lan_fine
      (λ k q net other seen. (keeps_lan q (lan_edits in_place a b k) net (of_lan.other_lan a b q in_place k other) ∙ seen.0, seen.1))
      (fin.keys b.lans) (keys_distinct names b.lans) with_bridges parts_fine.kept
      (λ q h.
      let there = sym (keys_hold names b.lans q) ∙ h in
      (keeps_lan q (flat_map (bridge_part in_place a b) (fin.keys b.bridges)) gone (all_flat (Stays (lan_step q)) (bridge_part in_place a b) (fin.keys b.bridges) (of_lan.others_part a b q in_place)) ∙ lan_gone q ∙ ap (of_lan.stayed a b q) there, there))

  abbrev with_lans : Net
  with_lans = made (flat_map (lan_edits in_place a b) (fin.keys b.lans)) with_bridges

  -- ---- plugs
  -- all bridges and LANs are there
  record HasAll (net : Net) : Type 0 where
    bridges : (q : List ℕ) → has_bridge q b ≡ true → has_bridge q net ≡ true
    lans : (q : List ℕ) → has_lan q b ≡ true → has_lan q net ≡ true

  all_there : HasAll with_lans
  all_there = record {
    bridges = λ q h.
        let row = found (fin.get b.bridges q) h in
        ap is_some (ap (λ (s : AtBridge). s.row)
        (keeps_bridge q (flat_map (lan_edits in_place a b) (fin.keys b.lans)) with_bridges (all_leave (bridge_step q 0) LanEdit (bridge_by_lan q 0) (lan_edits in_place a b) (lans_of a b in_place) (fin.keys b.lans))
        ∙ bridge_made q 0 (flat_map (bridge_part in_place a b) (fin.keys b.bridges)) gone ∙ ap (steps (bridge_step q 0) (flat_map (bridge_part in_place a b) (fin.keys b.bridges))) (bridge_gone q)
        ∙ of_bridge.comes tables_made a b is_a is_b q 0 in_place (Some row.0) row.1));
    lans = λ q h.
        let row = found (fin.get b.lans q) h in
        ap is_some
        (lan_made q (flat_map (lan_edits in_place a b) (fin.keys b.lans)) with_bridges
        ∙ ap (steps (lan_step q) (flat_map (lan_edits in_place a b) (fin.keys b.lans)))
        (keeps_lan q (flat_map (bridge_part in_place a b) (fin.keys b.bridges)) gone (all_flat (Stays (lan_step q)) (bridge_part in_place a b) (fin.keys b.bridges) (of_lan.others_part a b q in_place)) ∙ lan_gone q)
        ∙ of_lan.comes a b q in_place (Some row.0) row.1);
  }

  abbrev PlugSeen : PortName → Net → Type 0
  PlugSeen p net = (at_port p 0 net ≡ of_port.but_plug a b is_a is_b p 0 (fin.get b.ports p)) × (has_port p b ≡ true)

  plug_fine : (p : PortName) (net : Net) → HasAll net → PlugSeen p net → Fine HasAll (plug_edits a b p) net
  plug_fine p net there seen = by (lan_of b p) refl (plug_stays a b p) refl
    where
      by : (o : Option (List ℕ)) → lan_of b p ≡ o → (s : Bool) → plug_stays a b p ≡ s → Fine HasAll (option_map_or (λ lan. when (not s) (Plug p lan)) o []) net
      by None e s f = fine_none HasAll net there
      by (Some lan) e true f = fine_none HasAll net there
      by (Some lan) e false f =
          let row = found (fin.get b.ports p) seen.1 in
          let now : fin.get net.ports p ≡ Some (record { lan = None; settings = row.0.settings }) =
          ap (λ (s : AtPort). s.row) seen.0 ∙ ap (λ o. (of_port.but_plug a b is_a is_b p 0 o).row) row.1 ∙ ap (λ s. Some (record { lan = if s then lan_of a p else None; settings = row.0.settings })) f in
          let x = there.bridges p.bridge (is_b.ports.has_bridge p row.0 row.1) in
          let y : has_port p net ≡ true = ap is_some now in
          let z = there.lans lan (is_b.ports.has_lan p row.0 lan row.1 (sym (ap (λ (o : Option PortRow). option_map_or (λ r. r.lan) o None) row.1) ∙ e)) in
          let free : is_plugged p net ≡ false = ap (λ (o : Option PortRow). option_map_or (λ r. is_some r.lan) o false) now in
          record { accepted = (λ i. first_of ((not (x i), E04) ∷ (not (y i), E05) ∷ (not (z i), E06) ∷ (free i, E10) ∷ []), tt); kept = record { bridges = there.bridges; lans = there.lans } }

  plugs_fine : Fine HasAll (flat_map (plug_edits a b) (fin.keys b.ports)) with_lans
  plugs_fine = in_turn ports HasAll PlugSeen (plug_edits a b) plug_fine
      (λ k q net other seen. (keeps_port q (plug_edits a b k) net (of_port.other_plug a b is_a is_b q 0 k other) ∙ seen.0, seen.1))
      (fin.keys b.ports) (keys_distinct ports b.ports) with_lans all_there
      (λ q h. (
        keeps_port q (flat_map (lan_edits in_place a b) (fin.keys b.lans)) with_bridges (all_leave (port_step q 0) LanEdit (port_by_lan q 0) (lan_edits in_place a b) (lans_of a b in_place) (fin.keys b.lans))
            ∙ port_made q 0 (flat_map (bridge_part in_place a b) (fin.keys b.bridges)) gone ∙ ap (steps (port_step q 0) (flat_map (bridge_part in_place a b) (fin.keys b.bridges))) (port_gone q)
            ∙ of_port.comes a b is_a is_b q 0 in_place (fin.get b.ports q) refl,
        sym (keys_hold ports b.ports q) ∙ h,
      ))

  -- ---- states
  abbrev InNew : List ℕ → Net → Type 0
  InNew q net = has_bridge q b ≡ true

  power_fine : (q : List ℕ) (net : Net) → HasAll net → InNew q net → Fine HasAll (power_edits in_place a b q) net
  power_fine q net there h = by (fin.get b.bridges q)
    where
      at : (here : Bool) (row : BridgeRow) → Fine HasAll (when here (SetBridge q (PowerOf (power_of row.is_on)))) net
      at false row = fine_none HasAll net there
      at true row = record {
        accepted = (bridge_named net q (there.bridges q h), tt);
        kept = record { bridges = λ k i. contains_changed names net.bridges q (bridge_with (PowerOf (power_of row.is_on))) k ∙ there.bridges k i; lans = there.lans };
      }

      by : (o : Option BridgeRow) → Fine HasAll (option_map_or (power_settings in_place a q) o []) net
      by None = fine_none HasAll net there
      by (Some row) = at (not in_place && not (beq row.is_on (bridge_before a q row).is_on)) row

  abbrev LanInNew : List ℕ → Net → Type 0
  LanInNew q net = has_lan q b ≡ true

  state_fine : (q : List ℕ) (net : Net) → HasAll net → LanInNew q net → Fine HasAll (state_edits in_place a b q) net
  state_fine q net there h = by (fin.get b.lans q)
    where
      at : (here : Bool) (row : LanRow) → Fine HasAll (when here (SetLan q (State (state_of row.is_up)))) net
      at false row = fine_none HasAll net there
      at true row = record {
        accepted = (lan_named net q (there.lans q h), tt);
        kept = record { bridges = there.bridges; lans = λ k i. contains_changed names net.lans q (lan_with (State (state_of row.is_up))) k ∙ there.lans k i };
      }

      by : (o : Option LanRow) → Fine HasAll (option_map_or (state_settings in_place a q) o []) net
      by None = fine_none HasAll net there
      by (Some row) = at (not in_place && not (beq row.is_up (lan_before a q).is_up)) row

  -- ---- all of it
  pub coming_accepted : Accepted (joined (coming in_place a b)) gone
  coming_accepted =
      (fine_append In HasAll (flat_map (bridge_part in_place a b) (fin.keys b.bridges)) _ gone parts_fine (λ _.
      fine_append In HasAll (flat_map (lan_edits in_place a b) (fin.keys b.lans)) _ with_bridges lans_fine (λ _.
      fine_append HasAll HasAll (flat_map (plug_edits a b) (fin.keys b.ports)) _ with_lans plugs_fine (λ there.
      fine_append HasAll HasAll (flat_map (power_edits in_place a b) (fin.keys b.bridges)) _ _ (in_turn names HasAll InNew (power_edits in_place a b) power_fine (λ k q net other i. i) (fin.keys b.bridges) (keys_distinct names b.bridges) _ there (λ q h. sym (keys_hold names b.bridges q) ∙ h)) (λ there.
      fine_append HasAll HasAll (flat_map (state_edits in_place a b) (fin.keys b.lans)) [] _ (in_turn names HasAll LanInNew (state_edits in_place a b) state_fine (λ k q net other i. i) (fin.keys b.lans) (keys_distinct names b.lans) _ there (λ q h. sym (keys_hold names b.lans q) ∙ h)) (λ there. fine_none HasAll _ there)))))).accepted

-- What the edits make of a bridge, its priority in a tree and its table: those of the new network.
use Rattle.std.proofs.Common.{◌≡◌, ℕ, ◌≤◌, Bool, true, false, not, ◌&&◌, List, [], ◌∷◌, map, length, Option, Some, None, is_some, nat_eq, refl, sym, ap, subst, ◌∙◌, arith, true≢false}
use Rattle.std.specs.Prelude.{◌==◌, if◌then◌else◌}
use Rattle.std.specs.Bool.{beq}
use Rattle.std.specs.List.{flat_map, AllByRecursion}
use Rattle.std.specs.Option.{option_map, option_map_or, unwrap_or}
use Rattle.std.specs.FinMap as fin
use Rattle.std.specs.FinMap.{get-empty}
use Rattle.mst_ids.specs.Names.{name_cmp}
use Rattle.std.specs.Cmp.{unsigned_Decides}
use Rattle.std.specs.Cmp.Lexicographic.{pointwise, pointwise_decides}
use Rattle.std.proofs.lemmas.Bool.{and_parts, eqb-true}
use Rattle.mst_lang.specs.Ranges.{IsName}
use Rattle.mst_lang.specs.declared.line.Edit.{Edit}
use Rattle.mst_lang.specs.declared.line.Edit.TheVariants.{AddBridge, DelBridge, SetBridge, SetByTree}
use Rattle.mst_lang.specs.declared.line.BridgeChange.{BridgeChange}
use Rattle.mst_lang.specs.declared.line.BridgeChange.TheVariants.{Power as PowerOf, Kind as KindOf, SystemPriority, Configuration, MaxHops, MaxAge}
use Rattle.mst_lang.specs.declared.line.TreeChange.TheVariants.{Priority}
use Rattle.mst_net.specs.tables.Table.{no_table, tree_count}
use Rattle.mst_net.specs.tables.Tables.{Net, IsNetwork, BridgeRow, IsTable, empty_net}
use Rattle.mst_net.proofs.tables_lemmas.AfterLemmas.{no_network}
use Rattle.mst_net.specs.tables.After.{has_bridge, table_of, new_bridge, bridge_with, is_rstp, is_on}
use Rattle.mst_net.specs.tables.Contents.{priority_of}
use Rattle.mst_net.specs.tables.Settings.{kind_of, power_of}
use Rattle.mst_net.proofs.tables_lemmas.Keys.{name_eq, names}
use Rattle.mst_net.proofs.tables_lemmas.Changed.{itself}
use Rattle.mst_edits.specs.Making.{made}
use Rattle.mst_edits.specs.Edits.{when, joined, ports_of, unplug_edits, del_port_edits, del_lan_edits, del_bridge_edits, in_trees, is_same_configuration, priority_edits, bridge_set, bridge_settings, bridge_edits, port_edits, lan_edits, bridge_part, plug_edits, power_here, power_settings, power_edits, state_edits, going, coming, edits_with}
use Rattle.mst_edits.proofs.Lists.{all_append, all_flat, all_as, all_when, keys_distinct, keys_hold}
use Rattle.mst_edit_laws.proofs.Steps.{steps, Stays, steps-append, stays, steps-when, steps-joined, steps_one, steps_none}
use Rattle.mst_edit_laws.proofs.Seen.{AtBridge, at_bridge, bridge_step, bridge_made, no_table_long, table_is}
use Rattle.mst_edits.proofs.TreesMapped.{few_trees}
use Rattle.mst_edits.specs.Staying.{has_mac, bridge_stays, bridge_before, table_before, priority_before}
use Rattle.mst_edits.specs.TableLines.{edit_of, table_after, with_ways, direct_moves, table_edits}
use Rattle.mst_edit_laws.proofs.Whose.{BridgeEdit, PortEdit, LanEdit, bridge_by_port, bridge_by_lan, bridge_by_other, trees_set, unplugs_of, del_ports_of, del_lans_of, del_bridges_of, bridges_of, ports_are_of, lans_of, plugs_of, powers_of, states_of, others_leave}
use Rattle.mst_edit_laws.proofs.Plain.{not_found, not_not, same_flag}

abbrev at : BridgeRow → ℕ → List ℕ → AtBridge
at row priority table = record { row = Some row; priority = priority; table = table }

abbrev pub none_set : AtBridge
none_set = record { row = None; priority = 8; table = no_table }

pub no_table_count : tree_count no_table ≤ 64
no_table_count = subst (λ (o : Option (List ℕ)). tree_count (unwrap_or o no_table) ≤ 64) (get-empty {X = List ℕ} name_cmp []) (few_trees empty_net no_network [])

-- what each line of a table makes, for lines of any kind
lines_made : {M : Type 0} (after : List ℕ → List M → List ℕ) (edit : M → Edit) (q : List ℕ) (t : ℕ) (row : BridgeRow) (priority : ℕ)
    → ((now : List ℕ) → after now [] ≡ now) → ((now : List ℕ) (line : M) (lines : List M) → steps (bridge_step q t) (edit line ∷ []) (at row priority now) ≡ at row priority (after now (line ∷ [])))
    → ((now : List ℕ) (line : M) (lines : List M) → after now (line ∷ lines) ≡ after (after now (line ∷ [])) lines)
    → (lines : List M) (now : List ℕ) → steps (bridge_step q t) (map edit lines) (at row priority now) ≡ at row priority (after now lines)
lines_made after edit q t row priority nil one more [] now = ap (at row priority) (sym (nil now))
lines_made after edit q t row priority nil one more (line ∷ lines) now =
    ap (steps (bridge_step q t) (map edit lines)) (one now line lines)
    ∙ lines_made after edit q t row priority nil one more lines (after now (line ∷ [])) ∙ ap (at row priority) (sym (more now line lines))

-- that the lines of a table make it
abbrev pub TableMade : Type 0
TableMade = (bridge before after : List ℕ) → IsName bridge → length before ≡ 4094 → IsTable after → table_after before (with_ways bridge after before (direct_moves bridge before after)) ≡ after

module _ (q : List ℕ) (t : ℕ) where
  row_set : (f : BridgeRow → BridgeRow) (row : BridgeRow) (p : ℕ) (table : List ℕ) → record (at row p table) { row = if name_eq q q then option_map f (Some row) else Some row } ≡ at (f row) p table
  row_set f row p table = ap (λ b. record (at row p table) { row = if b then option_map f (Some row) else Some row }) (itself names q)

  -- a setting of the row that is set where it isn't what it was
  row_when : (same : Bool) (change : BridgeChange) (old new : BridgeRow) (p : ℕ) (table : List ℕ) → bridge_with change old ≡ new → (same ≡ true → old ≡ new)
      → steps (bridge_step q t) (when (not same) (SetBridge q change)) (at old p table) ≡ at new p table
  row_when same change old new p table set kept =
      steps-when (bridge_step q t) (not same) (SetBridge q change) (at old p table) (at new p table)
      (λ h. row_set (bridge_with change) old p table ∙ ap (λ r. at r p table) set) (λ h. ap (λ r. at r p table) (kept (not_not same h)))

  pub table_steps : (row : BridgeRow) (p : ℕ) (before after : List ℕ) → steps (bridge_step q t) (table_edits q before after) (at row p before) ≡ at row p (table_after before (with_ways q after before (direct_moves q before after)))
  table_steps row p before after =
      lines_made table_after (edit_of q) q t row p (λ now. refl) (λ now line lines. ap (λ b. at row p (if b then table_after now (line ∷ []) else now)) (itself names q)) (λ now line lines. refl) (with_ways q after before (direct_moves q before after)) before

  -- a bridge that isn't there has nothing set
  absent_bridge : (net : Net) → IsNetwork net → has_bridge q net ≡ false → none_set ≡ at_bridge q t net
  absent_bridge net is absent =
      let row = sym (not_found (fin.get net.bridges q) absent) in
      let p = priority (fin.get net.priorities (record { bridge = q; tree = t })) refl in
      let tab = table (fin.get net.tables q) refl in
      λ i. record { row = row i; priority = p i; table = tab i }
    where
      priority : (o : Option ℕ) → fin.get net.priorities (record { bridge = q; tree = t }) ≡ o → 8 ≡ unwrap_or o 8
      priority None e = refl
      priority (Some n) e = absurd (true≢false (sym ((is.priorities (record { bridge = q; tree = t }) n e).0) ∙ absent))

      table : (o : Option (List ℕ)) → fin.get net.tables q ≡ o → no_table ≡ unwrap_or o no_table
      table None e = refl
      table (Some x) e = absurd (true≢false (sym ((is.tables q x e).0) ∙ absent))

-- a priority of a tree beyond the last is the default
beyond_is : (net : Net) → IsNetwork net → (q : List ℕ) (t : ℕ) → 4095 ≤ t → priority_of net q t ≡ 8
beyond_is net is q t high = by (fin.get net.priorities (record { bridge = q; tree = t })) refl
  where
    by : (o : Option ℕ) → fin.get net.priorities (record { bridge = q; tree = t }) ≡ o → unwrap_or o 8 ≡ 8
    by None e = refl
    by (Some n) e = let fits = is.priorities (record { bridge = q; tree = t }) n e in absurd (omega (arith, fits.1))

kind_is : (b : Bool) → is_rstp (kind_of b) ≡ b
kind_is true = refl
kind_is false = refl

power_is : (b : Bool) → is_on (power_of b) ≡ b
power_is true = refl
power_is false = refl

module _ (tables_made : TableMade) (a b : Net) (is_a : IsNetwork a) (is_b : IsNetwork b) (q : List ℕ) (t : ℕ) where
  -- what stays of it, and nothing else
  abbrev pub stayed : Bool → AtBridge
  stayed stays = if stays then at_bridge q t a else none_set

  pub stays_there : bridge_stays a b q ≡ true → has_bridge q a ≡ true
  stays_there h = by (fin.get b.bridges q) h
    where
      old : (mac : ℕ) (o : Option BridgeRow) → has_mac mac o ≡ true → is_some o ≡ true
      old mac None h = absurd (true≢false (sym h))
      old mac (Some row) h = refl

      by : (o : Option BridgeRow) → option_map_or (λ x. has_mac x.mac (fin.get a.bridges q)) o false ≡ true → has_bridge q a ≡ true
      by None h = absurd (true≢false (sym h))
      by (Some row) h = old row.mac (fin.get a.bridges q) h

  pub goes : steps (bridge_step q t) (flat_map (del_bridge_edits a b) (fin.keys a.bridges)) (at_bridge q t a) ≡ stayed (bridge_stays a b q)
  goes = by (has_bridge q a) refl
    where
      others : (k : List ℕ) → name_eq k q ≡ false → AllByRecursion (Stays (bridge_step q t)) (del_bridge_edits a b k)
      others k other = all_as (BridgeEdit k) (Stays (bridge_step q t)) (bridge_by_other q t k other) (del_bridge_edits a b k) (del_bridges_of a b k)

      gone : (s : Bool) → steps (bridge_step q t) (when (not s) (DelBridge q)) (at_bridge q t a) ≡ stayed s
      gone true = refl
      gone false = ap (λ c. record { row = if c then None else fin.get a.bridges q; priority = if c then 8 else priority_of a q t; table = if c then no_table else table_of a q }) (itself names q)

      absent : (s : Bool) → bridge_stays a b q ≡ s → has_bridge q a ≡ false → at_bridge q t a ≡ stayed s
      absent true e h = refl
      absent false e h = sym (absent_bridge q t a is_a h)

      by : (h : Bool) → has_bridge q a ≡ h → steps (bridge_step q t) (flat_map (del_bridge_edits a b) (fin.keys a.bridges)) (at_bridge q t a) ≡ stayed (bridge_stays a b q)
      by true e = steps_one (bridge_step q t) names (del_bridge_edits a b) q others (fin.keys a.bridges) (at_bridge q t a) (keys_distinct names a.bridges) (keys_hold names a.bridges q ∙ e) ∙ gone (bridge_stays a b q)
      by false e = steps_none (bridge_step q t) names (del_bridge_edits a b) q others (fin.keys a.bridges) (at_bridge q t a) (keys_hold names a.bridges q ∙ e) ∙ absent (bridge_stays a b q) refl e

  pub gone_all : steps (bridge_step q t) (joined (going a b)) (at_bridge q t a) ≡ stayed (bridge_stays a b q)
  gone_all =
      let step = bridge_step q t in
      let s = at_bridge q t a in
      let new = stayed (bridge_stays a b q) in
      steps-joined step (going a b) s new (
        s,
        others_leave step PortEdit (bridge_by_port q t) (unplug_edits a b) (unplugs_of a b) (fin.keys a.ports) s,
        (
          s,
          others_leave step PortEdit (bridge_by_port q t) (del_port_edits a b) (del_ports_of a b) (fin.keys a.ports) s,
          (s, others_leave step LanEdit (bridge_by_lan q t) (del_lan_edits b) (del_lans_of a b) (fin.keys a.lans) s, (new, goes, refl)),
        ),
      )

  -- ---- a bridge that is there
  module _ (row : BridgeRow) (there : fin.get b.bridges q ≡ Some row) where
    abbrev before : BridgeRow
    before = bridge_before a q row

    abbrev priority_was : ℕ
    priority_was = priority_before a (bridge_stays a b q) q t

    abbrev table_was : List ℕ
    table_was = table_before a (bridge_stays a b q) q

    -- it begins with the old row, or with a new one
    pub begins : steps (bridge_step q t) (when (not (bridge_stays a b q)) (AddBridge q row.mac)) (stayed (bridge_stays a b q)) ≡ at before priority_was table_was
    begins = by (fin.get a.bridges q) refl
      where
        new : (o : Option BridgeRow) → steps (bridge_step q t) (AddBridge q row.mac ∷ []) none_set ≡ at (new_bridge row.mac) 8 no_table
        new o = ap (λ (c : Bool). record { row = if c then Some (new_bridge row.mac) else None; priority = 8; table = no_table }) (itself names q)

        begun : (o : Option BridgeRow) (s : Bool) (was : BridgeRow) → bridge_stays a b q ≡ s → before ≡ was → steps (bridge_step q t) (when (not s) (AddBridge q row.mac)) (stayed s) ≡ at was (priority_before a s q t) (table_before a s q)
            → steps (bridge_step q t) (when (not (bridge_stays a b q)) (AddBridge q row.mac)) (stayed (bridge_stays a b q)) ≡ at before priority_was table_was
        begun o s was e f h = ap (λ c. steps (bridge_step q t) (when (not c) (AddBridge q row.mac)) (stayed c)) e ∙ h ∙ sym (λ i. at (f i) (priority_before a (e i) q t) (table_before a (e i) q))

        old : (o : BridgeRow) (same : Bool) → (o.mac == row.mac) ≡ same → fin.get a.bridges q ≡ Some o → steps (bridge_step q t) (when (not (bridge_stays a b q)) (AddBridge q row.mac)) (stayed (bridge_stays a b q)) ≡ at before priority_was table_was
        old o true e here = begun (Some o) true o
            (ap (λ x. option_map_or (λ x. has_mac x.mac (fin.get a.bridges q)) x false) there ∙ ap (has_mac row.mac) here ∙ e)
            (ap (λ x. option_map_or (λ old. if old.mac == row.mac then old else new_bridge row.mac) x (new_bridge row.mac)) here ∙ ap (λ c. if c then o else new_bridge row.mac) e)
            (ap (λ x. record { row = x; priority = priority_of a q t; table = table_of a q }) here)
        old o false e here = begun (Some o) false (new_bridge row.mac)
            (ap (λ x. option_map_or (λ x. has_mac x.mac (fin.get a.bridges q)) x false) there ∙ ap (has_mac row.mac) here ∙ e)
            (ap (λ x. option_map_or (λ old. if old.mac == row.mac then old else new_bridge row.mac) x (new_bridge row.mac)) here ∙ ap (λ c. if c then o else new_bridge row.mac) e)
            (new None)

        by : (o : Option BridgeRow) → fin.get a.bridges q ≡ o → steps (bridge_step q t) (when (not (bridge_stays a b q)) (AddBridge q row.mac)) (stayed (bridge_stays a b q)) ≡ at before priority_was table_was
        by None e = begun None false (new_bridge row.mac)
            (ap (λ x. option_map_or (λ x. has_mac x.mac (fin.get a.bridges q)) x false) there ∙ ap (has_mac row.mac) e)
            (ap (λ x. option_map_or (λ old. if old.mac == row.mac then old else new_bridge row.mac) x (new_bridge row.mac)) e)
            (new None)
        by (Some o) e = old o (o.mac == row.mac) refl e

    same_mac : before.mac ≡ row.mac
    same_mac = by (fin.get a.bridges q)
      where
        at_old : (o : BridgeRow) (same : Bool) → (o.mac == row.mac) ≡ same → (if same then o else new_bridge row.mac).mac ≡ row.mac
        at_old o true e = eqb-true o.mac row.mac e
        at_old o false e = refl

        by : (o : Option BridgeRow) → (option_map_or (λ old. if old.mac == row.mac then old else new_bridge row.mac) o (new_bridge row.mac)).mac ≡ row.mac
        by None = refl
        by (Some o) = at_old o (o.mac == row.mac) refl

    pub table_long : length table_was ≡ 4094
    table_long = by (bridge_stays a b q)
      where
        by : (s : Bool) → length (table_before a s q) ≡ 4094
        by true = (table_is a is_a q).0
        by false = no_table_long

    pub table_wanted : IsTable (table_of b q)
    table_wanted = let fits = table_is b is_b q in (fits.0, fits.1, few_trees b is_b q)

    -- whether it is on is set here, or left as it was
    abbrev on_here : Bool → Bool
    on_here here = if here then row.is_on else before.is_on

    power_set : (here : Bool) (p : ℕ) (table : List ℕ) → steps (bridge_step q t) (power_here here q before row) (at before p table) ≡ at (record before { is_on = on_here here }) p table
    power_set true p table = row_when q t (beq row.is_on before.is_on) (PowerOf (power_of row.is_on)) before (record before { is_on = row.is_on }) p table
        (ap (λ c. record before { is_on = c }) (power_is row.is_on)) (λ h. ap (λ c. record before { is_on = c }) (sym (same_flag row.is_on before.is_on h)))
    power_set false p table = refl

    abbrev but_power : Bool → BridgeRow
    but_power in_place = record row { is_on = on_here in_place }

    pub is_set : (in_place : Bool) → steps (bridge_step q t) (bridge_settings in_place a b q row) (stayed (bridge_stays a b q)) ≡ at (but_power in_place) (priority_of b q t) (table_of b q)
    is_set in_place =
        let step = bridge_step q t in
        let r0 : BridgeRow = record before { is_on = on_here in_place } in
        let r1 : BridgeRow = record r0 { is_rstp = row.is_rstp } in
        let r2 : BridgeRow = record r1 { system_priority = row.system_priority } in
        let r3 : BridgeRow = record r2 { revision = row.revision; conf_name = row.conf_name } in
        let r4 : BridgeRow = record r3 { max_hops = row.max_hops } in
        let r5 : BridgeRow = record r4 { max_age = row.max_age } in
        let p = priority_was in
        let no = table_was in
        let all = table_of b q in
        let p1 = row_when q t (beq row.is_rstp r0.is_rstp) (KindOf (kind_of row.is_rstp)) r0 r1 p no (ap (λ c. record r0 { is_rstp = c }) (kind_is row.is_rstp)) (λ h. ap (λ c. record r0 { is_rstp = c }) (sym (same_flag row.is_rstp r0.is_rstp h))) in
        let p2 = row_when q t (row.system_priority == r0.system_priority) (SystemPriority row.system_priority) r1 r2 p no refl (λ h. ap (λ n. record r1 { system_priority = n }) (sym (eqb-true row.system_priority r0.system_priority h))) in
        let p3 = row_when q t (is_same_configuration row r0) (Configuration row.revision row.conf_name) r2 r3 p no refl (λ h. same_configuration r2 h) in
        let p4 : steps step (table_edits q no all) (at r3 p no) ≡ at r3 p all = table_steps q t r3 p no all ∙ ap (at r3 p) (tables_made q no all (is_b.bridges.named q row there) table_long table_wanted) in
        let p5 = row_when q t (row.max_hops == r0.max_hops) (MaxHops row.max_hops) r3 r4 p all refl (λ h. ap (λ n. record r3 { max_hops = n }) (sym (eqb-true row.max_hops r0.max_hops h))) in
        let p6 = row_when q t (row.max_age == r0.max_age) (MaxAge row.max_age) r4 r5 p all refl (λ h. ap (λ n. record r4 { max_age = n }) (sym (eqb-true row.max_age r0.max_age h))) in
        steps-joined step (bridge_set in_place a b (bridge_stays a b q) q before row) (stayed (bridge_stays a b q)) (at r5 (priority_of b q t) all)
        (at before p no, begins, (at r0 p no, power_set in_place p no, (at r1 p no, p1, (at r2 p no, p2, (at r3 p no, p3, (at r3 p all, p4, (at r4 p all, p5, (at r5 p all, p6, (at r5 (priority_of b q t) all, priorities r5 all, refl)))))))))
        ∙ ap (λ n. at (record (but_power in_place) { mac = n }) (priority_of b q t) all) same_mac
      where
        same_configuration : (r2 : BridgeRow) → is_same_configuration row before ≡ true → record r2 { revision = before.revision; conf_name = before.conf_name } ≡ record r2 { revision = row.revision; conf_name = row.conf_name }
        same_configuration r2 h =
            let both = and_parts (row.revision == before.revision) (pointwise nat_eq row.conf_name before.conf_name) h in
            let x = sym (eqb-true row.revision before.revision both.0) in
            let y = sym ((pointwise_decides unsigned_Decides row.conf_name before.conf_name).0 both.1) in
            λ i. record r2 { revision = x i; conf_name = y i }

        one_tree : (r : BridgeRow) (table : List ℕ) → steps (bridge_step q t) (priority_edits a b (bridge_stays a b q) q t) (at r priority_was table) ≡ at r (priority_of b q t) table
        one_tree r table = steps-when (bridge_step q t) (not (priority_of b q t == priority_was)) (SetByTree (Priority q t (priority_of b q t))) (at r priority_was table) (at r (priority_of b q t) table)
            (λ h. ap (λ c. at r (if c && nat_eq t t then priority_of b q t else priority_was) table) (itself names q) ∙ ap (λ c. at r (if c then priority_of b q t else priority_was) table) ((unsigned_Decides t t).1 refl))
            (λ h. ap (λ n. at r n table) (sym (eqb-true (priority_of b q t) priority_was (not_not _ h))))

        old_beyond : 4095 ≤ t → (s : Bool) → priority_before a s q t ≡ 8
        old_beyond high true = beyond_is a is_a q t high
        old_beyond high false = refl

        other_trees : (k : ℕ) → nat_eq k t ≡ false → AllByRecursion (Stays (bridge_step q t)) (priority_edits a b (bridge_stays a b q) q k)
        other_trees k other = all_when (Stays (bridge_step q t)) (not (priority_of b q k == priority_before a (bridge_stays a b q) q k)) (SetByTree (Priority q k (priority_of b q k)))
            (λ h u. ap (λ c. record u { priority = if name_eq q q && c then priority_of b q k else u.priority }) other ∙ ap (λ c. record u { priority = if c && false then priority_of b q k else u.priority }) (itself names q))

        priorities : (r : BridgeRow) (table : List ℕ) → steps (bridge_step q t) (in_trees (priority_edits a b (bridge_stays a b q) q)) (at r priority_was table) ≡ at r (priority_of b q t) table
        priorities r table = trees_set (bridge_step q t) (priority_edits a b (bridge_stays a b q) q) t other_trees (at r priority_was table) (at r (priority_of b q t) table)
            (λ low. one_tree r table) (λ high. ap (λ n. at r n table) (old_beyond high (bridge_stays a b q) ∙ sym (beyond_is b is_b q t high)))

    is_powered : (in_place : Bool) → steps (bridge_step q t) (power_settings in_place a q row) (at (but_power in_place) (priority_of b q t) (table_of b q)) ≡ at row (priority_of b q t) (table_of b q)
    is_powered true = refl
    is_powered false = row_when q t (beq row.is_on before.is_on) (PowerOf (power_of row.is_on)) (but_power false) row (priority_of b q t) (table_of b q)
        (ap (λ c. record row { is_on = c }) (power_is row.is_on)) (λ h. ap (λ c. record row { is_on = c }) (sym (same_flag row.is_on before.is_on h)))

  -- ---- what comes
  pub others_part : (in_place : Bool) (k : List ℕ) → name_eq k q ≡ false → AllByRecursion (Stays (bridge_step q t)) (bridge_part in_place a b k)
  others_part in_place k other = all_append (Stays (bridge_step q t)) (bridge_edits in_place a b k) (flat_map (port_edits a b) (ports_of b k))
      (all_as (BridgeEdit k) (Stays (bridge_step q t)) (bridge_by_other q t k other) (bridge_edits in_place a b k) (bridges_of a b in_place k))
      (all_flat (Stays (bridge_step q t)) (port_edits a b) (ports_of b k) (λ p. all_as (PortEdit p) (Stays (bridge_step q t)) (bridge_by_port q t p) (port_edits a b p) (ports_are_of a b p)))

  pub others_powered : (in_place : Bool) (k : List ℕ) → name_eq k q ≡ false → AllByRecursion (Stays (bridge_step q t)) (power_edits in_place a b k)
  others_powered in_place k other = all_as (BridgeEdit k) (Stays (bridge_step q t)) (bridge_by_other q t k other) (power_edits in_place a b k) (powers_of a b in_place k)

  abbrev pub unpowered : Bool → Option BridgeRow → AtBridge
  unpowered in_place o = option_map_or (λ row. at (record row { is_on = if in_place then row.is_on else (bridge_before a q row).is_on }) (priority_of b q t) (table_of b q)) o (at_bridge q t b)

  pub comes : (in_place : Bool) (o : Option BridgeRow) → fin.get b.bridges q ≡ o → steps (bridge_step q t) (flat_map (bridge_part in_place a b) (fin.keys b.bridges)) (stayed (bridge_stays a b q)) ≡ unpowered in_place o
  comes in_place None e =
      steps_none (bridge_step q t) names (bridge_part in_place a b) q (others_part in_place) (fin.keys b.bridges) (stayed (bridge_stays a b q)) (keys_hold names b.bridges q ∙ ap is_some e)
      ∙ ap stayed (ap (λ x. option_map_or (λ x. has_mac x.mac (fin.get a.bridges q)) x false) e) ∙ absent_bridge q t b is_b (ap is_some e)
  comes in_place (Some row) e =
      steps_one (bridge_step q t) names (bridge_part in_place a b) q (others_part in_place) (fin.keys b.bridges) (stayed (bridge_stays a b q)) (keys_distinct names b.bridges) (keys_hold names b.bridges q ∙ ap is_some e)
      ∙ steps-append (bridge_step q t) (bridge_edits in_place a b q) (flat_map (port_edits a b) (ports_of b q)) (stayed (bridge_stays a b q))
      ∙ others_leave (bridge_step q t) PortEdit (bridge_by_port q t) (port_edits a b) (ports_are_of a b) (ports_of b q) _
      ∙ ap (λ x. steps (bridge_step q t) (option_map_or (bridge_settings in_place a b q) x []) (stayed (bridge_stays a b q))) e
      ∙ is_set row e in_place

  powered : (in_place : Bool) (o : Option BridgeRow) → fin.get b.bridges q ≡ o → steps (bridge_step q t) (flat_map (power_edits in_place a b) (fin.keys b.bridges)) (unpowered in_place o) ≡ at_bridge q t b
  powered in_place None e = steps_none (bridge_step q t) names (power_edits in_place a b) q (others_powered in_place) (fin.keys b.bridges) (at_bridge q t b) (keys_hold names b.bridges q ∙ ap is_some e)
  powered in_place (Some row) e =
      steps_one (bridge_step q t) names (power_edits in_place a b) q (others_powered in_place) (fin.keys b.bridges) (unpowered in_place (Some row)) (keys_distinct names b.bridges) (keys_hold names b.bridges q ∙ ap is_some e)
      ∙ ap (λ x. steps (bridge_step q t) (option_map_or (power_settings in_place a q) x []) (unpowered in_place (Some row))) e ∙ is_powered row e in_place
      ∙ ap (λ x. record { row = x; priority = priority_of b q t; table = table_of b q }) (sym e)

  come_all : (in_place : Bool) → steps (bridge_step q t) (joined (coming in_place a b)) (stayed (bridge_stays a b q)) ≡ at_bridge q t b
  come_all in_place =
      let step = bridge_step q t in
      let mid = unpowered in_place (fin.get b.bridges q) in
      let new = at_bridge q t b in
      steps-joined step (coming in_place a b) (stayed (bridge_stays a b q)) new (
        mid,
        comes in_place (fin.get b.bridges q) refl,
        (
          mid,
          others_leave step LanEdit (bridge_by_lan q t) (lan_edits in_place a b) (lans_of a b in_place) (fin.keys b.lans) mid,
          (
            mid,
            others_leave step PortEdit (bridge_by_port q t) (plug_edits a b) (plugs_of a b) (fin.keys b.ports) mid,
            (
              new,
              powered in_place (fin.get b.bridges q) refl,
              (new, others_leave step LanEdit (bridge_by_lan q t) (state_edits in_place a b) (states_of a b in_place) (fin.keys b.lans) new, refl),
            ),
          ),
        ),
      )

  pub bridge_changed : (in_place : Bool) → at_bridge q t (made (edits_with in_place a b) a) ≡ at_bridge q t b
  bridge_changed in_place =
      bridge_made q t (edits_with in_place a b) a ∙ steps-append (bridge_step q t) (joined (going a b)) (joined (coming in_place a b)) (at_bridge q t a)
      ∙ ap (steps (bridge_step q t) (joined (coming in_place a b))) gone_all ∙ come_all in_place

-- What the edits make of a port and of what is set for it: what the new network has.
use Rattle.std.proofs.Common.{◌≡◌, ℕ, ◌≤◌, Bool, true, false, not, ◌&&◌, List, [], Option, Some, None, is_some, nat_eq, refl, sym, ap, ◌∙◌, arith, true≢false}
use Rattle.std.specs.Prelude.{◌==◌, if◌then◌else◌}
use Rattle.std.specs.Bool.{beq}
use Rattle.std.specs.List.{flat_map, AllByRecursion}
use Rattle.std.specs.Option.{option_map, option_map_or, unwrap_or}
use Rattle.std.specs.FinMap as fin
use Rattle.std.specs.Cmp.{unsigned_Decides, booleans_Decides}
use Rattle.std.specs.Cmp.Lexicographic.{pointwise, pointwise_decides}
use Rattle.std.proofs.lemmas.Bool.{and_parts, and_left, eqb-true}
use Rattle.mst_ids.specs.declared.name.PortName.{PortName}
use Rattle.mst_lang.specs.declared.line.Edit.TheVariants.{AddPort, DelPort, SetPort, Plug, Unplug, SetByTree}
use Rattle.mst_lang.specs.declared.line.PortChange.{PortChange}
use Rattle.mst_lang.specs.declared.line.PortChange.TheVariants.{Key, PathCost, RestrictedRole}
use Rattle.mst_lang.specs.declared.line.TreeChange.TheVariants.{PortPriority, PortCost, Vlans}
use Rattle.mst_net.specs.tables.Tables.{Net, IsNetwork, PortRow, port_eq}
use Rattle.mst_net.specs.tables.declared.settings.PortSettings.{PortSettings}
use Rattle.mst_net.specs.tables.After.{has_bridge, has_port, vlans_of, all_vids, new_settings, new_port, in_lan, port_with, settings_with}
use Rattle.mst_net.specs.tables.Contents.{port_priority_of, port_cost_of}
use Rattle.mst_net.proofs.tables_lemmas.Keyed.{same_keys}
use Rattle.mst_net.proofs.tables_lemmas.Keys.{name_eq, names, ports}
use Rattle.mst_net.proofs.tables_lemmas.Changed.{itself}
use Rattle.mst_edits.specs.Making.{made}
use Rattle.mst_edits.specs.Edits.{when, joined, ports_of, unplug_edits, del_port_edits, del_lan_edits, del_bridge_edits, in_trees, is_same_cost, port_cost_edits, port_priority_edits, port_set, port_settings, bridge_edits, port_edits, lan_edits, bridge_part, plug_edits, power_edits, state_edits, going, coming, edits_with}
use Rattle.mst_edits.proofs.Lists.{all_append, all_flat_of, all_as, all_of, all_when, holds, in_filter, into_filter, distinct_filter, keys_distinct, keys_hold}
use Rattle.mst_edit_laws.proofs.Steps.{steps, Stays, steps-append, stays, steps-when, steps-joined, steps_one, steps_none}
use Rattle.mst_edit_laws.proofs.Seen.{AtPort, at_port, port_step, port_made}
use Rattle.mst_edits.specs.Staying.{bridge_stays, port_stays, plug_stays, lan_of, is_same_lan, settings_before, port_priority_before, port_cost_before, vlans_before}
use Rattle.mst_edit_laws.proofs.Whose.{BridgeEdit, PortEdit, LanEdit, port_by_bridge, port_by_lan, port_by_other, trees_set, unplugs_of, del_ports_of, del_lans_of, del_bridges_of, bridges_of, ports_are_of, lans_of, plugs_of, powers_of, states_of, others_leave}
use Rattle.mst_edit_laws.proofs.Plain.{not_found, not_not, same_flag}

abbrev at : PortRow → ℕ → Option ℕ → List Bool → AtPort
at row priority cost vlans = record { row = Some row; priority = priority; cost = cost; vlans = vlans }

abbrev row_of : Option (List ℕ) → PortSettings → PortRow
row_of lan settings = record { lan = lan; settings = settings }

abbrev pub no_port : AtPort
no_port = record { row = None; priority = 8; cost = None; vlans = all_vids }

same_costs : (x y : Option ℕ) → is_same_cost x y ≡ true → x ≡ y
same_costs (Some x) (Some y) e = ap Some (eqb-true x y e)
same_costs (Some x) None e = absurd (true≢false (sym e))
same_costs None (Some y) e = absurd (true≢false (sym e))
same_costs None None e = refl

no_same_lan : (o : Option (List ℕ)) → is_same_lan o None ≡ false
no_same_lan None = refl
no_same_lan (Some lan) = refl

pub same_lans : (o : Option (List ℕ)) (lan : List ℕ) → is_same_lan o (Some lan) ≡ true → o ≡ Some lan
same_lans None lan e = absurd (true≢false (sym e))
same_lans (Some other) lan e = ap Some ((pointwise_decides unsigned_Decides other lan).0 e)

and_none : (a b : Bool) → b ≡ false → (a && b) ≡ false
and_none true b e = e
and_none false b e = refl

module _ (q : PortName) (t : ℕ) where
  row_set : (f : PortRow → PortRow) (row : PortRow) (p : ℕ) (c : Option ℕ) (v : List Bool) → record (at row p c v) { row = if port_eq q q then option_map f (Some row) else Some row } ≡ at (f row) p c v
  row_set f row p c v = ap (λ b. record (at row p c v) { row = if b then option_map f (Some row) else Some row }) (itself ports q)

  -- a setting that is set where it isn't what it was
  row_when : (same : Bool) (change : PortChange) (lan : Option (List ℕ)) (old new : PortSettings) (p : ℕ) (c : Option ℕ) (v : List Bool) → settings_with change old ≡ new → (same ≡ true → old ≡ new)
      → steps (port_step q t) (when (not same) (SetPort q change)) (at (row_of lan old) p c v) ≡ at (row_of lan new) p c v
  row_when same change lan old new p c v set kept =
      steps-when (port_step q t) (not same) (SetPort q change) (at (row_of lan old) p c v) (at (row_of lan new) p c v)
      (λ h. row_set (port_with change) (row_of lan old) p c v ∙ ap (λ s. at (row_of lan s) p c v) set) (λ h. ap (λ s. at (row_of lan s) p c v) (kept (not_not same h)))

  absent_port : (net : Net) → IsNetwork net → has_port q net ≡ false → no_port ≡ at_port q t net
  absent_port net is absent =
      let row = sym (not_found (fin.get net.ports q) absent) in
      let p = priority (fin.get net.port_priorities (record { port = q; tree = t })) refl in
      let c = cost (fin.get net.port_costs (record { port = q; tree = t })) refl in
      let v = vlans (fin.get net.vlans q) refl in
      λ i. record { row = row i; priority = p i; cost = c i; vlans = v i }
    where
      priority : (o : Option ℕ) → fin.get net.port_priorities (record { port = q; tree = t }) ≡ o → 8 ≡ unwrap_or o 8
      priority None e = refl
      priority (Some n) e = absurd (true≢false (sym ((is.port_priorities (record { port = q; tree = t }) n e).0) ∙ absent))

      cost : (o : Option ℕ) → fin.get net.port_costs (record { port = q; tree = t }) ≡ o → None ≡ o
      cost None e = refl
      cost (Some n) e = absurd (true≢false (sym ((is.port_costs (record { port = q; tree = t }) n e).0) ∙ absent))

      vlans : (o : Option (List Bool)) → fin.get net.vlans q ≡ o → all_vids ≡ unwrap_or o all_vids
      vlans None e = refl
      vlans (Some v) e = absurd (true≢false (sym ((is.vlans q v e).0) ∙ absent))

-- what is set in a tree beyond the last is the default
module _ (net : Net) (is : IsNetwork net) (q : PortName) (t : ℕ) (high : 4095 ≤ t) where
  priority_beyond : port_priority_of net q t ≡ 8
  priority_beyond = by (fin.get net.port_priorities (record { port = q; tree = t })) refl
    where
      by : (o : Option ℕ) → fin.get net.port_priorities (record { port = q; tree = t }) ≡ o → unwrap_or o 8 ≡ 8
      by None e = refl
      by (Some n) e = let fits = is.port_priorities (record { port = q; tree = t }) n e in absurd (omega (arith, fits.1, high))

  cost_beyond : port_cost_of net q t ≡ None
  cost_beyond = by (fin.get net.port_costs (record { port = q; tree = t })) refl
    where
      by : (o : Option ℕ) → fin.get net.port_costs (record { port = q; tree = t }) ≡ o → o ≡ None
      by None e = refl
      by (Some n) e = let fits = is.port_costs (record { port = q; tree = t }) n e in absurd (omega (arith, fits.1, high))

module _ (a b : Net) (is_a : IsNetwork a) (is_b : IsNetwork b) (q : PortName) (t : ℕ) where
  -- the LAN that it stays in
  abbrev pub lan_kept : Option (List ℕ)
  lan_kept = if plug_stays a b q then lan_of a q else None

  abbrev pub unplugged : AtPort
  unplugged = record (at_port q t a) { row = option_map (in_lan lan_kept) (fin.get a.ports q) }

  -- what stays of it, and nothing else
  abbrev pub stayed : Bool → AtPort
  stayed stays = if stays then unplugged else no_port

  pub stays_there : port_stays a b q ≡ true → has_port q a ≡ true
  stays_there h = (and_parts (has_port q a) (has_port q b) (and_parts (bridge_stays a b q.bridge) (has_port q a && has_port q b) h).1).0

  pub others_unplug : (p : PortName) → port_eq p q ≡ false → AllByRecursion (Stays (port_step q t)) (unplug_edits a b p)
  others_unplug p other = all_as (PortEdit p) (Stays (port_step q t)) (port_by_other q t p other) (unplug_edits a b p) (unplugs_of a b p)

  pub others_go : (p : PortName) → port_eq p q ≡ false → AllByRecursion (Stays (port_step q t)) (del_port_edits a b p)
  others_go p other = all_as (PortEdit p) (Stays (port_step q t)) (port_by_other q t p other) (del_port_edits a b p) (del_ports_of a b p)

  pub unplugs : steps (port_step q t) (flat_map (unplug_edits a b) (fin.keys a.ports)) (at_port q t a) ≡ unplugged
  unplugs = by (fin.get a.ports q) refl
    where
      one : (old : PortRow) (lan : Option (List ℕ)) (s : Bool) → old.lan ≡ lan
          → steps (port_step q t) (when (is_some lan && not s) (Unplug q)) (at old (port_priority_of a q t) (port_cost_of a q t) (vlans_of a q)) ≡ at (in_lan (if s then lan else None) old) (port_priority_of a q t) (port_cost_of a q t) (vlans_of a q)
      one old None true e = ap (λ o. at (in_lan o old) (port_priority_of a q t) (port_cost_of a q t) (vlans_of a q)) e
      one old None false e = ap (λ o. at (in_lan o old) (port_priority_of a q t) (port_cost_of a q t) (vlans_of a q)) e
      one old (Some lan) true e = ap (λ o. at (in_lan o old) (port_priority_of a q t) (port_cost_of a q t) (vlans_of a q)) e
      one old (Some lan) false e = row_set q t (in_lan None) old (port_priority_of a q t) (port_cost_of a q t) (vlans_of a q)

      by : (o : Option PortRow) → fin.get a.ports q ≡ o → steps (port_step q t) (flat_map (unplug_edits a b) (fin.keys a.ports)) (at_port q t a) ≡ unplugged
      by None e =
          steps_none (port_step q t) ports (unplug_edits a b) q others_unplug (fin.keys a.ports) (at_port q t a) (keys_hold ports a.ports q ∙ ap is_some e)
          ∙ ap (λ o. record (at_port q t a) { row = o }) (e ∙ sym (ap (option_map (in_lan lan_kept)) e))
      by (Some old) e =
          steps_one (port_step q t) ports (unplug_edits a b) q others_unplug (fin.keys a.ports) (at_port q t a) (keys_distinct ports a.ports) (keys_hold ports a.ports q ∙ ap is_some e)
          ∙ (λ i. steps (port_step q t) (when (is_some (option_map_or (λ row. row.lan) (e i) None) && not (plug_stays a b q)) (Unplug q)) (record (at_port q t a) { row = e i }))
          ∙ one old old.lan (plug_stays a b q) refl
          ∙ sym (λ i. record (at_port q t a) { row = option_map (in_lan (if plug_stays a b q then option_map_or (λ row. row.lan) (e i) None else None)) (e i) })

  pub goes : steps (port_step q t) (flat_map (del_port_edits a b) (fin.keys a.ports)) unplugged ≡ stayed (port_stays a b q)
  goes = by (has_port q a) refl
    where
      gone : (s : Bool) → steps (port_step q t) (when (not s) (DelPort q)) unplugged ≡ stayed s
      gone true = refl
      gone false = ap (λ c. record { row = if c then None else unplugged.row; priority = if c then 8 else port_priority_of a q t; cost = if c then None else port_cost_of a q t; vlans = if c then all_vids else vlans_of a q }) (itself ports q)

      absent : (s : Bool) → has_port q a ≡ false → unplugged ≡ stayed s
      absent true h = refl
      absent false h = (let n = not_found (fin.get a.ports q) h in ap (λ o. record (at_port q t a) { row = o }) (ap (option_map (in_lan lan_kept)) n ∙ sym n)) ∙ sym (absent_port q t a is_a h)

      by : (h : Bool) → has_port q a ≡ h → steps (port_step q t) (flat_map (del_port_edits a b) (fin.keys a.ports)) unplugged ≡ stayed (port_stays a b q)
      by true e = steps_one (port_step q t) ports (del_port_edits a b) q others_go (fin.keys a.ports) unplugged (keys_distinct ports a.ports) (keys_hold ports a.ports q ∙ e) ∙ gone (port_stays a b q)
      by false e = steps_none (port_step q t) ports (del_port_edits a b) q others_go (fin.keys a.ports) unplugged (keys_hold ports a.ports q ∙ e) ∙ absent (port_stays a b q) e

  pub gone_all : steps (port_step q t) (joined (going a b)) (at_port q t a) ≡ stayed (port_stays a b q)
  gone_all =
      let step = port_step q t in
      let new = stayed (port_stays a b q) in
      steps-joined step (going a b) (at_port q t a) new (
        unplugged,
        unplugs,
        (
          new,
          goes,
          (
            new,
            others_leave step LanEdit (port_by_lan q t) (del_lan_edits b) (del_lans_of a b) (fin.keys a.lans) new,
            (new, others_leave step BridgeEdit (port_by_bridge q t) (del_bridge_edits a b) (del_bridges_of a b) (fin.keys a.bridges) new, refl),
          ),
        ),
      )

  -- ---- a port that is there
  module _ (row : PortRow) (there : fin.get b.ports q ≡ Some row) where
    abbrev was : PortSettings
    was = settings_before a (port_stays a b q) q

    abbrev priority_was : ℕ
    priority_was = port_priority_before a (port_stays a b q) q t

    abbrev cost_was : Option ℕ
    cost_was = port_cost_before a (port_stays a b q) q t

    abbrev vlans_were : List Bool
    vlans_were = vlans_before a (port_stays a b q) q

    pub begins : steps (port_step q t) (when (not (port_stays a b q)) (AddPort q)) (stayed (port_stays a b q)) ≡ at (row_of lan_kept was) priority_was cost_was vlans_were
    begins = by (port_stays a b q) refl
      where
        old : (o : Option PortRow) → fin.get a.ports q ≡ o → is_some o ≡ true → unplugged ≡ at (row_of lan_kept (settings_before a true q)) (port_priority_of a q t) (port_cost_of a q t) (vlans_of a q)
        old None e h = absurd (true≢false (sym h))
        old (Some x) e h =
            ap (λ o. record (at_port q t a) { row = option_map (in_lan lan_kept) o }) e
            ∙ sym (ap (λ (o : Option PortRow). at (row_of lan_kept (option_map_or (λ row. row) o new_port).settings) (port_priority_of a q t) (port_cost_of a q t) (vlans_of a q)) e)

        by : (s : Bool) → port_stays a b q ≡ s → steps (port_step q t) (when (not s) (AddPort q)) (stayed s) ≡ at (row_of lan_kept (settings_before a s q)) (port_priority_before a s q t) (port_cost_before a s q t) (vlans_before a s q)
        by true e = old (fin.get a.ports q) refl (stays_there e)
        by false e =
            ap (λ (c : Bool). record no_port { row = if c then Some new_port else None }) (itself ports q)
            ∙ sym (ap (λ c. at (row_of (if c && is_same_lan (lan_of a q) (lan_of b q) then lan_of a q else None) new_settings) 8 None all_vids) e)

    pub is_set : steps (port_step q t) (port_settings a b q row) (stayed (port_stays a b q)) ≡ at (row_of lan_kept row.settings) (port_priority_of b q t) (port_cost_of b q t) (vlans_of b q)
    is_set =
        let step = port_step q t in
        let lan = lan_kept in
        let s0 : PortSettings = was in
        let s1 : PortSettings = record s0 { key = row.settings.key } in
        let s2 : PortSettings = record s1 { external = row.settings.external } in
        let p0 = priority_was in
        let c0 = cost_was in
        let v0 = vlans_were in
        let p = port_priority_of b q t in
        let c = port_cost_of b q t in
        let v = vlans_of b q in
        let k1 = row_when q t (row.settings.key == s0.key) (Key row.settings.key) lan s0 s1 p0 c0 v0 refl (λ h. ap (λ n. record s0 { key = n }) (sym (eqb-true row.settings.key s0.key h))) in
        let k2 = row_when q t (is_same_cost row.settings.external s0.external) (PathCost row.settings.external) lan s1 s2 p0 c0 v0 refl (λ h. ap (λ o. record s1 { external = o }) (sym (same_costs row.settings.external s0.external h))) in
        let k5 : steps step (when (not (pointwise beq (vlans_of b q) v0)) (SetByTree (Vlans q (vlans_of b q)))) (at (row_of lan s2) p c v0) ≡ at (row_of lan s2) p c v =
        steps-when step (not (pointwise beq (vlans_of b q) v0)) (SetByTree (Vlans q (vlans_of b q))) (at (row_of lan s2) p c v0) (at (row_of lan s2) p c v)
        (λ h. ap (λ x. record (at (row_of lan s2) p c v0) { vlans = if x then vlans_of b q else v0 }) (itself ports q)) (λ h. ap (at (row_of lan s2) p c) (sym ((pointwise_decides booleans_Decides (vlans_of b q) v0).0 (not_not _ h)))) in
        let k6 = row_when q t (beq row.settings.is_restricted s0.is_restricted) (RestrictedRole row.settings.is_restricted) lan s2 row.settings p c v refl (λ h. ap (λ x. record row.settings { is_restricted = x }) (sym (same_flag row.settings.is_restricted s0.is_restricted h))) in
        steps-joined step (port_set a b (port_stays a b q) q was row.settings) (stayed (port_stays a b q)) (at (row_of lan row.settings) p c v)
        (at (row_of lan s0) p0 c0 v0, begins, (at (row_of lan s1) p0 c0 v0, k1, (at (row_of lan s2) p0 c0 v0, k2, (at (row_of lan s2) p0 c v0, costs (row_of lan s2), (at (row_of lan s2) p c v0, priorities (row_of lan s2), (at (row_of lan s2) p c v, k5, (at (row_of lan row.settings) p c v, k6, refl)))))))
      where
        -- costs
        one_cost : (r : PortRow) → steps (port_step q t) (port_cost_edits a b (port_stays a b q) q t) (at r priority_was cost_was vlans_were) ≡ at r priority_was (port_cost_of b q t) vlans_were
        one_cost r = steps-when (port_step q t) (not (is_same_cost (port_cost_of b q t) cost_was)) (SetByTree (PortCost q t (port_cost_of b q t))) (at r priority_was cost_was vlans_were) (at r priority_was (port_cost_of b q t) vlans_were)
            (λ h. ap (λ x. at r priority_was (if x && nat_eq t t then port_cost_of b q t else cost_was) vlans_were) (itself ports q) ∙ ap (λ x. at r priority_was (if x then port_cost_of b q t else cost_was) vlans_were) ((unsigned_Decides t t).1 refl))
            (λ h. ap (λ n. at r priority_was n vlans_were) (sym (same_costs (port_cost_of b q t) cost_was (not_not _ h))))

        cost_old : 4095 ≤ t → (s : Bool) → port_cost_before a s q t ≡ None
        cost_old high true = cost_beyond a is_a q t high
        cost_old high false = refl

        other_costs : (k : ℕ) → nat_eq k t ≡ false → AllByRecursion (Stays (port_step q t)) (port_cost_edits a b (port_stays a b q) q k)
        other_costs k other = all_when (Stays (port_step q t)) (not (is_same_cost (port_cost_of b q k) (port_cost_before a (port_stays a b q) q k))) (SetByTree (PortCost q k (port_cost_of b q k)))
            (λ h u. ap (λ x. record u { cost = if port_eq q q && x then port_cost_of b q k else u.cost }) other ∙ ap (λ x. record u { cost = if x && false then port_cost_of b q k else u.cost }) (itself ports q))

        costs : (r : PortRow) → steps (port_step q t) (in_trees (port_cost_edits a b (port_stays a b q) q)) (at r priority_was cost_was vlans_were) ≡ at r priority_was (port_cost_of b q t) vlans_were
        costs r = trees_set (port_step q t) (port_cost_edits a b (port_stays a b q) q) t other_costs (at r priority_was cost_was vlans_were) (at r priority_was (port_cost_of b q t) vlans_were)
            (λ low. one_cost r) (λ high. ap (λ n. at r priority_was n vlans_were) (cost_old high (port_stays a b q) ∙ sym (cost_beyond b is_b q t high)))

        -- priorities
        one_priority : (r : PortRow) → steps (port_step q t) (port_priority_edits a b (port_stays a b q) q t) (at r priority_was (port_cost_of b q t) vlans_were) ≡ at r (port_priority_of b q t) (port_cost_of b q t) vlans_were
        one_priority r = steps-when (port_step q t) (not (port_priority_of b q t == priority_was)) (SetByTree (PortPriority q t (port_priority_of b q t))) (at r priority_was (port_cost_of b q t) vlans_were) (at r (port_priority_of b q t) (port_cost_of b q t) vlans_were)
            (λ h. ap (λ x. at r (if x && nat_eq t t then port_priority_of b q t else priority_was) (port_cost_of b q t) vlans_were) (itself ports q) ∙ ap (λ x. at r (if x then port_priority_of b q t else priority_was) (port_cost_of b q t) vlans_were) ((unsigned_Decides t t).1 refl))
            (λ h. ap (λ n. at r n (port_cost_of b q t) vlans_were) (sym (eqb-true (port_priority_of b q t) priority_was (not_not _ h))))

        priority_old : 4095 ≤ t → (s : Bool) → port_priority_before a s q t ≡ 8
        priority_old high true = priority_beyond a is_a q t high
        priority_old high false = refl

        other_priorities : (k : ℕ) → nat_eq k t ≡ false → AllByRecursion (Stays (port_step q t)) (port_priority_edits a b (port_stays a b q) q k)
        other_priorities k other = all_when (Stays (port_step q t)) (not (port_priority_of b q k == port_priority_before a (port_stays a b q) q k)) (SetByTree (PortPriority q k (port_priority_of b q k)))
            (λ h u. ap (λ x. record u { priority = if port_eq q q && x then port_priority_of b q k else u.priority }) other ∙ ap (λ x. record u { priority = if x && false then port_priority_of b q k else u.priority }) (itself ports q))

        priorities : (r : PortRow) → steps (port_step q t) (in_trees (port_priority_edits a b (port_stays a b q) q)) (at r priority_was (port_cost_of b q t) vlans_were) ≡ at r (port_priority_of b q t) (port_cost_of b q t) vlans_were
        priorities r = trees_set (port_step q t) (port_priority_edits a b (port_stays a b q) q) t other_priorities (at r priority_was (port_cost_of b q t) vlans_were) (at r (port_priority_of b q t) (port_cost_of b q t) vlans_were)
            (λ low. one_priority r) (λ high. ap (λ n. at r n (port_cost_of b q t) vlans_were) (priority_old high (port_stays a b q) ∙ sym (priority_beyond b is_b q t high)))

    -- and the plug
    pub is_plugged : (p : ℕ) (c : Option ℕ) (v : List Bool) → steps (port_step q t) (plug_edits a b q) (at (row_of lan_kept row.settings) p c v) ≡ at row p c v
    is_plugged p c v = by row.lan refl (plug_stays a b q) refl
      where
        same : lan_of b q ≡ row.lan
        same = ap (λ (o : Option PortRow). option_map_or (λ row. row.lan) o None) there

        none : lan_of b q ≡ None → plug_stays a b q ≡ false
        none e = and_none (port_stays a b q) _ (ap (is_same_lan (lan_of a q)) e ∙ no_same_lan (lan_of a q))

        alike : (lan : List ℕ) → lan_of b q ≡ Some lan → plug_stays a b q ≡ true → lan_of a q ≡ Some lan
        alike lan e h = same_lans (lan_of a q) lan (sym (ap (is_same_lan (lan_of a q)) e) ∙ (and_parts (port_stays a b q) (is_same_lan (lan_of a q) (lan_of b q)) h).1)

        by : (o : Option (List ℕ)) → row.lan ≡ o → (s : Bool) → plug_stays a b q ≡ s → steps (port_step q t) (option_map_or (λ lan. when (not s) (Plug q lan)) (lan_of b q) []) (at (row_of (if s then lan_of a q else None) row.settings) p c v) ≡ at row p c v
        by None e true h = absurd (true≢false (sym h ∙ none (same ∙ e)))
        by None e false h =
            ap (λ x. steps (port_step q t) (option_map_or (λ lan. when true (Plug q lan)) x []) (at (row_of None row.settings) p c v)) (same ∙ e) ∙ ap (λ o. at (row_of o row.settings) p c v) (sym e)
        by (Some lan) e true h =
            ap (λ x. steps (port_step q t) (option_map_or (λ lan. when false (Plug q lan)) x []) (at (row_of (lan_of a q) row.settings) p c v)) (same ∙ e) ∙ ap (λ o. at (row_of o row.settings) p c v) (alike lan (same ∙ e) h ∙ sym e)
        by (Some lan) e false h =
            ap (λ x. steps (port_step q t) (option_map_or (λ lan. when true (Plug q lan)) x []) (at (row_of None row.settings) p c v)) (same ∙ e)
            ∙ row_set q t (in_lan (Some lan)) (row_of None row.settings) p c v ∙ ap (λ o. at (row_of o row.settings) p c v) (sym e)

  -- ---- what comes
  pub other_port : (p : PortName) → port_eq p q ≡ false → AllByRecursion (Stays (port_step q t)) (port_edits a b p)
  other_port p other = all_as (PortEdit p) (Stays (port_step q t)) (port_by_other q t p other) (port_edits a b p) (ports_are_of a b p)

  pub other_bridges : (in_place : Bool) (k : List ℕ) → name_eq k q.bridge ≡ false → AllByRecursion (Stays (port_step q t)) (bridge_part in_place a b k)
  other_bridges in_place k other = all_append (Stays (port_step q t)) (bridge_edits in_place a b k) (flat_map (port_edits a b) (ports_of b k)) (all_as (BridgeEdit k) (Stays (port_step q t)) (port_by_bridge q t k) (bridge_edits in_place a b k) (bridges_of a b in_place k))
      (all_flat_of (Stays (port_step q t)) (λ p. name_eq k p.bridge ≡ true) (port_edits a b) (ports_of b k) (all_of ports (λ p. name_eq k p.bridge ≡ true) (ports_of b k) (λ p h. (in_filter ports (λ port. pointwise nat_eq k port.bridge) (fin.keys b.ports) p h).1))
      (λ p home. other_port p (and_left (name_eq p.bridge q.bridge) (nat_eq p.number q.number) (ap (λ x. name_eq x q.bridge) (sym (same_keys names k p.bridge home)) ∙ other))))

  pub other_plug : (p : PortName) → port_eq p q ≡ false → AllByRecursion (Stays (port_step q t)) (plug_edits a b p)
  other_plug p other = all_as (PortEdit p) (Stays (port_step q t)) (port_by_other q t p other) (plug_edits a b p) (plugs_of a b p)

  -- all but the plug
  abbrev pub but_plug : Option PortRow → AtPort
  but_plug o = option_map_or (λ row. at (row_of lan_kept row.settings) (port_priority_of b q t) (port_cost_of b q t) (vlans_of b q)) o (at_port q t b)

  pub comes : (in_place : Bool) (o : Option PortRow) → fin.get b.ports q ≡ o → steps (port_step q t) (flat_map (bridge_part in_place a b) (fin.keys b.bridges)) (stayed (port_stays a b q)) ≡ but_plug o
  comes in_place o e = home (has_bridge q.bridge b) refl o e
    where
      stays_in_b : port_stays a b q ≡ true → has_port q b ≡ true
      stays_in_b h = (and_parts (has_port q a) (has_port q b) (and_parts (bridge_stays a b q.bridge) (has_port q a && has_port q b) h).1).1

      not_there : fin.get b.ports q ≡ None → stayed (port_stays a b q) ≡ at_port q t b
      not_there e = at_none (port_stays a b q) refl
        where
          at_none : (s : Bool) → port_stays a b q ≡ s → stayed s ≡ at_port q t b
          at_none true h = absurd (true≢false (sym (stays_in_b h) ∙ ap is_some e))
          at_none false h = absent_port q t b is_b (ap is_some e)

      within : (o : Option PortRow) → fin.get b.ports q ≡ o → steps (port_step q t) (flat_map (port_edits a b) (ports_of b q.bridge)) (stayed (port_stays a b q)) ≡ but_plug o
      within None e = steps_none (port_step q t) ports (port_edits a b) q other_port (ports_of b q.bridge) (stayed (port_stays a b q)) (absent (holds port_eq q (ports_of b q.bridge)) refl) ∙ not_there e
        where
          absent : (c : Bool) → holds port_eq q (ports_of b q.bridge) ≡ c → c ≡ false
          absent true h = absurd (true≢false (sym (sym (keys_hold ports b.ports q) ∙ (in_filter ports (λ port. pointwise nat_eq q.bridge port.bridge) (fin.keys b.ports) q h).0) ∙ ap is_some e))
          absent false h = refl
      within (Some row) e =
          steps_one (port_step q t) ports (port_edits a b) q other_port (ports_of b q.bridge) (stayed (port_stays a b q)) (distinct_filter ports (λ port. pointwise nat_eq q.bridge port.bridge) (fin.keys b.ports) (keys_distinct ports b.ports))
          (into_filter ports (λ port. pointwise nat_eq q.bridge port.bridge) (fin.keys b.ports) q (keys_hold ports b.ports q ∙ ap is_some e) (itself names q.bridge))
          ∙ ap (λ x. steps (port_step q t) (option_map_or (port_settings a b q) x []) (stayed (port_stays a b q))) e ∙ is_set row e

      home : (h : Bool) → has_bridge q.bridge b ≡ h → (o : Option PortRow) → fin.get b.ports q ≡ o → steps (port_step q t) (flat_map (bridge_part in_place a b) (fin.keys b.bridges)) (stayed (port_stays a b q)) ≡ but_plug o
      home true h o e =
          steps_one (port_step q t) names (bridge_part in_place a b) q.bridge (other_bridges in_place) (fin.keys b.bridges) (stayed (port_stays a b q)) (keys_distinct names b.bridges) (keys_hold names b.bridges q.bridge ∙ h)
          ∙ steps-append (port_step q t) (bridge_edits in_place a b q.bridge) (flat_map (port_edits a b) (ports_of b q.bridge)) (stayed (port_stays a b q))
          ∙ ap (steps (port_step q t) (flat_map (port_edits a b) (ports_of b q.bridge))) (stays (port_step q t) (bridge_edits in_place a b q.bridge) (stayed (port_stays a b q)) (all_as (BridgeEdit q.bridge) (Stays (port_step q t)) (port_by_bridge q t q.bridge) (bridge_edits in_place a b q.bridge) (bridges_of a b in_place q.bridge)))
          ∙ within o e
      home false h None e = steps_none (port_step q t) names (bridge_part in_place a b) q.bridge (other_bridges in_place) (fin.keys b.bridges) (stayed (port_stays a b q)) (keys_hold names b.bridges q.bridge ∙ h) ∙ not_there e
      home false h (Some row) e = absurd (true≢false (sym (is_b.ports.has_bridge q row e) ∙ h))

  plugged : (o : Option PortRow) → fin.get b.ports q ≡ o → steps (port_step q t) (flat_map (plug_edits a b) (fin.keys b.ports)) (but_plug o) ≡ at_port q t b
  plugged None e = steps_none (port_step q t) ports (plug_edits a b) q other_plug (fin.keys b.ports) (at_port q t b) (keys_hold ports b.ports q ∙ ap is_some e)
  plugged (Some row) e =
      steps_one (port_step q t) ports (plug_edits a b) q other_plug (fin.keys b.ports) (but_plug (Some row)) (keys_distinct ports b.ports) (keys_hold ports b.ports q ∙ ap is_some e)
      ∙ is_plugged row e (port_priority_of b q t) (port_cost_of b q t) (vlans_of b q)
      ∙ ap (λ x. record { row = x; priority = port_priority_of b q t; cost = port_cost_of b q t; vlans = vlans_of b q }) (sym e)

  come_all : (in_place : Bool) → steps (port_step q t) (joined (coming in_place a b)) (stayed (port_stays a b q)) ≡ at_port q t b
  come_all in_place =
      let step = port_step q t in
      let mid = but_plug (fin.get b.ports q) in
      let new = at_port q t b in
      steps-joined step (coming in_place a b) (stayed (port_stays a b q)) new (
        mid,
        comes in_place (fin.get b.ports q) refl,
        (
          mid,
          others_leave step LanEdit (port_by_lan q t) (lan_edits in_place a b) (lans_of a b in_place) (fin.keys b.lans) mid,
          (
            new,
            plugged (fin.get b.ports q) refl,
            (
              new,
              others_leave step BridgeEdit (port_by_bridge q t) (power_edits in_place a b) (powers_of a b in_place) (fin.keys b.bridges) new,
              (new, others_leave step LanEdit (port_by_lan q t) (state_edits in_place a b) (states_of a b in_place) (fin.keys b.lans) new, refl),
            ),
          ),
        ),
      )

  pub port_changed : (in_place : Bool) → at_port q t (made (edits_with in_place a b) a) ≡ at_port q t b
  port_changed in_place =
      port_made q t (edits_with in_place a b) a ∙ steps-append (port_step q t) (joined (going a b)) (joined (coming in_place a b)) (at_port q t a)
      ∙ ap (steps (port_step q t) (joined (coming in_place a b))) gone_all ∙ come_all in_place

-- What the edits make of a LAN: that of the new network.
use Rattle.std.proofs.Common.{◌≡◌, ℕ, Bool, true, false, not, List, [], Option, Some, None, is_some, refl, sym, ap, ◌∙◌}
use Rattle.std.specs.Prelude.{◌==◌, if◌then◌else◌}
use Rattle.std.specs.Bool.{beq}
use Rattle.std.specs.List.{flat_map, AllByRecursion}
use Rattle.std.specs.Option.{option_map, option_map_or}
use Rattle.std.specs.FinMap as fin
use Rattle.std.proofs.lemmas.Bool.{eqb-true}
use Rattle.mst_lang.specs.declared.line.Edit.TheVariants.{AddLan, DelLan, SetLan}
use Rattle.mst_lang.specs.declared.line.LanChange.{LanChange}
use Rattle.mst_lang.specs.declared.line.LanChange.TheVariants.{State, Speed}
use Rattle.mst_net.specs.tables.Tables.{Net, LanRow}
use Rattle.mst_net.specs.tables.After.{has_lan, new_lan, lan_with, is_up}
use Rattle.mst_net.specs.tables.Settings.{state_of}
use Rattle.mst_net.proofs.tables_lemmas.Keys.{name_eq, names}
use Rattle.mst_net.proofs.tables_lemmas.Changed.{itself}
use Rattle.mst_edits.specs.Making.{made}
use Rattle.mst_edits.specs.Edits.{when, joined, ports_of, unplug_edits, del_port_edits, del_lan_edits, del_bridge_edits, lan_set, lan_settings, bridge_edits, port_edits, lan_edits, bridge_part, plug_edits, power_edits, state_here, state_settings, state_edits, going, coming, edits_with}
use Rattle.mst_edits.proofs.Lists.{all_append, all_flat, all_as, keys_distinct, keys_hold}
use Rattle.mst_edit_laws.proofs.Steps.{steps, Stays, steps-append, stays, steps-when, steps-joined, steps_one, steps_none}
use Rattle.mst_edit_laws.proofs.Seen.{lan_step, lan_made}
use Rattle.mst_edits.specs.Staying.{lan_before}
use Rattle.mst_edit_laws.proofs.Whose.{BridgeEdit, PortEdit, LanEdit, lan_by_bridge, lan_by_port, lan_by_other, unplugs_of, del_ports_of, del_lans_of, del_bridges_of, bridges_of, ports_are_of, lans_of, plugs_of, powers_of, states_of, others_leave}
use Rattle.mst_edit_laws.proofs.Plain.{same_flag, not_found, not_not}

state_is : (b : Bool) → is_up (state_of b) ≡ b
state_is true = refl
state_is false = refl

module _ (q : List ℕ) where
  row_when : (same : Bool) (change : LanChange) (old new : LanRow) → lan_with change old ≡ new → (same ≡ true → old ≡ new) → steps (lan_step q) (when (not same) (SetLan q change)) (Some old) ≡ Some new
  row_when same change old new set kept =
      steps-when (lan_step q) (not same) (SetLan q change) (Some old) (Some new)
      (λ h. ap (λ b. if b then option_map (lan_with change) (Some old) else Some old) (itself names q) ∙ ap Some set) (λ h. ap Some (kept (not_not same h)))

module _ (a b : Net) (q : List ℕ) where
  abbrev pub stayed : Bool → Option LanRow
  stayed stays = if stays then fin.get a.lans q else None

  pub goes : steps (lan_step q) (flat_map (del_lan_edits b) (fin.keys a.lans)) (fin.get a.lans q) ≡ stayed (has_lan q b)
  goes = by (has_lan q a) refl
    where
      others : (k : List ℕ) → name_eq k q ≡ false → AllByRecursion (Stays (lan_step q)) (del_lan_edits b k)
      others k other = all_as (LanEdit k) (Stays (lan_step q)) (lan_by_other q k other) (del_lan_edits b k) (del_lans_of a b k)

      gone : (s : Bool) → steps (lan_step q) (when (not s) (DelLan q)) (fin.get a.lans q) ≡ stayed s
      gone true = refl
      gone false = ap (λ c. if c then None else fin.get a.lans q) (itself names q)

      absent : (s : Bool) → has_lan q a ≡ false → fin.get a.lans q ≡ stayed s
      absent true h = refl
      absent false h = not_found (fin.get a.lans q) h

      by : (h : Bool) → has_lan q a ≡ h → steps (lan_step q) (flat_map (del_lan_edits b) (fin.keys a.lans)) (fin.get a.lans q) ≡ stayed (has_lan q b)
      by true e = steps_one (lan_step q) names (del_lan_edits b) q others (fin.keys a.lans) (fin.get a.lans q) (keys_distinct names a.lans) (keys_hold names a.lans q ∙ e) ∙ gone (has_lan q b)
      by false e = steps_none (lan_step q) names (del_lan_edits b) q others (fin.keys a.lans) (fin.get a.lans q) (keys_hold names a.lans q ∙ e) ∙ absent (has_lan q b) e

  pub gone_all : steps (lan_step q) (joined (going a b)) (fin.get a.lans q) ≡ stayed (has_lan q b)
  gone_all =
      let step = lan_step q in
      let s = fin.get a.lans q in
      let new = stayed (has_lan q b) in
      steps-joined step (going a b) s new (
        s,
        others_leave step PortEdit (lan_by_port q) (unplug_edits a b) (unplugs_of a b) (fin.keys a.ports) s,
        (
          s,
          others_leave step PortEdit (lan_by_port q) (del_port_edits a b) (del_ports_of a b) (fin.keys a.ports) s,
          (
            new,
            goes,
            (new, others_leave step BridgeEdit (lan_by_bridge q) (del_bridge_edits a b) (del_bridges_of a b) (fin.keys a.bridges) new, refl),
          ),
        ),
      )

  abbrev before : LanRow
  before = lan_before a q

  module _ (row : LanRow) (there : fin.get b.lans q ≡ Some row) where
    pub begins : steps (lan_step q) (when (not (has_lan q a)) (AddLan q)) (stayed (has_lan q b)) ≡ Some before
    begins = ap (λ o. steps (lan_step q) (when (not (has_lan q a)) (AddLan q)) (stayed (is_some o))) there ∙ by (fin.get a.lans q)
      where
        by : (o : Option LanRow) → steps (lan_step q) (when (not (is_some o)) (AddLan q)) o ≡ Some (option_map_or (λ row. row) o new_lan)
        by None = ap (λ (c : Bool). if c then Some new_lan else None) (itself names q)
        by (Some old) = refl

    -- whether it is up is set here, or left as it was
    abbrev up_here : Bool → Bool
    up_here here = if here then row.is_up else before.is_up

    state_set : (here : Bool) → steps (lan_step q) (state_here here q before row) (Some before) ≡ Some (record before { is_up = up_here here })
    state_set true = row_when q (beq row.is_up before.is_up) (State (state_of row.is_up)) before (record before { is_up = row.is_up }) (ap (λ c. record before { is_up = c }) (state_is row.is_up))
        (λ h. ap (λ c. record before { is_up = c }) (sym (same_flag row.is_up before.is_up h)))
    state_set false = refl

    abbrev but_state : Bool → LanRow
    but_state in_place = record row { is_up = up_here in_place }

    pub is_set : (in_place : Bool) → steps (lan_step q) (lan_settings in_place a q row) (stayed (has_lan q b)) ≡ Some (but_state in_place)
    is_set in_place =
        let old : LanRow = record before { is_up = up_here in_place } in
        let new : LanRow = but_state in_place in
        steps-joined (lan_step q) (lan_set in_place (has_lan q a) q before row) (stayed (has_lan q b)) (Some new)
        (Some before, begins, (Some old, state_set in_place, (Some new, row_when q (row.speed == before.speed) (Speed row.speed) old new refl (λ h. ap (λ n. record old { speed = n }) (sym (eqb-true row.speed before.speed h))), refl)))

    is_in_state : (in_place : Bool) → steps (lan_step q) (state_settings in_place a q row) (Some (but_state in_place)) ≡ Some row
    is_in_state true = refl
    is_in_state false = row_when q (beq row.is_up before.is_up) (State (state_of row.is_up)) (but_state false) row (ap (λ c. record row { is_up = c }) (state_is row.is_up))
        (λ h. ap (λ c. record row { is_up = c }) (sym (same_flag row.is_up before.is_up h)))

  pub others_part : (in_place : Bool) (k : List ℕ) → AllByRecursion (Stays (lan_step q)) (bridge_part in_place a b k)
  others_part in_place k = all_append (Stays (lan_step q)) (bridge_edits in_place a b k) (flat_map (port_edits a b) (ports_of b k))
      (all_as (BridgeEdit k) (Stays (lan_step q)) (lan_by_bridge q k) (bridge_edits in_place a b k) (bridges_of a b in_place k))
      (all_flat (Stays (lan_step q)) (port_edits a b) (ports_of b k) (λ p. all_as (PortEdit p) (Stays (lan_step q)) (lan_by_port q p) (port_edits a b p) (ports_are_of a b p)))

  pub other_lan : (in_place : Bool) (k : List ℕ) → name_eq k q ≡ false → AllByRecursion (Stays (lan_step q)) (lan_edits in_place a b k)
  other_lan in_place k other = all_as (LanEdit k) (Stays (lan_step q)) (lan_by_other q k other) (lan_edits in_place a b k) (lans_of a b in_place k)

  pub other_state : (in_place : Bool) (k : List ℕ) → name_eq k q ≡ false → AllByRecursion (Stays (lan_step q)) (state_edits in_place a b k)
  other_state in_place k other = all_as (LanEdit k) (Stays (lan_step q)) (lan_by_other q k other) (state_edits in_place a b k) (states_of a b in_place k)

  abbrev pub stateless : Bool → Option LanRow → Option LanRow
  stateless in_place o = option_map (λ (row : LanRow). record row { is_up = if in_place then row.is_up else (lan_before a q).is_up }) o

  pub comes : (in_place : Bool) (o : Option LanRow) → fin.get b.lans q ≡ o → steps (lan_step q) (flat_map (lan_edits in_place a b) (fin.keys b.lans)) (stayed (has_lan q b)) ≡ stateless in_place o
  comes in_place None e = steps_none (lan_step q) names (lan_edits in_place a b) q (other_lan in_place) (fin.keys b.lans) (stayed (has_lan q b)) (keys_hold names b.lans q ∙ ap is_some e) ∙ ap (λ o. stayed (is_some o)) e
  comes in_place (Some row) e =
      steps_one (lan_step q) names (lan_edits in_place a b) q (other_lan in_place) (fin.keys b.lans) (stayed (has_lan q b)) (keys_distinct names b.lans) (keys_hold names b.lans q ∙ ap is_some e)
      ∙ ap (λ x. steps (lan_step q) (option_map_or (lan_settings in_place a q) x []) (stayed (has_lan q b))) e ∙ is_set row e in_place

  in_state : (in_place : Bool) (o : Option LanRow) → fin.get b.lans q ≡ o → steps (lan_step q) (flat_map (state_edits in_place a b) (fin.keys b.lans)) (stateless in_place o) ≡ fin.get b.lans q
  in_state in_place None e = steps_none (lan_step q) names (state_edits in_place a b) q (other_state in_place) (fin.keys b.lans) None (keys_hold names b.lans q ∙ ap is_some e) ∙ sym e
  in_state in_place (Some row) e =
      steps_one (lan_step q) names (state_edits in_place a b) q (other_state in_place) (fin.keys b.lans) (stateless in_place (Some row)) (keys_distinct names b.lans) (keys_hold names b.lans q ∙ ap is_some e)
      ∙ ap (λ x. steps (lan_step q) (option_map_or (state_settings in_place a q) x []) (stateless in_place (Some row))) e ∙ is_in_state row e in_place ∙ sym e

  come_all : (in_place : Bool) → steps (lan_step q) (joined (coming in_place a b)) (stayed (has_lan q b)) ≡ fin.get b.lans q
  come_all in_place =
      let step = lan_step q in
      let s = stayed (has_lan q b) in
      let mid = stateless in_place (fin.get b.lans q) in
      let new = fin.get b.lans q in
      steps-joined step (coming in_place a b) s new (
        s,
        stays step (flat_map (bridge_part in_place a b) (fin.keys b.bridges)) s (all_flat (Stays step) (bridge_part in_place a b) (fin.keys b.bridges) (others_part in_place)),
        (
          mid,
          comes in_place (fin.get b.lans q) refl,
          (
            mid,
            others_leave step PortEdit (lan_by_port q) (plug_edits a b) (plugs_of a b) (fin.keys b.ports) mid,
            (
              mid,
              others_leave step BridgeEdit (lan_by_bridge q) (power_edits in_place a b) (powers_of a b in_place) (fin.keys b.bridges) mid,
              (new, in_state in_place (fin.get b.lans q) refl, refl),
            ),
          ),
        ),
      )

  pub lan_changed : (in_place : Bool) → fin.get (made (edits_with in_place a b) a).lans q ≡ fin.get b.lans q
  lan_changed in_place =
      lan_made q (edits_with in_place a b) a ∙ steps-append (lan_step q) (joined (going a b)) (joined (coming in_place a b)) (fin.get a.lans q)
      ∙ ap (steps (lan_step q) (joined (coming in_place a b))) gone_all ∙ come_all in_place

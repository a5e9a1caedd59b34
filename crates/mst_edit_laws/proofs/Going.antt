-- What goes is refused nowhere: who leaves a LAN has left it before its port and its LAN go, and ports go before their bridge.
use Rattle.std.proofs.Common.{◌≡◌, ℕ, Bool, true, false, not, ◌||◌, ◌&&◌, List, [], ◌∷◌, map, Option, Some, None, is_some, refl, sym, ap, ◌∙◌, true≢false}
use Rattle.std.specs.Prelude.{if◌then◌else◌}
use Rattle.std.specs.List.{list_any, flat_map}
use Rattle.std.specs.Option.{option_map, option_map_or}
use Rattle.std.specs.FinMap as fin
use Rattle.std.specs.FinMap.{entries}
use Rattle.std.specs.declared.cmp.Ordering.{Ordering}
use Rattle.std.proofs.lemmas.Bool.{and_parts}
use Rattle.mst_ids.specs.declared.name.PortName.{PortName}
use Rattle.mst_lang.specs.declared.line.Edit.TheVariants.{DelBridge, DelPort, DelLan, Unplug}
use Rattle.mst_net.specs.tables.declared.refusal.Refusal.TheVariants.{E04, E05, E06, E10, E11, E12, E13}
use Rattle.mst_net.specs.tables.Tables.{Net, IsNetwork, PortRow}
use Rattle.mst_net.specs.tables.After.{first_of, has_bridge, has_port, has_lan, is_plugged, some_port, is_of_bridge, is_in_lan, in_lan}
use Rattle.mst_net.proofs.tables_lemmas.Keyed.{IsKeyed, same_keys}
use Rattle.mst_net.proofs.tables_lemmas.Keys.{name_eq, names, ports}
use Rattle.mst_net.proofs.tables_lemmas.Changed.{value_found}
use Rattle.mst_net.proofs.tables_lemmas.Somes.{some_is, no_some}
use Rattle.mst_edits.specs.Making.{made, Accepted}
use Rattle.mst_edits.specs.Edits.{when, joined, unplug_edits, del_port_edits, del_lan_edits, del_bridge_edits, going}
use Rattle.mst_edits.proofs.Lists.{all_as, holds, holds_first, holds_later, keys_distinct, keys_hold}
use Rattle.mst_edit_laws.proofs.Steps.{steps, Stays}
use Rattle.mst_edit_laws.proofs.Seen.{AtBridge, bridge_step, AtPort, at_port, port_step, port_made, lan_step}
use Rattle.mst_edits.specs.Staying.{bridge_stays, port_stays, plug_stays, lan_of, is_same_lan}
use Rattle.mst_edit_laws.proofs.Accepting.{Fine, fine_none, fine_append, in_turn, keeps_bridge, keeps_port, keeps_lan}
use Rattle.mst_edit_laws.proofs.PortMade as of_port
use Rattle.mst_edit_laws.proofs.Whose.{BridgeEdit, PortEdit, LanEdit, bridge_by_lan, bridge_by_other, lan_by_port, lan_by_other, unplugs_of, del_ports_of, del_lans_of, del_bridges_of, all_leave}
use Rattle.mst_edit_laws.proofs.Plain.{found}

fails : (b : Bool) → (b ≡ true → ⊥) → b ≡ false
fails true h = absurd (h refl)
fails false h = refl

-- ---- some port
any_key : {K : Type 0} {E : K → K → Bool} {R : K → K → Ordering} (keyed : IsKeyed E R) (P : K → Bool) (ks : List K) → list_any P ks ≡ true → (k : K) × (holds E k ks ≡ true) × (P k ≡ true)
any_key keyed P [] h = absurd (true≢false (sym h))
any_key {K = K} {E = E} keyed P (k ∷ ks) h = by (P k) refl h (λ i. any_key keyed P ks i)
  where
    by : (t : Bool) → P k ≡ t → (t || list_any P ks) ≡ true → (list_any P ks ≡ true → (q : K) × (holds E q ks ≡ true) × (P q ≡ true)) → (q : K) × (holds E q (k ∷ ks) ≡ true) × (P q ≡ true)
    by true e h rest = (k, holds_first keyed k ks, e)
    by false e h rest = let r = rest h in (r.0, holds_later keyed r.0 k ks r.1, r.2)

any_map : {A B : Type 0} (p : B → Bool) (f : A → B) (xs : List A) → list_any p (map f xs) ≡ list_any (λ x. p (f x)) xs
any_map p f [] = refl
any_map p f (x ∷ xs) = ap (λ b. p (f x) || b) (any_map p f xs)

none_of_bridge : (net : Net) (q : List ℕ) → ((p : PortName) → has_port p net ≡ true → name_eq q p.bridge ≡ false) → some_port (is_of_bridge q) net ≡ false
none_of_bridge net q none = fails (some_port (is_of_bridge q) net) (λ h.
    let k = any_key ports (λ (p : PortName). name_eq q p.bridge) (fin.keys net.ports) (any_map (λ (p : PortName). name_eq q p.bridge) (λ (e : PortName × PortRow). e.0) (entries net.ports) ∙ h) in
    true≢false (sym k.2 ∙ none k.0 (sym (keys_hold ports net.ports k.0) ∙ k.1)))

none_in_lan : (net : Net) (l : List ℕ) → ((p : PortName) (x : PortRow) → fin.get net.ports p ≡ Some x → option_map_or (name_eq l) x.lan false ≡ false) → some_port (is_in_lan l) net ≡ false
none_in_lan net l none = fails (some_port (is_in_lan l) net) (λ h.
    let k = value_found ports (λ (x : PortRow). option_map_or (name_eq l) x.lan false) net.ports (any_map (λ (x : PortRow). option_map_or (name_eq l) x.lan false) (λ (e : PortName × PortRow). e.1) (entries net.ports) ∙ h) in
    true≢false (sym k.3 ∙ none k.0 k.1 k.2))

module _ (a b : Net) (is_a : IsNetwork a) (is_b : IsNetwork b) where
  -- its bridges are still those of before
  abbrev AllBridges : Net → Type 0
  AllBridges net = net.bridges ≡ a.bridges

  home : (p : PortName) (net : Net) → AllBridges net → has_port p a ≡ true → has_bridge p.bridge net ≡ true
  home p net same there = ap (λ m. fin.contains_key m p.bridge) same ∙ (let row = found (fin.get a.ports p) there in is_a.ports.has_bridge p row.0 row.1)

  -- ---- plugs
  abbrev StillPlugged : PortName → Net → Type 0
  StillPlugged p net = at_port p 0 net ≡ at_port p 0 a

  unplug_fine : (p : PortName) (net : Net) → AllBridges net → StillPlugged p net → Fine AllBridges (unplug_edits a b p) net
  unplug_fine p net same still = by (is_some (lan_of a p) && not (plug_stays a b p)) refl
    where
      plugged : is_some (lan_of a p) ≡ true → is_plugged p a ≡ true
      plugged h = at_row (fin.get a.ports p) h
        where
          at_row : (o : Option PortRow) → is_some (option_map_or (λ row. row.lan) o None) ≡ true → option_map_or (λ row. is_some row.lan) o false ≡ true
          at_row None h = absurd (true≢false (sym h))
          at_row (Some row) h = h

      there : is_some (lan_of a p) ≡ true → has_port p a ≡ true
      there h = at_row (fin.get a.ports p) h
        where
          at_row : (o : Option PortRow) → is_some (option_map_or (λ row. row.lan) o None) ≡ true → is_some o ≡ true
          at_row None h = absurd (true≢false (sym h))
          at_row (Some row) h = refl

      by : (t : Bool) → (is_some (lan_of a p) && not (plug_stays a b p)) ≡ t → Fine AllBridges (when t (Unplug p)) net
      by false e = fine_none AllBridges net same
      by true e =
          let some = (and_parts (is_some (lan_of a p)) (not (plug_stays a b p)) e).0 in
          let row : fin.get net.ports p ≡ fin.get a.ports p = ap (λ (s : AtPort). s.row) still in
          let x = home p net same (there some) in
          let y : has_port p net ≡ true = ap is_some row ∙ there some in
          let z : is_plugged p net ≡ true = ap (λ (o : Option PortRow). option_map_or (λ row. is_some row.lan) o false) row ∙ plugged some in
          record { accepted = (λ i. first_of ((not (x i), E04) ∷ (not (y i), E05) ∷ (not (z i), E11) ∷ []), tt); kept = same }

  unplugs_fine : Fine AllBridges (flat_map (unplug_edits a b) (fin.keys a.ports)) a
  unplugs_fine = in_turn ports AllBridges StillPlugged (unplug_edits a b) unplug_fine (λ k q net other still. keeps_port q (unplug_edits a b k) net (of_port.others_unplug a b is_a is_b q 0 k other) ∙ still)
      (fin.keys a.ports) (keys_distinct ports a.ports) a refl (λ q h. refl)

  abbrev without_plugs : Net
  without_plugs = made (flat_map (unplug_edits a b) (fin.keys a.ports)) a

  -- ---- ports
  abbrev StillThere : PortName → Net → Type 0
  StillThere p net = (at_port p 0 net ≡ of_port.unplugged a b is_a is_b p 0) × (has_port p a ≡ true)

  del_port_fine : (p : PortName) (net : Net) → AllBridges net → StillThere p net → Fine AllBridges (del_port_edits a b p) net
  del_port_fine p net same still = by (port_stays a b p) refl
    where
      by : (t : Bool) → port_stays a b p ≡ t → Fine AllBridges (when (not t) (DelPort p)) net
      by true e = fine_none AllBridges net same
      by false e =
          let old = found (fin.get a.ports p) still.1 in
          let row : fin.get net.ports p ≡ Some (in_lan None old.0) =
          ap (λ (s : AtPort). s.row) still.0 ∙ (λ i. option_map (in_lan (if e i && is_same_lan (lan_of a p) (lan_of b p) then lan_of a p else None)) (old.1 i)) in
          let x = home p net same still.1 in
          let y : has_port p net ≡ true = ap is_some row in
          let z : is_plugged p net ≡ false = ap (λ (o : Option PortRow). option_map_or (λ row. is_some row.lan) o false) row in
          record { accepted = (λ i. first_of ((not (x i), E04) ∷ (not (y i), E05) ∷ (z i, E10) ∷ []), tt); kept = same }

  del_ports_fine : Fine AllBridges (flat_map (del_port_edits a b) (fin.keys a.ports)) without_plugs
  del_ports_fine = in_turn ports AllBridges StillThere (del_port_edits a b) del_port_fine
      (λ k q net other still. (keeps_port q (del_port_edits a b k) net (of_port.others_go a b is_a is_b q 0 k other) ∙ still.0, still.1))
      (fin.keys a.ports) (keys_distinct ports a.ports) without_plugs unplugs_fine.kept
      (λ q h. (port_made q 0 (flat_map (unplug_edits a b) (fin.keys a.ports)) a ∙ of_port.unplugs a b is_a is_b q 0, sym (keys_hold ports a.ports q) ∙ h))

  abbrev without_ports : Net
  without_ports = made (flat_map (del_port_edits a b) (fin.keys a.ports)) without_plugs

  -- each port that is left stays, and is in a LAN of the new network
  abbrev Settled : Net → Type 0
  Settled net = (q : PortName) (x : PortRow) → fin.get net.ports q ≡ Some x → (port_stays a b q ≡ true) × ((l : List ℕ) → x.lan ≡ Some l → has_lan l b ≡ true)

  ports_left : (q : PortName) → at_port q 0 without_ports ≡ of_port.stayed a b is_a is_b q 0 (port_stays a b q)
  ports_left q =
      port_made q 0 (flat_map (del_port_edits a b) (fin.keys a.ports)) without_plugs
      ∙ ap (steps (port_step q 0) (flat_map (del_port_edits a b) (fin.keys a.ports))) (port_made q 0 (flat_map (unplug_edits a b) (fin.keys a.ports)) a ∙ of_port.unplugs a b is_a is_b q 0)
      ∙ of_port.goes a b is_a is_b q 0

  settled : Settled without_ports
  settled q x h = by (port_stays a b q) refl (sym (ap (λ (s : AtPort). s.row) (ports_left q)) ∙ h)
    where
      lan_there : (l : List ℕ) → lan_of b q ≡ Some l → has_lan l b ≡ true
      lan_there l e = at_row (fin.get b.ports q) refl e
        where
          at_row : (o : Option PortRow) → fin.get b.ports q ≡ o → option_map_or (λ row. row.lan) o None ≡ Some l → has_lan l b ≡ true
          at_row None f e = absurd (no_some l e)
          at_row (Some row) f e = is_b.ports.has_lan q row l f e

      kept_lan : (s : Bool) → plug_stays a b q ≡ s → (l : List ℕ) → (if s then lan_of a q else None) ≡ Some l → has_lan l b ≡ true
      kept_lan false e l h = absurd (no_some l h)
      kept_lan true e l h = lan_there l (at_lan (lan_of b q) refl)
        where
          at_lan : (o : Option (List ℕ)) → lan_of b q ≡ o → o ≡ Some l
          at_lan o f = by_lan o (sym (λ i. is_same_lan (h i) (f i)) ∙ (and_parts (port_stays a b q) (is_same_lan (lan_of a q) (lan_of b q)) e).1)
            where
              by_lan : (o : Option (List ℕ)) → is_same_lan (Some l) o ≡ true → o ≡ Some l
              by_lan None e = absurd (true≢false (sym e))
              by_lan (Some other) e = ap Some (sym (same_keys names l other e))

      of_old : (o : Option PortRow) → option_map (in_lan (of_port.lan_kept a b is_a is_b q 0)) o ≡ Some x → (l : List ℕ) → x.lan ≡ Some l → has_lan l b ≡ true
      of_old None h l e = absurd (no_some x h)
      of_old (Some old) h l e = kept_lan (plug_stays a b q) refl l (ap (λ (r : PortRow). r.lan) (some_is (in_lan (of_port.lan_kept a b is_a is_b q 0) old) x h) ∙ e)

      by : (s : Bool) → port_stays a b q ≡ s → (of_port.stayed a b is_a is_b q 0 s).row ≡ Some x → (port_stays a b q ≡ true) × ((l : List ℕ) → x.lan ≡ Some l → has_lan l b ≡ true)
      by true e h = (e, of_old (fin.get a.ports q) h)
      by false e h = absurd (no_some x h)

  -- ---- LANs
  abbrev LanThere : List ℕ → Net → Type 0
  LanThere l net = has_lan l net ≡ true

  del_lan_fine : (l : List ℕ) (net : Net) → Settled net → LanThere l net → Fine Settled (del_lan_edits b l) net
  del_lan_fine l net are there = by (has_lan l b) refl
    where
      by : (t : Bool) → has_lan l b ≡ t → Fine Settled (when (not t) (DelLan l)) net
      by true e = fine_none Settled net are
      by false e =
          let none : some_port (is_in_lan l) net ≡ false = none_in_lan net l (λ p x h. at_lan p x h x.lan refl e) in
          record { accepted = (λ i. first_of ((not (there i), E06) ∷ (none i, E13) ∷ []), tt); kept = are }
        where
          at_lan : (p : PortName) (x : PortRow) → fin.get net.ports p ≡ Some x → (o : Option (List ℕ)) → x.lan ≡ o → has_lan l b ≡ false → option_map_or (name_eq l) o false ≡ false
          at_lan p x h None f e = refl
          at_lan p x h (Some other) f e = fails (name_eq l other) (λ same. true≢false (sym ((are p x h).1 l (f ∙ ap Some (sym (same_keys names l other same)))) ∙ e))

  del_lans_fine : Fine Settled (flat_map (del_lan_edits b) (fin.keys a.lans)) without_ports
  del_lans_fine = in_turn names Settled LanThere (del_lan_edits b) del_lan_fine
      (λ k q net other there. ap is_some (keeps_lan q (del_lan_edits b k) net (all_as (LanEdit k) (Stays (lan_step q)) (lan_by_other q k other) (del_lan_edits b k) (del_lans_of a b k))) ∙ there)
      (fin.keys a.lans) (keys_distinct names a.lans) without_ports settled
      (λ q h. ap is_some
      (keeps_lan q (flat_map (del_port_edits a b) (fin.keys a.ports)) without_plugs (all_leave (lan_step q) PortEdit (lan_by_port q) (del_port_edits a b) (del_ports_of a b) (fin.keys a.ports))
      ∙ keeps_lan q (flat_map (unplug_edits a b) (fin.keys a.ports)) a (all_leave (lan_step q) PortEdit (lan_by_port q) (unplug_edits a b) (unplugs_of a b) (fin.keys a.ports)))
      ∙ (sym (keys_hold names a.lans q) ∙ h))

  abbrev without_lans : Net
  without_lans = made (flat_map (del_lan_edits b) (fin.keys a.lans)) without_ports

  -- ---- bridges
  abbrev BridgeThere : List ℕ → Net → Type 0
  BridgeThere q net = has_bridge q net ≡ true

  del_bridge_fine : (q : List ℕ) (net : Net) → Settled net → BridgeThere q net → Fine Settled (del_bridge_edits a b q) net
  del_bridge_fine q net are there = by (bridge_stays a b q) refl
    where
      by : (t : Bool) → bridge_stays a b q ≡ t → Fine Settled (when (not t) (DelBridge q)) net
      by true e = fine_none Settled net are
      by false e =
          let none : some_port (is_of_bridge q) net ≡ false = none_of_bridge net q (λ p h. at_port_of p h e) in
          record { accepted = (λ i. first_of ((not (there i), E04) ∷ (none i, E12) ∷ []), tt); kept = are }
        where
          at_port_of : (p : PortName) → has_port p net ≡ true → bridge_stays a b q ≡ false → name_eq q p.bridge ≡ false
          at_port_of p h e = fails (name_eq q p.bridge) (λ same.
              let row = found (fin.get net.ports p) h in
              true≢false (sym (ap (bridge_stays a b) (same_keys names q p.bridge same) ∙ (and_parts (bridge_stays a b p.bridge) (has_port p a && has_port p b) ((are p row.0 row.1).0)).0) ∙ e))

  del_bridges_fine : Fine Settled (flat_map (del_bridge_edits a b) (fin.keys a.bridges)) without_lans
  del_bridges_fine = in_turn names Settled BridgeThere (del_bridge_edits a b) del_bridge_fine
      (λ k q net other there. ap is_some (ap (λ (s : AtBridge). s.row) (keeps_bridge q (del_bridge_edits a b k) net (all_as (BridgeEdit k) (Stays (bridge_step q 0)) (bridge_by_other q 0 k other) (del_bridge_edits a b k) (del_bridges_of a b k)))) ∙ there)
      (fin.keys a.bridges) (keys_distinct names a.bridges) without_lans del_lans_fine.kept
      (λ q h. ap is_some (ap (λ (s : AtBridge). s.row) (keeps_bridge q (flat_map (del_lan_edits b) (fin.keys a.lans)) without_ports (all_leave (bridge_step q 0) LanEdit (bridge_by_lan q 0) (del_lan_edits b) (del_lans_of a b) (fin.keys a.lans))))
      ∙ ap (λ m. fin.contains_key m q) del_ports_fine.kept ∙ (sym (keys_hold names a.bridges q) ∙ h))

  -- ---- all of it
  pub going_accepted : Accepted (joined (going a b)) a
  going_accepted =
      (fine_append AllBridges Settled (flat_map (unplug_edits a b) (fin.keys a.ports)) _ a unplugs_fine (λ _.
      fine_append Settled Settled (flat_map (del_port_edits a b) (fin.keys a.ports)) _ without_plugs (record { accepted = del_ports_fine.accepted; kept = settled }) (λ _.
      fine_append Settled Settled (flat_map (del_lan_edits b) (fin.keys a.lans)) _ without_ports del_lans_fine (λ _.
      fine_append Settled Settled (flat_map (del_bridge_edits a b) (fin.keys a.bridges)) [] without_lans del_bridges_fine (λ are. fine_none Settled _ are))))).accepted

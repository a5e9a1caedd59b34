-- There is no edit from a network to itself.
use Rattle.std.proofs.Common.{◌≡◌, ℕ, Bool, true, false, ◌&&◌, List, [], ◌∷◌, ◌++◌, not, Option, Some, None, is_some, nat_eq, refl, sym, ap, ◌∙◌, true≢false}
use Rattle.std.specs.Prelude.{◌==◌, if◌then◌else◌}
use Rattle.std.specs.Bool.{beq}
use Rattle.std.specs.List.{flat_map, AllByRecursion}
use Rattle.std.specs.Option.{option_map_or}
use Rattle.std.specs.Cmp.Lexicographic.{pointwise}
use Rattle.std.specs.FinMap as fin
use Rattle.std.proofs.lemmas.Bool.{eq-eqb}
use Rattle.mst_ids.specs.declared.name.PortName.{PortName}
use Rattle.mst_lang.specs.declared.line.Edit.{Edit}
use Rattle.mst_lang.specs.declared.line.Edit.TheVariants.{Unplug, DelPort, DelLan, DelBridge, SetLan, SetByTree, Plug}
use Rattle.mst_lang.specs.declared.line.LanChange.TheVariants.{Speed}
use Rattle.mst_lang.specs.declared.line.TreeChange.TheVariants.{Priority, PortPriority, PortCost}
use Rattle.mst_net.specs.tables.After.{has_port, has_lan, has_bridge, table_of, vlans_of, new_bridge, new_port, new_lan}
use Rattle.mst_net.specs.tables.Contents.{priority_of, port_priority_of, port_cost_of}
use Rattle.mst_net.specs.tables.Tables.{Net, IsNetwork, BridgeRow, PortRow, LanRow}
use Rattle.mst_net.specs.tables.declared.settings.PortSettings.{PortSettings}
use Rattle.mst_net.proofs.tables_lemmas.Keys.{names, ports}
use Rattle.mst_edits.specs.Edits.{when, joined, ports_of, unplug_edits, del_port_edits, del_lan_edits, del_bridge_edits, is_same_cost, priority_edits, port_cost_edits, port_priority_edits, bridge_set, port_set, lan_set, bridge_settings, port_settings, lan_settings, bridge_edits, port_edits, lan_edits, bridge_part, plug_edits, power_settings, power_edits, state_settings, state_edits, is_same_configuration, edits}
use Rattle.mst_edits.proofs.Lists.{all_of, keys_hold}
use Rattle.mst_edits.specs.Staying.{bridge_stays, port_stays, plug_stays, lan_of, is_same_lan, has_mac, bridge_before, settings_before, lan_before}
use Rattle.mst_edits.proofs.LinesMade.{no_table_edits, flat_none}
use Rattle.mst_edits.proofs.Quiet.{none_in_trees}

-- ---- values are the same as themselves
same_number : (n : ℕ) → (n == n) ≡ true
same_number n = eq-eqb n n refl

same_flag : (b : Bool) → beq b b ≡ true
same_flag true = refl
same_flag false = refl

same_text : (xs : List ℕ) → pointwise nat_eq xs xs ≡ true
same_text [] = refl
same_text (x ∷ xs) = ap (λ b. b && pointwise nat_eq xs xs) (eq-eqb x x refl) ∙ same_text xs

same_set : (xs : List Bool) → pointwise beq xs xs ≡ true
same_set [] = refl
same_set (x ∷ xs) = ap (λ b. b && pointwise beq xs xs) (same_flag x) ∙ same_set xs

same_cost : (cost : Option ℕ) → is_same_cost cost cost ≡ true
same_cost None = refl
same_cost (Some cost) = same_number cost

none_when : (b : Bool) (e : Edit) → b ≡ true → when (not b) e ≡ []
none_when b e is = ap (λ t. when (not t) e) is

-- ---- lists of which each element gives nothing
all_none : {A : Type 0} (f : A → List Edit) (xs : List A) → AllByRecursion (λ x. f x ≡ []) xs → flat_map f xs ≡ []
all_none f [] none = refl
all_none f (x ∷ xs) none = ap (λ (l : List Edit). l ++ flat_map f xs) none.0 ∙ all_none f xs none.1

found : {X : Type 0} (o : Option X) → is_some o ≡ true → (x : X) × (o ≡ Some x)
found None h = absurd (true≢false (sym h))
found (Some x) h = (x, refl)

joined_none : (ess : List (List Edit)) → AllByRecursion (λ es. es ≡ []) ess → joined ess ≡ []
joined_none [] none = refl
joined_none (es ∷ ess) none = ap (λ (l : List Edit). l ++ joined ess) none.0 ∙ joined_none ess none.1

abbrev up_in : LanRow → Bool
up_in row = row.is_up

abbrev settings_in : PortRow → PortSettings
settings_in row = row.settings

module _ (net : Net) (is : IsNetwork net) where
  bridge_is : (q : List ℕ) (row : BridgeRow) → fin.get net.bridges q ≡ Some row → bridge_stays net net q ≡ true
  bridge_is q row e = ap (λ o. option_map_or (λ x. has_mac x.mac o) o false) e ∙ same_number row.mac

  has_is : (q : List ℕ) → has_bridge q net ≡ true → bridge_stays net net q ≡ true
  has_is q h = let f = found (fin.get net.bridges q) h in bridge_is q f.0 f.1

  port_is : (p : PortName) (row : PortRow) → fin.get net.ports p ≡ Some row → port_stays net net p ≡ true
  port_is p row e = ap (λ b. b && (has_port p net && has_port p net)) (has_is p.bridge (is.ports.has_bridge p row e)) ∙ ap (λ o. is_some o && is_some o) e

  same_lan : (lan : List ℕ) → is_same_lan (Some lan) (Some lan) ≡ true
  same_lan lan = same_text lan

  plug_is : (p : PortName) (row : PortRow) (lan : List ℕ) → fin.get net.ports p ≡ Some row → lan_of net p ≡ Some lan → plug_stays net net p ≡ true
  plug_is p row lan e f = ap (λ b. b && is_same_lan (lan_of net p) (lan_of net p)) (port_is p row e) ∙ ap (λ o. is_same_lan o o) f ∙ same_lan lan

  -- ---- what goes
  no_unplug : (p : PortName) → has_port p net ≡ true → unplug_edits net net p ≡ []
  no_unplug p h = by (lan_of net p) refl
    where
      by : (o : Option (List ℕ)) → lan_of net p ≡ o → when (is_some o && not (plug_stays net net p)) (Unplug p) ≡ []
      by None e = refl
      by (Some lan) e = let f = found (fin.get net.ports p) h in none_when (plug_stays net net p) (Unplug p) (plug_is p f.0 lan f.1 e)

  no_del_port : (p : PortName) → has_port p net ≡ true → del_port_edits net net p ≡ []
  no_del_port p h = let f = found (fin.get net.ports p) h in none_when (port_stays net net p) (DelPort p) (port_is p f.0 f.1)

  no_del_lan : (l : List ℕ) → has_lan l net ≡ true → del_lan_edits net l ≡ []
  no_del_lan l h = none_when (has_lan l net) (DelLan l) h

  no_del_bridge : (q : List ℕ) → has_bridge q net ≡ true → del_bridge_edits net net q ≡ []
  no_del_bridge q h = none_when (bridge_stays net net q) (DelBridge q) (has_is q h)

  -- ---- what is set
  no_bridge_set : (q : List ℕ) (row : BridgeRow) → joined (bridge_set false net net true q row row) ≡ []
  no_bridge_set q row = joined_none (bridge_set false net net true q row row) (
    refl,
    (
      refl,
      (
        none_when (beq row.is_rstp row.is_rstp) _ (same_flag row.is_rstp),
        (
          none_when (row.system_priority == row.system_priority) _ (same_number row.system_priority),
          (
            none_when (is_same_configuration row row) _ (ap (λ b. b && pointwise nat_eq row.conf_name row.conf_name) (same_number row.revision) ∙ same_text row.conf_name),
            (
              no_table_edits q (table_of net q),
              (
                none_when (row.max_hops == row.max_hops) _ (same_number row.max_hops),
                (
                  none_when (row.max_age == row.max_age) _ (same_number row.max_age),
                  (
                    none_in_trees (priority_edits net net true q) (λ t. none_when (priority_of net q t == priority_of net q t) (SetByTree (Priority q t (priority_of net q t))) (same_number (priority_of net q t))),
                    tt,
                  ),
                ),
              ),
            ),
          ),
        ),
      ),
    ),
  )

  before_is : (q : List ℕ) (row : BridgeRow) → fin.get net.bridges q ≡ Some row → bridge_before net q row ≡ row
  before_is q row e = ap (λ o. option_map_or (λ old. if old.mac == row.mac then old else new_bridge row.mac) o (new_bridge row.mac)) e ∙ ap (λ b. if b then row else new_bridge row.mac) (same_number row.mac)

  no_bridge : (q : List ℕ) → bridge_edits false net net q ≡ []
  no_bridge q = by (fin.get net.bridges q) refl
    where
      by : (o : Option BridgeRow) → fin.get net.bridges q ≡ o → option_map_or (bridge_settings false net net q) o [] ≡ []
      by None e = refl
      by (Some row) e = (λ i. joined (bridge_set false net net (bridge_is q row e i) q (before_is q row e i) row)) ∙ no_bridge_set q row

  no_port_set : (p : PortName) (s : PortSettings) → joined (port_set net net true p s s) ≡ []
  no_port_set p s = joined_none (port_set net net true p s s) (
    refl,
    (
      none_when (s.key == s.key) _ (same_number s.key),
      (
        none_when (is_same_cost s.external s.external) _ (same_cost s.external),
        (
          none_in_trees (port_cost_edits net net true p) (λ t. none_when (is_same_cost (port_cost_of net p t) (port_cost_of net p t)) (SetByTree (PortCost p t (port_cost_of net p t))) (same_cost (port_cost_of net p t))),
          (
            none_in_trees (port_priority_edits net net true p) (λ t. none_when (port_priority_of net p t == port_priority_of net p t) (SetByTree (PortPriority p t (port_priority_of net p t))) (same_number (port_priority_of net p t))),
            (
              none_when (pointwise beq (vlans_of net p) (vlans_of net p)) _ (same_set (vlans_of net p)),
              (
                none_when (beq s.is_restricted s.is_restricted) _ (same_flag s.is_restricted),
                tt,
              ),
            ),
          ),
        ),
      ),
    ),
  )

  settings_are : (p : PortName) (row : PortRow) → fin.get net.ports p ≡ Some row → settings_before net true p ≡ row.settings
  settings_are p row e = ap (λ (o : Option PortRow). settings_in (option_map_or (λ r. r) o new_port)) e

  no_port : (p : PortName) → port_edits net net p ≡ []
  no_port p = by (fin.get net.ports p) refl
    where
      by : (o : Option PortRow) → fin.get net.ports p ≡ o → option_map_or (port_settings net net p) o [] ≡ []
      by None e = refl
      by (Some row) e =
          ap (λ b. joined (port_set net net b p (settings_before net b p) row.settings)) (port_is p row e)
          ∙ ap (λ s. joined (port_set net net true p s row.settings)) (settings_are p row e) ∙ no_port_set p row.settings

  no_lan : (l : List ℕ) → lan_edits false net net l ≡ []
  no_lan l = by (fin.get net.lans l) refl
    where
      by : (o : Option LanRow) → fin.get net.lans l ≡ o → option_map_or (lan_settings false net l) o [] ≡ []
      by None e = refl
      by (Some row) e =
          ap (λ (o : Option LanRow). joined (lan_set false (is_some o) l (option_map_or (λ r. r) o new_lan) row)) e
          ∙ ap (λ (es : List Edit). es ++ []) (none_when (row.speed == row.speed) (SetLan l (Speed row.speed)) (same_number row.speed))

  no_plug : (p : PortName) → has_port p net ≡ true → plug_edits net net p ≡ []
  no_plug p h = by (lan_of net p) refl
    where
      by : (o : Option (List ℕ)) → lan_of net p ≡ o → option_map_or (λ lan. when (not (plug_stays net net p)) (Plug p lan)) o [] ≡ []
      by None e = refl
      by (Some lan) e = let f = found (fin.get net.ports p) h in none_when (plug_stays net net p) _ (plug_is p f.0 lan f.1 e)

  no_power : (q : List ℕ) → power_edits false net net q ≡ []
  no_power q = by (fin.get net.bridges q) refl
    where
      by : (o : Option BridgeRow) → fin.get net.bridges q ≡ o → option_map_or (power_settings false net q) o [] ≡ []
      by None e = refl
      by (Some row) e = none_when (beq row.is_on (bridge_before net q row).is_on) _ (ap (λ r. beq row.is_on r.is_on) (before_is q row e) ∙ same_flag row.is_on)

  no_state : (l : List ℕ) → state_edits false net net l ≡ []
  no_state l = by (fin.get net.lans l) refl
    where
      by : (o : Option LanRow) → fin.get net.lans l ≡ o → option_map_or (state_settings false net l) o [] ≡ []
      by None e = refl
      by (Some row) e = none_when (beq row.is_up (lan_before net l).is_up) _ (ap (λ (o : Option LanRow). beq row.is_up (up_in (option_map_or (λ r. r) o new_lan))) e ∙ same_flag row.is_up)

  -- ---- all of it
  each_port : (P : PortName → Type 0) → ((p : PortName) → has_port p net ≡ true → P p) → AllByRecursion P (fin.keys net.ports)
  each_port P h = all_of ports P (fin.keys net.ports) (λ q i. h q (sym (keys_hold ports net.ports q) ∙ i))

  each_bridge : (P : List ℕ → Type 0) → ((q : List ℕ) → has_bridge q net ≡ true → P q) → AllByRecursion P (fin.keys net.bridges)
  each_bridge P h = all_of names P (fin.keys net.bridges) (λ q i. h q (sym (keys_hold names net.bridges q) ∙ i))

  each_lan : (P : List ℕ → Type 0) → ((l : List ℕ) → has_lan l net ≡ true → P l) → AllByRecursion P (fin.keys net.lans)
  each_lan P h = all_of names P (fin.keys net.lans) (λ l i. h l (sym (keys_hold names net.lans l) ∙ i))

  no_part : (q : List ℕ) → bridge_part false net net q ≡ []
  no_part q = (λ i. no_bridge q i ++ flat_none (port_edits net net) no_port (ports_of net q) i)

  pub no_edits : edits net net ≡ []
  no_edits = λ i.
      (all_none (unplug_edits net net) (fin.keys net.ports) (each_port _ no_unplug) i
      ++ (all_none (del_port_edits net net) (fin.keys net.ports) (each_port _ no_del_port) i
      ++ (all_none (del_lan_edits net) (fin.keys net.lans) (each_lan _ no_del_lan) i
      ++ (all_none (del_bridge_edits net net) (fin.keys net.bridges) (each_bridge _ no_del_bridge) i ++ []))))
      ++ (flat_none (bridge_part false net net) no_part (fin.keys net.bridges) i
      ++ (flat_none (lan_edits false net net) no_lan (fin.keys net.lans) i
      ++ (all_none (plug_edits net net) (fin.keys net.ports) (each_port _ no_plug) i
      ++ (flat_none (power_edits false net net) no_power (fin.keys net.bridges) i
      ++ (flat_none (state_edits false net net) no_state (fin.keys net.lans) i ++ [])))))

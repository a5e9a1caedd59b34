-- Whose each edit is: a bridge's, a port's or a LAN's. It leaves all that is another's.
use Rattle.std.proofs.Common.{◌≡◌, ℕ, ◌+◌, ◌<◌, ◌≤◌, ◌⊎◌, inl, inr, zero, suc, Bool, true, false, not, ◌||◌, ◌&&◌, List, [], Option, Some, None, is_some, nat_eq, refl, ap, ◌∙◌, arith}
use Rattle.std.specs.Prelude.{◌==◌, if◌then◌else◌}
use Rattle.std.specs.Bool.{beq}
use Rattle.std.specs.List.{flat_map, range_with_len, AllByRecursion}
use Rattle.std.specs.Option.{option_map, option_map_or}
use Rattle.std.specs.FinMap as fin
use Rattle.std.specs.FinMap.{nat_cmp-IsAntisymmetric}
use Rattle.std.specs.Ordering.{nat_cmp}
use Rattle.std.specs.Cmp.{nat_cmp_total, unsigned_ties}
use Rattle.std.proofs.lemmas.Bool.{and_left, cases_lt, or_from, or_left, or_right, ne_eqb, eq-eqb}
use Rattle.mst_ids.specs.declared.name.PortName.{PortName}
use Rattle.mst_lang.specs.declared.line.Edit.{Edit}
use Rattle.mst_lang.specs.declared.line.Edit.TheVariants.{AddBridge, DelBridge, SetBridge, AddPort, DelPort, SetPort, AddLan, DelLan, SetLan, Plug, Unplug, SetByTree}
use Rattle.mst_lang.specs.declared.line.TreeChange.TheVariants.{Priority, PortPriority, PortCost, Table, Vlans}
use Rattle.mst_net.specs.tables.Tables.{Net, BridgeRow, PortRow, LanRow, port_eq}
use Rattle.mst_net.specs.tables.Table.{no_table, mapped}
use Rattle.mst_net.specs.tables.After.{new_bridge, new_port, new_lan, in_lan, has_lan, bridge_with, port_with, lan_with, table_of, all_vids}
use Rattle.mst_net.proofs.tables_lemmas.Keyed.{IsKeyed}
use Rattle.mst_net.proofs.tables_lemmas.Keys.{name_eq}
use Rattle.mst_net.specs.tables.declared.settings.PortSettings.{PortSettings}
use Rattle.mst_edits.specs.Edits.{when, joined, unplug_edits, del_port_edits, del_lan_edits, del_bridge_edits, in_trees, priority_edits, port_cost_edits, port_priority_edits, bridge_set, port_set, lan_set, bridge_settings, port_settings, lan_settings, bridge_edits, port_edits, lan_edits, plug_edits, power_settings, power_edits, state_settings, state_edits}
use Rattle.mst_edits.proofs.Lists.{all_when, all_map, all_flat, all_as, Distinct, holds, all_joined}
use Rattle.mst_edit_laws.proofs.Steps.{steps, Stays, stays, steps_one, steps_none}
use Rattle.mst_edit_laws.proofs.Seen.{bridge_step, port_step, lan_step}
use Rattle.mst_edits.specs.TableLines.{edit_of, with_ways, direct_moves}
use Rattle.mst_edits.specs.Staying.{bridge_stays, port_stays, plug_stays, lan_of, bridge_before, settings_before, lan_before, table_before}

abbrev pub BridgeEdit : List ℕ → Edit → Type 0
BridgeEdit b (AddBridge bridge mac) = bridge ≡ b
BridgeEdit b (DelBridge bridge) = bridge ≡ b
BridgeEdit b (SetBridge bridge change) = bridge ≡ b
BridgeEdit b (SetByTree (Priority bridge tree priority)) = bridge ≡ b
BridgeEdit b (SetByTree (Table bridge tree vids)) = bridge ≡ b
BridgeEdit b _ = ⊥

abbrev pub PortEdit : PortName → Edit → Type 0
PortEdit p (AddPort port) = port ≡ p
PortEdit p (DelPort port) = port ≡ p
PortEdit p (SetPort port change) = port ≡ p
PortEdit p (Plug port lan) = port ≡ p
PortEdit p (Unplug port) = port ≡ p
PortEdit p (SetByTree (PortPriority port tree priority)) = port ≡ p
PortEdit p (SetByTree (PortCost port tree cost)) = port ≡ p
PortEdit p (SetByTree (Vlans port vids)) = port ≡ p
PortEdit p _ = ⊥

abbrev pub LanEdit : List ℕ → Edit → Type 0
LanEdit l (AddLan lan) = lan ≡ l
LanEdit l (DelLan lan) = lan ≡ l
LanEdit l (SetLan lan change) = lan ≡ l
LanEdit l _ = ⊥

-- ---- what they leave
module _ (q : List ℕ) (t : ℕ) where
  pub bridge_by_port : (p : PortName) (e : Edit) → PortEdit p e → Stays (bridge_step q t) e
  bridge_by_port p (AddPort port) of u = refl
  bridge_by_port p (DelPort port) of u = refl
  bridge_by_port p (SetPort port change) of u = refl
  bridge_by_port p (Plug port lan) of u = refl
  bridge_by_port p (Unplug port) of u = refl
  bridge_by_port p (SetByTree (PortPriority port tree priority)) of u = refl
  bridge_by_port p (SetByTree (PortCost port tree cost)) of u = refl
  bridge_by_port p (SetByTree (Vlans port vids)) of u = refl
  bridge_by_port p e of u = absurd of

  pub bridge_by_lan : (l : List ℕ) (e : Edit) → LanEdit l e → Stays (bridge_step q t) e
  bridge_by_lan l (AddLan lan) of u = refl
  bridge_by_lan l (DelLan lan) of u = refl
  bridge_by_lan l (SetLan lan change) of u = refl
  bridge_by_lan l e of u = absurd of

  pub bridge_by_other : (b : List ℕ) → name_eq b q ≡ false → (e : Edit) → BridgeEdit b e → Stays (bridge_step q t) e
  bridge_by_other b other (AddBridge bridge mac) of u = ap (λ c. record u { row = if c then Some (new_bridge mac) else u.row }) (ap (λ k. name_eq k q) of ∙ other)
  bridge_by_other b other (DelBridge bridge) of u =
      ap (λ c. record { row = if c then None else u.row; priority = if c then 8 else u.priority; table = if c then no_table else u.table }) (ap (λ k. name_eq k q) of ∙ other)
  bridge_by_other b other (SetBridge bridge change) of u = ap (λ c. record u { row = if c then option_map (bridge_with change) u.row else u.row }) (ap (λ k. name_eq k q) of ∙ other)
  bridge_by_other b other (SetByTree (Priority bridge tree priority)) of u =
      ap (λ c. record u { priority = if c then priority else u.priority }) (and_left (name_eq bridge q) (nat_eq tree t) (ap (λ k. name_eq k q) of ∙ other))
  bridge_by_other b other (SetByTree (Table bridge tree vids)) of u = ap (λ c. record u { table = if c then mapped vids tree u.table else u.table }) (ap (λ k. name_eq k q) of ∙ other)
  bridge_by_other b other e of u = absurd of

module _ (q : PortName) (t : ℕ) where
  pub port_by_bridge : (b : List ℕ) (e : Edit) → BridgeEdit b e → Stays (port_step q t) e
  port_by_bridge b (AddBridge bridge mac) of u = refl
  port_by_bridge b (DelBridge bridge) of u = refl
  port_by_bridge b (SetBridge bridge change) of u = refl
  port_by_bridge b (SetByTree (Priority bridge tree priority)) of u = refl
  port_by_bridge b (SetByTree (Table bridge tree vids)) of u = refl
  port_by_bridge b e of u = absurd of

  pub port_by_lan : (l : List ℕ) (e : Edit) → LanEdit l e → Stays (port_step q t) e
  port_by_lan l (AddLan lan) of u = refl
  port_by_lan l (DelLan lan) of u = refl
  port_by_lan l (SetLan lan change) of u = refl
  port_by_lan l e of u = absurd of

  pub port_by_other : (p : PortName) → port_eq p q ≡ false → (e : Edit) → PortEdit p e → Stays (port_step q t) e
  port_by_other p other (AddPort port) of u = ap (λ c. record u { row = if c then Some new_port else u.row }) (ap (λ k. port_eq k q) of ∙ other)
  port_by_other p other (DelPort port) of u =
      ap (λ c. record { row = if c then None else u.row; priority = if c then 8 else u.priority; cost = if c then None else u.cost; vlans = if c then all_vids else u.vlans }) (ap (λ k. port_eq k q) of ∙ other)
  port_by_other p other (SetPort port change) of u = ap (λ c. record u { row = if c then option_map (port_with change) u.row else u.row }) (ap (λ k. port_eq k q) of ∙ other)
  port_by_other p other (Plug port lan) of u = ap (λ c. record u { row = if c then option_map (in_lan (Some lan)) u.row else u.row }) (ap (λ k. port_eq k q) of ∙ other)
  port_by_other p other (Unplug port) of u = ap (λ c. record u { row = if c then option_map (in_lan None) u.row else u.row }) (ap (λ k. port_eq k q) of ∙ other)
  port_by_other p other (SetByTree (PortPriority port tree priority)) of u =
      ap (λ c. record u { priority = if c then priority else u.priority }) (and_left (port_eq port q) (nat_eq tree t) (ap (λ k. port_eq k q) of ∙ other))
  port_by_other p other (SetByTree (PortCost port tree cost)) of u =
      ap (λ c. record u { cost = if c then cost else u.cost }) (and_left (port_eq port q) (nat_eq tree t) (ap (λ k. port_eq k q) of ∙ other))
  port_by_other p other (SetByTree (Vlans port vids)) of u = ap (λ c. record u { vlans = if c then vids else u.vlans }) (ap (λ k. port_eq k q) of ∙ other)
  port_by_other p other e of u = absurd of

module _ (q : List ℕ) where
  pub lan_by_bridge : (b : List ℕ) (e : Edit) → BridgeEdit b e → Stays (lan_step q) e
  lan_by_bridge b (AddBridge bridge mac) of u = refl
  lan_by_bridge b (DelBridge bridge) of u = refl
  lan_by_bridge b (SetBridge bridge change) of u = refl
  lan_by_bridge b (SetByTree change) of u = refl
  lan_by_bridge b e of u = absurd of

  pub lan_by_port : (p : PortName) (e : Edit) → PortEdit p e → Stays (lan_step q) e
  lan_by_port p (AddPort port) of u = refl
  lan_by_port p (DelPort port) of u = refl
  lan_by_port p (SetPort port change) of u = refl
  lan_by_port p (Plug port lan) of u = refl
  lan_by_port p (Unplug port) of u = refl
  lan_by_port p (SetByTree change) of u = refl
  lan_by_port p e of u = absurd of

  pub lan_by_other : (l : List ℕ) → name_eq l q ≡ false → (e : Edit) → LanEdit l e → Stays (lan_step q) e
  lan_by_other l other (AddLan lan) of u = ap (λ c. if c then Some new_lan else u) (ap (λ k. name_eq k q) of ∙ other)
  lan_by_other l other (DelLan lan) of u = ap (λ c. if c then None else u) (ap (λ k. name_eq k q) of ∙ other)
  lan_by_other l other (SetLan lan change) of u = ap (λ c. if c then option_map (lan_with change) u else u) (ap (λ k. name_eq k q) of ∙ other)
  lan_by_other l other e of u = absurd of

-- ---- settings by tree
pub all_in_trees : (P : Edit → Type 0) (f : ℕ → List Edit) → ((t : ℕ) → AllByRecursion P (f t)) → AllByRecursion P (in_trees f)
unfolding in_trees
all_in_trees P f each = all_flat P f (range_with_len 0 4095) each

pub numbers : IsKeyed nat_eq nat_cmp
numbers = record { total = nat_cmp_total; same = nat_cmp-IsAntisymmetric; ties = unsigned_ties }

none_below : (q a n : ℕ) → q < a → holds nat_eq q (range_with_len a n) ≡ false
none_below q a zero low = refl
none_below q a (suc n) low = or_from (nat_eq a q) _ (ne_eqb a q (λ e. omega (arith, e, low))) (none_below q (a + 1) n (omega arith))

none_above : (q a n : ℕ) → a + n ≤ q → holds nat_eq q (range_with_len a n) ≡ false
none_above q a zero high = refl
none_above q a (suc n) high = or_from (nat_eq a q) _ (ne_eqb a q (λ e. omega (arith, e, high))) (none_above q (a + 1) n (omega arith))

pub some_within : (q a n : ℕ) → a ≤ q → q < a + n → holds nat_eq q (range_with_len a n) ≡ true
some_within q a zero low high = absurd (omega arith)
some_within q a (suc n) low high = by (cases_lt a q) (λ less. some_within q (a + 1) n (omega (arith, less)) (omega arith))
  where
    by : (a < q) ⊎ (q ≤ a) → (a < q → holds nat_eq q (range_with_len (a + 1) n) ≡ true) → (nat_eq a q || holds nat_eq q (range_with_len (a + 1) n)) ≡ true
    by (inl less) rest = or_right (nat_eq a q) _ (rest less)
    by (inr more) rest = or_left (nat_eq a q) _ (eq-eqb a q (omega (arith, more)))

distinct_range : (a n : ℕ) → Distinct nat_eq (range_with_len a n)
distinct_range a zero = tt
distinct_range a (suc n) = (none_below a (a + 1) n (omega arith), distinct_range (a + 1) n)

-- those of one tree count
pub trees_set : {S : Type 0} (step : Edit → S → S) (f : ℕ → List Edit) (t : ℕ) → ((k : ℕ) → nat_eq k t ≡ false → AllByRecursion (Stays step) (f k)) → (s new : S) → (t < 4095 → steps step (f t) s ≡ new) → (4095 ≤ t → s ≡ new)
    → steps step (in_trees f) s ≡ new
unfolding in_trees
trees_set step f t others s new within beyond = by (cases_lt t 4095)
  where
    by : (t < 4095) ⊎ (4095 ≤ t) → steps step (flat_map f (range_with_len 0 4095)) s ≡ new
    by (inl low) = steps_one step numbers f t others (range_with_len 0 4095) s (distinct_range 0 4095) (some_within t 0 4095 (omega arith) (omega (arith, low))) ∙ within low
    by (inr high) = steps_none step numbers f t others (range_with_len 0 4095) s (none_above t 0 4095 (omega (arith, high))) ∙ beyond high

-- ---- whose the edits are
module _ (a b : Net) where
  pub unplugs_of : (p : PortName) → AllByRecursion (PortEdit p) (unplug_edits a b p)
  unplugs_of p = all_when (PortEdit p) (is_some (lan_of a p) && not (plug_stays a b p)) (Unplug p) (λ _. refl)

  pub del_ports_of : (p : PortName) → AllByRecursion (PortEdit p) (del_port_edits a b p)
  del_ports_of p = all_when (PortEdit p) (not (port_stays a b p)) (DelPort p) (λ _. refl)

  pub del_lans_of : (l : List ℕ) → AllByRecursion (LanEdit l) (del_lan_edits b l)
  del_lans_of l = all_when (LanEdit l) (not (has_lan l b)) (DelLan l) (λ _. refl)

  pub del_bridges_of : (q : List ℕ) → AllByRecursion (BridgeEdit q) (del_bridge_edits a b q)
  del_bridges_of q = all_when (BridgeEdit q) (not (bridge_stays a b q)) (DelBridge q) (λ _. refl)

  pub bridge_set_of : (in_place stays : Bool) (q : List ℕ) (before row : BridgeRow) → AllByRecursion (BridgeEdit q) (joined (bridge_set in_place a b stays q before row))
  bridge_set_of in_place stays q before row = all_joined (BridgeEdit q) (bridge_set in_place a b stays q before row) (
    all_when (BridgeEdit q) (not stays) _ (λ _. refl),
    (
      all_when (BridgeEdit q) (in_place && not (beq row.is_on before.is_on)) _ (λ _. refl),
      (
        all_when (BridgeEdit q) (not (beq row.is_rstp before.is_rstp)) _ (λ _. refl),
        (
          all_when (BridgeEdit q) (not (row.system_priority == before.system_priority)) _ (λ _. refl),
          (
            all_when (BridgeEdit q) _ _ (λ _. refl),
            (
              all_map (BridgeEdit q) (edit_of q) (with_ways q (table_of b q) (table_before a stays q) (direct_moves q (table_before a stays q) (table_of b q))) (λ line. refl),
              (
                all_when (BridgeEdit q) (not (row.max_hops == before.max_hops)) _ (λ _. refl),
                (
                  all_when (BridgeEdit q) (not (row.max_age == before.max_age)) _ (λ _. refl),
                  (all_in_trees (BridgeEdit q) (priority_edits a b stays q) (λ t. all_when (BridgeEdit q) _ _ (λ _. refl)), tt),
                ),
              ),
            ),
          ),
        ),
      ),
    ),
  )

  pub bridges_of : (in_place : Bool) (q : List ℕ) → AllByRecursion (BridgeEdit q) (bridge_edits in_place a b q)
  bridges_of in_place q = by (fin.get b.bridges q)
    where
      by : (o : Option BridgeRow) → AllByRecursion (BridgeEdit q) (option_map_or (bridge_settings in_place a b q) o [])
      by None = tt
      by (Some row) = bridge_set_of in_place (bridge_stays a b q) q (bridge_before a q row) row

  pub port_set_of : (stays : Bool) (p : PortName) (before settings : PortSettings) → AllByRecursion (PortEdit p) (joined (port_set a b stays p before settings))
  port_set_of stays p before settings = all_joined (PortEdit p) (port_set a b stays p before settings) (
    all_when (PortEdit p) (not stays) _ (λ _. refl),
    (
      all_when (PortEdit p) (not (settings.key == before.key)) _ (λ _. refl),
      (
        all_when (PortEdit p) _ _ (λ _. refl),
        (
          all_in_trees (PortEdit p) (port_cost_edits a b stays p) (λ t. all_when (PortEdit p) _ _ (λ _. refl)),
          (
            all_in_trees (PortEdit p) (port_priority_edits a b stays p) (λ t. all_when (PortEdit p) _ _ (λ _. refl)),
            (
              all_when (PortEdit p) _ _ (λ _. refl),
              (all_when (PortEdit p) (not (beq settings.is_restricted before.is_restricted)) _ (λ _. refl), tt),
            ),
          ),
        ),
      ),
    ),
  )

  pub ports_are_of : (p : PortName) → AllByRecursion (PortEdit p) (port_edits a b p)
  ports_are_of p = by (fin.get b.ports p)
    where
      by : (o : Option PortRow) → AllByRecursion (PortEdit p) (option_map_or (port_settings a b p) o [])
      by None = tt
      by (Some row) = port_set_of (port_stays a b p) p (settings_before a (port_stays a b p) p) row.settings

  pub lans_of : (in_place : Bool) (l : List ℕ) → AllByRecursion (LanEdit l) (lan_edits in_place a b l)
  lans_of in_place l = by (fin.get b.lans l)
    where
      by : (o : Option LanRow) → AllByRecursion (LanEdit l) (option_map_or (lan_settings in_place a l) o [])
      by None = tt
      by (Some row) = all_joined (LanEdit l) (lan_set in_place (has_lan l a) l (lan_before a l) row) (
        all_when (LanEdit l) (not (has_lan l a)) _ (λ _. refl),
        (
          all_when (LanEdit l) (in_place && not (beq row.is_up (lan_before a l).is_up)) _ (λ _. refl),
          (all_when (LanEdit l) (not (row.speed == (lan_before a l).speed)) _ (λ _. refl), tt),
        ),
      )

  pub plugs_of : (p : PortName) → AllByRecursion (PortEdit p) (plug_edits a b p)
  plugs_of p = by (lan_of b p)
    where
      by : (o : Option (List ℕ)) → AllByRecursion (PortEdit p) (option_map_or (λ lan. when (not (plug_stays a b p)) (Plug p lan)) o [])
      by None = tt
      by (Some lan) = all_when (PortEdit p) (not (plug_stays a b p)) (Plug p lan) (λ _. refl)

  pub powers_of : (in_place : Bool) (q : List ℕ) → AllByRecursion (BridgeEdit q) (power_edits in_place a b q)
  powers_of in_place q = by (fin.get b.bridges q)
    where
      by : (o : Option BridgeRow) → AllByRecursion (BridgeEdit q) (option_map_or (power_settings in_place a q) o [])
      by None = tt
      by (Some row) = all_when (BridgeEdit q) (not in_place && not (beq row.is_on (bridge_before a q row).is_on)) _ (λ _. refl)

  pub states_of : (in_place : Bool) (l : List ℕ) → AllByRecursion (LanEdit l) (state_edits in_place a b l)
  states_of in_place l = by (fin.get b.lans l)
    where
      by : (o : Option LanRow) → AllByRecursion (LanEdit l) (option_map_or (state_settings in_place a l) o [])
      by None = tt
      by (Some row) = all_when (LanEdit l) (not in_place && not (beq row.is_up (lan_before a l).is_up)) _ (λ _. refl)

-- lists of which each element's edits leave what is looked at
pub all_leave : {K S : Type 0} (step : Edit → S → S) (P : K → Edit → Type 0) → ((k : K) (e : Edit) → P k e → Stays step e) → (f : K → List Edit) → ((k : K) → AllByRecursion (P k) (f k)) → (ks : List K) → AllByRecursion (Stays step) (flat_map f ks)
all_leave step P each f of ks = all_flat (Stays step) f ks (λ k. all_as (P k) (Stays step) (each k) (f k) (of k))

pub others_leave : {K S : Type 0} (step : Edit → S → S) (P : K → Edit → Type 0) → ((k : K) (e : Edit) → P k e → Stays step e) → (f : K → List Edit) → ((k : K) → AllByRecursion (P k) (f k)) → (ks : List K) (s : S) → steps step (flat_map f ks) s ≡ s
others_leave step P each f of ks s = stays step (flat_map f ks) s (all_leave step P each f of ks)

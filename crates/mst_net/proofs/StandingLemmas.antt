-- An edit that sets what stands already leaves the network equal.
use Rattle.std.proofs.Common.{◌≡◌, ◌≢◌, ℕ, zero, suc, Bool, true, false, cond, List, Option, Some, None, replicate, nat_eq, refl, sym, ap, ◌∙◌}
use Rattle.std.specs.Prelude.{◌==◌, if◌then◌else◌}
use Rattle.std.specs.Option.{option_map_or, unwrap_or, ForSome}
use Rattle.std.specs.Bool.{beq}
use Rattle.std.specs.List.{list_all}
use Rattle.std.specs.FinMap as fin
use Rattle.std.specs.FinMap.{FinMap, same_map}
use Rattle.std.specs.Cmp.{unsigned_Decides, booleans_Decides}
use Rattle.std.specs.Cmp.Lexicographic.{pointwise, pointwise_decides}
use Rattle.std.specs.declared.cmp.Ordering.{Ordering}
use Rattle.mst_ids.specs.declared.name.PortName.{PortName}
use Rattle.mst_lang.specs.declared.line.Edit.{Edit}
use Rattle.mst_lang.specs.declared.line.Edit.TheVariants.{AddBridge, DelBridge, SetBridge, AddPort, DelPort, SetPort, AddLan, DelLan, SetLan, Plug, Unplug, SetByTree}
use Rattle.mst_lang.specs.declared.line.TreeChange.TheVariants.{Priority, PortPriority, PortCost, Table, Vlans}
use Rattle.mst_tables.specs.Table.{no_table, mapped}
use Rattle.mst_tables.specs.Tables.{Net, IsNetwork, BridgeRow, PortRow, LanRow, BridgeTree, PortTree}
use Rattle.mst_tables.specs.After.{effect, all_vids, table_of, change, change_bridge, change_port, change_lan, keep, own_priority, own_table, own_vlans, bridge_with, port_with, lan_with}
use Rattle.mst_net.specs.Standing.{Stands}
use Rattle.mst_tables.proofs.Keyed.{IsKeyed, same_keys, get_kept}
use Rattle.mst_tables.proofs.Keys.{names, ports, bridge_trees, port_trees}

-- ---- tables
module _ {K X : Type 0} {E : K → K → Bool} {R : K → K → Ordering} (keyed : IsKeyed E R) where
  -- a table that keeps under a key what it has there is the table
  keep_same : (m : FinMap R X) (k : K) (o : Option X) → fin.get m k ≡ o → keep m k o ≡ m
  keep_same m k o there = same_map keyed.total keyed.same _ _ (λ q. get_kept keyed m k o q ∙ by q (E k q) refl)
    where
      by : (q : K) (t : Bool) → E k q ≡ t → cond t o (fin.get m q) ≡ fin.get m q
      by q true e = sym there ∙ ap (fin.get m) (same_keys keyed k q e)
      by q false e = refl

  -- and so is one whose change leaves what is there
  change_same : (m : FinMap R X) (k : K) (f : X → X) → ForSome (fin.get m k) (λ x. f x ≡ x) → change m k f ≡ m
  change_same m k f same = by (fin.get m k) refl
    where
      by : (o : Option X) → fin.get m k ≡ o → option_map_or (λ x. fin.insert m k (f x)) o m ≡ m
      by None e = refl
      by (Some x) e = ap (fin.insert m k) (same x e) ∙ keep_same m k (Some x) e

-- ---- defaults
-- where no default is kept, what is kept of a value that stands is what is there
module _ {X : Type 0} (is_default : X → Bool) (default : X) (told : is_default default ≡ true) where
  own_there : (o : Option X) → ((x : X) → o ≡ Some x → is_default x ≡ false) → (x : X) → unwrap_or o default ≡ x → o ≡ (if is_default x then None else Some x)
  own_there None own x e = sym (ap (λ t. if t then None else Some x) (ap is_default (sym e) ∙ told))
  own_there (Some y) own x e = ap Some e ∙ sym (ap (λ t. if t then None else Some x) (ap is_default (sym e) ∙ own y refl))

not_eight : (n : ℕ) → n ≢ 8 → nat_eq n 8 ≡ false
not_eight n other = by (nat_eq n 8) refl
  where
    by : (t : Bool) → nat_eq n 8 ≡ t → t ≡ false
    by true e = absurd (other ((unsigned_Decides n 8).0 e))
    by false e = refl

all_zero : (n : ℕ) → list_all (λ tree. tree == 0) (replicate n 0) ≡ true
all_zero zero = refl
all_zero (suc n) = all_zero n

no_table_told : list_all (λ tree. tree == 0) no_table ≡ true
unfolding no_table
no_table_told = all_zero 4094

all_vids_told : pointwise beq all_vids all_vids ≡ true
all_vids_told = (pointwise_decides booleans_Decides all_vids all_vids).1 refl

-- ---- edits
module _ (net : Net) where
  bridge_same : (bridge : List ℕ) (f : BridgeRow → BridgeRow) → ForSome (fin.get net.bridges bridge) (λ row. f row ≡ row) → change_bridge bridge f net ≡ net
  bridge_same bridge f same = ap (λ m. record net { bridges = m }) (change_same names net.bridges bridge f same)

  port_same : (port : PortName) (f : PortRow → PortRow) → ForSome (fin.get net.ports port) (λ row. f row ≡ row) → change_port port f net ≡ net
  port_same port f same = ap (λ m. record net { ports = m }) (change_same ports net.ports port f same)

  lan_same : (lan : List ℕ) (f : LanRow → LanRow) → ForSome (fin.get net.lans lan) (λ row. f row ≡ row) → change_lan lan f net ≡ net
  lan_same lan f same = ap (λ m. record net { lans = m }) (change_same names net.lans lan f same)

  module _ (is : IsNetwork net) where
    priority_same : (k : BridgeTree) (priority : ℕ) → unwrap_or (fin.get net.priorities k) 8 ≡ priority → keep net.priorities k (own_priority priority) ≡ net.priorities
    priority_same k priority stands = keep_same bridge_trees net.priorities k (own_priority priority)
        (own_there (λ n. nat_eq n 8) 8 refl (fin.get net.priorities k) (λ n there. not_eight n (is.priorities k n there).2.1) priority stands)

    port_priority_same : (k : PortTree) (priority : ℕ) → unwrap_or (fin.get net.port_priorities k) 8 ≡ priority → keep net.port_priorities k (own_priority priority) ≡ net.port_priorities
    port_priority_same k priority stands = keep_same port_trees net.port_priorities k (own_priority priority)
        (own_there (λ n. nat_eq n 8) 8 refl (fin.get net.port_priorities k) (λ n there. not_eight n (is.port_priorities k n there).2.1) priority stands)

    table_same : (bridge table : List ℕ) → table ≡ table_of net bridge → keep net.tables bridge (own_table table) ≡ net.tables
    table_same bridge table stands = keep_same names net.tables bridge (own_table table)
        (own_there (list_all (λ tree. tree == 0)) no_table no_table_told (fin.get net.tables bridge) (λ t there. (is.tables bridge t there).2) table (sym stands))

    vlans_same : (port : PortName) (vids : List Bool) → unwrap_or (fin.get net.vlans port) all_vids ≡ vids → keep net.vlans port (own_vlans vids) ≡ net.vlans
    vlans_same port vids stands = keep_same ports net.vlans port (own_vlans vids)
        (own_there (λ v. pointwise beq v all_vids) all_vids all_vids_told (fin.get net.vlans port) (λ v there. (is.vlans port v there).2) vids stands)

    effect_same : (edit : Edit) → Stands edit net → effect edit net ≡ net
    effect_same (AddBridge bridge mac) stands = absurd stands
    effect_same (DelBridge bridge) stands = absurd stands
    effect_same (SetBridge bridge change) stands = bridge_same bridge (bridge_with change) stands
    effect_same (AddPort port) stands = absurd stands
    effect_same (DelPort port) stands = absurd stands
    effect_same (AddLan lan) stands = absurd stands
    effect_same (DelLan lan) stands = absurd stands
    effect_same (SetLan lan change) stands = lan_same lan (lan_with change) stands
    effect_same (Plug port lan) stands = absurd stands
    effect_same (Unplug port) stands = absurd stands
    effect_same (SetPort port change) stands = port_same port (port_with change) stands
    effect_same (SetByTree (Priority bridge tree priority)) stands = ap (λ m. record net { priorities = m }) (priority_same (record { bridge = bridge; tree = tree }) priority stands)
    effect_same (SetByTree (PortPriority port tree priority)) stands = ap (λ m. record net { port_priorities = m }) (port_priority_same (record { port = port; tree = tree }) priority stands)
    effect_same (SetByTree (PortCost port tree cost)) stands = ap (λ m. record net { port_costs = m }) (keep_same port_trees net.port_costs (record { port = port; tree = tree }) cost stands)
    effect_same (SetByTree (Table bridge tree vids)) stands = ap (λ m. record net { tables = m }) (table_same bridge (mapped vids tree (table_of net bridge)) stands)
    effect_same (SetByTree (Vlans port vids)) stands = ap (λ m. record net { vlans = m }) (vlans_same port vids stands)

pub standing_same : (edit : Edit) (net : Net) → IsNetwork net → Stands edit net → effect edit net ≡ net
standing_same edit net is stands = effect_same net is edit stands

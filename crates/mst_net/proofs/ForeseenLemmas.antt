-- What is seen of a network once an edit is made.
use Rattle.std.proofs.Common.{◌≡◌, ℕ, Bool, true, false, cond, inl, inr, List, Option, Some, None, nat_eq, is_some, refl, sym, ap, ◌∙◌, true≢false}
use Rattle.std.specs.Prelude.{◌==◌, if◌then◌else◌}
use Rattle.std.specs.List.{list_all}
use Rattle.std.specs.Option.{unwrap_or, ForSome}
use Rattle.std.specs.declared.cmp.Ordering.{Ordering}
use Rattle.std.specs.Bool.{beq}
use Rattle.std.specs.Cmp.{unsigned_Decides}
use Rattle.std.specs.Cmp.Lexicographic.{pointwise}
use Rattle.std.specs.FinMap as fin
use Rattle.mst_ids.specs.declared.name.PortName.{PortName}
use Rattle.mst_lang.specs.declared.line.Edit.{Edit}
use Rattle.mst_lang.specs.declared.line.Edit.TheVariants.{AddBridge, DelBridge, SetBridge, AddPort, DelPort, SetPort, AddLan, DelLan, SetLan, Plug, Unplug, SetByTree}
use Rattle.mst_lang.specs.declared.line.TreeChange.TheVariants.{Priority, PortPriority, PortCost, Table, Vlans}
use Rattle.mst_tables.specs.Table.{no_table, mapped}
use Rattle.mst_tables.specs.Tables.{Net, Numbers, port_eq, bridge_tree_eq, port_tree_eq}
use Rattle.mst_tables.specs.After.{effect, refusal_of, own_priority, own_table, own_vlans, all_vids, table_of, vlans_of, new_bridge, new_port, new_lan, bridge_with, port_with, lan_with, in_lan}
use Rattle.mst_tables.specs.Contents.{PerKind, IsNumbered, numbers_after, priority_of, port_priority_of, port_cost_of}
use Rattle.mst_net.specs.Foreseen.{bridge_row_after, port_row_after, lan_row_after, bridge_number_after, port_number_after, lan_number_after, priority_after, port_priority_after, port_cost_after, table_after, vlans_after, without, bridge_name_after, port_name_after, lan_name_after}
use Rattle.mst_tables.proofs.Somes.{some_is, no_some}
use Rattle.mst_tables.proofs.Keyed.{IsKeyed, same_keys, after_insert, get_inserted, get_removed, get_kept}
use Rattle.mst_tables.proofs.AfterLemmas.{bridge_addable, port_addable, lan_addable}
use Rattle.mst_tables.proofs.Keys.{name_eq, names, ports, bridge_trees, port_trees}
use Rattle.mst_tables.proofs.Changed.{itself, get_changed, get_without, left_of, other_left}
use Rattle.mst_tables.proofs.TableFits.{same_flags, default_mapped}

-- ---- what is kept of a setting, seen again
own_seen : (priority : ℕ) (t : Bool) (o : Option ℕ) → unwrap_or (cond t (own_priority priority) o) 8 ≡ cond t priority (unwrap_or o 8)
own_seen priority true o = by (nat_eq priority 8) refl
  where
    by : (t : Bool) → nat_eq priority 8 ≡ t → unwrap_or (if t then None else Some priority) 8 ≡ priority
    by true e = sym ((unsigned_Decides priority 8).0 e)
    by false e = refl
own_seen priority false o = refl

own_table_seen : (vids : List Bool) (tree : ℕ) (table : List ℕ) (t : Bool) (o : Option (List ℕ)) → unwrap_or (cond t (own_table (mapped vids tree table)) o) no_table ≡ cond t (mapped vids tree table) (unwrap_or o no_table)
own_table_seen vids tree table true o = by (list_all (λ t. t == 0) (mapped vids tree table)) refl
  where
    by : (t : Bool) → list_all (λ t. t == 0) (mapped vids tree table) ≡ t → unwrap_or (if t then None else Some (mapped vids tree table)) no_table ≡ mapped vids tree table
    by true e = sym (default_mapped vids tree table e)
    by false e = refl
own_table_seen vids tree table false o = refl

own_vlans_seen : (vids : List Bool) (t : Bool) (o : Option (List Bool)) → unwrap_or (cond t (own_vlans vids) o) all_vids ≡ cond t vids (unwrap_or o all_vids)
own_vlans_seen vids true o = by (pointwise beq vids all_vids) refl
  where
    by : (t : Bool) → pointwise beq vids all_vids ≡ t → unwrap_or (if t then None else Some vids) all_vids ≡ vids
    by true e = sym (same_flags vids all_vids e)
    by false e = refl
own_vlans_seen vids false o = refl

gone_seen : {X : Type 0} (t : Bool) (o : Option X) (x : X) → unwrap_or (cond t None o) x ≡ cond t x (unwrap_or o x)
gone_seen true o x = refl
gone_seen false o x = refl

-- a table of which some VIDs are mapped
mapped_seen : (vids : List Bool) (tree : ℕ) (net : Net) (bridge q : List ℕ) → cond (name_eq bridge q) (mapped vids tree (table_of net bridge)) (table_of net q) ≡ cond (name_eq bridge q) (mapped vids tree (table_of net q)) (table_of net q)
mapped_seen vids tree net bridge q = by (name_eq bridge q) refl
  where
    by : (t : Bool) → name_eq bridge q ≡ t → cond t (mapped vids tree (table_of net bridge)) (table_of net q) ≡ cond t (mapped vids tree (table_of net q)) (table_of net q)
    by true e = ap (λ b. mapped vids tree (table_of net b)) (same_keys names bridge q e)
    by false e = refl

-- ---- the records
pub foreseen_bridge : (e : Edit) (net : Net) (q : List ℕ) → fin.get (effect e net).bridges q ≡ bridge_row_after e q (fin.get net.bridges q)
foreseen_bridge (AddBridge bridge mac) net q = get_inserted names net.bridges bridge (new_bridge mac) q
foreseen_bridge (DelBridge bridge) net q = get_removed names net.bridges bridge q
foreseen_bridge (SetBridge bridge change) net q = get_changed names net.bridges bridge (bridge_with change) q
foreseen_bridge (AddPort port) net q = refl
foreseen_bridge (DelPort port) net q = refl
foreseen_bridge (AddLan lan) net q = refl
foreseen_bridge (DelLan lan) net q = refl
foreseen_bridge (SetLan lan change) net q = refl
foreseen_bridge (Plug port lan) net q = refl
foreseen_bridge (Unplug port) net q = refl
foreseen_bridge (SetPort port change) net q = refl
foreseen_bridge (SetByTree change) net q = refl

pub foreseen_port : (e : Edit) (net : Net) (q : PortName) → fin.get (effect e net).ports q ≡ port_row_after e q (fin.get net.ports q)
foreseen_port (AddBridge bridge mac) net q = refl
foreseen_port (DelBridge bridge) net q = refl
foreseen_port (SetBridge bridge change) net q = refl
foreseen_port (AddPort port) net q = get_inserted ports net.ports port new_port q
foreseen_port (DelPort port) net q = get_removed ports net.ports port q
foreseen_port (AddLan lan) net q = refl
foreseen_port (DelLan lan) net q = refl
foreseen_port (SetLan lan change) net q = refl
foreseen_port (Plug port lan) net q = get_changed ports net.ports port (in_lan (Some lan)) q
foreseen_port (Unplug port) net q = get_changed ports net.ports port (in_lan None) q
foreseen_port (SetPort port change) net q = get_changed ports net.ports port (port_with change) q
foreseen_port (SetByTree change) net q = refl

pub foreseen_lan : (e : Edit) (net : Net) (q : List ℕ) → fin.get (effect e net).lans q ≡ lan_row_after e q (fin.get net.lans q)
foreseen_lan (AddBridge bridge mac) net q = refl
foreseen_lan (DelBridge bridge) net q = refl
foreseen_lan (SetBridge bridge change) net q = refl
foreseen_lan (AddPort port) net q = refl
foreseen_lan (DelPort port) net q = refl
foreseen_lan (AddLan lan) net q = get_inserted names net.lans lan new_lan q
foreseen_lan (DelLan lan) net q = get_removed names net.lans lan q
foreseen_lan (SetLan lan change) net q = get_changed names net.lans lan (lan_with change) q
foreseen_lan (Plug port lan) net q = refl
foreseen_lan (Unplug port) net q = refl
foreseen_lan (SetPort port change) net q = refl
foreseen_lan (SetByTree change) net q = refl

-- ---- what is set by tree or VID
pub foreseen_priority : (e : Edit) (net : Net) (q : List ℕ) (t : ℕ) → priority_of (effect e net) q t ≡ priority_after e q t (priority_of net q t)
foreseen_priority (AddBridge bridge mac) net q t = refl
foreseen_priority (DelBridge bridge) net q t = ap (λ o. unwrap_or o 8) (get_without bridge_trees net.priorities (λ k. name_eq bridge k.bridge) (record { bridge = q; tree = t })) ∙ gone_seen (name_eq bridge q) (fin.get net.priorities (record { bridge = q; tree = t })) 8
foreseen_priority (SetBridge bridge change) net q t = refl
foreseen_priority (AddPort port) net q t = refl
foreseen_priority (DelPort port) net q t = refl
foreseen_priority (AddLan lan) net q t = refl
foreseen_priority (DelLan lan) net q t = refl
foreseen_priority (SetLan lan change) net q t = refl
foreseen_priority (Plug port lan) net q t = refl
foreseen_priority (Unplug port) net q t = refl
foreseen_priority (SetPort port change) net q t = refl
foreseen_priority (SetByTree (Priority bridge tree priority)) net q t = ap (λ o. unwrap_or o 8) (get_kept bridge_trees net.priorities (record { bridge = bridge; tree = tree }) (own_priority priority) (record { bridge = q; tree = t })) ∙ own_seen priority (bridge_tree_eq (record { bridge = bridge; tree = tree }) (record { bridge = q; tree = t })) (fin.get net.priorities (record { bridge = q; tree = t }))
foreseen_priority (SetByTree (PortPriority port tree priority)) net q t = refl
foreseen_priority (SetByTree (PortCost port tree cost)) net q t = refl
foreseen_priority (SetByTree (Table bridge tree vids)) net q t = refl
foreseen_priority (SetByTree (Vlans port vids)) net q t = refl

pub foreseen_port_priority : (e : Edit) (net : Net) (q : PortName) (t : ℕ) → port_priority_of (effect e net) q t ≡ port_priority_after e q t (port_priority_of net q t)
foreseen_port_priority (AddBridge bridge mac) net q t = refl
foreseen_port_priority (DelBridge bridge) net q t = refl
foreseen_port_priority (SetBridge bridge change) net q t = refl
foreseen_port_priority (AddPort port) net q t = refl
foreseen_port_priority (DelPort port) net q t = ap (λ o. unwrap_or o 8) (get_without port_trees net.port_priorities (λ k. port_eq port k.port) (record { port = q; tree = t })) ∙ gone_seen (port_eq port q) (fin.get net.port_priorities (record { port = q; tree = t })) 8
foreseen_port_priority (AddLan lan) net q t = refl
foreseen_port_priority (DelLan lan) net q t = refl
foreseen_port_priority (SetLan lan change) net q t = refl
foreseen_port_priority (Plug port lan) net q t = refl
foreseen_port_priority (Unplug port) net q t = refl
foreseen_port_priority (SetPort port change) net q t = refl
foreseen_port_priority (SetByTree (Priority bridge tree priority)) net q t = refl
foreseen_port_priority (SetByTree (PortPriority port tree priority)) net q t = ap (λ o. unwrap_or o 8) (get_kept port_trees net.port_priorities (record { port = port; tree = tree }) (own_priority priority) (record { port = q; tree = t })) ∙ own_seen priority (port_tree_eq (record { port = port; tree = tree }) (record { port = q; tree = t })) (fin.get net.port_priorities (record { port = q; tree = t }))
foreseen_port_priority (SetByTree (PortCost port tree cost)) net q t = refl
foreseen_port_priority (SetByTree (Table bridge tree vids)) net q t = refl
foreseen_port_priority (SetByTree (Vlans port vids)) net q t = refl

pub foreseen_port_cost : (e : Edit) (net : Net) (q : PortName) (t : ℕ) → port_cost_of (effect e net) q t ≡ port_cost_after e q t (port_cost_of net q t)
foreseen_port_cost (AddBridge bridge mac) net q t = refl
foreseen_port_cost (DelBridge bridge) net q t = refl
foreseen_port_cost (SetBridge bridge change) net q t = refl
foreseen_port_cost (AddPort port) net q t = refl
foreseen_port_cost (DelPort port) net q t = get_without port_trees net.port_costs (λ k. port_eq port k.port) (record { port = q; tree = t })
foreseen_port_cost (AddLan lan) net q t = refl
foreseen_port_cost (DelLan lan) net q t = refl
foreseen_port_cost (SetLan lan change) net q t = refl
foreseen_port_cost (Plug port lan) net q t = refl
foreseen_port_cost (Unplug port) net q t = refl
foreseen_port_cost (SetPort port change) net q t = refl
foreseen_port_cost (SetByTree (Priority bridge tree priority)) net q t = refl
foreseen_port_cost (SetByTree (PortPriority port tree priority)) net q t = refl
foreseen_port_cost (SetByTree (PortCost port tree cost)) net q t = get_kept port_trees net.port_costs (record { port = port; tree = tree }) cost (record { port = q; tree = t })
foreseen_port_cost (SetByTree (Table bridge tree vids)) net q t = refl
foreseen_port_cost (SetByTree (Vlans port vids)) net q t = refl

pub foreseen_table : (e : Edit) (net : Net) (q : List ℕ) → table_of (effect e net) q ≡ table_after e q (table_of net q)
foreseen_table (AddBridge bridge mac) net q = refl
foreseen_table (DelBridge bridge) net q = ap (λ o. unwrap_or o no_table) (get_removed names net.tables bridge q) ∙ gone_seen (name_eq bridge q) (fin.get net.tables q) no_table
foreseen_table (SetBridge bridge change) net q = refl
foreseen_table (AddPort port) net q = refl
foreseen_table (DelPort port) net q = refl
foreseen_table (AddLan lan) net q = refl
foreseen_table (DelLan lan) net q = refl
foreseen_table (SetLan lan change) net q = refl
foreseen_table (Plug port lan) net q = refl
foreseen_table (Unplug port) net q = refl
foreseen_table (SetPort port change) net q = refl
foreseen_table (SetByTree (Priority bridge tree priority)) net q = refl
foreseen_table (SetByTree (PortPriority port tree priority)) net q = refl
foreseen_table (SetByTree (PortCost port tree cost)) net q = refl
foreseen_table (SetByTree (Table bridge tree vids)) net q = ap (λ o. unwrap_or o no_table) (get_kept names net.tables bridge (own_table (mapped vids tree (table_of net bridge))) q) ∙ own_table_seen vids tree (table_of net bridge) (name_eq bridge q) (fin.get net.tables q) ∙ mapped_seen vids tree net bridge q
foreseen_table (SetByTree (Vlans port vids)) net q = refl

pub foreseen_vlans : (e : Edit) (net : Net) (q : PortName) → vlans_of (effect e net) q ≡ vlans_after e q (vlans_of net q)
foreseen_vlans (AddBridge bridge mac) net q = refl
foreseen_vlans (DelBridge bridge) net q = refl
foreseen_vlans (SetBridge bridge change) net q = refl
foreseen_vlans (AddPort port) net q = refl
foreseen_vlans (DelPort port) net q = ap (λ o. unwrap_or o all_vids) (get_removed ports net.vlans port q) ∙ gone_seen (port_eq port q) (fin.get net.vlans q) all_vids
foreseen_vlans (AddLan lan) net q = refl
foreseen_vlans (DelLan lan) net q = refl
foreseen_vlans (SetLan lan change) net q = refl
foreseen_vlans (Plug port lan) net q = refl
foreseen_vlans (Unplug port) net q = refl
foreseen_vlans (SetPort port change) net q = refl
foreseen_vlans (SetByTree (Priority bridge tree priority)) net q = refl
foreseen_vlans (SetByTree (PortPriority port tree priority)) net q = refl
foreseen_vlans (SetByTree (PortCost port tree cost)) net q = refl
foreseen_vlans (SetByTree (Table bridge tree vids)) net q = refl
foreseen_vlans (SetByTree (Vlans port vids)) net q = ap (λ o. unwrap_or o all_vids) (get_kept ports net.vlans port (own_vlans vids) q) ∙ own_vlans_seen vids (port_eq port q) (fin.get net.vlans q)

-- ---- the numbers of the records
pub foreseen_bridge_number : (e : Edit) (next : PerKind) (numbers : Numbers) (q : List ℕ) → fin.get (numbers_after e next numbers).bridges q ≡ bridge_number_after e next.bridge q (fin.get numbers.bridges q)
foreseen_bridge_number (AddBridge bridge mac) next numbers q = get_inserted names numbers.bridges bridge next.bridge q
foreseen_bridge_number (DelBridge bridge) next numbers q = get_removed names numbers.bridges bridge q
foreseen_bridge_number (SetBridge bridge change) next numbers q = refl
foreseen_bridge_number (AddPort port) next numbers q = refl
foreseen_bridge_number (DelPort port) next numbers q = refl
foreseen_bridge_number (AddLan lan) next numbers q = refl
foreseen_bridge_number (DelLan lan) next numbers q = refl
foreseen_bridge_number (SetLan lan change) next numbers q = refl
foreseen_bridge_number (Plug port lan) next numbers q = refl
foreseen_bridge_number (Unplug port) next numbers q = refl
foreseen_bridge_number (SetPort port change) next numbers q = refl
foreseen_bridge_number (SetByTree change) next numbers q = refl

pub foreseen_port_number : (e : Edit) (next : PerKind) (numbers : Numbers) (q : PortName) → fin.get (numbers_after e next numbers).ports q ≡ port_number_after e next.port q (fin.get numbers.ports q)
foreseen_port_number (AddBridge bridge mac) next numbers q = refl
foreseen_port_number (DelBridge bridge) next numbers q = refl
foreseen_port_number (SetBridge bridge change) next numbers q = refl
foreseen_port_number (AddPort port) next numbers q = get_inserted ports numbers.ports port next.port q
foreseen_port_number (DelPort port) next numbers q = get_removed ports numbers.ports port q
foreseen_port_number (AddLan lan) next numbers q = refl
foreseen_port_number (DelLan lan) next numbers q = refl
foreseen_port_number (SetLan lan change) next numbers q = refl
foreseen_port_number (Plug port lan) next numbers q = refl
foreseen_port_number (Unplug port) next numbers q = refl
foreseen_port_number (SetPort port change) next numbers q = refl
foreseen_port_number (SetByTree change) next numbers q = refl

pub foreseen_lan_number : (e : Edit) (next : PerKind) (numbers : Numbers) (q : List ℕ) → fin.get (numbers_after e next numbers).lans q ≡ lan_number_after e next.lan q (fin.get numbers.lans q)
foreseen_lan_number (AddBridge bridge mac) next numbers q = refl
foreseen_lan_number (DelBridge bridge) next numbers q = refl
foreseen_lan_number (SetBridge bridge change) next numbers q = refl
foreseen_lan_number (AddPort port) next numbers q = refl
foreseen_lan_number (DelPort port) next numbers q = refl
foreseen_lan_number (AddLan lan) next numbers q = get_inserted names numbers.lans lan next.lan q
foreseen_lan_number (DelLan lan) next numbers q = get_removed names numbers.lans lan q
foreseen_lan_number (SetLan lan change) next numbers q = refl
foreseen_lan_number (Plug port lan) next numbers q = refl
foreseen_lan_number (Unplug port) next numbers q = refl
foreseen_lan_number (SetPort port change) next numbers q = refl
foreseen_lan_number (SetByTree change) next numbers q = refl

-- ---- the names by number
-- the name that has a number, if some name has it
pub record IsNamed {K : Type 0} {R : K → K → Ordering} (numbers : fin.FinMap R ℕ) (number : ℕ) (o : Option K) : Type 0 where
  pub found : ForSome o (λ name. fin.get numbers name ≡ Some number)
  pub none : o ≡ None → (name : K) → fin.get numbers name ≡ Some number → ⊥

module _ {K : Type 0} {E : K → K → Bool} {R : K → K → Ordering} (keyed : IsKeyed E R) (numbers : fin.FinMap R ℕ) (number : ℕ) (o : Option K) (was : IsNamed numbers number o) where
  -- a new name with a number that no name had
  name_added : (k : K) (next : ℕ) → fin.contains_key numbers k ≡ false → ((q : K) → fin.get numbers q ≡ Some next → ⊥) → IsNamed (fin.insert numbers k next) number (if nat_eq next number then Some k else o)
  name_added k next absent fresh = by (nat_eq next number) refl
    where
      other : (q : K) → fin.get numbers q ≡ Some number → fin.get (fin.insert numbers k next) q ≡ Some number
      other q h = get_inserted keyed numbers k next q ∙ at (E k q) refl
        where
          at : (t : Bool) → E k q ≡ t → cond t (Some next) (fin.get numbers q) ≡ Some number
          at true e = absurd (true≢false (sym (ap is_some (ap (fin.get numbers) (same_keys keyed k q e) ∙ h)) ∙ absent))
          at false e = h

      by : (t : Bool) → nat_eq next number ≡ t → IsNamed (fin.insert numbers k next) number (if t then Some k else o)
      by true e = record {
        found = λ name is.
            let here : k ≡ name = some_is k name is in
            ap (fin.get (fin.insert numbers k next)) (sym here) ∙ get_inserted keyed numbers k next k ∙ ap (λ b. cond b (Some next) (fin.get numbers k)) (itself keyed k) ∙ ap Some ((unsigned_Decides next number).0 e);
        none = λ is. absurd (no_some k (sym is));
      }
      by false e = record {
        found = λ name is. other name (was.found name is);
        none = λ is name h. elim (after_insert keyed numbers k next name number h) [
          | inl p ↦ true≢false (sym ((unsigned_Decides next number).1 p.1) ∙ e)
          | inr p ↦ was.none is name p
        ];
      }

  -- a name that is taken away with its number
  name_removed : (k : K) → ((p q : K) (n : ℕ) → fin.get numbers p ≡ Some n → fin.get numbers q ≡ Some n → p ≡ q) → IsNamed (fin.remove numbers k) number (without (E k) o)
  name_removed k differ = by o refl
    where
      at : (name : K) → fin.get numbers name ≡ Some number → (t : Bool) → E k name ≡ t → IsNamed (fin.remove numbers k) number (if t then None else Some name)
      at name there true e = record {
        found = λ q is. absurd (no_some q is);
        none = λ _ q h. let left = left_of keyed numbers k q number h in true≢false (sym e ∙ ap (E k) (differ name q number there left.1) ∙ left.0);
      }
      at name there false e = record {
        found = λ q is. let same : name ≡ q = some_is name q is in other_left keyed numbers k q (ap (E k) (sym same) ∙ e) ∙ ap (fin.get numbers) (sym same) ∙ there;
        none = λ is. absurd (no_some name (sym is));
      }

      by : (p : Option K) → o ≡ p → IsNamed (fin.remove numbers k) number (without (E k) p)
      by None e = record { found = λ q is. absurd (no_some q is); none = λ _ q h. was.none e q (left_of keyed numbers k q number h).1 }
      by (Some name) e = at name (was.found name e) (E k name) refl

pub foreseen_bridge_name : (e : Edit) (net : Net) (next : PerKind) (numbers : Numbers) → IsNumbered net numbers → refusal_of e net ≡ None → ((q : List ℕ) → fin.get numbers.bridges q ≡ Some next.bridge → ⊥) → (number : ℕ) (o : Option (List ℕ))
    → IsNamed numbers.bridges number o → IsNamed (numbers_after e next numbers).bridges number (bridge_name_after e next.bridge number o)
foreseen_bridge_name (AddBridge bridge mac) net next numbers is can fresh number o was = name_added names numbers.bridges number o was bridge next.bridge (is.bridges bridge ∙ (bridge_addable net bridge mac can).0) fresh
foreseen_bridge_name (DelBridge bridge) net next numbers is can fresh number o was = name_removed names numbers.bridges number o was bridge is.bridges_differ
foreseen_bridge_name (SetBridge bridge change) net next numbers is can fresh number o was = was
foreseen_bridge_name (AddPort port) net next numbers is can fresh number o was = was
foreseen_bridge_name (DelPort port) net next numbers is can fresh number o was = was
foreseen_bridge_name (AddLan lan) net next numbers is can fresh number o was = was
foreseen_bridge_name (DelLan lan) net next numbers is can fresh number o was = was
foreseen_bridge_name (SetLan lan change) net next numbers is can fresh number o was = was
foreseen_bridge_name (Plug port lan) net next numbers is can fresh number o was = was
foreseen_bridge_name (Unplug port) net next numbers is can fresh number o was = was
foreseen_bridge_name (SetPort port change) net next numbers is can fresh number o was = was
foreseen_bridge_name (SetByTree change) net next numbers is can fresh number o was = was

pub foreseen_port_name : (e : Edit) (net : Net) (next : PerKind) (numbers : Numbers) → IsNumbered net numbers → refusal_of e net ≡ None → ((q : PortName) → fin.get numbers.ports q ≡ Some next.port → ⊥) → (number : ℕ) (o : Option (PortName))
    → IsNamed numbers.ports number o → IsNamed (numbers_after e next numbers).ports number (port_name_after e next.port number o)
foreseen_port_name (AddBridge bridge mac) net next numbers is can fresh number o was = was
foreseen_port_name (DelBridge bridge) net next numbers is can fresh number o was = was
foreseen_port_name (SetBridge bridge change) net next numbers is can fresh number o was = was
foreseen_port_name (AddPort port) net next numbers is can fresh number o was = name_added ports numbers.ports number o was port next.port (is.ports port ∙ (port_addable net port can).1) fresh
foreseen_port_name (DelPort port) net next numbers is can fresh number o was = name_removed ports numbers.ports number o was port is.ports_differ
foreseen_port_name (AddLan lan) net next numbers is can fresh number o was = was
foreseen_port_name (DelLan lan) net next numbers is can fresh number o was = was
foreseen_port_name (SetLan lan change) net next numbers is can fresh number o was = was
foreseen_port_name (Plug port lan) net next numbers is can fresh number o was = was
foreseen_port_name (Unplug port) net next numbers is can fresh number o was = was
foreseen_port_name (SetPort port change) net next numbers is can fresh number o was = was
foreseen_port_name (SetByTree change) net next numbers is can fresh number o was = was

pub foreseen_lan_name : (e : Edit) (net : Net) (next : PerKind) (numbers : Numbers) → IsNumbered net numbers → refusal_of e net ≡ None → ((q : List ℕ) → fin.get numbers.lans q ≡ Some next.lan → ⊥) → (number : ℕ) (o : Option (List ℕ))
    → IsNamed numbers.lans number o → IsNamed (numbers_after e next numbers).lans number (lan_name_after e next.lan number o)
foreseen_lan_name (AddBridge bridge mac) net next numbers is can fresh number o was = was
foreseen_lan_name (DelBridge bridge) net next numbers is can fresh number o was = was
foreseen_lan_name (SetBridge bridge change) net next numbers is can fresh number o was = was
foreseen_lan_name (AddPort port) net next numbers is can fresh number o was = was
foreseen_lan_name (DelPort port) net next numbers is can fresh number o was = was
foreseen_lan_name (AddLan lan) net next numbers is can fresh number o was = name_added names numbers.lans number o was lan next.lan (is.lans lan ∙ (lan_addable net lan can).0) fresh
foreseen_lan_name (DelLan lan) net next numbers is can fresh number o was = name_removed names numbers.lans number o was lan is.lans_differ
foreseen_lan_name (SetLan lan change) net next numbers is can fresh number o was = was
foreseen_lan_name (Plug port lan) net next numbers is can fresh number o was = was
foreseen_lan_name (Unplug port) net next numbers is can fresh number o was = was
foreseen_lan_name (SetPort port change) net next numbers is can fresh number o was = was
foreseen_lan_name (SetByTree change) net next numbers is can fresh number o was = was

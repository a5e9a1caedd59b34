-- What is set by tree or VID, as edits change it.
use Rattle.std.proofs.Common.{◌≡◌, ℕ, ◌<◌, Bool, true, false, not, cond, List, Option, Some, None, refl, sym, ap, ◌∙◌, true≢false}
use Rattle.std.specs.Prelude.{◌≤◌, ◌&&◌}
use Rattle.std.specs.FinMap as fin
use Rattle.std.specs.FinMap.{same_map}
use Rattle.std.specs.Map.{lookup}
use Rattle.std.specs.declared.cmp.Ordering.{Ordering}
use Rattle.mst_ids.specs.declared.name.PortName.{PortName}
use Rattle.mst_lang.specs.declared.line.Edit.{Edit}
use Rattle.mst_lang.specs.declared.line.Edit.TheVariants.{AddBridge, DelBridge, SetBridge, AddPort, DelPort, SetPort, AddLan, DelLan, SetLan, Plug, Unplug, SetByTree}
use Rattle.mst_lang.specs.declared.line.TreeChange.{TreeChange}
use Rattle.mst_lang.specs.declared.line.TreeChange.TheVariants.{Priority, PortPriority, PortCost, Table, Vlans}
use Rattle.mst_tables.specs.Table.{mapped}
use Rattle.mst_tables.specs.Tables.{Net, IsNetwork, BridgeTree, PortTree, port_eq, bridge_tree_eq, port_tree_eq}
use Rattle.mst_tables.specs.ByTree.{ByTree, AreInTrees, RoomByTree, by_tree, table_in}
use Rattle.mst_tables.specs.After.{effect, keep, own_priority, own_table, own_vlans}
use Rattle.mst_tables.specs.Contents.{Room, room_for}
use Rattle.mst_records.specs.Blocks.{in_block, is_marked, in_trees}
use Rattle.mst_tables.specs.SetByTree.{in_trees_of_bridge, in_trees_of_port}
use Rattle.mst_tables.specs.SettingsAfter.{set_after, room_to_set}
use Rattle.mst_tables.specs.SettingsKept.{settings_of, AreMarked}
use Rattle.mst_tables.specs.declared.tree_settings.TreeSettings.TheInside.{Inside}
use Rattle.mst_tables.proofs.Keyed.{IsKeyed, get_keyed, removed_keyed, keep_keyed}
use Rattle.mst_tables.proofs.Keys.{name_eq, names, ports, bridge_trees, port_trees}
use Rattle.mst_tables.proofs.Changed.{get_without}
use Rattle.mst_tables.proofs.MarkedLemmas.{in_its_trees}

-- ---- what is left of settings by tree, of which all trees are forgotten
pub forgotten : {K X : Type 0} {E : K → K → Bool} {R : K → K → Ordering} (keyed : IsKeyed E R) (es fs : List (K × X)) (gone small : K → Bool)
    → ((q : K) → lookup (E q) fs ≡ cond (gone q && small q) None (lookup (E q) es)) → ((q : K) (x : X) → gone q ≡ true → lookup (E q) es ≡ Some x → small q ≡ true)
    → fin.from_entries {R = R} fs ≡ fin.retain_keys (fin.from_entries es) (λ k. not (gone k))
forgotten {X = X} {E = E} keyed es fs gone small left fit = same_map keyed.total keyed.same _ _ (λ q.
    get_keyed keyed fs q ∙ left q ∙ by (gone q) (small q) (lookup (E q) es) (λ x. fit q x) ∙ ap (cond (gone q) None) (sym (get_keyed keyed es q)) ∙ sym (get_without keyed (fin.from_entries es) gone q))
  where
    by : (t u : Bool) (o : Option X) → ((x : X) → t ≡ true → o ≡ Some x → u ≡ true) → cond (t && u) None o ≡ cond t None o
    by true true o h = refl
    by true false None h = refl
    by true false (Some x) h = absurd (true≢false (sym (h x refl refl)))
    by false u o h = refl

-- ---- what the edits set and forget
module _ (a b : Inside) where
  abbrev was : ByTree
  was = (settings_of a).set

  pub priority_kept : (bridge : List ℕ) (tree priority : ℕ) → record b { priorities = a.priorities; bridge_blocks = a.bridge_blocks } ≡ a → (given : Option ℕ) → given ≡ own_priority priority
      → ((q : BridgeTree) → lookup (bridge_tree_eq q) b.priorities.entries ≡ cond (bridge_tree_eq (record { bridge = bridge; tree = tree }) q) given (lookup (bridge_tree_eq q) a.priorities.entries))
      → (settings_of b).set ≡ set_after (SetByTree (Priority bridge tree priority)) was
  priority_kept bridge tree priority others given is entries =
      let key : BridgeTree = record { bridge = bridge; tree = tree } in
      let table = keep_keyed bridge_trees a.priorities.entries b.priorities.entries key given entries ∙ ap (keep was.priorities key) is in
      λ i. record (settings_of (others i)).set { priorities = table i }

  pub port_priority_kept : (port : PortName) (tree priority : ℕ) → record b { port_priorities = a.port_priorities; port_blocks = a.port_blocks } ≡ a → (given : Option ℕ) → given ≡ own_priority priority
      → ((q : PortTree) → lookup (port_tree_eq q) b.port_priorities.entries ≡ cond (port_tree_eq (record { port = port; tree = tree }) q) given (lookup (port_tree_eq q) a.port_priorities.entries))
      → (settings_of b).set ≡ set_after (SetByTree (PortPriority port tree priority)) was
  port_priority_kept port tree priority others given is entries =
      let key : PortTree = record { port = port; tree = tree } in
      let table = keep_keyed port_trees a.port_priorities.entries b.port_priorities.entries key given entries ∙ ap (keep was.port_priorities key) is in
      λ i. record (settings_of (others i)).set { port_priorities = table i }

  pub port_cost_kept : (port : PortName) (tree : ℕ) (cost : Option ℕ) → record b { port_costs = a.port_costs; port_blocks = a.port_blocks } ≡ a
      → ((q : PortTree) → lookup (port_tree_eq q) b.port_costs.entries ≡ cond (port_tree_eq (record { port = port; tree = tree }) q) cost (lookup (port_tree_eq q) a.port_costs.entries))
      → (settings_of b).set ≡ set_after (SetByTree (PortCost port tree cost)) was
  port_cost_kept port tree cost others entries =
      let table = keep_keyed port_trees a.port_costs.entries b.port_costs.entries (record { port = port; tree = tree }) cost entries in
      λ i. record (settings_of (others i)).set { port_costs = table i }

  pub table_kept : (bridge : List ℕ) (tree : ℕ) (vids : List Bool) → record b { tables = a.tables } ≡ a → (given : Option (List ℕ)) → given ≡ own_table (mapped vids tree (table_in was.tables bridge))
      → ((q : List ℕ) → lookup (name_eq q) b.tables.entries ≡ cond (name_eq bridge q) given (lookup (name_eq q) a.tables.entries))
      → (settings_of b).set ≡ set_after (SetByTree (Table bridge tree vids)) was
  table_kept bridge tree vids others given is entries =
      let table = keep_keyed names a.tables.entries b.tables.entries bridge given entries ∙ ap (keep was.tables bridge) is in
      λ i. record (settings_of (others i)).set { tables = table i }

  pub vlans_kept : (port : PortName) (vids : List Bool) → record b { vlans = a.vlans } ≡ a → (given : Option (List Bool)) → given ≡ own_vlans vids
      → ((q : PortName) → lookup (port_eq q) b.vlans.entries ≡ cond (port_eq port q) given (lookup (port_eq q) a.vlans.entries))
      → (settings_of b).set ≡ set_after (SetByTree (Vlans port vids)) was
  vlans_kept port vids others given is entries =
      let table = keep_keyed ports a.vlans.entries b.vlans.entries port given entries ∙ ap (keep was.vlans port) is in
      λ i. record (settings_of (others i)).set { vlans = table i }

  pub small_bridge : AreInTrees was → (q : BridgeTree) (x : ℕ) → lookup (bridge_tree_eq q) a.priorities.entries ≡ Some x → q.tree ≤ 4094
  small_bridge trees q x there = trees.priorities q.bridge q.tree x (get_keyed bridge_trees a.priorities.entries q ∙ there)

  pub small_priority : AreInTrees was → (q : PortTree) (x : ℕ) → lookup (port_tree_eq q) a.port_priorities.entries ≡ Some x → q.tree ≤ 4094
  small_priority trees q x there = trees.port_priorities q.port q.tree x (get_keyed port_trees a.port_priorities.entries q ∙ there)

  pub small_cost : AreInTrees was → (q : PortTree) (x : ℕ) → lookup (port_tree_eq q) a.port_costs.entries ≡ Some x → q.tree ≤ 4094
  small_cost trees q x there = trees.port_costs q.port q.tree x (get_keyed port_trees a.port_costs.entries q ∙ there)

  pub bridge_forgotten : (bridge : List ℕ) (flags : List Bool) → AreInTrees was → AreMarked a → ((tree : ℕ) → in_block flags tree ≡ is_marked name_eq a.bridge_blocks.entries bridge tree)
      → record b { priorities = a.priorities; tables = a.tables; bridge_blocks = a.bridge_blocks } ≡ a
      → ((q : BridgeTree) → lookup (bridge_tree_eq q) b.priorities.entries ≡ cond (in_trees_of_bridge bridge flags q) None (lookup (bridge_tree_eq q) a.priorities.entries))
      → ((q : List ℕ) → lookup (name_eq q) b.tables.entries ≡ cond (name_eq bridge q) None (lookup (name_eq q) a.tables.entries))
      → (settings_of b).set ≡ set_after (DelBridge bridge) was
  bridge_forgotten bridge flags trees are are_flags others priorities tables i = record (settings_of (others i)).set {
    priorities = forgotten bridge_trees a.priorities.entries b.priorities.entries (λ k. name_eq bridge k.bridge) (λ k. in_trees flags k.tree) priorities
        (in_its_trees names bridge_trees (λ k. k.bridge) (λ k. k.tree) a.bridge_blocks.entries a.priorities.entries bridge flags are_flags (small_bridge trees) are.priorities) i;
    tables = removed_keyed names a.tables.entries b.tables.entries bridge tables i;
  }

  pub port_forgotten : (port : PortName) (flags : List Bool) → AreInTrees was → AreMarked a → ((tree : ℕ) → in_block flags tree ≡ is_marked port_eq a.port_blocks.entries port tree)
      → record b { port_priorities = a.port_priorities; port_costs = a.port_costs; vlans = a.vlans; port_blocks = a.port_blocks } ≡ a
      → ((q : PortTree) → lookup (port_tree_eq q) b.port_priorities.entries ≡ cond (in_trees_of_port port flags q) None (lookup (port_tree_eq q) a.port_priorities.entries))
      → ((q : PortTree) → lookup (port_tree_eq q) b.port_costs.entries ≡ cond (in_trees_of_port port flags q) None (lookup (port_tree_eq q) a.port_costs.entries))
      → ((q : PortName) → lookup (port_eq q) b.vlans.entries ≡ cond (port_eq port q) None (lookup (port_eq q) a.vlans.entries))
      → (settings_of b).set ≡ set_after (DelPort port) was
  port_forgotten port flags trees are are_flags others priorities costs vlans i = record (settings_of (others i)).set {
    port_priorities = forgotten port_trees a.port_priorities.entries b.port_priorities.entries (λ k. port_eq port k.port) (λ k. in_trees flags k.tree) priorities
        (in_its_trees ports port_trees (λ k. k.port) (λ k. k.tree) a.port_blocks.entries a.port_priorities.entries port flags are_flags (small_priority trees) are.port_priorities) i;
    port_costs = forgotten port_trees a.port_costs.entries b.port_costs.entries (λ k. port_eq port k.port) (λ k. in_trees flags k.tree) costs
        (in_its_trees ports port_trees (λ k. k.port) (λ k. k.tree) a.port_blocks.entries a.port_costs.entries port flags are_flags (small_cost trees) are.port_costs) i;
    vlans = removed_keyed ports a.vlans.entries b.vlans.entries port vlans i;
  }

-- ---- the trees that are marked
-- equal entries are marked alike
pub same_marked : (a b : Inside) → b.priorities.entries ≡ a.priorities.entries → b.port_priorities.entries ≡ a.port_priorities.entries → b.port_costs.entries ≡ a.port_costs.entries
    → b.bridge_blocks.entries ≡ a.bridge_blocks.entries → b.port_blocks.entries ≡ a.port_blocks.entries → AreMarked a → AreMarked b
same_marked a b priorities port_priorities port_costs bridges ports are = record {
  priorities = λ q n h. ap (λ es. is_marked name_eq es q.bridge q.tree) bridges ∙ are.priorities q n (sym (ap (lookup (bridge_tree_eq q)) priorities) ∙ h);
  port_priorities = λ q n h. ap (λ es. is_marked port_eq es q.port q.tree) ports ∙ are.port_priorities q n (sym (ap (lookup (port_tree_eq q)) port_priorities) ∙ h);
  port_costs = λ q n h. ap (λ es. is_marked port_eq es q.port q.tree) ports ∙ are.port_costs q n (sym (ap (lookup (port_tree_eq q)) port_costs) ∙ h);
}

-- ---- what is set in a network
pub network_in_trees : (net : Net) → IsNetwork net → AreInTrees (by_tree net)
network_in_trees net is = record {
  priorities = λ bridge tree n h. (is.priorities (record { bridge = bridge; tree = tree }) n h).1;
  port_priorities = λ port tree n h. (is.port_priorities (record { port = port; tree = tree }) n h).1;
  port_costs = λ port tree n h. (is.port_costs (record { port = port; tree = tree }) n h).1;
}

-- an edit makes of it what it makes of the same settings alone
pub set_in_network : (edit : Edit) (net : Net) → set_after edit (by_tree net) ≡ by_tree (effect edit net)
set_in_network (AddBridge bridge mac) net = refl
set_in_network (DelBridge bridge) net = refl
set_in_network (SetBridge bridge change) net = refl
set_in_network (AddPort port) net = refl
set_in_network (DelPort port) net = refl
set_in_network (AddLan lan) net = refl
set_in_network (DelLan lan) net = refl
set_in_network (SetLan lan change) net = refl
set_in_network (Plug port lan) net = refl
set_in_network (Unplug port) net = refl
set_in_network (SetPort port change) net = refl
set_in_network (SetByTree change) net = refl

abbrev room_by_tree : Room → RoomByTree
room_by_tree room = record { priority = room.priority; port_priority = room.port_priority; port_cost = room.port_cost; table = room.table; vlans = room.vlans }

pub has_room : (change : TreeChange) (room : Room) → 0 < room_for (SetByTree change) room → 0 < room_to_set (SetByTree change) (room_by_tree room)
has_room (Priority bridge tree priority) room h = h
has_room (PortPriority port tree priority) room h = h
has_room (PortCost port tree cost) room h = h
has_room (Table bridge tree vids) room h = h
has_room (Vlans port vids) room h = h

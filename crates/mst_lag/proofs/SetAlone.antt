-- An edit of what is set by tree or VID leaves all else, and a view in which that was renewed is that of the network now.
use Rattle.std.proofs.Common.{◌≡◌, ℕ, Bool, true, false, List, [], map, Option, Some, None, refl, sym, ap, subst, ◌∙◌, true≢false}
use Rattle.std.specs.Prelude.{Ok, Err, Result, if◌then◌else◌}
use Rattle.std.specs.Option.{option_map_or}
use Rattle.mst_lang.specs.declared.line.Edit.TheVariants.{SetByTree}
use Rattle.mst_lang.specs.declared.line.TreeChange.{TreeChange}
use Rattle.mst_lang.specs.declared.line.TreeChange.TheVariants.{Priority, PortPriority, PortCost, Table, Vlans}
use Rattle.mst_tables.specs.ByTree.{ByTree, by_tree, with_by_tree, table_in}
use Rattle.mst_tables.specs.Seen.{bridge_row}
use Rattle.mst_tables.specs.Table.{mstis_in}
use Rattle.mst_tables.specs.Tables.{Net, Numbers}
use Rattle.mst_tables.specs.After.{after, effect, set_with, refusal_of}
use Rattle.mst_tables.specs.Contents.{Contents, Commits}
use Rattle.mst_tables.specs.declared.refusal.Refusal.{Refusal}
use Rattle.mst_view.specs.Viewed.{Viewed, IsView, bridge_trees}
use Rattle.mst_lag.specs.Renewed.{IsViewButSet, IsViewButSettings, leaves_tables}
use Rattle.mst_view.specs.declared.in_view.BridgeInView.{BridgeInView}

effect_is : (change : TreeChange) (old new : Net) (o : Option Refusal) → option_map_or Err o (Ok (effect (SetByTree change) old)) ≡ Ok new → effect (SetByTree change) old ≡ new
effect_is change old new None h = ap net_in h
  where
    net_in : Result Net Refusal → Net
    net_in (Ok net) = net
    net_in (Err refusal) = old
effect_is change old new (Some refusal) h = absurd (true≢false (sym (ap is_ok h)))
  where
    is_ok : Result Net Refusal → Bool
    is_ok (Ok net) = true
    is_ok (Err refusal) = false

pub alone_made : (change : TreeChange) (old new : Contents) (v : Viewed) → Commits (SetByTree change) old new → IsView old.net old.numbers v → IsViewButSet new.net new.numbers v
alone_made change old new v made view = record {
  old = old.net;
  view = subst (λ n. IsView old.net n v) (sym made.numbers) view;
  set = set_with change (by_tree old.net);
  is = sym (effect_is change old.net new.net (refusal_of (SetByTree change) old.net) made.net);
}

tables_stay : (change : TreeChange) → leaves_tables change ≡ true → (set : ByTree) → (set_with change set).tables ≡ set.tables
tables_stay (Priority bridge tree priority) e set = refl
tables_stay (PortPriority port tree priority) e set = refl
tables_stay (PortCost port tree cost) e set = refl
tables_stay (Table bridge tree vids) e set = absurd (true≢false (sym e))
tables_stay (Vlans port vids) e set = refl

pub tables_alone : (change : TreeChange) (old new : Contents) (v : Viewed) → leaves_tables change ≡ true → Commits (SetByTree change) old new → IsView old.net old.numbers v → IsViewButSettings new.net new.numbers v
unfolding alone_made
tables_alone change old new v e made view = record { but = alone_made change old new v made view; tables = tables_stay change e (by_tree old.net) }

-- ---- the view
trees_by : (old : Net) (set : ByTree) → set.tables ≡ old.tables → (bs : List BridgeInView) → map (bridge_trees old) bs ≡ map (bridge_trees (with_by_tree old set)) bs
trees_by old set same bs = λ i. map (λ (b : BridgeInView). (b.bridge.number, if◌then◌else◌ {A = List ℕ} (bridge_row b.bridge).is_rstp [] (mstis_in (table_in (sym same i) b.name)))) bs

set_here : (old : Net) (set : ByTree) (numbers : Numbers) (v : Viewed) → IsView old numbers v
    → (trees : List (ℕ × List ℕ)) → trees ≡ map (bridge_trees (with_by_tree old set)) v.bridges → (now : ByTree) → now ≡ set
    → IsView (with_by_tree old set) numbers (record v { trees = trees; settings = now })
set_here old set numbers v was trees trees_are now now_is = record {
  bridges = was.bridges;
  trees = trees_are;
  ports = was.ports;
  lans = was.lans;
  member_lans = was.member_lans;
  member_ports = was.member_ports;
  bridge_numbers = was.bridge_numbers;
  port_numbers = was.port_numbers;
  lan_numbers = was.lan_numbers;
  lags = was.lags;
  no_lags = was.no_lags;
  settings = now_is;
}

pub is_set : (net : Net) (numbers : Numbers) (v : Viewed) → IsViewButSet net numbers v
    → (trees : List (ℕ × List ℕ)) → trees ≡ map (bridge_trees net) v.bridges → (now : ByTree) → now ≡ by_tree net
    → IsView net numbers (record v { trees = trees; settings = now })
is_set net numbers v but trees trees_are now now_is =
    subst (λ n. trees ≡ map (bridge_trees n) v.bridges → now ≡ by_tree n → IsView n numbers (record v { trees = trees; settings = now })) (sym but.is)
    (λ are here. set_here but.old but.set numbers v but.view trees are now here) trees_are now_is

pub is_settings : (net : Net) (numbers : Numbers) (v : Viewed) → IsViewButSettings net numbers v → (now : ByTree) → now ≡ by_tree net → IsView net numbers (record v { settings = now })
is_settings net numbers v h now now_is =
    is_set net numbers v h.but v.trees
    (h.but.view.trees ∙ trees_by h.but.old h.but.set h.tables v.bridges ∙ ap (λ n. map (bridge_trees n) v.bridges) (sym h.but.is)) now now_is

-- No edit leaves a default that is kept, be it refused or not, so what edits leave is told by what is seen of it.
use Rattle.std.proofs.Common.{◌≡◌, ◌≢◌, ℕ, zero, suc, Bool, true, false, inl, inr, List, [], ◌∷◌, replicate, Option, Some, None, refl, sym, ap, ◌∙◌, true≢false}
use Rattle.std.specs.Prelude.{◌==◌, if◌then◌else◌}
use Rattle.std.specs.Bool.{beq}
use Rattle.std.specs.List.{list_all}
use Rattle.std.specs.Option.{unwrap_or}
use Rattle.std.specs.FinMap as fin
use Rattle.std.specs.FinMap.{same_map}
use Rattle.std.specs.Cmp.{booleans_Decides}
use Rattle.std.specs.Cmp.Lexicographic.{pointwise, pointwise_decides}
use Rattle.std.proofs.lemmas.Bool.{eqb-true}
use Rattle.mst_ids.specs.declared.name.PortName.{PortName}
use Rattle.mst_lang.specs.declared.line.Edit.{Edit}
use Rattle.mst_lang.specs.declared.line.Edit.TheVariants.{AddBridge, DelBridge, SetBridge, AddPort, DelPort, SetPort, AddLan, DelLan, SetLan, Plug, Unplug, SetByTree}
use Rattle.mst_lang.specs.declared.line.TreeChange.TheVariants.{Priority, PortPriority, PortCost, Table, Vlans}
use Rattle.mst_net.specs.tables.Table.{no_table, mapped}
use Rattle.mst_net.specs.tables.Tables.{Net, IsNetwork, BridgeTree, PortTree, port_eq}
use Rattle.mst_net.specs.tables.After.{effect, all_vids, table_of, own_priority, own_table, own_vlans}
use Rattle.mst_net.proofs.tables_lemmas.Somes.{some_is, no_some}
use Rattle.mst_net.proofs.tables_lemmas.Keyed.{after_keep, after_remove}
use Rattle.mst_net.proofs.tables_lemmas.Keys.{name_eq, names, ports, bridge_trees, port_trees}
use Rattle.mst_net.proofs.tables_lemmas.Changed.{left_without}
use Rattle.mst_edits.specs.Making.{made}
use Rattle.mst_edit_laws.proofs.Seen.{AtBridge, at_bridge, AtPort, at_port}

abbrev is_eight : ℕ → Bool
is_eight n = n == 8

abbrev is_no_table : List ℕ → Bool
is_no_table table = list_all (λ tree. tree == 0) table

abbrev are_all : List Bool → Bool
are_all vids = pointwise beq vids all_vids

pub record NoDefaults (net : Net) : Type 0 where
  priorities : (k : BridgeTree) (n : ℕ) → fin.get net.priorities k ≡ Some n → is_eight n ≡ false
  port_priorities : (k : PortTree) (n : ℕ) → fin.get net.port_priorities k ≡ Some n → is_eight n ≡ false
  tables : (q : List ℕ) (t : List ℕ) → fin.get net.tables q ≡ Some t → is_no_table t ≡ false
  vlans : (p : PortName) (v : List Bool) → fin.get net.vlans p ≡ Some v → are_all v ≡ false

-- what is kept of a value isn't the default
own_is : {X : Type 0} (is_default : X → Bool) (x y : X) → (if is_default x then None else Some x) ≡ Some y → is_default y ≡ false
own_is is_default x y h = by (is_default x) refl h
  where
    by : (t : Bool) → is_default x ≡ t → (if t then None else Some x) ≡ Some y → is_default y ≡ false
    by true e h = absurd (no_some y h)
    by false e h = ap is_default (sym (some_is x y h)) ∙ e

module _ (net : Net) (none : NoDefaults net) where
  same_settings : (new : Net) → new.priorities ≡ net.priorities → new.port_priorities ≡ net.port_priorities → new.tables ≡ net.tables → new.vlans ≡ net.vlans → NoDefaults new
  same_settings new a b c d = record {
    priorities = λ k n h. none.priorities k n (ap (λ m. fin.get m k) (sym a) ∙ h);
    port_priorities = λ k n h. none.port_priorities k n (ap (λ m. fin.get m k) (sym b) ∙ h);
    tables = λ q t h. none.tables q t (ap (λ m. fin.get m q) (sym c) ∙ h);
    vlans = λ p v h. none.vlans p v (ap (λ m. fin.get m p) (sym d) ∙ h);
  }

  pub after_edit : (e : Edit) → NoDefaults (effect e net)
  after_edit (AddBridge b mac) = same_settings _ refl refl refl refl
  after_edit (DelBridge b) = record {
    priorities = λ k n h. none.priorities k n ((left_without bridge_trees net.priorities (λ k. name_eq b k.bridge) k n h).1);
    port_priorities = none.port_priorities;
    tables = λ q t h. none.tables q t (after_remove names net.tables b q t h);
    vlans = none.vlans;
  }
  after_edit (SetBridge b change) = same_settings _ refl refl refl refl
  after_edit (AddPort p) = same_settings _ refl refl refl refl
  after_edit (DelPort p) = record {
    priorities = none.priorities;
    port_priorities = λ k n h. none.port_priorities k n ((left_without port_trees net.port_priorities (λ k. port_eq p k.port) k n h).1);
    tables = none.tables;
    vlans = λ q v h. none.vlans q v (after_remove ports net.vlans p q v h);
  }
  after_edit (SetPort p change) = same_settings _ refl refl refl refl
  after_edit (AddLan l) = same_settings _ refl refl refl refl
  after_edit (DelLan l) = same_settings _ refl refl refl refl
  after_edit (SetLan l change) = same_settings _ refl refl refl refl
  after_edit (Plug p l) = same_settings _ refl refl refl refl
  after_edit (Unplug p) = same_settings _ refl refl refl refl
  after_edit (SetByTree (Priority b tree priority)) = record {
    priorities = λ k n h. elim (after_keep bridge_trees net.priorities (record { bridge = b; tree = tree }) (own_priority priority) k n h) [
      | inl p ↦ own_is is_eight priority n p.1
      | inr p ↦ none.priorities k n p
    ];
    port_priorities = none.port_priorities;
    tables = none.tables;
    vlans = none.vlans;
  }
  after_edit (SetByTree (PortPriority p tree priority)) = record {
    priorities = none.priorities;
    port_priorities = λ k n h. elim (after_keep port_trees net.port_priorities (record { port = p; tree = tree }) (own_priority priority) k n h) [
      | inl p ↦ own_is is_eight priority n p.1
      | inr p ↦ none.port_priorities k n p
    ];
    tables = none.tables;
    vlans = none.vlans;
  }
  after_edit (SetByTree (PortCost p tree cost)) = same_settings _ refl refl refl refl
  after_edit (SetByTree (Table b tree vids)) = record {
    priorities = none.priorities;
    port_priorities = none.port_priorities;
    tables = λ q t h. elim (after_keep names net.tables b (own_table (mapped vids tree (table_of net b))) q t h) [
      | inl p ↦ own_is is_no_table (mapped vids tree (table_of net b)) t p.1
      | inr p ↦ none.tables q t p
    ];
    vlans = none.vlans;
  }
  after_edit (SetByTree (Vlans p vids)) = record {
    priorities = none.priorities;
    port_priorities = none.port_priorities;
    tables = none.tables;
    vlans = λ q v h. elim (after_keep ports net.vlans p (own_vlans vids) q v h) [
      | inl p ↦ own_is are_all vids v p.1
      | inr p ↦ none.vlans q v p
    ];
  }

pub after_edits : (es : List Edit) (net : Net) → NoDefaults net → NoDefaults (made es net)
after_edits [] net none = none
after_edits (e ∷ es) net none = after_edits es (effect e net) (after_edit net none e)

not_eight : (n : ℕ) → n ≢ 8 → is_eight n ≡ false
not_eight n other = by (is_eight n) refl
  where
    by : (t : Bool) → is_eight n ≡ t → t ≡ false
    by true e = absurd (other (eqb-true n 8 e))
    by false e = refl

pub network_has_none : (net : Net) → IsNetwork net → NoDefaults net
network_has_none net is = record {
  priorities = λ k n e. not_eight n ((is.priorities k n e).2.1);
  port_priorities = λ k n e. not_eight n ((is.port_priorities k n e).2.1);
  tables = λ q t e. (is.tables q t e).2;
  vlans = λ p v e. (is.vlans p v e).2;
}

-- ---- networks that are seen alike are equal
module _ {X : Type 0} (is_default : X → Bool) (default : X) (told : is_default default ≡ true) where
  kept_alike : (o p : Option X) → ((x : X) → o ≡ Some x → is_default x ≡ false) → ((x : X) → p ≡ Some x → is_default x ≡ false) → unwrap_or o default ≡ unwrap_or p default → o ≡ p
  kept_alike None None h i e = refl
  kept_alike None (Some y) h i e = absurd (true≢false (sym told ∙ ap is_default e ∙ i y refl))
  kept_alike (Some x) None h i e = absurd (true≢false (sym told ∙ ap is_default (sym e) ∙ h x refl))
  kept_alike (Some x) (Some y) h i e = ap Some e

all_zero : (n : ℕ) → list_all (λ tree. tree == 0) (replicate n 0) ≡ true
all_zero zero = refl
all_zero (suc n) = all_zero n

no_table_told : is_no_table no_table ≡ true
unfolding no_table
no_table_told = all_zero 4094

pub seen_alike : (a b : Net) → NoDefaults a → NoDefaults b → ((q : List ℕ) (t : ℕ) → at_bridge q t a ≡ at_bridge q t b) → ((q : PortName) (t : ℕ) → at_port q t a ≡ at_port q t b) → ((q : List ℕ) → fin.get a.lans q ≡ fin.get b.lans q) → a ≡ b
seen_alike a b no_a no_b bridges_alike ports_alike lans_alike =
    let br : a.bridges ≡ b.bridges = same_map names.total names.same a.bridges b.bridges (λ q. ap (λ (s : AtBridge). s.row) (bridges_alike q 0)) in
    let po : a.ports ≡ b.ports = same_map ports.total ports.same a.ports b.ports (λ q. ap (λ (s : AtPort). s.row) (ports_alike q 0)) in
    let la : a.lans ≡ b.lans = same_map names.total names.same a.lans b.lans lans_alike in
    let pr : a.priorities ≡ b.priorities = same_map bridge_trees.total bridge_trees.same a.priorities b.priorities (λ k.
    kept_alike is_eight 8 refl (fin.get a.priorities k) (fin.get b.priorities k) (no_a.priorities k) (no_b.priorities k) (ap (λ (s : AtBridge). s.priority) (bridges_alike k.bridge k.tree))) in
    let pp : a.port_priorities ≡ b.port_priorities = same_map port_trees.total port_trees.same a.port_priorities b.port_priorities (λ k.
    kept_alike is_eight 8 refl (fin.get a.port_priorities k) (fin.get b.port_priorities k) (no_a.port_priorities k) (no_b.port_priorities k) (ap (λ (s : AtPort). s.priority) (ports_alike k.port k.tree))) in
    let pc : a.port_costs ≡ b.port_costs = same_map port_trees.total port_trees.same a.port_costs b.port_costs (λ k. ap (λ (s : AtPort). s.cost) (ports_alike k.port k.tree)) in
    let ta : a.tables ≡ b.tables = same_map names.total names.same a.tables b.tables (λ q.
    kept_alike is_no_table no_table no_table_told (fin.get a.tables q) (fin.get b.tables q) (no_a.tables q) (no_b.tables q) (ap (λ (s : AtBridge). s.table) (bridges_alike q 0))) in
    let vl : a.vlans ≡ b.vlans = same_map ports.total ports.same a.vlans b.vlans (λ q.
    kept_alike are_all all_vids ((pointwise_decides booleans_Decides all_vids all_vids).1 refl) (fin.get a.vlans q) (fin.get b.vlans q) (no_a.vlans q) (no_b.vlans q) (ap (λ (s : AtPort). s.vlans) (ports_alike q 0))) in
    λ i. record { bridges = br i; ports = po i; lans = la i; priorities = pr i; port_priorities = pp i; port_costs = pc i; tables = ta i; vlans = vl i }

-- After an edit each record has a number, and no two records of one kind have the same.
use Rattle.std.proofs.Common.{◌≡◌, ℕ, Bool, true, false, cond, inl, inr, List, Option, Some, None, is_some, refl, sym, ap, ◌∙◌}
use Rattle.std.specs.FinMap as fin
use Rattle.std.specs.FinMap.{FinMap}
use Rattle.std.specs.declared.cmp.Ordering.{Ordering}
use Rattle.mst_ids.specs.Names.{name_cmp, port_cmp}
use Rattle.mst_ids.specs.declared.name.PortName.{PortName}
use Rattle.mst_lang.specs.declared.line.Edit.{Edit}
use Rattle.mst_lang.specs.declared.line.Edit.TheVariants.{AddBridge, DelBridge, SetBridge, AddPort, DelPort, SetPort, AddLan, DelLan, SetLan, Plug, Unplug, SetByTree}
use Rattle.mst_tables.specs.Tables.{Net, Numbers}
use Rattle.mst_tables.specs.After.{effect, new_bridge, new_port, new_lan, bridge_with, port_with, lan_with, in_lan}
use Rattle.mst_tables.specs.Contents.{PerKind, IsNumbered, numbers_after}
use Rattle.mst_tables.proofs.Keyed.{IsKeyed, get_inserted, get_removed, after_insert}
use Rattle.mst_tables.proofs.Keys.{names, ports}
use Rattle.mst_tables.proofs.Changed.{contains_changed, left_of}

-- no two keys have the same number
abbrev Differ : {K : Type 0} {R : K → K → Ordering} → FinMap R ℕ → Type 0
Differ {K} numbers = (p q : K) (n : ℕ) → fin.get numbers p ≡ Some n → fin.get numbers q ≡ Some n → p ≡ q

module _ {K X Y : Type 0} {E : K → K → Bool} {R : K → K → Ordering} (keyed : IsKeyed E R) where
  -- what is put under a key of two tables that have the same keys, or taken away from both
  both_added : (m : FinMap R X) (n : FinMap R Y) (k : K) (x : X) (y : Y) (q : K) → fin.contains_key m q ≡ fin.contains_key n q → fin.contains_key (fin.insert m k x) q ≡ fin.contains_key (fin.insert n k y) q
  both_added m n k x y q same = ap is_some (get_inserted keyed m k x q) ∙ by (E k q) (fin.get m q) (fin.get n q) same ∙ ap is_some (sym (get_inserted keyed n k y q))
    where
      by : (t : Bool) (o : Option X) (p : Option Y) → is_some o ≡ is_some p → is_some (cond t (Some x) o) ≡ is_some (cond t (Some y) p)
      by true o p h = refl
      by false o p h = h

  both_removed : (m : FinMap R X) (n : FinMap R Y) (k q : K) → fin.contains_key m q ≡ fin.contains_key n q → fin.contains_key (fin.remove m k) q ≡ fin.contains_key (fin.remove n k) q
  both_removed m n k q same = ap is_some (get_removed keyed m k q) ∙ by (E k q) (fin.get m q) (fin.get n q) same ∙ ap is_some (sym (get_removed keyed n k q))
    where
      by : (t : Bool) (o : Option X) (p : Option Y) → is_some o ≡ is_some p → is_some (cond t None o) ≡ is_some (cond t None p)
      by true o p h = refl
      by false o p h = h

module _ {K : Type 0} {E : K → K → Bool} {R : K → K → Ordering} (keyed : IsKeyed E R) (numbers : FinMap R ℕ) (differ : Differ numbers) (k : K) where
  differ_added : (next : ℕ) → ((q : K) → fin.get numbers q ≡ Some next → ⊥) → Differ (fin.insert numbers k next)
  differ_added next fresh p q n h i = elim (after_insert keyed numbers k next p n h) [
    | inl a ↦ elim (after_insert keyed numbers k next q n i) [
      | inl b ↦ sym a.0 ∙ b.0
      | inr b ↦ absurd (fresh q (b ∙ ap Some (sym a.1)))
    ]
    | inr a ↦ elim (after_insert keyed numbers k next q n i) [
      | inl b ↦ absurd (fresh p (a ∙ ap Some (sym b.1)))
      | inr b ↦ differ p q n a b
    ]
  ]

  differ_removed : Differ (fin.remove numbers k)
  differ_removed p q n h i = differ p q n (left_of keyed numbers k p n h).1 (left_of keyed numbers k q n i).1

-- a network of which one kind of records changed
module _ (net new : Net) (numbers : Numbers) (is : IsNumbered net numbers) where
  of_bridges : new.ports ≡ net.ports → new.lans ≡ net.lans → (given : FinMap name_cmp ℕ) → ((a : List ℕ) → fin.contains_key given a ≡ fin.contains_key new.bridges a) → Differ given → IsNumbered new (record numbers { bridges = given })
  of_bridges same_ports same_lans given there differ = record {
    bridges = there;
    ports = λ p. is.ports p ∙ ap (λ m. fin.contains_key m p) (sym same_ports);
    lans = λ l. is.lans l ∙ ap (λ m. fin.contains_key m l) (sym same_lans);
    bridges_differ = differ;
    ports_differ = is.ports_differ;
    lans_differ = is.lans_differ;
  }

  of_ports : new.bridges ≡ net.bridges → new.lans ≡ net.lans → (given : FinMap port_cmp ℕ) → ((p : PortName) → fin.contains_key given p ≡ fin.contains_key new.ports p) → Differ given → IsNumbered new (record numbers { ports = given })
  of_ports same_bridges same_lans given there differ = record {
    bridges = λ a. is.bridges a ∙ ap (λ m. fin.contains_key m a) (sym same_bridges);
    ports = there;
    lans = λ l. is.lans l ∙ ap (λ m. fin.contains_key m l) (sym same_lans);
    bridges_differ = is.bridges_differ;
    ports_differ = differ;
    lans_differ = is.lans_differ;
  }

  of_lans : new.bridges ≡ net.bridges → new.ports ≡ net.ports → (given : FinMap name_cmp ℕ) → ((l : List ℕ) → fin.contains_key given l ≡ fin.contains_key new.lans l) → Differ given → IsNumbered new (record numbers { lans = given })
  of_lans same_bridges same_ports given there differ = record {
    bridges = λ a. is.bridges a ∙ ap (λ m. fin.contains_key m a) (sym same_bridges);
    ports = λ p. is.ports p ∙ ap (λ m. fin.contains_key m p) (sym same_ports);
    lans = there;
    bridges_differ = is.bridges_differ;
    ports_differ = is.ports_differ;
    lans_differ = differ;
  }

  -- or none
  of_none : new.bridges ≡ net.bridges → new.ports ≡ net.ports → new.lans ≡ net.lans → IsNumbered new numbers
  of_none same_bridges same_ports same_lans = of_bridges same_ports same_lans numbers.bridges (λ a. is.bridges a ∙ ap (λ m. fin.contains_key m a) (sym same_bridges)) is.bridges_differ

-- no record has the number that the next one gets
pub record AreFresh (next : PerKind) (numbers : Numbers) : Type 0 where
  pub bridge : (q : List ℕ) → fin.get numbers.bridges q ≡ Some next.bridge → ⊥
  pub port : (q : PortName) → fin.get numbers.ports q ≡ Some next.port → ⊥
  pub lan : (q : List ℕ) → fin.get numbers.lans q ≡ Some next.lan → ⊥

module _ (net : Net) (next : PerKind) (numbers : Numbers) (is : IsNumbered net numbers) (fresh : AreFresh next numbers) where
  pub numbered_after : (edit : Edit) → IsNumbered (effect edit net) (numbers_after edit next numbers)
  numbered_after (AddBridge bridge mac) =
      of_bridges net (effect (AddBridge bridge mac) net) numbers is refl refl (fin.insert numbers.bridges bridge next.bridge) (λ a. both_added names numbers.bridges net.bridges bridge next.bridge (new_bridge mac) a (is.bridges a))
      (differ_added names numbers.bridges is.bridges_differ bridge next.bridge fresh.bridge)
  numbered_after (DelBridge bridge) =
      of_bridges net (effect (DelBridge bridge) net) numbers is refl refl (fin.remove numbers.bridges bridge) (λ a. both_removed names numbers.bridges net.bridges bridge a (is.bridges a)) (differ_removed names numbers.bridges is.bridges_differ bridge)
  numbered_after (AddPort port) =
      of_ports net (effect (AddPort port) net) numbers is refl refl (fin.insert numbers.ports port next.port) (λ p. both_added ports numbers.ports net.ports port next.port new_port p (is.ports p))
      (differ_added ports numbers.ports is.ports_differ port next.port fresh.port)
  numbered_after (DelPort port) =
      of_ports net (effect (DelPort port) net) numbers is refl refl (fin.remove numbers.ports port) (λ p. both_removed ports numbers.ports net.ports port p (is.ports p)) (differ_removed ports numbers.ports is.ports_differ port)
  numbered_after (AddLan lan) =
      of_lans net (effect (AddLan lan) net) numbers is refl refl (fin.insert numbers.lans lan next.lan) (λ l. both_added names numbers.lans net.lans lan next.lan new_lan l (is.lans l))
      (differ_added names numbers.lans is.lans_differ lan next.lan fresh.lan)
  numbered_after (DelLan lan) =
      of_lans net (effect (DelLan lan) net) numbers is refl refl (fin.remove numbers.lans lan) (λ l. both_removed names numbers.lans net.lans lan l (is.lans l)) (differ_removed names numbers.lans is.lans_differ lan)
  numbered_after (SetBridge bridge change) = of_bridges net (effect (SetBridge bridge change) net) numbers is refl refl numbers.bridges (λ a. is.bridges a ∙ sym (contains_changed names net.bridges bridge (bridge_with change) a)) is.bridges_differ
  numbered_after (Plug port lan) = of_ports net (effect (Plug port lan) net) numbers is refl refl numbers.ports (λ p. is.ports p ∙ sym (contains_changed ports net.ports port (in_lan (Some lan)) p)) is.ports_differ
  numbered_after (Unplug port) = of_ports net (effect (Unplug port) net) numbers is refl refl numbers.ports (λ p. is.ports p ∙ sym (contains_changed ports net.ports port (in_lan None) p)) is.ports_differ
  numbered_after (SetPort port change) = of_ports net (effect (SetPort port change) net) numbers is refl refl numbers.ports (λ p. is.ports p ∙ sym (contains_changed ports net.ports port (port_with change) p)) is.ports_differ
  numbered_after (SetLan lan change) = of_lans net (effect (SetLan lan change) net) numbers is refl refl numbers.lans (λ l. is.lans l ∙ sym (contains_changed names net.lans lan (lan_with change) l)) is.lans_differ
  numbered_after (SetByTree change) = of_none net (effect (SetByTree change) net) numbers is refl refl refl

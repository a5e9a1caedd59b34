-- Edits that leave regions.
use Rattle.std.proofs.Common.{◌≡◌, ℕ, ◌==◌, ◌&&◌, ◌||◌, Bool, true, false, not, cond, nat_eq, true≢false, List, Option, None, Some, refl, sym, ap, subst, ◌∙◌}
use Rattle.std.specs.Prelude.{Ok, Err, Result}
use Rattle.std.specs.Option.{option_map, option_map_or, unwrap_or}
use Rattle.std.specs.List.{find}
use Rattle.std.specs.Cmp.Lexicographic.{pointwise}
use Rattle.std.specs.FinMap as fin
use Rattle.mst_ids.specs.Identifiers.{bridge_id}
use Rattle.mst_lang.specs.declared.line.Edit.{Edit}
use Rattle.mst_lang.specs.declared.line.Edit.TheVariants.{AddBridge, DelBridge, SetBridge, AddPort, DelPort, SetPort, AddLan, DelLan, SetLan, Plug, Unplug, SetByTree}
use Rattle.mst_lang.specs.declared.line.BridgeChange.TheVariants.{Power, Kind, SystemPriority, Configuration, MaxHops, MaxAge}
use Rattle.mst_lang.specs.declared.line.TreeChange.TheVariants.{Priority, PortPriority, PortCost, Table, Vlans}
use Rattle.mst_tables.specs.ByTree.{table_in}
use Rattle.mst_tables.specs.Tables.{Net, Numbers, BridgeRow}
use Rattle.mst_tables.specs.After.{table_of, effect, refusal_of, bridge_with, change_bridge}
use Rattle.mst_tables.specs.Contents.{Contents, PerKind, Commits, numbers_after}
use Rattle.mst_tables.specs.declared.refusal.Refusal.{Refusal}
use Rattle.mst_tables.proofs.Changed.{get_changed}
use Rattle.mst_tables.proofs.Keys.{names, name_eq}
use Rattle.mst_tables.proofs.NamesInOrder.{names_stay}
use Rattle.mst_config.specs.Regions.{same_region, first_of_region, region_of}
use Rattle.mst_config.specs.Shared.{AreRegions}
use Rattle.mst_config.specs.Touching.{touches_regions}

-- what regions go by of a bridge's settings
record Part : Type 0 where
  mac : ℕ
  is_rstp : Bool
  revision : ℕ
  conf_name : List ℕ

abbrev part : BridgeRow → Part
part x = record { mac = x.mac; is_rstp = x.is_rstp; revision = x.revision; conf_name = x.conf_name }

abbrev one_configuration : (s t : List ℕ) → Part → Part → Bool
one_configuration s t p q = not p.is_rstp && not q.is_rstp && pointwise nat_eq p.conf_name q.conf_name && p.revision == q.revision && pointwise nat_eq s t

abbrev both_configured : (s t : List ℕ) → Option Part → Option Part → Bool
both_configured s t o p = option_map_or (λ x. option_map_or (one_configuration s t x) p false) o false

abbrev identifier : Option Part → ℕ
identifier o = option_map_or (λ x. bridge_id 0 0 x.mac) o 0

module _ (s t : List ℕ) where
  by_parts : (o p : Option BridgeRow)
      → option_map_or (λ x. option_map_or (λ y. one_configuration s t (part x) (part y)) p false) o false ≡ both_configured s t (option_map part o) (option_map part p)
  by_parts None p = refl
  by_parts (Some x) None = refl
  by_parts (Some x) (Some y) = refl

identifier_by : (o : Option BridgeRow) → option_map_or (λ row. bridge_id 0 0 row.mac) o 0 ≡ identifier (option_map part o)
identifier_by None = refl
identifier_by (Some x) = refl

-- the parts of the bridges, their names and their tables
module _ (old new : Net) (parts : (a : List ℕ) → option_map part (fin.get new.bridges a) ≡ option_map part (fin.get old.bridges a)) (names : fin.keys new.bridges ≡ fin.keys old.bridges)
    (tables : (a : List ℕ) → table_of new a ≡ table_of old a) where
  same_stays : (a b : List ℕ) → same_region new a b ≡ same_region old a b
  same_stays a b = ap (λ t. pointwise nat_eq a b || t)
      (by_parts (table_of new a) (table_of new b) (fin.get new.bridges a) (fin.get new.bridges b)
      ∙ (λ i. both_configured (tables a i) (tables b i) (parts a i) (parts b i))
      ∙ sym (by_parts (table_of old a) (table_of old b) (fin.get old.bridges a) (fin.get old.bridges b)))

  first_stays : (a : List ℕ) → first_of_region new a ≡ first_of_region old a
  first_stays a i = unwrap_or (find (λ b. same_stays a b i) (names i)) a

  identifier_stays : (a : List ℕ) → region_of new a ≡ region_of old a
  unfolding region_of
  identifier_stays a =
      identifier_by (fin.get new.bridges (first_of_region new a))
      ∙ ap identifier (parts (first_of_region new a) ∙ ap (λ b. option_map part (fin.get old.bridges b)) (first_stays a))
      ∙ sym (identifier_by (fin.get old.bridges (first_of_region old a)))

  regions_stay : (was now : Numbers) → now.bridges ≡ was.bridges → (region_ids : List (ℕ × ℕ)) → AreRegions old was region_ids → AreRegions new now region_ids
  regions_stay was now same region_ids are = record {
    identifiers = λ a n e. are.identifiers a n (there a n e) ∙ ap Some (sym (identifier_stays a));
    no_identifier = λ n unused. are.no_identifier n (none n unused);
    regions = λ a b n m e f. are.regions a b n m (there a n e) (there b m f) ∙ sym (same_stays a b);
    others = λ n m unused. are.others n m (none n unused);
    others_too = λ n m unused. are.others_too n m (none m unused);
  }
    where
      there : (a : List ℕ) (n : ℕ) → fin.get now.bridges a ≡ Some n → fin.get was.bridges a ≡ Some n
      there a n e = ap (λ m. fin.get m a) (sym same) ∙ e

      none : (n : ℕ) → ((a : List ℕ) → fin.get now.bridges a ≡ Some n → ⊥) → (a : List ℕ) → fin.get was.bridges a ≡ Some n → ⊥
      none n unused a e = unused a (ap (λ m. fin.get m a) same ∙ e)

-- an edit that leaves the bridges, their numbers and their tables leaves the regions
module _ (net : Net) (numbers : Numbers) (next : PerKind) (region_ids : List (ℕ × ℕ)) (are : AreRegions net numbers region_ids) where
  abbrev Stay : Edit → Type 0
  Stay edit = AreRegions (effect edit net) (numbers_after edit next numbers) region_ids

  left : (edit : Edit) → (effect edit net).bridges ≡ net.bridges → (effect edit net).tables ≡ net.tables → (numbers_after edit next numbers).bridges ≡ numbers.bridges → Stay edit
  left edit bridges tables same =
      regions_stay net (effect edit net) (λ a. ap (λ m. option_map part (fin.get m a)) bridges) (ap (λ m. fin.keys m) bridges) (λ a. ap (λ m. table_in m a) tables)
      numbers (numbers_after edit next numbers) same region_ids are

  -- and so does one that sets of a bridge what regions don't go by
  set : (bridge : List ℕ) (f : BridgeRow → BridgeRow) → ((x : BridgeRow) → part (f x) ≡ part x) → AreRegions (change_bridge bridge f net) numbers region_ids
  set bridge f same = regions_stay net (change_bridge bridge f net)
      (λ a. ap (option_map part) (get_changed names net.bridges bridge f a) ∙ by (name_eq bridge a) (fin.get net.bridges a)) (sym (names_stay names net.bridges bridge f)) (λ a. refl)
      numbers numbers refl region_ids are
    where
      by : (t : Bool) (o : Option BridgeRow) → option_map part (cond t (option_map f o) o) ≡ option_map part o
      by true None = refl
      by true (Some x) = ap Some (same x)
      by false o = refl

  pub stay : (edit : Edit) → touches_regions edit ≡ false → Stay edit
  stay (AddBridge bridge mac) e = absurd (true≢false e)
  stay (DelBridge bridge) e = absurd (true≢false e)
  stay (SetBridge bridge (Power power)) e = set bridge (bridge_with (Power power)) (λ x. refl)
  stay (SetBridge bridge (Kind kind)) e = absurd (true≢false e)
  stay (SetBridge bridge (SystemPriority priority)) e = set bridge (bridge_with (SystemPriority priority)) (λ x. refl)
  stay (SetBridge bridge (Configuration revision name)) e = absurd (true≢false e)
  stay (SetBridge bridge (MaxHops limit)) e = set bridge (bridge_with (MaxHops limit)) (λ x. refl)
  stay (SetBridge bridge (MaxAge limit)) e = set bridge (bridge_with (MaxAge limit)) (λ x. refl)
  stay (AddPort port) e = left (AddPort port) refl refl refl
  stay (DelPort port) e = left (DelPort port) refl refl refl
  stay (SetPort port change) e = left (SetPort port change) refl refl refl
  stay (AddLan lan) e = left (AddLan lan) refl refl refl
  stay (DelLan lan) e = left (DelLan lan) refl refl refl
  stay (SetLan lan change) e = left (SetLan lan change) refl refl refl
  stay (Plug port lan) e = left (Plug port lan) refl refl refl
  stay (Unplug port) e = left (Unplug port) refl refl refl
  stay (SetByTree (Priority bridge tree priority)) e = left (SetByTree (Priority bridge tree priority)) refl refl refl
  stay (SetByTree (PortPriority port tree priority)) e = left (SetByTree (PortPriority port tree priority)) refl refl refl
  stay (SetByTree (PortCost port tree cost)) e = left (SetByTree (PortCost port tree cost)) refl refl refl
  stay (SetByTree (Table bridge tree vids)) e = absurd (true≢false e)
  stay (SetByTree (Vlans port vids)) e = left (SetByTree (Vlans port vids)) refl refl refl

-- once such an edit was made, the regions are those that were
pub stay_made : (edit : Edit) (old new : Contents) (region_ids : List (ℕ × ℕ)) → touches_regions edit ≡ false → Commits edit old new → AreRegions old.net old.numbers region_ids → AreRegions new.net new.numbers region_ids
stay_made edit old new region_ids e made are =
    subst (λ n. AreRegions new.net n region_ids) (sym made.numbers) (subst (λ n. AreRegions n (numbers_after edit old.next old.numbers) region_ids) (is (refusal_of edit old.net) made.net) (stay old.net old.numbers old.next region_ids are edit e))
  where
    net_in : Result Net Refusal → Net
    net_in (Ok net) = net
    net_in (Err refusal) = old.net

    is_ok : Result Net Refusal → Bool
    is_ok (Ok net) = true
    is_ok (Err refusal) = false

    is : (o : Option Refusal) → option_map_or Err o (Ok (effect edit old.net)) ≡ Ok new.net → effect edit old.net ≡ new.net
    is None h = ap net_in h
    is (Some refusal) h = absurd (true≢false (sym (ap is_ok h)))

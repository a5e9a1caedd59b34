-- What is seen of regions, under names.
use Rattle.std.proofs.Common.{◌≡◌, ℕ, ◌==◌, ◌&&◌, Bool, true, false, true≢false, List, [], ◌∷◌, ◌++◌, map, Some, refl, sym, ap, subst, ◌∙◌, eq-eqb, arith}
use Rattle.std.specs.Prelude.{if◌then◌else◌, not, length}
use Rattle.std.specs.List.{AllByRecursion, filter, flat_map}
use Rattle.std.specs.Option.{option_map_or, unwrap_or}
use Rattle.std.specs.FinMap as fin
use Rattle.std.specs.Cmp.Lexicographic.{bytes_decides, nat_list_cmp_total}
use Rattle.std.proofs.lemmas.Bool.{eqb-true}
use Rattle.mst_ids.specs.Identifiers.{bridge_id}
use Rattle.mst_tables.specs.After.{table_of}
use Rattle.mst_tables.specs.ByTree.{ByTree, table_in}
use Rattle.mst_tables.specs.Seen.{bridge_row}
use Rattle.mst_tables.specs.Tables.{Net, Numbers, BridgeRow, IsNetwork}
use Rattle.mst_view.specs.Aggregation.{same_name}
use Rattle.mst_view.specs.Viewed.{Viewed, IsView, named_bridge}
use Rattle.mst_view.specs.declared.in_view.BridgeInView.{BridgeInView}
use Rattle.mst_view.proofs.Lists.{some_is, all_both, all_weaker, all_filtered, filter_same, filter_mapped, mapped_twice}
use Rattle.mst_view.proofs.Entries.{entries_found}
use Rattle.mst_config.specs.Shared.{AreRegions, same_in}
use Rattle.mst_config.specs.Regions.{same_region, first_of_region, region_of}
use Rattle.mst_config.proofs.SameRegion.{has_first, HasFirst}
use Rattle.mst_slips.specs.Near.{are_near}
use Rattle.mst_slips.specs.Regions.{is_named, is_named_first, are_nearly_one, bridges_with, region_row, rows_of_two, rows_of_each_two, region_rows}
use Rattle.mst_slips.specs.Tables.{is_namesake, is_alone, vids_apart, table_row, rows_beside, rows_among, table_rows}
use Rattle.mst_slips.specs.Seen.{seen_named_first, seen_nearly_one, seen_with, seen_two, seen_each_two, seen_alone, seen_odd_row, seen_beside, seen_among}

all_unmapped : {A B : Type 0} (P : B → Type 0) (f : A → B) (xs : List A) → AllByRecursion P (map f xs) → AllByRecursion (λ x. P (f x)) xs
all_unmapped P f [] h = tt
all_unmapped P f (x ∷ xs) h = (h.0, all_unmapped P f xs h.1)

flat_mapped : {A B C : Type 0} (g : B → List C) (f : A → B) (h : A → List C) (xs : List A) → AllByRecursion (λ x. h x ≡ g (f x)) xs → flat_map h xs ≡ flat_map g (map f xs)
flat_mapped g f h [] a = refl
flat_mapped g f h (x ∷ xs) a = λ i. a.0 i ++ flat_mapped g f h xs a.1 i

same_mac : (m n : ℕ) → bridge_id 0 0 m ≡ bridge_id 0 0 n → m ≡ n
same_mac m n e = omega arith

module _ (net : Net) (numbers : Numbers) (v : Viewed) (classes : List (ℕ × ℕ)) (ok : IsNetwork net) (view : IsView net numbers v) (regions : AreRegions net numbers classes) where
  -- a bridge of the view has a row and a number
  record IsThere (b : BridgeInView) : Type 0 where
    row : fin.get net.bridges b.name ≡ Some (bridge_row b.bridge)
    has_number : fin.get numbers.bridges b.name ≡ Some b.bridge.number

  all_there : AllByRecursion IsThere v.bridges
  all_there =
      all_both _ _ IsThere (λ b row number. record { row = row; has_number = number }) v.bridges
      (all_unmapped (λ (e : List ℕ × BridgeRow). fin.get net.bridges e.0 ≡ Some e.1) named_bridge v.bridges
      (subst (AllByRecursion (λ (e : List ℕ × BridgeRow). fin.get net.bridges e.0 ≡ Some e.1)) (sym view.bridges) (entries_found nat_list_cmp_total net.bridges)))
      view.bridge_numbers

  -- a bridge is the first of its region just where the region's identifier has its MAC
  is_first : (a : List ℕ) (x : BridgeRow) → fin.get net.bridges a ≡ Some x → (region_of net a == bridge_id 0 0 x.mac) ≡ same_name (first_of_region net a) a
  is_first a x row =
      let f = has_first net a x row in
      ap (λ n. n == bridge_id 0 0 x.mac) f.identifier ∙ go f (same_name f.first a) refl ∙ ap (λ o. same_name (unwrap_or o a) a) (sym f.is_first)
    where
      same_row : (f : HasFirst net a) → f.first ≡ a → bridge_id 0 0 f.row.mac ≡ bridge_id 0 0 x.mac
      same_row f e = ap (λ (r : BridgeRow). bridge_id 0 0 r.mac) (some_is f.row x (sym f.has_row ∙ ap (fin.get net.bridges) e ∙ row))

      go : (f : HasFirst net a) (t : Bool) → same_name f.first a ≡ t → (bridge_id 0 0 f.row.mac == bridge_id 0 0 x.mac) ≡ t
      go f true e = eq-eqb (bridge_id 0 0 f.row.mac) (bridge_id 0 0 x.mac) (same_row f ((bytes_decides f.first a).0 e))
      go f false e = by (bridge_id 0 0 f.row.mac == bridge_id 0 0 x.mac) refl
        where
          by : (u : Bool) → (bridge_id 0 0 f.row.mac == bridge_id 0 0 x.mac) ≡ u → u ≡ false
          by false k = refl
          by true k =
              let macs = same_mac f.row.mac x.mac (eqb-true (bridge_id 0 0 f.row.mac) (bridge_id 0 0 x.mac) k) in
              absurd (true≢false (sym ((bytes_decides f.first a).1 (ok.bridges.macs_differ f.first a f.row x f.has_row row macs)) ∙ e))

  named_first : (b : BridgeInView) → IsThere b → seen_named_first classes b ≡ is_named_first net (named_bridge b)
  named_first b there =
      ap (λ t. t && is_named (bridge_row b.bridge))
      (ap (λ o. option_map_or (λ region. region == bridge_id 0 0 b.bridge.mac) o false) (regions.identifiers b.name b.bridge.number there.has_number) ∙ is_first b.name (bridge_row b.bridge) there.row)

  firsts_named : map named_bridge (filter (seen_named_first classes) v.bridges) ≡ filter (is_named_first net) (fin.entries net.bridges)
  firsts_named =
      ap (map named_bridge) (filter_same (seen_named_first classes) (λ b. is_named_first net (named_bridge b)) v.bridges (all_weaker IsThere _ named_first v.bridges all_there))
      ∙ sym (filter_mapped (is_named_first net) named_bridge v.bridges)
      ∙ ap (filter (is_named_first net)) view.bridges

  -- the bridges of its region
  with_named : (a : BridgeInView) → IsThere a → seen_with v classes a ≡ bridges_with net a.name
  with_named a here =
      ap (map (λ (b : BridgeInView). b.name))
      (filter_same (λ b. same_in classes a.bridge.number b.bridge.number) (λ b. same_region net a.name b.name) v.bridges
      (all_weaker IsThere _ (λ b there. regions.regions a.name b.name a.bridge.number b.bridge.number here.has_number there.has_number) v.bridges all_there))
      ∙ sym (filter_mapped (same_region net a.name) (λ (b : BridgeInView). b.name) v.bridges)
      ∙ ap (filter (same_region net a.name)) (sym (mapped_twice (λ (e : List ℕ × BridgeRow). e.0) named_bridge v.bridges) ∙ ap (map (λ (e : List ℕ × BridgeRow). e.0)) view.bridges)

  nearly_one_named : (a b : BridgeInView) → seen_nearly_one v a b ≡ are_nearly_one net (named_bridge a) (named_bridge b)
  nearly_one_named a b =
      ap (λ (s : ByTree). are_near a.bridge.conf_name b.bridge.conf_name && a.bridge.revision == b.bridge.revision && same_name (table_in s.tables a.name) (table_in s.tables b.name)) view.settings

  two_named : (a b : BridgeInView) → IsThere a → IsThere b → seen_two v classes a b ≡ rows_of_two net (named_bridge a) (named_bridge b)
  two_named a b here there =
      λ i. if nearly_one_named a b i then region_row a.bridge.conf_name (with_named a here i) b.bridge.conf_name (with_named b there i) ∷ [] else []

  each_two_named : (bs : List BridgeInView) → AllByRecursion IsThere bs → seen_each_two v classes bs ≡ rows_of_each_two net (map named_bridge bs)
  each_two_named [] h = refl
  each_two_named (a ∷ behind) h =
      let one = flat_mapped (rows_of_two net (named_bridge a)) named_bridge (seen_two v classes a) behind (all_weaker IsThere _ (λ b there. two_named a b h.0 there) behind h.1) in
      let rest = each_two_named behind h.1 in
      λ i. one i ++ rest i

  -- the first bridges of regions that were given a name
  abbrev firsts : List BridgeInView
  firsts = filter (seen_named_first classes) v.bridges

  firsts_there : AllByRecursion IsThere firsts
  firsts_there = all_filtered IsThere (seen_named_first classes) v.bridges all_there

  pub regions_named : seen_each_two v classes (filter (seen_named_first classes) v.bridges) ≡ region_rows net
  regions_named = each_two_named firsts firsts_there ∙ ap (rows_of_each_two net) firsts_named

  -- ---- the bridges whose table alone differs
  alone_named : (a : BridgeInView) → IsThere a → seen_alone v classes a ≡ is_alone net a.name
  alone_named a here = ap (λ (names : List (List ℕ)). length names == 1) (with_named a here)

  row_named : (a b : BridgeInView) → seen_odd_row v a b ≡ table_row a.bridge.conf_name a.bridge.revision a.name (vids_apart (table_of net a.name) (table_of net b.name))
  row_named a b = ap (λ (s : ByTree). table_row a.bridge.conf_name a.bridge.revision a.name (vids_apart (table_in s.tables a.name) (table_in s.tables b.name))) view.settings

  beside_named : (a : BridgeInView) → IsThere a → (others : List BridgeInView) → AllByRecursion IsThere others → seen_beside v classes a others ≡ rows_beside net (named_bridge a) (map named_bridge others)
  beside_named a here [] there = refl
  beside_named a here (b ∷ []) there = λ i. if alone_named a here i && not (alone_named b there.0 i) then row_named a b i ∷ [] else []
  beside_named a here (b ∷ c ∷ others) there = refl

  among_named : (bs : List BridgeInView) → AllByRecursion IsThere bs → flat_map (seen_among v classes bs) bs ≡ rows_among net (map named_bridge bs)
  among_named bs there =
      let names = map named_bridge bs in
      flat_mapped (λ e. rows_beside net e (filter (is_namesake e) names)) named_bridge (seen_among v classes bs) bs
      (all_weaker IsThere _ (λ a here.
      beside_named a here (filter (λ b. is_namesake (named_bridge a) (named_bridge b)) bs) (all_filtered IsThere (λ b. is_namesake (named_bridge a) (named_bridge b)) bs there)
      ∙ ap (rows_beside net (named_bridge a)) (sym (filter_mapped (is_namesake (named_bridge a)) named_bridge bs))) bs there)

  pub tables_named : flat_map (seen_among v classes (filter (seen_named_first classes) v.bridges)) (filter (seen_named_first classes) v.bridges) ≡ table_rows net
  tables_named = among_named firsts firsts_there ∙ ap (rows_among net) firsts_named

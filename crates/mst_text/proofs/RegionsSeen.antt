-- What is seen of a view are the rows of the network's regions.
use Rattle.std.proofs.Common.{◌≡◌, ℕ, ◌==◌, Bool, true, false, cond, true≢false, List, [], ◌∷◌, ◌++◌, map, Some, nat_eq, refl, sym, ap, subst, ◌∙◌, eq-eqb, arith}
use Rattle.std.specs.List.{AllByRecursion, filter, flat_map}
use Rattle.std.specs.Option.{option_map_or, unwrap_or}
use Rattle.std.specs.Map.{lookup}
use Rattle.std.specs.FinMap as fin
use Rattle.std.specs.Cmp.Lexicographic.{bytes_decides, nat_list_cmp_total}
use Rattle.std.proofs.lemmas.Bool.{eqb-true}
use Rattle.std.proofs.lemmas.Bool.Decides.{nat_tests}
use Rattle.mst_ids.specs.Identifiers.{bridge_id}
use Rattle.mst_tables.specs.ByTree.{ByTree, table_in}
use Rattle.mst_tables.specs.Seen.{bridge_row}
use Rattle.mst_tables.specs.Tables.{Net, Numbers, BridgeRow, IsNetwork}
use Rattle.mst_tables.specs.After.{table_of}
use Rattle.mst_view.specs.Aggregation.{same_name}
use Rattle.mst_view.specs.Viewed.{Viewed, IsView, named_bridge}
use Rattle.mst_view.specs.declared.in_view.BridgeInView.{BridgeInView}
use Rattle.mst_view.proofs.Lists.{some_is, all_both, all_weaker, filter_same, filter_mapped, mapped_twice}
use Rattle.mst_view.proofs.Entries.{entries_found}
use Rattle.mst_vlan.specs.forest.config.Shared.{AreRegions}
use Rattle.mst_vlan.specs.forest.config.Regions.{same_region, first_of_region, region_of}
use Rattle.mst_vlan.proofs.forest_lemmas.config_lemmas.SameRegion.{told, has_first, HasFirst}
use Rattle.mst_text.specs.Members.{is_in, names_in, seen_region}
use Rattle.mst_rows.specs.Rows.{Row}
use Rattle.mst_text.specs.RegionsText.{region_row, bridges_of_region, rows_of_region, regions_rows}

all_unmapped : {A B : Type 0} (P : B → Type 0) (f : A → B) (xs : List A) → AllByRecursion P (map f xs) → AllByRecursion (λ x. P (f x)) xs
all_unmapped P f [] h = tt
all_unmapped P f (x ∷ xs) h = (h.0, all_unmapped P f xs h.1)

flat_mapped : {A B C : Type 0} (g : B → List C) (f : A → B) (h : A → List C) (xs : List A) → AllByRecursion (λ x. h x ≡ g (f x)) xs → flat_map h xs ≡ flat_map g (map f xs)
flat_mapped g f h [] a = refl
flat_mapped g f h (x ∷ xs) a = λ i. a.0 i ++ flat_mapped g f h xs a.1 i

either_way : (m n : ℕ) → (m == n) ≡ (n == m)
either_way m n = grind (arith, nat_tests)

same_mac : (m n : ℕ) → bridge_id 0 0 m ≡ bridge_id 0 0 n → m ≡ n
same_mac m n e = omega arith

module _ (net : Net) (numbers : Numbers) (v : Viewed) (region_ids : List (ℕ × ℕ)) (ok : IsNetwork net) (view : IsView net numbers v) (regions : AreRegions net numbers region_ids) where
  -- a bridge of the view has a row, and the identifier of its region
  record HasRegion (b : BridgeInView) : Type 0 where
    row : fin.get net.bridges b.name ≡ Some (bridge_row b.bridge)
    region : lookup (nat_eq b.bridge.number) region_ids ≡ Some (region_of net b.name)

  all_have : AllByRecursion HasRegion v.bridges
  all_have =
      all_both _ _ HasRegion (λ b row number. record { row = row; region = regions.identifiers b.name b.bridge.number number }) v.bridges
      (all_unmapped (λ (e : List ℕ × BridgeRow). fin.get net.bridges e.0 ≡ Some e.1) named_bridge v.bridges
      (subst (AllByRecursion (λ (e : List ℕ × BridgeRow). fin.get net.bridges e.0 ≡ Some e.1)) (sym view.bridges) (entries_found nat_list_cmp_total net.bridges)))
      view.bridge_numbers

  in_region : (b : BridgeInView) (region : ℕ) → HasRegion b → is_in region_ids region b ≡ (region_of net b.name == region)
  in_region b region h = ap (λ o. option_map_or (λ of_bridge. of_bridge == region) o false) h.region

  -- the names that are seen in a bridge's region
  names_are : (b : BridgeInView) → HasRegion b → names_in region_ids (region_of net b.name) v.bridges ≡ bridges_of_region net b.name
  names_are b h =
      ap (map (λ (c : BridgeInView). c.name))
      (filter_same (is_in region_ids (region_of net b.name)) (λ c. same_region net b.name c.name) v.bridges
      (all_weaker HasRegion _ (λ c k. in_region c (region_of net b.name) k ∙ either_way (region_of net c.name) (region_of net b.name) ∙ told net ok b.name c.name (bridge_row b.bridge) (bridge_row c.bridge) h.row k.row) v.bridges all_have))
      ∙ sym (filter_mapped (same_region net b.name) (λ (c : BridgeInView). c.name) v.bridges)
      ∙ ap (filter (same_region net b.name)) (sym (mapped_twice (λ (e : List ℕ × BridgeRow). e.0) named_bridge v.bridges) ∙ ap (map (λ (e : List ℕ × BridgeRow). e.0)) view.bridges)

  -- a bridge is the first of its region just where the region's identifier has its MAC
  is_first : (a : List ℕ) (x : BridgeRow) → fin.get net.bridges a ≡ Some x → (region_of net a == bridge_id 0 0 x.mac) ≡ same_name (first_of_region net a) a
  is_first a x row =
      let f = has_first net a x row in
      ap (λ n. n == bridge_id 0 0 x.mac) f.identifier ∙ go f (same_name f.first a) refl ∙ ap (λ o. same_name (unwrap_or o a) a) (sym f.is_first)
    where
      same_row : (f : HasFirst net a) → f.first ≡ a → bridge_id 0 0 f.row.mac ≡ bridge_id 0 0 x.mac
      same_row f e = ap (λ (r : BridgeRow). bridge_id 0 0 r.mac) (some_is f.row x (sym f.has_row ∙ ap (fin.get net.bridges) e ∙ row))

      go : (f : HasFirst net a) (t : Bool) → same_name f.first a ≡ t → (bridge_id 0 0 f.row.mac == bridge_id 0 0 x.mac) ≡ t
      go f true e = eq-eqb (bridge_id 0 0 f.row.mac) (bridge_id 0 0 x.mac) (same_row f ((bytes_decides f.first a).0 e))
      go f false e = by (bridge_id 0 0 f.row.mac == bridge_id 0 0 x.mac) refl
        where
          by : (u : Bool) → (bridge_id 0 0 f.row.mac == bridge_id 0 0 x.mac) ≡ u → u ≡ false
          by false k = refl
          by true k =
              let macs = same_mac f.row.mac x.mac (eqb-true (bridge_id 0 0 f.row.mac) (bridge_id 0 0 x.mac) k) in
              absurd (true≢false (sym ((bytes_decides f.first a).1 (ok.bridges.macs_differ f.first a f.row x f.has_row row macs)) ∙ e))

  -- what is seen of a bridge is the row of the region that it is the first of
  seen : (b : BridgeInView) → HasRegion b → seen_region v region_ids b ≡ rows_of_region net (named_bridge b)
  seen b h = go (region_of net b.name == own) refl
    where
      own : ℕ
      own = bridge_id 0 0 b.bridge.mac

      row_at : List (List ℕ) → List Row
      row_at names = region_row b.name (bridge_row b.bridge) (table_of net b.name) names ∷ []

      table : table_in v.settings.tables b.name ≡ table_of net b.name
      table = ap (λ (s : ByTree). table_in s.tables b.name) view.settings

      go : (t : Bool) → (region_of net b.name == own) ≡ t → seen_region v region_ids b ≡ rows_of_region net (named_bridge b)
      go true e =
          ap (λ t. cond t (region_row b.name (bridge_row b.bridge) (table_in v.settings.tables b.name) (names_in region_ids own v.bridges) ∷ []) []) (in_region b own h ∙ e)
          ∙ ap (λ t. region_row b.name (bridge_row b.bridge) t (names_in region_ids own v.bridges) ∷ []) table
          ∙ ap (λ r. row_at (names_in region_ids r v.bridges)) (sym (eqb-true (region_of net b.name) own e))
          ∙ ap row_at (names_are b h)
          ∙ ap (λ t. cond t (row_at (bridges_of_region net b.name)) []) (sym e ∙ is_first b.name (bridge_row b.bridge) h.row)
      go false e =
          ap (λ t. cond t (region_row b.name (bridge_row b.bridge) (table_in v.settings.tables b.name) (names_in region_ids own v.bridges) ∷ []) []) (in_region b own h ∙ e)
          ∙ ap (λ t. cond t (row_at (bridges_of_region net b.name)) []) (sym e ∙ is_first b.name (bridge_row b.bridge) h.row)

  pub all_seen : flat_map (seen_region v region_ids) v.bridges ≡ regions_rows net
  all_seen = flat_mapped (rows_of_region net) named_bridge (seen_region v region_ids) v.bridges (all_weaker HasRegion _ seen v.bridges all_have) ∙ ap (flat_map (rows_of_region net)) view.bridges

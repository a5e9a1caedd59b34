-- The last row stands alone just where nothing is counted.
use Rattle.std.proofs.Common.{◌≡◌, ℕ, suc, ◌+◌, Bool, true, false, List, [], ◌∷◌, ◌++◌, length, min, refl, sym, ap, subst, ◌∙◌, arith, true≢false}
use Rattle.std.specs.Prelude.{if◌then◌else◌, ◌↔◌}
use Rattle.std.specs.List.{AllByRecursion, Contains, filter, flat_map}
use Rattle.std.proofs.lemmas.Bool.{or_parts}
use Rattle.std.proofs.lemmas.List.{length-append}
use Rattle.std.proofs.lemmas.List.Sums.{length-filter}
use Rattle.mst_ids.specs.Vids.{runs_from, set_where}
use Rattle.mst_graph.proofs.Members.{in_none, here, in_whole, in_filter, filter_none}
use Rattle.mst_tables.specs.Tables.{Net}
use Rattle.mst_view.specs.Trees.{is_among}
use Rattle.mst_vlan.specs.forest.Outcome.{Outcome}
use Rattle.mst_vlan.proofs.forest_lemmas.Entries.{all_weaker}
use Rattle.mst_vlan.proofs.forest_lemmas.Lists.{all_there, all_contained}
use Rattle.mst_vlan.specs.classes.AllVids.{all_vids}
use Rattle.mst_rows.specs.Rows.{Row}
use Rattle.mst_diff.specs.declared.diff.Differing.{Differing}
use Rattle.mst_diff.specs.Regions.{region_changes}
use Rattle.mst_diff.specs.Roots.{root_changes}
use Rattle.mst_changes.specs.PortChanges.{counted}
use Rattle.mst_diff.specs.Ports.{port_rows}
use Rattle.mst_graph.specs.Lists.{has_any}
use Rattle.mst_diff.specs.Reach.{Sides, differ, reach_row, reach_unless, group_rows}
use Rattle.mst_diff.specs.DiffText.{diff_row, AreDiffRowsOf}
use Rattle.mst_diff.proofs.Alike.{each_none}

abbrev pub no_counts : Differing
no_counts = record { regions = 0; roots = 0; ports = 0; vlans = 0 }

-- ---- sums and lists that are nothing
never : (n : ℕ) → n + 1 ≡ 0 → ⊥
never n e = omega arith

not_suc : (n : ℕ) → suc n ≡ 0 → ⊥
not_suc n e = omega arith

zero_left : (m n : ℕ) → m + n ≡ 0 → m ≡ 0
zero_left m n e = omega arith

zero_right : (m n : ℕ) → m + n ≡ 0 → n ≡ 0
zero_right m n e = omega arith

same_sum : (m n : ℕ) → m + n ≡ n → m ≡ 0
same_sum m n e = omega arith

pub no_more : {A : Type 0} (x : A) (xs : List A) → x ∷ xs ≡ [] → ⊥
no_more x xs e = true≢false (ap has_any e)

none_long : {A : Type 0} (xs : List A) → length xs ≡ 0 → xs ≡ []
none_long [] e = refl
none_long (x ∷ xs) e = absurd (not_suc (length xs) e)

pub both_none : {A : Type 0} (xs ys : List A) → xs ++ ys ≡ [] → (xs ≡ []) × (ys ≡ [])
both_none [] ys e = (refl, e)
both_none (x ∷ xs) ys e = absurd (no_more x (xs ++ ys) e)

no_front : {A : Type 0} (xs ys : List A) → xs ++ ys ≡ ys → xs ≡ []
no_front xs ys e = none_long xs (same_sum (length xs) (length ys) (sym (length-append xs ys) ∙ ap length e))

pub each_is_none : {A B : Type 0} (f : A → List B) (xs : List A) → flat_map f xs ≡ [] → AllByRecursion (λ x. f x ≡ []) xs
each_is_none f [] e = tt
each_is_none f (x ∷ xs) e = let b = both_none (f x) (flat_map f xs) e in (b.0, each_is_none f xs b.1)

any_none : {A : Type 0} (xs : List A) → has_any xs ≡ false → xs ≡ []
any_none [] e = refl
any_none (x ∷ xs) e = absurd (true≢false e)

-- where they don't differ there is no island
pub no_island : (s : Sides) → differ s ≡ false → (s.old ≡ []) × (s.new ≡ [])
no_island s e = let parts = or_parts (has_any s.old) (has_any s.new) e in (any_none s.old parts.0, any_none s.new parts.1)

-- rows that aren't counted aren't there
least : (n : ℕ) → min n 18446744073709551615 ≡ 0 → n ≡ 0
least n e = omega arith

none_counted : (rows : List Row) → counted rows ≡ 0 → rows ≡ []
none_counted rows e = none_long rows (least (length rows) e)

-- ---- all rows
module _ (a : Net) (o : Outcome) (b : Net) (p : Outcome) (c : Differing) (rows : List Row) (x : AreDiffRowsOf a o b p c rows) where
  abbrev pub differs : ℕ → Bool
  differs vid = differ (x.is_reach.sides vid)

  pub in_count : length (filter differs all_vids) ≡ c.vlans
  in_count = length-filter differs all_vids ∙ sym x.is_reach.counted

  -- where nothing is counted
  module _ (e : c ≡ no_counts) where
    none_differs : (vid : ℕ) → Contains all_vids vid → differs vid ≡ false
    none_differs vid h = go (differs vid) refl
      where
        empty : filter differs all_vids ≡ []
        empty = none_long (filter differs all_vids) (in_count ∙ ap (λ (d : Differing). d.vlans) e)

        go : (t : Bool) → differs vid ≡ t → differs vid ≡ false
        go false f = f
        go true f = absurd (in_none vid (subst (λ vids. Contains vids vid) empty (in_filter differs all_vids vid h f)))

    no_group : (group : List ℕ) → Contains x.is_reach.groups group → group_rows x.is_reach.sides group ≡ []
    no_group [] h = refl
    no_group (vid ∷ vids) h = ap (λ (b : Bool). if b then reach_row (runs_from 0 (set_where (is_among (vid ∷ vids)))) (x.is_reach.sides vid) ∷ [] else []) (none_differs vid (in_whole (x.is_reach.are_groups.in_order (vid ∷ vids) h) vid (here vid vids)))

    no_reach : x.reach ≡ []
    no_reach = x.is_reach.is ∙ each_none (group_rows x.is_reach.sides) x.is_reach.groups (all_weaker (Contains x.is_reach.groups) _ no_group x.is_reach.groups (all_there x.is_reach.groups))

    pub alone : rows ≡ diff_row c ∷ []
    alone =
        x.is
        ∙ (λ i. none_long (region_changes a b) (sym x.regions ∙ ap (λ (d : Differing). d.regions) e) i ++ none_long (root_changes a o b p) (sym x.roots ∙ ap (λ (d : Differing). d.roots) e) i
        ++ none_counted (port_rows a o b p) (sym x.ports ∙ ap (λ (d : Differing). d.ports) e) i ++ no_reach i ++ diff_row c ∷ [])

  -- where the last row stands alone
  module _ (e : rows ≡ diff_row c ∷ []) where
    abbrev regions : List Row
    regions = region_changes a b

    abbrev roots : List Row
    roots = root_changes a o b p

    abbrev ports : List Row
    ports = port_rows a o b p

    all_before : regions ++ roots ++ ports ++ x.reach ≡ []
    all_before = no_front (regions ++ roots ++ ports ++ x.reach) (diff_row c ∷ []) (sym x.is ∙ e)

    abbrev first : (regions ++ roots ++ ports ≡ []) × (x.reach ≡ [])
    first = both_none (regions ++ roots ++ ports) x.reach all_before

    pub second : (regions ++ roots ≡ []) × (ports ≡ [])
    second = both_none (regions ++ roots) ports first.0

    pub third : (regions ≡ []) × (roots ≡ [])
    third = both_none regions roots second.0

    no_row : (group : List ℕ) (sides : Sides) → reach_unless group sides ≡ [] → differ sides ≡ false
    no_row group sides = go (differ sides)
      where
        go : (t : Bool) → (if t then reach_row (runs_from 0 (set_where (is_among group))) sides ∷ [] else []) ≡ [] → t ≡ false
        go false h = refl
        go true h = absurd (no_more (reach_row (runs_from 0 (set_where (is_among group))) sides) [] h)

    alike_in : (group : List ℕ) (vid : ℕ) → Contains all_vids vid → Contains x.is_reach.groups group → Contains group vid → group_rows x.is_reach.sides group ≡ [] → differs vid ≡ false
    alike_in [] vid h k there none = absurd (in_none vid there)
    alike_in (v ∷ vs) vid h k there none =
        ap differ (sym ((x.is_reach.are_groups.related (v ∷ vs) v vid k (here v vs) h).0 there)) ∙ no_row (v ∷ vs) (x.is_reach.sides v) none

    pub none_alike : (vid : ℕ) → Contains all_vids vid → differs vid ≡ false
    none_alike vid h =
        let group = x.is_reach.are_groups.each vid h in
        alike_in group.0 vid h group.1 group.2
        (all_contained (λ group. group_rows x.is_reach.sides group ≡ []) x.is_reach.groups group.0 (each_is_none (group_rows x.is_reach.sides) x.is_reach.groups (sym x.is_reach.is ∙ first.1)) group.1)

    nothing : c ≡ no_counts
    nothing = λ i. record {
      regions = (x.regions ∙ ap length third.0) i;
      roots = (x.roots ∙ ap length third.1) i;
      ports = (x.ports ∙ ap counted second.1) i;
      vlans = (sym in_count ∙ ap length (filter_none differs all_vids none_alike)) i;
    }

  pub nothing_counted : (c ≡ no_counts) ↔ (rows ≡ diff_row c ∷ [])
  nothing_counted = (alone, nothing)

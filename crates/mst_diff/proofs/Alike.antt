-- A network does not differ from itself.
use Rattle.std.proofs.Common.{◌≡◌, ℕ, ◌==◌, ◌&&◌, ◌||◌, Bool, true, false, cond, not, List, [], ◌∷◌, ◌++◌, map, length, Option, Some, None, refl, sym, ap, subst, ◌∙◌, append_assoc, fold, eq-eqb}
use Rattle.std.specs.Prelude.{if◌then◌else◌}
use Rattle.std.specs.Cmp.Lexicographic.{bytes_decides}
use Rattle.std.specs.List.{AllByRecursion, Contains, filter, filter_map, flat_map, list_any, count_by}
use Rattle.std.specs.Option.{option_map_or}
use Rattle.std.specs.FinMap as fin
use Rattle.std.proofs.lemmas.List.Sums.{length-filter}
use Rattle.mst_tables.specs.Tables.{Net, BridgeRow}
use Rattle.mst_view.specs.Aggregation.{same_name}
use Rattle.mst_vlan.specs.forest.config.Regions.{first_of_region}
use Rattle.mst_vlan.specs.forest.Outcome.{Outcome}
use Rattle.mst_vlan.proofs.forest_lemmas.Entries.{all_weaker, entries_found}
use Rattle.mst_vlan.proofs.forest_lemmas.Lists.{all_kept, all_there, some_is, no_some}
use Rattle.mst_graph.proofs.Members.{here, in_whole, filter_none}
use Rattle.mst_vlan.specs.classes.AllVids.{all_vids}
use Rattle.mst_vlan.proofs.classes_lemmas.VidPlaces.{is_vid_there}
use Rattle.mst_vlan.specs.forest.AllTrees.{all_trees}
use Rattle.mst_view.specs.View.{bridge_names, port_names}
use Rattle.mst_changes.specs.Subjects.{port_in, names_of_either}
use Rattle.mst_changes.specs.PortChanges.{counted, port_change_rows}
use Rattle.mst_changes.specs.Values.{value_at}
use Rattle.mst_changes.proofs.Same.{none_at}
use Rattle.mst_ids.specs.Names.{port_cmp}
use Rattle.mst_tables.proofs.Keys.{names}
use Rattle.mst_rows.specs.Rows.{Row}
use Rattle.mst_diff.specs.declared.roots.RootPair.{RootPair}
use Rattle.mst_facts.specs.Told.{same_told}
use Rattle.mst_diff.specs.Regions.{region_row, region_unless, region_change, region_changes}
use Rattle.mst_facts.specs.Roots.{root_name}
use Rattle.mst_diff.specs.Roots.{paired, root_pair, same_pair, root_row, root_unless, tree_roots, root_changes}
use Rattle.mst_graph.specs.Lists.{with_new, each_once}
use Rattle.mst_diff.specs.Ports.{port_rows}
use Rattle.mst_diff.specs.declared.diff.Differing.{Differing}
use Rattle.mst_diff.specs.Reach.{island_bridges, same_names, without, sides_of, differ, reach_unless, group_rows}
use Rattle.mst_diff.specs.DiffText.{diff_row, AreDiffRowsOf}
use Rattle.mst_vlan.proofs.OneList.{OneList}
use Rattle.mst_facts.proofs.Lists.{flat_map-none}
use Rattle.mst_diff.proofs.SameSides.{names_decide}

name_itself : (name : List ℕ) → same_name name name ≡ true
name_itself name = (bytes_decides name name).1 refl

-- nothing is made of each
pub each_none : {A B : Type 0} (f : A → List B) (xs : List A) → AllByRecursion (λ x. f x ≡ []) xs → flat_map f xs ≡ []
each_none f [] h = refl
each_none f (x ∷ xs) h = ap (λ l. l ++ flat_map f xs) h.0 ∙ each_none f xs h.1

-- ---- regions
told_itself : (row : BridgeRow) → same_told row row ≡ true
told_itself row = go row.is_rstp
  where
    go : (b : Bool) → (if b then b else not b && same_name row.conf_name row.conf_name && row.revision == row.revision) ≡ true
    go true = refl
    go false = λ i. name_itself row.conf_name i && eq-eqb row.revision row.revision refl i

unless_none : (name : List ℕ) (row : BridgeRow) (first : List ℕ) → region_unless name row first row first ≡ []
unless_none name row first = λ i. if told_itself row i && name_itself first i then [] else region_row name row first row first ∷ []

pub no_regions : (a : Net) → region_changes a a ≡ []
no_regions a =
    each_none (region_change a a) (fin.entries a.bridges)
    (all_weaker _ _ (λ (e : List ℕ × BridgeRow) found.
    ap (λ r. option_map_or (λ row. region_unless e.0 e.1 (first_of_region a e.0) row (first_of_region a e.0)) r []) found ∙ unless_none e.0 e.1 (first_of_region a e.0))
    (fin.entries a.bridges) (entries_found names.total a.bridges))

-- ---- roots
-- what holds of all things holds of those that are kept once
pub once_all : {A : Type 0} (P : A → Type 0) (same : A → A → Bool) (xs kept : List A) → AllByRecursion P kept → AllByRecursion P xs → AllByRecursion P (fold (with_new same) kept xs)
once_all P same [] kept h k = h
once_all {A} P same (x ∷ xs) kept h k = once_all P same xs (with_new same kept x) (go (list_any (λ y. same y x) kept)) k.1
  where
    pushed : (ys : List A) → AllByRecursion P ys → P x → AllByRecursion P (ys ++ x ∷ [])
    pushed [] h p = (p, tt)
    pushed (y ∷ ys) h p = (h.0, pushed ys h.1 p)

    go : (b : Bool) → AllByRecursion P (if b then kept else kept ++ x ∷ [])
    go true = h
    go false = pushed kept h k.0

pair_itself : (o : Option (List ℕ)) (pair : RootPair) → paired o o ≡ Some pair → pair.old ≡ pair.new
pair_itself None pair e = absurd (no_some pair e)
pair_itself (Some name) pair e = ap (λ (p : RootPair). p.old) (sym (some_is (record { old = name; new = name }) pair e)) ∙ ap (λ (p : RootPair). p.new) (some_is (record { old = name; new = name }) pair e)

pub any_name : (names : List (List ℕ)) → AllByRecursion (λ _. Unit {0}) names
any_name [] = tt
any_name (name ∷ names) = (tt, any_name names)

abbrev pairs : Net → Outcome → ℕ → List RootPair
pairs a o tree = filter_map (root_pair a o a o tree) (bridge_names a)

no_tree_roots : (a : Net) (o : Outcome) (tree : ℕ) → tree_roots a o a o tree ≡ []
no_tree_roots a o tree =
    each_none (root_unless tree) (each_once same_pair (pairs a o tree))
    (all_weaker (λ (p : RootPair). p.old ≡ p.new) _
    (λ p e. ap (λ (b : Bool). if b then [] else root_row tree p ∷ []) ((bytes_decides p.old p.new).1 e)) (each_once same_pair (pairs a o tree))
    (once_all (λ (p : RootPair). p.old ≡ p.new) same_pair (pairs a o tree) [] tt
    (all_kept (λ _. Unit {0}) (λ (p : RootPair). p.old ≡ p.new) (root_pair a o a o tree) (λ name pair _ e. pair_itself (root_name a o tree name) pair e) (bridge_names a) (any_name (bridge_names a)))))

pub no_roots : (a : Net) (o : Outcome) → root_changes a o a o ≡ []
no_roots a o = flat_map-none (tree_roots a o a o) (no_tree_roots a o) all_trees

-- ---- ports
pub no_ports : (a : Net) (o : Outcome) → port_rows a o a o ≡ []
no_ports a o = flat_map-none (port_change_rows a o a o) (λ tree. none_at (value_at a o) (map (port_in tree) (names_of_either port_cmp (port_names a) (port_names a)))) all_trees

-- ---- islands
any_here : (word : List (List ℕ)) (xs ys : List (List (List ℕ))) → list_any (λ y. same_names y word) (xs ++ word ∷ ys) ≡ true
any_here word [] ys = ap (λ b. b || list_any (λ y. same_names y word) ys) ((names_decide word word).1 refl)
any_here word (x ∷ xs) ys = ap (λ b. same_names x word || b) (any_here word xs ys) ∙ last (same_names x word)
  where
    last : (b : Bool) → (b || true) ≡ true
    last true = refl
    last false = refl

-- islands that are all among others
pub none_apart : (xs ys : List (List (List ℕ))) → AllByRecursion (λ x. list_any (λ y. same_names y x) ys ≡ true) xs → without xs ys ≡ []
none_apart [] ys h = refl
none_apart (x ∷ xs) ys h =
    ap (λ b. cond (not b) (x ∷ filter (λ x. not (list_any (λ y. same_names y x) ys)) xs) (filter (λ x. not (list_any (λ y. same_names y x) ys)) xs)) h.0 ∙ none_apart xs ys h.1

all_among : (xs ys : List (List (List ℕ))) → AllByRecursion (λ x. list_any (λ y. same_names y x) (xs ++ ys) ≡ true) ys
all_among xs [] = tt
all_among xs (y ∷ ys) = (any_here y xs ys, subst (λ all. AllByRecursion (λ x. list_any (λ y. same_names y x) all ≡ true) ys) (append_assoc xs (y ∷ []) ys) (all_among (xs ++ y ∷ []) ys))

pub no_sides : (groups : List (List (List ℕ))) → sides_of groups groups ≡ record { old = []; new = [] }
no_sides groups =
    let none : without groups groups ≡ [] = none_apart groups groups (all_among [] groups) in
    λ i. record { old = none i; new = none i }

-- ---- all rows
module _ (a : Net) (o : Outcome) (one : OneList) (c : Differing) (rows : List Row) (x : AreDiffRowsOf a o a o c rows) where
  none_differ : (vid : ℕ) → Contains all_vids vid → x.is_reach.sides vid ≡ record { old = []; new = [] }
  none_differ vid h =
      let s = x.is_reach.are_sides vid (is_vid_there vid h) in
      s.4 ∙ ap (λ news. sides_of (island_bridges s.0) (island_bridges news)) (one a o vid s.1 s.0 s.3 s.2) ∙ no_sides (island_bridges s.0)

  no_group : (group : List ℕ) → Contains x.is_reach.groups group → group_rows x.is_reach.sides group ≡ []
  no_group [] h = refl
  no_group (vid ∷ vids) h = ap (reach_unless (vid ∷ vids)) (none_differ vid (in_whole (x.is_reach.are_groups.in_order (vid ∷ vids) h) vid (here vid vids)))

  no_reach : x.reach ≡ []
  no_reach = x.is_reach.is ∙ each_none (group_rows x.is_reach.sides) x.is_reach.groups (all_weaker (Contains x.is_reach.groups) _ no_group x.is_reach.groups (all_there x.is_reach.groups))

  none_counted : (vids : List ℕ) → ((vid : ℕ) → Contains vids vid → x.is_reach.sides vid ≡ record { old = []; new = [] }) → count_by (λ vid. differ (x.is_reach.sides vid)) vids ≡ 0
  none_counted vids h = sym (length-filter (λ vid. differ (x.is_reach.sides vid)) vids) ∙ ap length (filter_none (λ vid. differ (x.is_reach.sides vid)) vids (λ vid k. ap differ (h vid k)))

  pub no_counts : c ≡ record { regions = 0; roots = 0; ports = 0; vlans = 0 }
  no_counts = λ i. record {
    regions = (x.regions ∙ ap length (no_regions a)) i;
    roots = (x.roots ∙ ap length (no_roots a o)) i;
    ports = (x.ports ∙ ap counted (no_ports a o)) i;
    vlans = (x.is_reach.counted ∙ none_counted all_vids none_differ) i;
  }

  pub last_row_alone : rows ≡ diff_row c ∷ []
  last_row_alone = x.is ∙ (λ i. no_regions a i ++ no_roots a o i ++ no_ports a o i ++ no_reach i ++ diff_row c ∷ [])

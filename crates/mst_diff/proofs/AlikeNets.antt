-- The last row stands alone just where two networks are alike.
use Rattle.std.proofs.Common.{◌≡◌, ℕ, ◌+◌, ◌<◌, ◌≤◌, ◌==◌, ◌&&◌, ◌||◌, inl, inr, Bool, true, false, cond, not, List, [], ◌∷◌, ◌++◌, length, get_or, map, Option, Some, None, refl, sym, ap, subst, ◌∙◌, fold, arith, true≢false, is_some, eq-eqb}
use Rattle.std.specs.Prelude.{if◌then◌else◌, ◌↔◌}
use Rattle.std.specs.Cmp.Lexicographic.{bytes_decides}
use Rattle.std.specs.List.{AllByRecursion, Contains, filter_map, flat_map, find, cons_option, list_any, range_with_len}
use Rattle.std.specs.Option.{option_map, option_map_or, option_and_then}
use Rattle.std.specs.Ordering.{eq_by_cmp}
use Rattle.std.specs.FinMap as fin
use Rattle.std.specs.FinMap.{from_entries, get-from_entries, contains_key-keys}
use Rattle.std.proofs.lemmas.Bool.{and_parts, or_parts, eqb-true}
use Rattle.std.proofs.lemmas.List.Folds.{flat_map-map, list_any-append}
use Rattle.std.proofs.lemmas.List.FromFn.{get_or-range_with_len, length-range_with_len}
use Rattle.std.proofs.lemmas.Map.Views.{Contains-from_any}
use Rattle.mst_ids.specs.Names.{port_cmp}
use Rattle.mst_ids.specs.Vids.{is_vid}
use Rattle.mst_ids.specs.declared.name.PortName.{PortName}
use Rattle.mst_graph.proofs.Members.{in_none, cases, passing, in_map, in_filter, filter_none}
use Rattle.mst_tables.specs.Tables.{Net, BridgeRow, port_eq}
use Rattle.mst_tables.proofs.Keyed.{flipped}
use Rattle.mst_tables.proofs.Keys.{names, ports}
use Rattle.mst_view.specs.Aggregation.{same_name}
use Rattle.mst_view.specs.View.{LogicalPort, view_ports, bridge_names, port_names}
use Rattle.mst_vlan.specs.forest.config.Regions.{first_of_region}
use Rattle.mst_vlan.specs.forest.Outcome.{Outcome}
use Rattle.mst_vlan.proofs.forest_lemmas.Entries.{all_weaker, entries_found}
use Rattle.mst_vlan.proofs.forest_lemmas.Lists.{all_contained, all_kept, all_there, some_is, no_some}
use Rattle.mst_vlan.proofs.forest_lemmas.Views.{entry_there}
use Rattle.mst_vlan.specs.roles.Roles.{role_in, role_of}
use Rattle.mst_vlan.specs.roles.declared.kind.Role.{Role}
use Rattle.mst_vlan.specs.roles.declared.kind.Role.TheVariants.{Root, Designated, Alternate, Backup, Master, Disabled}
use Rattle.mst_vlan.specs.classes.AllVids.{all_vids}
use Rattle.mst_vlan.proofs.classes_lemmas.VidPlaces.{place_of_vid}
use Rattle.mst_vlan.proofs.classes_lemmas.VidPlaces.{is_vid_there}
use Rattle.mst_changes.specs.declared.value.VectorOrRole.TheVariants.{HasRole}
use Rattle.mst_vlan.specs.forest.AllTrees.{all_trees}
use Rattle.mst_changes.specs.Subjects.{port_in, names_of_either}
use Rattle.mst_changes.specs.PortChanges.{counted, port_change_rows}
use Rattle.mst_changes.specs.Values.{value_at, same_side}
use Rattle.mst_vlan.specs.roles.RoleNumbers.{role_number}
use Rattle.mst_changes.specs.ChangesText.{item_row, change_rows}
use Rattle.mst_rows.specs.Rows.{Row}
use Rattle.mst_diff.specs.declared.diff.Differing.{Differing}
use Rattle.mst_diff.specs.declared.roots.RootPair.{RootPair}
use Rattle.mst_facts.specs.Told.{same_told}
use Rattle.mst_diff.specs.Regions.{region_row, region_unless, region_change, region_changes}
use Rattle.mst_facts.specs.Roots.{root_name}
use Rattle.mst_diff.specs.Roots.{paired, root_pair, same_pair, root_row, root_unless, tree_roots, root_changes}
use Rattle.mst_graph.specs.Lists.{with_new, each_once, has_any}
use Rattle.mst_diff.specs.Ports.{port_rows}
use Rattle.mst_diff.specs.Reach.{island_bridges, same_names, without, sides_of, differ}
use Rattle.mst_diff.specs.DiffText.{diff_row, AreDiffRowsOf}
use Rattle.mst_diff.specs.AlikeNets.{AreAlike}
use Rattle.mst_diff.proofs.Alike.{each_none, once_all, any_name, none_apart}
use Rattle.mst_diff.proofs.LastLine.{no_counts, no_more, each_is_none, differs, in_count, alone, no_island, second, third, none_alike}
use Rattle.mst_facts.proofs.Lists.{flat_map-none}
use Rattle.mst_facts.proofs.Named.{no_root}
use Rattle.mst_vlan.proofs.OneList.{OneList}
use Rattle.mst_diff.proofs.SameSides.{names_decide}
use Rattle.mst_diff.proofs.Turned.{tied, found_twice}

-- where a row is left out, the test passes
row_left : (b : Bool) (row : Row) → (if b then [] else row ∷ []) ≡ [] → b ≡ true
row_left true row e = refl
row_left false row e = absurd (no_more row [] e)

-- ---- trees
-- the trees are the numbers up to 4094
is_tree : (tree : ℕ) → tree ≤ 4094 → Contains all_trees tree
unfolding all_trees
is_tree tree l =
    let long : length (range_with_len 0 4095) ≡ 4095 = length-range_with_len 0 4095 in
    let at : get_or (range_with_len 0 4095) tree tree ≡ 0 + tree = get_or-range_with_len 0 4095 tree tree (omega arith) in
    (tree, omega arith, omega arith)

tree_below : (tree : ℕ) → Contains all_trees tree → tree ≤ 4094
unfolding all_trees
tree_below tree h =
    let long : length (range_with_len 0 4095) ≡ 4095 = length-range_with_len 0 4095 in
    let l : h.0 < length (range_with_len 0 4095) = h.1 in
    let at : get_or (range_with_len 0 4095) h.0 tree ≡ 0 + h.0 = get_or-range_with_len 0 4095 h.0 tree (omega arith) in
    let is : get_or (range_with_len 0 4095) h.0 tree ≡ tree = h.2 in
    omega arith

-- what holds of each number up to 4094 holds of each tree
each_tree : (P : ℕ → Type 0) → ((tree : ℕ) → tree ≤ 4094 → P tree) → AllByRecursion P all_trees
each_tree P h = all_weaker (Contains all_trees) P (λ tree there. h tree (tree_below tree there)) all_trees (all_there all_trees)

-- ---- regions
module _ (a b : Net) where
  abbrev SameRegions : Type 0
  SameRegions = (bridge : List ℕ) (old new : BridgeRow) → fin.get a.bridges bridge ≡ Some old → fin.get b.bridges bridge ≡ Some new → (same_told old new ≡ true) × (first_of_region a bridge ≡ first_of_region b bridge)

  -- where there is no row of regions
  regions_same : region_changes a b ≡ [] → SameRegions
  regions_same e bridge old new x y =
      let first = first_of_region a bridge in
      let other = first_of_region b bridge in
      let none : region_change a b (bridge, old) ≡ [] = all_contained (λ (e : List ℕ × BridgeRow). region_change a b e ≡ []) (fin.entries a.bridges) (bridge, old) (each_is_none (region_change a b) (fin.entries a.bridges) e) (entry_there a bridge old x) in
      let unless : region_unless bridge old first new other ≡ [] = ap (λ r. option_map_or (λ row. region_unless bridge old first row other) r []) (sym y) ∙ none in
      let parts = and_parts (same_told old new) (same_name first other) (row_left (same_told old new && same_name first other) (region_row bridge old first new other) unless) in
      (parts.0, (bytes_decides first other).0 parts.1)

  -- and where all are the same there is none
  regions_none : SameRegions → region_changes a b ≡ []
  regions_none h =
      each_none (region_change a b) (fin.entries a.bridges)
      (all_weaker _ _ (λ (e : List ℕ × BridgeRow) found. go e found (fin.get b.bridges e.0) refl) (fin.entries a.bridges) (entries_found names.total a.bridges))
    where
      go : (e : List ℕ × BridgeRow) → fin.get a.bridges e.0 ≡ Some e.1 → (r : Option BridgeRow) → fin.get b.bridges e.0 ≡ r
          → option_map_or (λ row. region_unless e.0 e.1 (first_of_region a e.0) row (first_of_region b e.0)) r [] ≡ []
      go e x None y = refl
      go e x (Some new) y =
          let same = h e.0 e.1 new x y in
          let first = (bytes_decides (first_of_region a e.0) (first_of_region b e.0)).1 same.1 in
          λ i. if same.0 i && first i then [] else region_row e.0 e.1 (first_of_region a e.0) new (first_of_region b e.0) ∷ []

-- ---- roots
-- what holds of the things that are kept once holds of all of them, where it holds of a thing with the same one
module _ {A : Type 0} (P : A → Type 0) (same : A → A → Bool) (too : (x y : A) → same y x ≡ true → P y → P x) where
  before_last : (x : A) (ys : List A) → AllByRecursion P (ys ++ x ∷ []) → AllByRecursion P ys × P x
  before_last x [] h = (tt, h.0)
  before_last x (y ∷ ys) h = let r = before_last x ys h.1 in ((h.0, r.0), r.1)

  kept_too : (x : A) (kept : List A) → AllByRecursion P (with_new same kept x) → AllByRecursion P kept × P x
  kept_too x kept = go (list_any (λ y. same y x) kept) refl
    where
      go : (b : Bool) → list_any (λ y. same y x) kept ≡ b → AllByRecursion P (if b then kept else kept ++ x ∷ []) → AllByRecursion P kept × P x
      go true e h = let y = passing (λ y. same y x) kept e in (h, too x y.0 y.2 (all_contained P kept y.0 h y.1))
      go false e h = before_last x kept h

  once_each : (xs kept : List A) → AllByRecursion P (fold (with_new same) kept xs) → AllByRecursion P kept × AllByRecursion P xs
  once_each [] kept h = (h, tt)
  once_each (x ∷ xs) kept h = let r = once_each xs (with_new same kept x) h in let s = kept_too x kept r.0 in (s.0, (s.1, r.1))

-- what holds of each thing that is kept, by the thing that it is made of
from_kept : {A B : Type 0} (P : B → Type 0) (h : A → Option B) (xs : List A) → AllByRecursion P (filter_map h xs) → AllByRecursion (λ x. (y : B) → h x ≡ Some y → P y) xs
from_kept P h [] k = tt
from_kept {A} {B} P h (x ∷ xs) k = go (h x) refl k (from_kept P h xs)
  where
    go : (o : Option B) → h x ≡ o → AllByRecursion P (cons_option o (filter_map h xs)) → (AllByRecursion P (filter_map h xs) → AllByRecursion (λ x. (y : B) → h x ≡ Some y → P y) xs)
        → AllByRecursion (λ x. (y : B) → h x ≡ Some y → P y) (x ∷ xs)
    go None e k rest = (λ y f. absurd (no_some y (sym e ∙ f)), rest k)
    go (Some z) e k rest = (λ y f. subst P (some_is z y (sym e ∙ f)) k.0, rest k.1)

abbrev IsOne : RootPair → Type 0
IsOne pair = pair.old ≡ pair.new

one_too : (x y : RootPair) → same_pair y x ≡ true → IsOne y → IsOne x
one_too x y e is =
    let parts = and_parts (same_name y.old x.old) (same_name y.new x.new) e in
    sym ((bytes_decides y.old x.old).0 parts.0) ∙ is ∙ (bytes_decides y.new x.new).0 parts.1

pair_one : (x y : Option (List ℕ)) → ((old new : List ℕ) → x ≡ Some old → y ≡ Some new → old ≡ new) → (pair : RootPair) → paired x y ≡ Some pair → IsOne pair
pair_one None y h pair e = absurd (no_some pair e)
pair_one (Some old) None h pair e = absurd (no_some pair e)
pair_one (Some old) (Some new) h pair e = subst IsOne (some_is (record { old = old; new = new }) pair e) (h old new refl refl)

module _ (a b : Net) (o p : Outcome) where
  abbrev SameRoots : Type 0
  SameRoots = (tree : ℕ) → tree ≤ 4094 → (bridge old new : List ℕ) → root_name a o tree bridge ≡ Some old → root_name b p tree bridge ≡ Some new → old ≡ new

  abbrev pairs : ℕ → List RootPair
  pairs tree = filter_map (root_pair a o b p tree) (bridge_names a)

  -- a bridge that has a root is there
  bridge_there : (tree : ℕ) (bridge root : List ℕ) → root_name a o tree bridge ≡ Some root → Contains (bridge_names a) bridge
  bridge_there tree bridge root e = go (fin.get a.bridges bridge) refl
    where
      go : (r : Option BridgeRow) → fin.get a.bridges bridge ≡ r → Contains (bridge_names a) bridge
      go None none = absurd (no_some root (sym (no_root a o tree bridge none) ∙ e))
      go (Some row) found = in_map (λ (e : List ℕ × BridgeRow). e.0) (fin.entries a.bridges) (bridge, row) (entry_there a bridge row found)

  pairs_one : (tree : ℕ) → tree_roots a o b p tree ≡ [] → AllByRecursion IsOne (pairs tree)
  pairs_one tree e =
      (once_each IsOne same_pair one_too (pairs tree) []
      (all_weaker (λ pair. root_unless tree pair ≡ []) IsOne
      (λ pair none. (bytes_decides pair.old pair.new).0 (row_left (same_name pair.old pair.new) (root_row tree pair) none))
      (each_once same_pair (pairs tree)) (each_is_none (root_unless tree) (each_once same_pair (pairs tree)) e))).1

  -- where there is no row of roots
  roots_same : root_changes a o b p ≡ [] → SameRoots
  roots_same e tree l bridge old new x y =
      let none : tree_roots a o b p tree ≡ [] = all_contained (λ t. tree_roots a o b p t ≡ []) all_trees tree (each_is_none (tree_roots a o b p) all_trees e) (is_tree tree l) in
      all_contained (λ (name : List ℕ). (pair : RootPair) → root_pair a o b p tree name ≡ Some pair → IsOne pair) (bridge_names a) bridge
      (from_kept IsOne (root_pair a o b p tree) (bridge_names a) (pairs_one tree none)) (bridge_there tree bridge old x) (record { old = old; new = new }) (λ i. paired (x i) (y i))

  -- and where all are the same there is none
  roots_none : SameRoots → root_changes a o b p ≡ []
  roots_none h = each_none (tree_roots a o b p) all_trees (each_tree (λ tree. tree_roots a o b p tree ≡ []) (λ tree l.
      each_none (root_unless tree) (each_once same_pair (pairs tree))
      (all_weaker IsOne _ (λ pair one. ap (λ (b : Bool). if b then [] else root_row tree pair ∷ []) ((bytes_decides pair.old pair.new).1 one)) (each_once same_pair (pairs tree))
      (once_all IsOne same_pair (pairs tree) [] tt
      (all_kept (λ _. Unit {0}) IsOne (root_pair a o b p tree) (λ name pair _ e. pair_one (root_name a o tree name) (root_name b p tree name) (h tree l name) pair e) (bridge_names a) (any_name (bridge_names a)))))))

-- ---- roles
role_numbered : ℕ → Role
role_numbered n = if n == 0 then Root else (if n == 1 then Designated else (if n == 2 then Alternate else (if n == 3 then Backup else (if n == 4 then Master else Disabled))))

numbered_back : (r : Role) → role_numbered (role_number r) ≡ r
unfolding role_numbered
numbered_back Root = refl
numbered_back Designated = refl
numbered_back Alternate = refl
numbered_back Backup = refl
numbered_back Master = refl
numbered_back Disabled = refl

role_is : (r s : Option Role) → same_side (option_map HasRole r) (option_map HasRole s) ≡ true → r ≡ s
role_is None None e = refl
role_is None (Some s) e = absurd (true≢false (sym e))
role_is (Some r) None e = absurd (true≢false (sym e))
role_is (Some r) (Some s) e = ap Some (sym (numbered_back r) ∙ ap role_numbered (eqb-true (role_number r) (role_number s) e) ∙ numbered_back s)

role_itself : (r : Option Role) → same_side (option_map HasRole r) (option_map HasRole r) ≡ true
role_itself None = refl
role_itself (Some r) = eq-eqb (role_number r) (role_number r) refl

-- a name that no logical port has finds none
none_named : (name : PortName) (qs : List LogicalPort) → list_any (eq_by_cmp port_cmp name) (map (λ q. q.name) qs) ≡ false → find (λ q. port_eq q.name name) qs ≡ None
none_named name [] e = refl
none_named name (q ∷ qs) e =
    let parts = or_parts (eq_by_cmp port_cmp name q.name) (list_any (eq_by_cmp port_cmp name) (map (λ q. q.name) qs)) e in
    ap (λ b. cond b (Some q) (find (λ q. port_eq q.name name) qs)) (sym (flipped ports name q.name) ∙ parts.0) ∙ none_named name qs parts.1

no_role : (net : Net) (o : Outcome) (tree : ℕ) (name : PortName) → list_any (eq_by_cmp port_cmp name) (port_names net) ≡ false → role_of net o tree name ≡ None
no_role net o tree name e = ap (option_and_then (role_in net o tree)) (none_named name (view_ports net) e)

module _ (a b : Net) (o p : Outcome) where
  abbrev either : List PortName
  either = names_of_either port_cmp (port_names a) (port_names b)

  abbrev at_port : ℕ → PortName → List Row
  at_port tree name = change_rows (port_in tree name) (value_at a o (port_in tree name)) (value_at b p (port_in tree name))

  by_ports : (tree : ℕ) → port_change_rows a o b p tree ≡ flat_map (at_port tree) either
  by_ports tree = flat_map-map (λ place. change_rows place (value_at a o place) (value_at b p place)) (port_in tree) either

  -- a name of a logical port of one of the networks
  in_either : (name : PortName) → list_any (eq_by_cmp port_cmp name) (port_names a ++ port_names b) ≡ true → Contains either name
  in_either name e =
      let all = port_names a ++ port_names b in
      let found : fin.get (from_entries {R = port_cmp} (map (λ (k : PortName). (k, k)) all)) name ≡ Some name =
      get-from_entries ports.total (map (λ (k : PortName). (k, k)) all) name ∙ found_twice ports.total ports.same name all ∙ ap (λ (t : Bool). cond t (Some name) None) e in
      Contains-from_any {eq = eq_by_cmp port_cmp} (λ x y same. ports.same x y (tied (port_cmp x y) same)) name either
      (sym (contains_key-keys (from_entries {R = port_cmp} (map (λ (k : PortName). (k, k)) all)) name) ∙ ap is_some found)

  port_same : (tree : ℕ) → port_change_rows a o b p tree ≡ [] → (port : PortName) → role_of a o tree port ≡ role_of b p tree port
  port_same tree e port = go (list_any (eq_by_cmp port_cmp port) (port_names a ++ port_names b)) refl
    where
      go : (t : Bool) → list_any (eq_by_cmp port_cmp port) (port_names a ++ port_names b) ≡ t → role_of a o tree port ≡ role_of b p tree port
      go true there =
          let none : at_port tree port ≡ [] = all_contained (λ name. at_port tree name ≡ []) either port (each_is_none (at_port tree) either (sym (by_ports tree) ∙ e)) (in_either port there) in
          role_is (role_of a o tree port) (role_of b p tree port)
          (row_left (same_side (option_map HasRole (role_of a o tree port)) (option_map HasRole (role_of b p tree port)))
          (item_row tree (port_in tree port).item (option_map HasRole (role_of a o tree port)) (option_map HasRole (role_of b p tree port))) none)
      go false absent =
          let parts = or_parts (list_any (eq_by_cmp port_cmp port) (port_names a)) (list_any (eq_by_cmp port_cmp port) (port_names b)) (sym (list_any-append (eq_by_cmp port_cmp port) (port_names a) (port_names b)) ∙ absent) in
          no_role a o tree port parts.0 ∙ sym (no_role b p tree port parts.1)

  abbrev SameRoles : Type 0
  SameRoles = (tree : ℕ) → tree ≤ 4094 → (port : PortName) → role_of a o tree port ≡ role_of b p tree port

  -- where there is no row of ports
  roles_same : port_rows a o b p ≡ [] → SameRoles
  roles_same e tree l = port_same tree (all_contained (λ t. port_change_rows a o b p t ≡ []) all_trees tree (each_is_none (port_change_rows a o b p) all_trees e) (is_tree tree l))

  -- and where all are the same there is none
  roles_none : SameRoles → port_rows a o b p ≡ []
  roles_none h = each_none (port_change_rows a o b p) all_trees (each_tree (λ tree. port_change_rows a o b p tree ≡ []) (λ tree l.
      by_ports tree ∙ flat_map-none (at_port tree) (λ name. go tree name (role_of b p tree name) (h tree l name)) either))
    where
      go : (tree : ℕ) (name : PortName) (s : Option Role) → role_of a o tree name ≡ s → change_rows (port_in tree name) (option_map HasRole (role_of a o tree name)) (option_map HasRole s) ≡ []
      go tree name s e =
          ap (λ r. change_rows (port_in tree name) (option_map HasRole r) (option_map HasRole s)) e
          ∙ ap (λ (b : Bool). if b then [] else item_row tree (port_in tree name).item (option_map HasRole s) (option_map HasRole s) ∷ []) (role_itself s)

-- ---- islands
abbrev SameIslands : List (List (List ℕ)) → List (List (List ℕ)) → Type 0
SameIslands u v = (bridges : List (List ℕ)) → Contains u bridges ↔ Contains v bridges

all_in : (xs ys : List (List (List ℕ))) → without xs ys ≡ [] → (bridges : List (List ℕ)) → Contains xs bridges → Contains ys bridges
all_in xs ys e bridges h = go (list_any (λ y. same_names y bridges) ys) refl
  where
    go : (b : Bool) → list_any (λ y. same_names y bridges) ys ≡ b → Contains ys bridges
    go true t = let y = passing (λ y. same_names y bridges) ys t in subst (Contains ys) ((names_decide y.0 bridges).0 y.2) y.1
    go false t = absurd (in_none bridges (subst (λ zs. Contains zs bridges) e (in_filter (λ x. not (list_any (λ y. same_names y x) ys)) xs bridges h (ap not t))))

or_last : (b : Bool) → (b || true) ≡ true
or_last true = refl
or_last false = refl

any_in : (bridges : List (List ℕ)) (ys : List (List (List ℕ))) → Contains ys bridges → list_any (λ y. same_names y bridges) ys ≡ true
any_in bridges [] h = absurd (in_none bridges h)
any_in bridges (y ∷ ys) h = elim (cases y bridges ys h) [
  | inl e ↦ ap (λ b. b || list_any (λ y. same_names y bridges) ys) ((names_decide y bridges).1 e)
  | inr a ↦ ap (λ b. same_names y bridges || b) (any_in bridges ys a) ∙ or_last (same_names y bridges)
]

islands_same : (u v : List (List (List ℕ))) → differ (sides_of u v) ≡ false → SameIslands u v
islands_same u v e bridges = let none = no_island (sides_of u v) e in (all_in u v none.0 bridges, all_in v u none.1 bridges)

islands_none : (u v : List (List (List ℕ))) → SameIslands u v → differ (sides_of u v) ≡ false
islands_none u v h =
    let olds : without u v ≡ [] = none_apart u v (all_weaker (Contains u) _ (λ bridges k. any_in bridges v ((h bridges).0 k)) u (all_there u)) in
    let news : without v u ≡ [] = none_apart v u (all_weaker (Contains v) _ (λ bridges k. any_in bridges u ((h bridges).1 k)) v (all_there v)) in
    λ i. has_any (olds i) || has_any (news i)

-- each VID is in the list of them, one after its place
one_after : (place vid : ℕ) → place + 1 ≡ vid → 1 + place ≡ vid
one_after place vid e = omega arith

at_place : (place vid : ℕ) → place < 4094 → place + 1 ≡ vid → Contains all_vids vid
unfolding all_vids
at_place place vid below is =
    (place, subst (λ n. place < n) (sym (length-range_with_len 1 4094)) below, get_or-range_with_len 1 4094 place vid below ∙ one_after place vid is)

vid_there : (vid : ℕ) → is_vid vid ≡ true → Contains all_vids vid
vid_there vid e = let at = place_of_vid vid e in at_place at.place vid at.below at.is

-- ---- all rows
module _ (a b : Net) (o p : Outcome) (one : OneList) (c : Differing) (rows : List Row) (x : AreDiffRowsOf a o b p c rows) where
  alike : rows ≡ diff_row c ∷ [] → AreAlike a o b p
  alike e = record {
    regions = regions_same a b (third a o b p c rows x e).0;
    roots = roots_same a b o p (third a o b p c rows x e).1;
    roles = roles_same a b o p (second a o b p c rows x e).1;
    islands = λ vid is olds news s t.
        let sides = x.is_reach.are_sides vid is in
        let old = one a o vid sides.0 olds sides.2 s in
        let new = one b p vid sides.1 news sides.3 t in
        islands_same (island_bridges olds) (island_bridges news) (sym (ap differ sides.4 ∙ (λ i. differ (sides_of (island_bridges (old i)) (island_bridges (new i))))) ∙ none_alike a o b p c rows x e vid (vid_there vid is));
  }

  none_differs : AreAlike a o b p → (vid : ℕ) → Contains all_vids vid → differs a o b p c rows x vid ≡ false
  none_differs h vid there =
      let is = is_vid_there vid there in
      let sides = x.is_reach.are_sides vid is in
      ap differ sides.4 ∙ islands_none (island_bridges sides.0) (island_bridges sides.1) (h.islands vid is sides.0 sides.1 sides.2 sides.3)

  none_counted : AreAlike a o b p → c ≡ no_counts
  none_counted h = λ i. record {
    regions = (x.regions ∙ ap length (regions_none a b h.regions)) i;
    roots = (x.roots ∙ ap length (roots_none a b o p h.roots)) i;
    ports = (x.ports ∙ ap counted (roles_none a b o p h.roles)) i;
    vlans = (sym (in_count a o b p c rows x) ∙ ap length (filter_none (differs a o b p c rows x) all_vids (none_differs h))) i;
  }

  pub alone_alike : (rows ≡ diff_row c ∷ []) ↔ AreAlike a o b p
  alone_alike = (alike, λ h. alone a o b p c rows x (none_counted h))

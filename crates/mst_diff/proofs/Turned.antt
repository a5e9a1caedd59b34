-- The change back has the same rows with sides changed over, and so as many.
use Rattle.std.proofs.Common.{◌≡◌, ℕ, ◌==◌, ◌&&◌, Bool, true, false, cond, ◌||◌, not, List, [], ◌∷◌, ◌++◌, map, length, min, Option, Some, None, is_some, refl, sym, ap, subst, ◌∙◌, fold, true≢false, Less, Equal, Greater}
use Rattle.std.specs.Prelude.{if◌then◌else◌}
use Rattle.std.specs.Cmp.{IsTotalOrder, nat_eq_equiv}
use Rattle.std.specs.Cmp.Lexicographic.{nat_list_eq_equiv}
use Rattle.std.specs.List.{Contains, filter_map, flat_map, cons_option, list_any}
use Rattle.std.specs.Option.{option_map, option_map_or, option_and_then}
use Rattle.std.specs.Ordering.{eq_by_cmp, is_eq}
use Rattle.std.specs.declared.cmp.Ordering.{Ordering}
use Rattle.std.specs.FinMap as fin
use Rattle.std.specs.FinMap.{IsAntisymmetric, find, from_entries, get-from_entries, same_map, contains_key-keys}
use Rattle.std.proofs.Math.Bool.{and_comm, or_comm}
use Rattle.std.proofs.lemmas.List.{length-map, map-append}
use Rattle.std.proofs.lemmas.List.Folds.{flat_map-map, list_any-append}
use Rattle.mst_ids.specs.Names.{name_cmp, port_cmp}
use Rattle.mst_ids.specs.declared.name.PortName.{PortName}
use Rattle.mst_tables.specs.Tables.{Net, BridgeRow}
use Rattle.mst_tables.proofs.Keys.{names, ports}
use Rattle.mst_view.specs.Aggregation.{same_name}
use Rattle.mst_vlan.specs.forest.config.Regions.{first_of_region}
use Rattle.mst_vlan.specs.forest.Apart.{Apart}
use Rattle.mst_vlan.specs.forest.Outcome.{Outcome}
use Rattle.mst_vlan.proofs.forest_lemmas.Entries.{all_weaker, entries_found}
use Rattle.mst_vlan.proofs.forest_lemmas.Lists.{apart_mapped}
use Rattle.mst_vlan.proofs.forest_lemmas.Views.{bridges_rise}
use Rattle.mst_vlan.specs.roles.Roles.{role_of}
use Rattle.mst_vlan.specs.roles.declared.kind.Role.{Role}
use Rattle.mst_vlan.specs.classes.AllVids.{all_vids}
use Rattle.mst_vlan.proofs.classes_lemmas.VidPlaces.{is_vid_there}
use Rattle.mst_changes.specs.declared.value.VectorOrRole.TheVariants.{HasRole}
use Rattle.mst_vlan.specs.forest.AllTrees.{all_trees}
use Rattle.mst_view.specs.View.{bridge_names, port_names}
use Rattle.mst_changes.specs.Subjects.{port_in, names_of_either}
use Rattle.mst_changes.specs.PortChanges.{port_change_rows}
use Rattle.mst_changes.specs.Values.{value_at, same_side}
use Rattle.mst_vlan.specs.roles.RoleNumbers.{role_number}
use Rattle.mst_changes.specs.ChangesText.{role_cell, change_rows}
use Rattle.mst_changes.proofs.Names.{kept_left, kept_right}
use Rattle.mst_kinds.specs.declared.change_line.ChangeLine.TheVariants as change_line
use Rattle.mst_kinds.specs.declared.kind.Kind.TheVariants as kind
use Rattle.mst_rows.specs.Cells as cells
use Rattle.mst_rows.specs.Rows.{Row, region}
use Rattle.mst_diff.specs.declared.diff.Differing.{Differing}
use Rattle.mst_diff.specs.declared.roots.RootPair.{RootPair}
use Rattle.mst_facts.specs.Told.{same_told}
use Rattle.mst_diff.specs.Regions.{configuration, region_unless, region_change, region_changes}
use Rattle.mst_facts.specs.Roots.{root_name}
use Rattle.mst_diff.specs.Roots.{paired, root_pair, same_pair, root_unless, tree_roots, root_changes}
use Rattle.mst_graph.specs.Lists.{with_new, each_once, has_any}
use Rattle.mst_diff.specs.Ports.{port_rows}
use Rattle.mst_diff.specs.Reach.{island_bridges, Sides, sides_of, differ, AreSides, AreReachRows}
use Rattle.mst_diff.specs.DiffText.{AreDiffRowsOf}
use Rattle.mst_diff.specs.Turned.{Sided, sided_row, turned_row, AreTurned, turned_sides}
use Rattle.mst_facts.proofs.Lists.{flat_map-filter_map, flat_map-same, list_any-map}
use Rattle.mst_facts.proofs.Named.{no_root}
use Rattle.mst_vlan.proofs.OneList.{OneList}
use Rattle.mst_diff.proofs.OneDiff.{each_count}

-- ---- rows that are turned
-- they are as many
rows_turned : (rows others : List Row) → AreTurned rows others → length rows ≡ length others
rows_turned rows others t = ap length t.1 ∙ length-map t.0 sided_row ∙ sym (length-map t.0 turned_row) ∙ sym (ap length t.2)

pub nothing_turned : AreTurned [] []
nothing_turned = ([], refl, refl)

pub turned_append : (x y z w : List Row) → AreTurned x y → AreTurned z w → AreTurned (x ++ z) (y ++ w)
turned_append x y z w s t = (s.0 ++ t.0, (λ i. s.1 i ++ t.1 i) ∙ sym (map-append sided_row s.0 t.0), (λ i. s.2 i ++ t.2 i) ∙ sym (map-append turned_row s.0 t.0))

each_turned : {A : Type 0} (f g : A → List Row) (xs : List A) → ((x : A) → AreTurned (f x) (g x)) → AreTurned (flat_map f xs) (flat_map g xs)
each_turned f g [] h = nothing_turned
each_turned f g (x ∷ xs) h = turned_append (f x) (g x) (flat_map f xs) (flat_map g xs) (h x) (each_turned f g xs h)

-- a row where two things differ
unless_turned : (b c : Bool) → b ≡ c → (s : Sided) → AreTurned (if b then [] else sided_row s ∷ []) (if c then [] else turned_row s ∷ [])
unless_turned b c e s = subst (λ c. AreTurned (if b then [] else sided_row s ∷ []) (if c then [] else turned_row s ∷ [])) e (go b)
  where
    go : (b : Bool) → AreTurned (if b then [] else sided_row s ∷ []) (if b then [] else turned_row s ∷ [])
    go true = nothing_turned
    go false = (s ∷ [], refl, refl)

name_turned : (x y : List ℕ) → same_name x y ≡ same_name y x
name_turned = nat_list_eq_equiv.symm

-- ---- bridges that are in both networks
no_value : {A : Type 0} (o : Option A) → is_some o ≡ false → o ≡ None
no_value None e = refl
no_value (Some y) e = absurd (true≢false e)

names_rise : (net : Net) → Apart (λ a b. name_cmp a b ≡ Less) (bridge_names net)
names_rise net = apart_mapped (λ (e f : List ℕ × BridgeRow). name_cmp e.0 f.0 ≡ Less) (λ a b. name_cmp a b ≡ Less) (λ (e : List ℕ × BridgeRow). e.0) (λ e f l. l) (fin.entries net.bridges) (bridges_rise net)

absent : (net : Net) (name : List ℕ) → list_any (eq_by_cmp name_cmp name) (bridge_names net) ≡ false → fin.get net.bridges name ≡ None
absent net name e = no_value (fin.get net.bridges name) (contains_key-keys net.bridges name ∙ e)

-- what is kept of bridges of both is kept of those of either
kept_of_both : {A : Type 0} (a b : Net) (g : List ℕ → Option A) → ((name : List ℕ) → fin.get a.bridges name ≡ None → g name ≡ None) → ((name : List ℕ) → fin.get b.bridges name ≡ None → g name ≡ None)
    → filter_map g (bridge_names a) ≡ filter_map g (bridge_names b)
kept_of_both a b g left right =
    sym (kept_left names.total names.same (bridge_names a) (bridge_names b) g (names_rise a) (λ name e. left name (absent a name e)))
    ∙ kept_right names.total names.same (bridge_names a) (bridge_names b) g (names_rise b) (λ name e. right name (absent b name e))

-- ---- regions
told_turned : (x y : BridgeRow) → same_told x y ≡ same_told y x
told_turned x y = go x.is_rstp y.is_rstp
  where
    go : (p q : Bool) → (if p then q else not q && same_name x.conf_name y.conf_name && x.revision == y.revision) ≡ (if q then p else not p && same_name y.conf_name x.conf_name && y.revision == x.revision)
    go true true = refl
    go true false = refl
    go false true = refl
    go false false = λ i. name_turned x.conf_name y.conf_name i && nat_eq_equiv.symm x.revision y.revision i

region_turned : (name : List ℕ) (x : BridgeRow) (first : List ℕ) (y : BridgeRow) (other : List ℕ) → AreTurned (region_unless name x first y other) (region_unless name y other x first)
region_turned name x first y other =
    unless_turned (same_told x y && same_name first other) (same_told y x && same_name other first) (λ i. told_turned x y i && name_turned first other i)
    (record { kind = kind.Change change_line.Region; head = cells.word name ∷ []; old = cells.object (region (configuration x) first); new = cells.object (region (configuration y) other) })

none_then : {A B : Type 0} (f : A → Option B) → ((x : A) → f x ≡ None) → (o : Option A) → option_and_then f o ≡ None
none_then f none None = refl
none_then f none (Some x) = none x

given : {A B : Type 0} (f : A → List B) (o : Option A) → option_map_or (λ t. t) (option_map f o) [] ≡ option_map_or f o []
given f None = refl
given f (Some x) = refl

-- both orders of the networks
module _ (a b : Net) where
  -- the rows of a bridge, if both have it
  abbrev told_at : List ℕ → Option (List Row)
  told_at name = option_and_then (λ x. option_map (λ y. region_unless name x (first_of_region a name) y (first_of_region b name)) (fin.get b.bridges name)) (fin.get a.bridges name)

  regions_at : flat_map (λ name. option_map_or (λ t. t) (told_at name) []) (bridge_names a) ≡ region_changes a b
  regions_at =
      flat_map-map (λ name. option_map_or (λ t. t) (told_at name) []) (λ (e : List ℕ × BridgeRow). e.0) (fin.entries a.bridges)
      ∙ flat_map-same (λ (e : List ℕ × BridgeRow). option_map_or (λ t. t) (told_at e.0) []) (region_change a b) (fin.entries a.bridges)
      (all_weaker _ _ (λ (e : List ℕ × BridgeRow) found.
      ap (λ r. option_map_or (λ t. t) (option_and_then (λ x. option_map (λ y. region_unless e.0 x (first_of_region a e.0) y (first_of_region b e.0)) (fin.get b.bridges e.0)) r) []) found
      ∙ given (λ y. region_unless e.0 e.1 (first_of_region a e.0) y (first_of_region b e.0)) (fin.get b.bridges e.0))
      (fin.entries a.bridges) (entries_found names.total a.bridges))

  no_left : (name : List ℕ) → fin.get a.bridges name ≡ None → told_at name ≡ None
  no_left name e = ap (option_and_then (λ x. option_map (λ y. region_unless name x (first_of_region a name) y (first_of_region b name)) (fin.get b.bridges name))) e

  no_right : (name : List ℕ) → fin.get b.bridges name ≡ None → told_at name ≡ None
  no_right name e = ap (λ r. option_and_then (λ x. option_map (λ y. region_unless name x (first_of_region a name) y (first_of_region b name)) r) (fin.get a.bridges name)) e
      ∙ none_then (λ x. option_map (λ y. region_unless name x (first_of_region a name) y (first_of_region b name)) None) (λ x. refl) (fin.get a.bridges name)

  -- of the bridges of the new network as of the old one
  regions_by_new : flat_map (λ name. option_map_or (λ t. t) (told_at name) []) (bridge_names b) ≡ region_changes a b
  regions_by_new =
      sym (flat_map-filter_map (λ t. t) told_at (bridge_names b)) ∙ ap (flat_map (λ t. t)) (sym (kept_of_both a b told_at no_left no_right))
      ∙ flat_map-filter_map (λ t. t) told_at (bridge_names a) ∙ regions_at

pub regions_turned : (a b : Net) → AreTurned (region_changes a b) (region_changes b a)
regions_turned a b =
    subst (λ rows. AreTurned rows (region_changes b a)) (regions_by_new a b)
    (subst (AreTurned (flat_map (λ name. option_map_or (λ t. t) (told_at a b name) []) (bridge_names b))) (regions_at b a)
    (each_turned (λ name. option_map_or (λ t. t) (told_at a b name) []) (λ name. option_map_or (λ t. t) (told_at b a name) []) (bridge_names b) (λ name. go name (fin.get a.bridges name) (fin.get b.bridges name))))
  where
    go : (name : List ℕ) (x y : Option BridgeRow)
        → AreTurned (option_map_or (λ t. t) (option_and_then (λ x. option_map (λ y. region_unless name x (first_of_region a name) y (first_of_region b name)) y) x) [])
        (option_map_or (λ t. t) (option_and_then (λ y. option_map (λ x. region_unless name y (first_of_region b name) x (first_of_region a name)) x) y) [])
    go name None None = nothing_turned
    go name None (Some y) = nothing_turned
    go name (Some x) None = nothing_turned
    go name (Some x) (Some y) = region_turned name x (first_of_region a name) y (first_of_region b name)

-- ---- roots
abbrev pair_turned : RootPair → RootPair
pair_turned p = record { old = p.new; new = p.old }

paired_turned : (old new : Option (List ℕ)) → paired new old ≡ option_map pair_turned (paired old new)
paired_turned None None = refl
paired_turned None (Some y) = refl
paired_turned (Some x) None = refl
paired_turned (Some x) (Some y) = refl

unpaired : (old : Option (List ℕ)) → paired old None ≡ None
unpaired None = refl
unpaired (Some x) = refl

kept_changed : {A B C : Type 0} (f : B → C) (h : A → Option B) (xs : List A) → filter_map (λ x. option_map f (h x)) xs ≡ map f (filter_map h xs)
kept_changed f h [] = refl
kept_changed {A} {B} {C} f h (x ∷ xs) = go (h x) (kept_changed f h xs)
  where
    go : (o : Option B) → filter_map (λ x. option_map f (h x)) xs ≡ map f (filter_map h xs) → cons_option (option_map f o) (filter_map (λ x. option_map f (h x)) xs) ≡ map f (cons_option o (filter_map h xs))
    go None rest = rest
    go (Some y) rest = ap (λ l. f y ∷ l) rest

-- pairs that are turned are kept once as they were
new_turned : (kept : List RootPair) (x : RootPair) → with_new same_pair (map pair_turned kept) (pair_turned x) ≡ map pair_turned (with_new same_pair kept x)
new_turned kept x = ap (λ b. if b then map pair_turned kept else map pair_turned kept ++ pair_turned x ∷ []) among ∙ go (list_any (λ y. same_pair y x) kept)
  where
    among : list_any (λ y. same_pair y (pair_turned x)) (map pair_turned kept) ≡ list_any (λ y. same_pair y x) kept
    among = list_any-map (λ y. same_pair y (pair_turned x)) pair_turned kept ∙ (λ i. list_any (λ y. and_comm (same_name y.new x.new) (same_name y.old x.old) i) kept)

    go : (b : Bool) → (if b then map pair_turned kept else map pair_turned kept ++ pair_turned x ∷ []) ≡ map pair_turned (if b then kept else kept ++ x ∷ [])
    go true = refl
    go false = sym (map-append pair_turned kept (x ∷ []))

once_turned : (xs kept : List RootPair) → fold (with_new same_pair) (map pair_turned kept) (map pair_turned xs) ≡ map pair_turned (fold (with_new same_pair) kept xs)
once_turned [] kept = refl
once_turned (x ∷ xs) kept = ap (λ ks. fold (with_new same_pair) ks (map pair_turned xs)) (new_turned kept x) ∙ once_turned xs (with_new same_pair kept x)

root_turned : (tree : ℕ) (pair : RootPair) → AreTurned (root_unless tree pair) (root_unless tree (pair_turned pair))
root_turned tree pair =
    unless_turned (same_name pair.old pair.new) (same_name pair.new pair.old) (name_turned pair.old pair.new) (record { kind = kind.Change change_line.Root; head = cells.number tree ∷ []; old = cells.word pair.old; new = cells.word pair.new })

module _ (a b : Net) (o p : Outcome) where
  pairs_turned : (tree : ℕ) → filter_map (root_pair b p a o tree) (bridge_names b) ≡ map pair_turned (filter_map (root_pair a o b p tree) (bridge_names a))
  pairs_turned tree =
      (λ i. filter_map (λ name. paired_turned (root_name a o tree name) (root_name b p tree name) i) (bridge_names b))
      ∙ kept_changed pair_turned (root_pair a o b p tree) (bridge_names b)
      ∙ ap (map pair_turned) (sym (kept_of_both a b (root_pair a o b p tree)
      (λ name e. ap (λ old. paired old (root_name b p tree name)) (no_root a o tree name e))
      (λ name e. ap (paired (root_name a o tree name)) (no_root b p tree name e) ∙ unpaired (root_name a o tree name))))

  tree_turned : (tree : ℕ) → AreTurned (tree_roots a o b p tree) (tree_roots b p a o tree)
  tree_turned tree =
      let pairs : List RootPair = filter_map (root_pair a o b p tree) (bridge_names a) in
      let kept : List RootPair = each_once same_pair pairs in
      subst (AreTurned (flat_map (root_unless tree) kept))
      (sym (flat_map-map (root_unless tree) pair_turned kept) ∙ ap (flat_map (root_unless tree)) (sym (once_turned pairs []) ∙ ap (each_once same_pair) (sym (pairs_turned tree))))
      (each_turned (root_unless tree) (λ pair. root_unless tree (pair_turned pair)) kept (root_turned tree))

  pub roots_turned : AreTurned (root_changes a o b p) (root_changes b p a o)
  roots_turned = each_turned (tree_roots a o b p) (tree_roots b p a o) all_trees tree_turned

-- ---- ports
pub tied : (o : Ordering) → is_eq o ≡ true → o ≡ Equal
tied Less e = absurd (true≢false (sym e))
tied Equal e = refl
tied Greater e = absurd (true≢false (sym e))

-- the names of either list, whichever of them comes first
module _ {K : Type 0} {R : K → K → Ordering} (total : IsTotalOrder R) (same : IsAntisymmetric R) where
  abbrev twice : List K → List (K × K)
  twice ks = map (λ k. (k, k)) ks

  pub found_twice : (q : K) (ks : List K) → find R q (twice ks) ≡ cond (list_any (eq_by_cmp R q) ks) (Some q) None
  found_twice q [] = refl
  found_twice q (k ∷ ks) = go (eq_by_cmp R q k) refl (found_twice q ks)
    where
      go : (b : Bool) → eq_by_cmp R q k ≡ b → find R q (twice ks) ≡ cond (list_any (eq_by_cmp R q) ks) (Some q) None
          → cond b (Some k) (find R q (twice ks)) ≡ cond (b || list_any (eq_by_cmp R q) ks) (Some q) None
      go true e rest = ap Some (sym (same q k (tied (R q k) e)))
      go false e rest = rest

  either_turned : (xs ys : List K) → names_of_either R xs ys ≡ names_of_either R ys xs
  either_turned xs ys = ap fin.keys (same_map total same (from_entries {R = R} (twice (xs ++ ys))) (from_entries {R = R} (twice (ys ++ xs))) found)
    where
      found : (q : K) → fin.get (from_entries {R = R} (twice (xs ++ ys))) q ≡ fin.get (from_entries {R = R} (twice (ys ++ xs))) q
      found q =
          get-from_entries total (twice (xs ++ ys)) q ∙ found_twice q (xs ++ ys)
          ∙ ap (λ b. cond b (Some q) None)
          (list_any-append (eq_by_cmp R q) xs ys ∙ or_comm (list_any (eq_by_cmp R q) xs) (list_any (eq_by_cmp R q) ys) ∙ sym (list_any-append (eq_by_cmp R q) ys xs))
          ∙ sym (get-from_entries total (twice (ys ++ xs)) q ∙ found_twice q (ys ++ xs))

role_turned : (r s : Option Role) → same_side (option_map HasRole r) (option_map HasRole s) ≡ same_side (option_map HasRole s) (option_map HasRole r)
role_turned None None = refl
role_turned None (Some s) = refl
role_turned (Some r) None = refl
role_turned (Some r) (Some s) = nat_eq_equiv.symm (role_number r) (role_number s)

port_turned : (tree : ℕ) (name : PortName) (r s : Option Role)
    → AreTurned (change_rows (port_in tree name) (option_map HasRole r) (option_map HasRole s)) (change_rows (port_in tree name) (option_map HasRole s) (option_map HasRole r))
port_turned tree name r s =
    unless_turned (same_side (option_map HasRole r) (option_map HasRole s)) (same_side (option_map HasRole s) (option_map HasRole r)) (role_turned r s)
    (record { kind = kind.Change change_line.Port; head = cells.number tree ∷ cells.word name.bridge ∷ cells.number name.number ∷ []; old = role_cell (option_map HasRole r); new = role_cell (option_map HasRole s) })

module _ (a b : Net) (o p : Outcome) where
  changes_turned : (tree : ℕ) → AreTurned (port_change_rows a o b p tree) (port_change_rows b p a o tree)
  changes_turned tree =
      let either : List PortName = names_of_either port_cmp (port_names a) (port_names b) in
      subst (λ rows. AreTurned rows (port_change_rows b p a o tree)) (sym (flat_map-map (λ place. change_rows place (value_at a o place) (value_at b p place)) (port_in tree) either))
      (subst (AreTurned (flat_map (λ name. change_rows (port_in tree name) (value_at a o (port_in tree name)) (value_at b p (port_in tree name))) either))
      (sym (flat_map-map (λ place. change_rows place (value_at b p place) (value_at a o place)) (port_in tree) either)
      ∙ ap (λ names. flat_map (λ place. change_rows place (value_at b p place) (value_at a o place)) (map (port_in tree) names)) (either_turned ports.total ports.same (port_names a) (port_names b)))
      (each_turned (λ name. change_rows (port_in tree name) (value_at a o (port_in tree name)) (value_at b p (port_in tree name))) (λ name. change_rows (port_in tree name) (value_at b p (port_in tree name)) (value_at a o (port_in tree name)))
      either (λ name. port_turned tree name (role_of a o tree name) (role_of b p tree name))))

  pub ports_turned : AreTurned (port_rows a o b p) (port_rows b p a o)
  ports_turned = each_turned (port_change_rows a o b p) (port_change_rows b p a o) all_trees changes_turned

-- ---- islands
pub any_turned : (s : Sides) → differ (turned_sides s) ≡ differ s
any_turned s = or_comm (has_any s.new) (has_any s.old)

module _ (a b : Net) (o p : Outcome) (one : OneList) where
  pub sides_turned : (vid : ℕ) (sides others : Sides) → AreSides a o b p vid sides → AreSides b p a o vid others → others ≡ turned_sides sides
  sides_turned vid sides others s t =
      t.4 ∙ (λ i. sides_of (island_bridges (one b p vid t.0 s.1 t.2 s.3 i)) (island_bridges (one a o vid t.1 s.0 t.3 s.2 i))) ∙ ap turned_sides (sym s.4)

  module _ (rows others : List Row) (c d : ℕ) (x : AreReachRows a o b p rows c) (y : AreReachRows b p a o others d) where
    vid_turned : (vid : ℕ) → Contains all_vids vid → differ (x.sides vid) ≡ differ (y.sides vid)
    vid_turned vid h =
        let v = is_vid_there vid h in
        sym (ap differ (sides_turned vid (x.sides vid) (y.sides vid) (x.are_sides vid v) (y.are_sides vid v)) ∙ any_turned (x.sides vid))

    vids_turned : c ≡ d
    vids_turned = x.counted ∙ each_count (λ vid. differ (x.sides vid)) (λ vid. differ (y.sides vid)) all_vids vid_turned ∙ sym y.counted

  -- the numbers of both
  pub counts_turned : (c d : Differing) (rows other : List Row) → AreDiffRowsOf a o b p c rows → AreDiffRowsOf b p a o d other → c ≡ d
  counts_turned c d rows other x y = λ i. record {
    regions = (x.regions ∙ rows_turned (region_changes a b) (region_changes b a) (regions_turned a b) ∙ sym y.regions) i;
    roots = (x.roots ∙ rows_turned (root_changes a o b p) (root_changes b p a o) (roots_turned a b o p) ∙ sym y.roots) i;
    ports = (x.ports ∙ ap (λ n. min n 18446744073709551615) (rows_turned (port_rows a o b p) (port_rows b p a o) (ports_turned a b o p)) ∙ sym y.ports) i;
    vlans = vids_turned x.reach y.reach c.vlans d.vlans x.is_reach y.is_reach i;
  }

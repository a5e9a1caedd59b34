-- The entries of a network are those of the subjects of either network.
use Rattle.std.proofs.Common.{◌≡◌, ℕ, ◌==◌, Bool, true, false, cond, ◌||◌, List, [], ◌∷◌, ◌++◌, map, Option, Some, None, is_some, refl, sym, ap, ◌∙◌, true≢false, Less}
use Rattle.std.specs.Prelude.{if◌then◌else◌}
use Rattle.std.specs.List.{list_any, filter_map, flat_map, find}
use Rattle.std.specs.Option.{option_map, option_map_or, option_and_then}
use Rattle.std.specs.Ordering.{eq_by_cmp}
use Rattle.std.specs.FinMap as fin
use Rattle.std.specs.FinMap.{contains_key-keys}
use Rattle.std.proofs.lemmas.List.Elements.{filter_map-append}
use Rattle.mst_ids.specs.Names.{name_cmp, port_cmp}
use Rattle.mst_ids.specs.declared.name.PortName.{PortName}
use Rattle.mst_tables.specs.Tables.{Net, BridgeRow, port_eq}
use Rattle.mst_tables.proofs.Keyed.{flipped}
use Rattle.mst_tables.proofs.Keys.{names, ports}
use Rattle.mst_view.specs.Trees.{mstis_of, is_among}
use Rattle.mst_view.specs.View.{LogicalPort, view_ports, bridge_names, port_names}
use Rattle.mst_roles.specs.forest.Apart.{Apart}
use Rattle.mst_roles.specs.forest.Msti.{has_msti}
use Rattle.mst_roles.specs.forest.Outcome.{Outcome}
use Rattle.mst_roles.proofs.forest_lemmas.Lists.{apart_mapped}
use Rattle.mst_roles.proofs.forest_lemmas.Views.{bridges_rise, ports_rise}
use Rattle.mst_roles.specs.Roles.{role_in}
use Rattle.mst_changes.specs.declared.subject.Item.TheVariants.{Bridge, Port}
use Rattle.mst_changes.specs.declared.subject.Subject.{Subject}
use Rattle.mst_changes.specs.declared.value.VectorOrRole.{VectorOrRole}
use Rattle.mst_changes.specs.declared.value.VectorOrRole.TheVariants.{InCist, InMsti, HasRole}
use Rattle.mst_changes.specs.declared.subject.Entry.{Entry}
use Rattle.mst_roles.specs.forest.AllTrees.{all_trees}
use Rattle.mst_changes.specs.Subjects.{bridge_in, port_in, subjects_in, subjects, names_of_either, subjects_of, subjects_of_either}
use Rattle.mst_changes.specs.Values.{value_at}
use Rattle.mst_changes.specs.Kept.{entry_at, entries_at}
use Rattle.mst_changes.specs.Merging.{Rise}
use Rattle.mst_changes.specs.TreeChanges.{either_in}
use Rattle.mst_changes.proofs.Lists.{filter_map-flat_map}
use Rattle.mst_roles.proofs.forest_lemmas.Pieces.{filter_map-map}
use Rattle.mst_changes.proofs.Orders.{subjects_rise, tree_rises}
use Rattle.mst_changes.proofs.Names.{either_rise, kept_left, kept_right}

abbrev pub NamesRise : List (List ℕ) → Type 0
NamesRise = Apart (λ a b. name_cmp a b ≡ Less)

abbrev pub PortsRise : List PortName → Type 0
PortsRise = Apart (λ p q. port_cmp p q ≡ Less)

names_rise : (net : Net) → NamesRise (bridge_names net)
names_rise net = apart_mapped (λ (e f : List ℕ × BridgeRow). name_cmp e.0 f.0 ≡ Less) (λ a b. name_cmp a b ≡ Less) (λ (e : List ℕ × BridgeRow). e.0) (λ e f l. l) (fin.entries net.bridges) (bridges_rise net)

port_names_rise : (net : Net) → PortsRise (port_names net)
port_names_rise net = apart_mapped (λ (p q : LogicalPort). port_cmp p.name q.name ≡ Less) (λ p q. port_cmp p q ≡ Less) (λ (p : LogicalPort). p.name) (λ p q l. l) (view_ports net) (ports_rise net)

pub either_subjects_rise : (a b : Net) → Rise (subjects_of_either a b)
either_subjects_rise a b =
    subjects_rise (names_of_either name_cmp (bridge_names a) (bridge_names b)) (names_of_either port_cmp (port_names a) (port_names b))
    (either_rise names.total names.same (bridge_names a) (bridge_names b)) (either_rise ports.total ports.same (port_names a) (port_names b))

pub either_in_rise : (a b : Net) (tree : ℕ) → Rise (either_in a b tree)
either_in_rise a b tree =
    tree_rises (names_of_either name_cmp (bridge_names a) (bridge_names b)) (names_of_either port_cmp (port_names a) (port_names b))
    (either_rise names.total names.same (bridge_names a) (bridge_names b)) (either_rise ports.total ports.same (port_names a) (port_names b)) tree

pub either_ports_rise : (a b : Net) (tree : ℕ) → Rise (map (port_in tree) (names_of_either port_cmp (port_names a) (port_names b)))
either_ports_rise a b tree =
    tree_rises [] (names_of_either port_cmp (port_names a) (port_names b)) tt (either_rise ports.total ports.same (port_names a) (port_names b)) tree

-- ---- the entries of a tree, in two parts
module _ (x : Subject → Option VectorOrRole) where
  abbrev pub bridge_at : ℕ → List ℕ → Option Entry
  bridge_at tree name = entry_at x (bridge_in tree name)

  abbrev pub port_at : ℕ → PortName → Option Entry
  port_at tree name = entry_at x (port_in tree name)

  pub entries_in : (bs : List (List ℕ)) (ps : List PortName) (tree : ℕ) → entries_at x (subjects_in bs ps tree) ≡ filter_map (bridge_at tree) bs ++ filter_map (port_at tree) ps
  entries_in bs ps tree =
      filter_map-append (entry_at x) (map (bridge_in tree) bs) (map (port_in tree) ps)
      ∙ (λ i. filter_map-map (entry_at x) (bridge_in tree) bs i ++ filter_map-map (entry_at x) (port_in tree) ps i)

  pub entries_in_trees : (bs : List (List ℕ)) (ps : List PortName) → entries_at x (subjects bs ps) ≡ flat_map (λ tree. entries_at x (subjects_in bs ps tree)) all_trees
  entries_in_trees bs ps = filter_map-flat_map (entry_at x) (subjects_in bs ps) all_trees

  same_in : (bs cs : List (List ℕ)) (ps qs : List PortName) (tree : ℕ) → filter_map (bridge_at tree) bs ≡ filter_map (bridge_at tree) cs → filter_map (port_at tree) ps ≡ filter_map (port_at tree) qs
      → entries_at x (subjects_in bs ps tree) ≡ entries_at x (subjects_in cs qs tree)
  same_in bs cs ps qs tree f g = entries_in bs ps tree ∙ (λ k. f k ++ g k) ∙ sym (entries_in cs qs tree)

  same_entries : (bs cs : List (List ℕ)) (ps qs : List PortName) → ((tree : ℕ) → filter_map (bridge_at tree) bs ≡ filter_map (bridge_at tree) cs) → ((tree : ℕ) → filter_map (port_at tree) ps ≡ filter_map (port_at tree) qs)
      → entries_at x (subjects bs ps) ≡ entries_at x (subjects cs qs)
  same_entries bs cs ps qs f g =
      entries_in_trees bs ps
      ∙ (λ i. flat_map (λ tree. same_in bs cs ps qs tree (f tree) (g tree) i) all_trees)
      ∙ sym (entries_in_trees cs qs)

-- ---- what isn't in a network has no entry
no_value : {A : Type 0} (o : Option A) → is_some o ≡ false → o ≡ None
no_value None e = refl
no_value (Some y) e = absurd (true≢false e)

module _ (net : Net) (o : Outcome) where
  absent : (name : List ℕ) → list_any (eq_by_cmp name_cmp name) (bridge_names net) ≡ false → fin.contains_key net.bridges name ≡ false
  absent name e = contains_key-keys net.bridges name ∙ e

  no_msti : (tree : ℕ) (name : List ℕ) → fin.contains_key net.bridges name ≡ false → has_msti net tree name ≡ false
  no_msti tree name e = ap (λ r. option_map_or (λ row. is_among (mstis_of net name row) tree) r false) (no_value (fin.get net.bridges name) e)

  no_bridge : (tree : ℕ) (name : List ℕ) → list_any (eq_by_cmp name_cmp name) (bridge_names net) ≡ false → bridge_at (value_at net o) tree name ≡ None
  no_bridge tree name e = ap (option_map (λ value. record { tree = tree; item = Bridge name; value = value })) (go (tree == 0))
    where
      go : (b : Bool) → (if b then (if fin.contains_key net.bridges name then option_map InCist (o.cist.vector name) else None) else (if has_msti net tree name then option_map InMsti ((o.msti tree).vector name) else None)) ≡ None
      go true = ap (λ (t : Bool). if t then option_map InCist (o.cist.vector name) else None) (absent name e)
      go false = ap (λ (t : Bool). if t then option_map InMsti ((o.msti tree).vector name) else None) (no_msti tree name (absent name e))

  not_found : (name : PortName) (qs : List LogicalPort) → list_any (eq_by_cmp port_cmp name) (map (λ p. p.name) qs) ≡ false → find (λ p. port_eq p.name name) qs ≡ None
  not_found name [] e = refl
  not_found name (q ∷ qs) e = ap (λ b. cond b (Some q) (find (λ p. port_eq p.name name) qs)) (sym (flipped ports name q.name)) ∙ go (eq_by_cmp port_cmp name q.name) e (not_found name qs)
    where
      go : (b : Bool) → (b || list_any (eq_by_cmp port_cmp name) (map (λ p. p.name) qs)) ≡ false
          → (list_any (eq_by_cmp port_cmp name) (map (λ p. p.name) qs) ≡ false → find (λ p. port_eq p.name name) qs ≡ None) → cond b (Some q) (find (λ p. port_eq p.name name) qs) ≡ None
      go true f rest = absurd (true≢false f)
      go false f rest = rest f

  no_port : (tree : ℕ) (name : PortName) → list_any (eq_by_cmp port_cmp name) (port_names net) ≡ false → port_at (value_at net o) tree name ≡ None
  no_port tree name e =
      ap (λ (p : Option LogicalPort). option_map (λ value. record { tree = tree; item = Port name; value = value }) (option_map HasRole (option_and_then (role_in net o tree) p))) (not_found name (view_ports net) e)

  module _ (other : Net) where
    pub entries_left : entries_at (value_at net o) (subjects_of net) ≡ entries_at (value_at net o) (subjects_of_either net other)
    entries_left =
        sym (same_entries (value_at net o) (names_of_either name_cmp (bridge_names net) (bridge_names other)) (bridge_names net) (names_of_either port_cmp (port_names net) (port_names other)) (port_names net)
        (λ tree. kept_left names.total names.same (bridge_names net) (bridge_names other) (bridge_at (value_at net o) tree) (names_rise net) (no_bridge tree))
        (λ tree. kept_left ports.total ports.same (port_names net) (port_names other) (port_at (value_at net o) tree) (port_names_rise net) (no_port tree)))

    pub entries_right : entries_at (value_at net o) (subjects_of net) ≡ entries_at (value_at net o) (subjects_of_either other net)
    entries_right =
        sym (same_entries (value_at net o) (names_of_either name_cmp (bridge_names other) (bridge_names net)) (bridge_names net) (names_of_either port_cmp (port_names other) (port_names net)) (port_names net)
        (λ tree. kept_right names.total names.same (bridge_names other) (bridge_names net) (bridge_at (value_at net o) tree) (names_rise net) (no_bridge tree))
        (λ tree. kept_right ports.total ports.same (port_names other) (port_names net) (port_at (value_at net o) tree) (port_names_rise net) (no_port tree)))

    -- the entries of one tree
    pub tree_left : (tree : ℕ) → entries_at (value_at net o) (subjects_in (bridge_names net) (port_names net) tree) ≡ entries_at (value_at net o) (either_in net other tree)
    tree_left tree =
        sym (same_in (value_at net o) (names_of_either name_cmp (bridge_names net) (bridge_names other)) (bridge_names net) (names_of_either port_cmp (port_names net) (port_names other)) (port_names net) tree
        (kept_left names.total names.same (bridge_names net) (bridge_names other) (bridge_at (value_at net o) tree) (names_rise net) (no_bridge tree))
        (kept_left ports.total ports.same (port_names net) (port_names other) (port_at (value_at net o) tree) (port_names_rise net) (no_port tree)))

    pub tree_right : (tree : ℕ) → entries_at (value_at net o) (subjects_in (bridge_names net) (port_names net) tree) ≡ entries_at (value_at net o) (either_in other net tree)
    tree_right tree =
        sym (same_in (value_at net o) (names_of_either name_cmp (bridge_names other) (bridge_names net)) (bridge_names net) (names_of_either port_cmp (port_names other) (port_names net)) (port_names net) tree
        (kept_right names.total names.same (bridge_names other) (bridge_names net) (bridge_at (value_at net o) tree) (names_rise net) (no_bridge tree))
        (kept_right ports.total ports.same (port_names other) (port_names net) (port_at (value_at net o) tree) (port_names_rise net) (no_port tree)))

    -- the entries of ports in one tree
    pub ports_left : (tree : ℕ) → filter_map (port_at (value_at net o) tree) (port_names net) ≡ entries_at (value_at net o) (map (port_in tree) (names_of_either port_cmp (port_names net) (port_names other)))
    ports_left tree =
        sym (filter_map-map (entry_at (value_at net o)) (port_in tree) (names_of_either port_cmp (port_names net) (port_names other))
        ∙ kept_left ports.total ports.same (port_names net) (port_names other) (port_at (value_at net o) tree) (port_names_rise net) (no_port tree))

    pub ports_right : (tree : ℕ) → filter_map (port_at (value_at net o) tree) (port_names net) ≡ entries_at (value_at net o) (map (port_in tree) (names_of_either port_cmp (port_names other) (port_names net)))
    ports_right tree =
        sym (filter_map-map (entry_at (value_at net o)) (port_in tree) (names_of_either port_cmp (port_names other) (port_names net))
        ∙ kept_right ports.total ports.same (port_names other) (port_names net) (port_at (value_at net o) tree) (port_names_rise net) (no_port tree))

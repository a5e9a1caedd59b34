-- The entries of a view are those of its network.
use Rattle.std.proofs.Common.{◌≡◌, ℕ, zero, suc, ◌+◌, ◌<◌, ◌==◌, Bool, true, false, List, [], ◌∷◌, ◌++◌, length, map, take, get_or, Option, Some, None, refl, sym, ap, ◌∙◌, append_assoc, is_some, arith}
use Rattle.std.specs.Prelude.{if◌then◌else◌}
use Rattle.std.specs.List.{Contains, zip, filter_map, flat_map, range_with_len, cons_option}
use Rattle.std.specs.Option.{option_map, option_and_then}
use Rattle.std.specs.FinMap as fin
use Rattle.std.proofs.lemmas.List.{take_more, flat_map_more}
use Rattle.std.proofs.lemmas.List.Elements.{filter_map-append}
use Rattle.mst_ids.specs.declared.name.PortName.{PortName}
use Rattle.mst_roles.specs.forest.outcome.Assignment.{vector_of}
use Rattle.mst_tables.specs.Tables.{Net, Numbers, BridgeRow}
use Rattle.mst_view.specs.Trees.{is_among}
use Rattle.mst_view.specs.View.{LogicalPort, view_ports, bridge_names, port_names}
use Rattle.mst_view.specs.Viewed.{Viewed, named_bridge, named_port}
use Rattle.mst_view.specs.declared.in_view.BridgeInView.{BridgeInView}
use Rattle.mst_view.specs.declared.in_view.PortInView.{PortInView}
use Rattle.mst_roles.specs.forest.Agrees.{AreOf}
use Rattle.mst_roles.specs.forest.Forest.{Forest, IsForest, msti_vector}
use Rattle.mst_roles.specs.forest.InUse.{is_in_use}
use Rattle.mst_roles.specs.forest.Msti.{has_msti}
use Rattle.mst_roles.specs.forest.Seen.{trees_at}
use Rattle.mst_roles.proofs.forest_lemmas.Lists.{kept_same, all_there}
use Rattle.mst_roles.proofs.forest_lemmas.Entries.{all_weaker}
use Rattle.mst_roles.proofs.forest_lemmas.Seen.{SeenBridge, bridges_seen}
use Rattle.mst_roles.proofs.forest_lemmas.Looking.{has_tree_at}
use Rattle.mst_roles.specs.Roles.{role_of, role_in, cist_role, msti_role}
use Rattle.mst_roles.specs.SeenRoles.{seen_role}
use Rattle.mst_roles.specs.declared.kind.Role.{Role}
use Rattle.mst_roles.proofs.Named.{own_role}
use Rattle.mst_changes.specs.declared.subject.Item.TheVariants.{Bridge, Port}
use Rattle.mst_changes.specs.declared.subject.Subject.{Subject}
use Rattle.mst_changes.specs.declared.value.VectorOrRole.{VectorOrRole}
use Rattle.mst_changes.specs.declared.value.VectorOrRole.TheVariants.{InCist, InMsti, HasRole}
use Rattle.mst_changes.specs.declared.subject.Entry.{Entry}
use Rattle.mst_roles.specs.forest.AllTrees.{all_trees}
use Rattle.mst_changes.specs.Subjects.{port_in, subjects_in}
use Rattle.mst_changes.specs.Values.{vector_in, value_at}
use Rattle.mst_changes.specs.Kept.{entries_at}
use Rattle.mst_changes.specs.Seen.{seen_vector, seen_bridge_entry, seen_port_entry}
use Rattle.mst_changes.specs.Stored.{bridge_entry, port_entry, kept_in}
use Rattle.mst_changes.specs.declared.kept.TreeEntries.{TreeEntries}
use Rattle.mst_roles.proofs.forest_lemmas.Pieces.{filter_map-map}
use Rattle.mst_changes.proofs.Lists.{filter_map-zip}
use Rattle.mst_changes.proofs.Changed.{bridge_at, port_at, entries_in}
use Rattle.mst_roles.proofs.forest_lemmas.AllTrees.{trees_are}
use Rattle.mst_roles.proofs.forest_lemmas.NotInUse.{unused}

-- what is kept of one more
pub kept_more : {A B : Type 0} (h : A → Option B) (xs : List A) (i : ℕ) (x : A) → i < length xs → x ≡ get_or xs i x → (before now : List B) → now ≡ before ++ filter_map h (take i xs)
    → now ++ cons_option (h x) [] ≡ before ++ filter_map h (take (i + 1) xs)
kept_more h xs i x below here before now e =
    ap (λ l. l ++ cons_option (h x) []) e ∙ append_assoc before (filter_map h (take i xs)) (cons_option (h x) [])
    ∙ ap (λ l. before ++ l) (sym (ap (filter_map h) (take_more xs i x below ∙ ap (λ y. take i xs ++ y ∷ []) (sym here)) ∙ filter_map-append h (take i xs) (x ∷ [])))

kept_none : {A B : Type 0} (h : A → Option B) → ((x : A) → h x ≡ None) → (xs : List A) → filter_map h xs ≡ []
kept_none h none [] = refl
kept_none h none (x ∷ xs) = ap (λ o. cons_option o (filter_map h xs)) (none x) ∙ kept_none h none xs

module _ (net : Net) (numbers : Numbers) (v : Viewed) (f : Forest) (of : AreOf net numbers v f.regions) (is : IsForest net numbers f) (tree : ℕ) where
  abbrev x : Subject → Option VectorOrRole
  x = value_at net is.outcome

  vector_same : (b : BridgeInView) → SeenBridge net numbers b → seen_vector v f tree b.bridge.number ≡ vector_in net is.outcome tree b.name
  vector_same b seen = go (tree == 0)
    where
      there : fin.contains_key net.bridges b.name ≡ true
      there = ap is_some seen.has_row

      go : (t : Bool) → (if t then option_map InCist (vector_of f.cist b.bridge.number) else (if is_among (trees_at v b.bridge.number) tree then option_map InMsti (msti_vector f tree b.bridge.number) else None))
          ≡ (if t then (if fin.contains_key net.bridges b.name then option_map InCist (is.outcome.cist.vector b.name) else None)
          else (if has_msti net tree b.name then option_map InMsti ((is.outcome.msti tree).vector b.name) else None))
      go true =
          ap (option_map InCist) (is.cist.vectors b.name b.bridge.number seen.has_number)
          ∙ sym (ap (λ (t : Bool). if t then option_map InCist (is.outcome.cist.vector b.name) else None) there)
      go false = λ i.
          if has_tree_at net numbers v f.regions of tree b.name b.bridge.number seen.has_number i then option_map InMsti ((is.mstis tree).vectors b.name b.bridge.number seen.has_number i) else None

  bridges_same : filter_map (seen_bridge_entry v f tree) v.bridges ≡ filter_map (bridge_at x tree) (bridge_names net)
  bridges_same =
      kept_same (seen_bridge_entry v f tree) (λ (b : BridgeInView). bridge_at x tree b.name) v.bridges
      (all_weaker (SeenBridge net numbers) _ (λ b seen. ap (option_map (λ value. record { tree = tree; item = Bridge b.name; value = value })) (vector_same b seen)) v.bridges (bridges_seen net numbers v of.view))
      ∙ sym (filter_map-map (λ (e : List ℕ × BridgeRow). bridge_at x tree e.0) named_bridge v.bridges)
      ∙ ap (filter_map (λ (e : List ℕ × BridgeRow). bridge_at x tree e.0)) of.view.bridges
      ∙ sym (filter_map-map (bridge_at x tree) (λ (e : List ℕ × BridgeRow). e.0) (fin.entries net.bridges))

  role_twice : (name : PortName) (r : Option Role) → option_map {U = Entry} (λ role. record { tree = tree; item = Port name; value = HasRole role }) r ≡ option_map {U = Entry} (λ value. record { tree = tree; item = Port name; value = value }) (option_map HasRole r)
  role_twice name None = refl
  role_twice name (Some r) = refl

  pub ports_same : filter_map (seen_port_entry v f tree) v.ports ≡ filter_map (port_at x tree) (port_names net)
  ports_same =
      kept_same (seen_port_entry v f tree) (λ (p : PortInView). port_at x tree p.name) v.ports
      (all_weaker (Contains v.ports) _ (λ p there.
      ap (option_map (λ role. record { tree = tree; item = Port p.name; value = HasRole role })) (own_role net numbers v f of is tree p there)
      ∙ role_twice p.name (role_of net is.outcome tree p.name)) v.ports (all_there v.ports))
      ∙ sym (filter_map-map (λ (p : LogicalPort). port_at x tree p.name) named_port v.ports)
      ∙ ap (filter_map (λ (p : LogicalPort). port_at x tree p.name)) of.view.ports
      ∙ sym (filter_map-map (port_at x tree) (λ (p : LogicalPort). p.name) (view_ports net))

  -- the entries of a tree
  pub tree_entries : filter_map (seen_bridge_entry v f tree) v.bridges ++ filter_map (seen_port_entry v f tree) v.ports ≡ entries_at x (subjects_in (bridge_names net) (port_names net) tree)
  tree_entries = (λ i. bridges_same i ++ ports_same i) ∙ sym (entries_in x (bridge_names net) (port_names net) tree)

  -- by what is kept of a tree
  pub kept_entries_are : (kept : TreeEntries) → kept.tree ≡ tree → kept.vectors.items ≡ map (λ (b : BridgeInView). seen_vector v f tree b.bridge.number) v.bridges → kept.roles.items ≡ map (seen_role v f tree) v.ports
      → kept_in (map (λ (b : BridgeInView). b.name) v.bridges) (map (λ (p : PortInView). p.name) v.ports) kept ≡ entries_at x (subjects_in (bridge_names net) (port_names net) tree)
  kept_entries_are kept same vectors roles =
      (λ i. filter_map (bridge_entry (same i)) (zip (map (λ (b : BridgeInView). b.name) v.bridges) (vectors i)) ++ filter_map (port_entry (same i)) (zip (map (λ (p : PortInView). p.name) v.ports) (roles i)))
      ∙ (λ i. filter_map-zip (bridge_entry tree) (λ (b : BridgeInView). b.name) (λ (b : BridgeInView). seen_vector v f tree b.bridge.number) v.bridges i
      ++ filter_map-zip (port_entry tree) (λ (p : PortInView). p.name) (seen_role v f tree) v.ports i)
      ∙ tree_entries

  -- a tree that isn't in use has none
  module _ (other : (tree == 0) ≡ false) (none : is_in_use v tree ≡ false) where
    no_tree : (name : List ℕ) → has_msti net tree name ≡ false
    no_tree = unused net numbers v f.regions of tree none

    no_vector : (name : List ℕ) → vector_in net is.outcome tree name ≡ None
    no_vector name =
        (λ i. if other i then (if fin.contains_key net.bridges name then option_map InCist (is.outcome.cist.vector name) else None)
        else (if no_tree name i then option_map InMsti ((is.outcome.msti tree).vector name) else None))

    no_role : (p : Option LogicalPort) → option_and_then (role_in net is.outcome tree) p ≡ None
    no_role None = refl
    no_role (Some p) = λ i. if other i then Some (cist_role net is.outcome p) else (if no_tree p.name.bridge i then Some (msti_role net is.outcome tree p) else None)

    pub no_value_there : (name : PortName) → x (port_in tree name) ≡ None
    no_value_there name = ap (λ (r : Option Role). option_map HasRole r) (no_role _)

    pub no_entries : entries_at x (subjects_in (bridge_names net) (port_names net) tree) ≡ []
    no_entries =
        entries_in x (bridge_names net) (port_names net) tree
        ∙ (λ i. kept_none (bridge_at x tree) (λ name. ap (option_map (λ value. record { tree = tree; item = Bridge name; value = value })) (no_vector name)) (bridge_names net) i
        ++ kept_none (port_at x tree) (λ name. ap (λ (r : Option Role). option_map (λ value. record { tree = tree; item = Port name; value = value }) (option_map HasRole r)) (no_role _)) (port_names net) i)

-- ---- tree after tree
range_up : (a n : ℕ) → range_with_len a (suc n) ≡ range_with_len a n ++ (a + n) ∷ []
range_up a zero = ap (λ m. m ∷ []) (let e : a ≡ a + 0 = omega arith in e)
range_up a (suc n) =
    let same : (a + 1) + n ≡ a + suc n = omega arith in
    ap (λ l. a ∷ l) (range_up (a + 1) n ∙ ap (λ m. range_with_len (a + 1) n ++ m ∷ []) same)

range_more : (n : ℕ) → range_with_len 0 (n + 1) ≡ range_with_len 0 n ++ n ∷ []
range_more n =
    let up : n + 1 ≡ suc n = omega arith in
    let same : 0 + n ≡ n = omega arith in
    ap (range_with_len 0) up ∙ range_up 0 n ∙ ap (λ m. range_with_len 0 n ++ m ∷ []) same

pub tree_more : {A : Type 0} (f : ℕ → List A) (n : ℕ) (now new : List A) → now ≡ flat_map f (range_with_len 0 n) → new ≡ now ++ f n → new ≡ flat_map f (range_with_len 0 (n + 1))
tree_more f n now new before after = after ∙ ap (λ l. l ++ f n) before ∙ flat_map_more f [] (range_with_len 0 n) n ∙ ap (flat_map f) (sym (range_more n))

-- after what was there before
pub more_after : {A : Type 0} (f : ℕ → List A) (n : ℕ) (before now new : List A) → now ≡ before ++ flat_map f (range_with_len 0 n) → new ≡ now ++ f n → new ≡ before ++ flat_map f (range_with_len 0 (n + 1))
more_after f n before now new e after = after ∙ ap (λ l. l ++ f n) e ∙ flat_map_more f before (range_with_len 0 n) n ∙ ap (λ r. before ++ flat_map f r) (sym (range_more n))

pub trees_done : {A : Type 0} (f : ℕ → List A) (n : ℕ) → n ≡ 4095 → flat_map f (range_with_len 0 n) ≡ flat_map f all_trees
trees_done f n e = ap (flat_map f) (ap (range_with_len 0) e ∙ trees_are)

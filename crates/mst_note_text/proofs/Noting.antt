-- The notes that are seen of a tree are its notes by names.
use Rattle.std.proofs.Common.{◌≡◌, ℕ, zero, suc, ◌+◌, ◌*◌, ◌%◌, ◌^◌, ◌<◌, ◌&&◌, Bool, true, nat_eq, List, [], ◌∷◌, ◌++◌, map, length, Option, Some, None, is_some, refl, sym, ap, subst, ◌∙◌, arith, append_assoc}
use Rattle.std.specs.Prelude.{if◌then◌else◌, slice_get}
use Rattle.std.specs.List.{Contains, flat_map}
use Rattle.std.specs.Option.{option_map, option_map_or, option_and_then}
use Rattle.std.specs.Map.{lookup}
use Rattle.std.specs.FinMap as fin
use Rattle.std.proofs.lemmas.Option.{get_or_from_slice_get}
use Rattle.mst_ids.specs.Identifiers.{bridge_id, mac_of}
use Rattle.mst_ids.specs.declared.name.PortName.{PortName}
use Rattle.mst_vector.specs.Cist.{cist_rules}
use Rattle.mst_vector.specs.Msti.{msti_rules}
use Rattle.mst_vector.specs.declared.cist.CistVector.{CistVector}
use Rattle.mst_vector.specs.declared.cist.CistBridge.{CistBridge}
use Rattle.mst_vector.specs.declared.msti.MstiVector.{MstiVector}
use Rattle.mst_vector.specs.declared.msti.MstiBridge.{MstiBridge}
use Rattle.mst_roles.specs.forest.outcome.Assignment.{vector_of}
use Rattle.mst_tables.specs.Tables.{Net, Numbers, BridgeRow}
use Rattle.mst_tables.specs.ByTree.{by_tree}
use Rattle.mst_tables.specs.Contents.{priority_of}
use Rattle.mst_tables.specs.Seen.{bridge_row}
use Rattle.mst_view.specs.Viewed.{Viewed, named_bridge}
use Rattle.mst_view.specs.declared.in_view.BridgeInView.{BridgeInView}
use Rattle.mst_view.proofs.Lists.{mapped_twice}
use Rattle.mst_roles.specs.forest.config.Regions.{region_of}
use Rattle.mst_roles.specs.forest.Cist.{cist_bridge, cist_sight}
use Rattle.mst_roles.specs.forest.Msti.{msti_bridge, msti_sight, has_msti}
use Rattle.mst_roles.specs.forest.Agrees.{AreOf}
use Rattle.mst_roles.specs.forest.Forest.{IsForest, msti_vector, Forest}
use Rattle.mst_roles.specs.forest.Outcome.{Outcome, trees_of}
use Rattle.mst_roles.proofs.forest_lemmas.Lists.{some_is, all_contained, all_there, kept_from}
use Rattle.mst_roles.proofs.forest_lemmas.Entries.{all_weaker}
use Rattle.mst_roles.proofs.forest_lemmas.Seen.{bridge_seen, bridge_there}
use Rattle.mst_roles.proofs.forest_lemmas.Sights.{bridge_from}
use Rattle.mst_roles.proofs.forest_lemmas.CistTopology.{given, cist_is_sight}
use Rattle.mst_roles.proofs.forest_lemmas.MstiTopology.{msti_is_sight}
use Rattle.mst_roles.specs.forest.nested.Trees.{Trees, IsSettled, HasTree}
use Rattle.mst_rows.specs.Rows.{Row}
use Rattle.mst_note_text.specs.Depths.{InternalDepth, ExternalDepth}
use Rattle.mst_note_text.specs.Places.{depths_at}
use Rattle.mst_note_text.specs.declared.parent.Depths.{Depths}
use Rattle.mst_note_text.proofs.Tops.{one_internal_depth, one_external_depth, ends_regional, ends_msti, ends_cist}
use Rattle.mst_note_text.specs.AreDepths.{TreeDepths, AreDepths}
use Rattle.mst_note_text.specs.NotesText.{hops_note, age_note, external_note, internal_note, hops_notes, age_notes, cist_notes, msti_notes, bridge_notes, tree_notes}
use Rattle.mst_note_text.specs.Placed.{ArePlaces}
use Rattle.mst_note_text.specs.SeenTree.{cist_member, msti_member, seen_member, members_in, name_at}
use Rattle.mst_note_text.specs.SeenNotes.{bridge_of, seen_hops, seen_path, seen_notes, notes_at, members_notes}
use Rattle.mst_note_text.specs.declared.member.Member.{Member}
use Rattle.mst_note_text.specs.declared.member.RootPath.{RootPath}
use Rattle.mst_note_text.proofs.Flat.{by_places, of_kept, of_changed}
use Rattle.mst_note_text.proofs.InTrees.{member_is, not_zero}
use Rattle.mst_note_text.proofs.Listing.{some_at}
use Rattle.mst_note_text.proofs.Names.{name_tests}
use Rattle.mst_note_text.proofs.TreeParents.{is_there_some, map_from}

-- the MAC of an identifier
mac_is : (priority tree mac : ℕ) → mac < 2 ^ 48 → mac_of (bridge_id priority tree mac) ≡ mac
mac_is priority tree mac low = by (priority * 4096 + tree) low
  where
    by : (x : ℕ) → mac < 2 ^ 48 → (x * 2 ^ 48 + mac) % 2 ^ 48 ≡ mac
    by x l = omega arith

module _ (net : Net) (numbers : Numbers) (v : Viewed) (f : Forest) (of : AreOf net numbers v f.regions) (is : IsForest net numbers f) (settled : IsSettled (trees_of net is.outcome))
    (macs : List (ℕ × ℕ)) (placed : ArePlaces (λ (b : BridgeInView). b.bridge.mac) v.bridges macs) (d : TreeDepths) (are_depths : AreDepths (trees_of net is.outcome) d) where
  abbrev o : Outcome
  o = is.outcome

  abbrev trees : Trees (List ℕ) (List ℕ) PortName
  trees = trees_of net is.outcome

  -- ---- the bridge of an identifier
  record Found (id : ℕ) (row : BridgeRow) : Type 0 where
    bridge : BridgeInView
    found : bridge_of v.bridges macs id ≡ Some bridge
    has_row : bridge_row bridge.bridge ≡ row

  found_by : (root : List ℕ) (row : BridgeRow) (id : ℕ) → fin.get net.bridges root ≡ Some row → mac_of id ≡ row.mac → Found id row
  found_by root row id has mac =
      let b = bridge_there net numbers v of.view root row has in
      let key : mac_of id ≡ b.0.bridge.mac = mac ∙ ap (λ (q : List ℕ × BridgeRow). q.1.mac) (sym b.2) in
      let n = is_there_some (lookup (nat_eq b.0.bridge.mac) macs) (all_contained (λ (c : BridgeInView). is_some (lookup (nat_eq c.bridge.mac) macs) ≡ true) v.bridges b.0 placed.each b.1) in
      let s = some_at v.bridges n.0 (placed.in_list b.0.bridge.mac n.0 n.1) in
      let same : s.0.bridge.mac ≡ row.mac =
      ap (λ (c : BridgeInView). c.bridge.mac) (sym (get_or_from_slice_get v.bridges n.0 s.0 s.0 s.1)) ∙ placed.has_number b.0.bridge.mac n.0 s.0 n.1 ∙ ap (λ (q : List ℕ × BridgeRow). q.1.mac) b.2 in
      let own = (bridge_seen net numbers v of.view s.0 s.2).has_row in
      let name = of.network.bridges.macs_differ s.0.name root (bridge_row s.0.bridge) row own has same in
      record {
        bridge = s.0;
        found = ap (λ k. option_and_then (slice_get v.bridges) (lookup (nat_eq k) macs)) key ∙ ap (option_and_then (slice_get v.bridges)) n.1 ∙ s.1;
        has_row = some_is (bridge_row s.0.bridge) row (sym own ∙ ap (fin.get net.bridges) name ∙ has);
      }

  hops_same : (tree : ℕ) (name root : List ℕ) (depth id : ℕ) (row : BridgeRow) → fin.get net.bridges root ≡ Some row → mac_of id ≡ row.mac
      → option_map_or (λ (b : BridgeInView). hops_note tree name depth b.bridge.max_hops) (bridge_of v.bridges macs id) [] ≡ option_map_or (λ (r : BridgeRow). hops_note tree name depth r.max_hops) (fin.get net.bridges root) []
  hops_same tree name root depth id row has mac =
      let x = found_by root row id has mac in
      ap (λ (w : Option BridgeInView). option_map_or (λ (b : BridgeInView). hops_note tree name depth b.bridge.max_hops) w []) x.found
      ∙ ap (λ (r : BridgeRow). hops_note tree name depth r.max_hops) x.has_row
      ∙ sym (ap (λ (w : Option BridgeRow). option_map_or (λ (r : BridgeRow). hops_note tree name depth r.max_hops) w []) has)

  age_same : (name root : List ℕ) (depth id : ℕ) (row : BridgeRow) → fin.get net.bridges root ≡ Some row → mac_of id ≡ row.mac
      → option_map_or (λ (b : BridgeInView). age_note name depth b.bridge.max_age) (bridge_of v.bridges macs id) [] ≡ option_map_or (λ (r : BridgeRow). age_note name depth r.max_age) (fin.get net.bridges root) []
  age_same name root depth id row has mac =
      let x = found_by root row id has mac in
      ap (λ (w : Option BridgeInView). option_map_or (λ (b : BridgeInView). age_note name depth b.bridge.max_age) w []) x.found
      ∙ ap (λ (r : BridgeRow). age_note name depth r.max_age) x.has_row
      ∙ sym (ap (λ (w : Option BridgeRow). option_map_or (λ (r : BridgeRow). age_note name depth r.max_age) w []) has)

  -- ---- the roots of a bridge
  record RootRow (root : List ℕ) (id : ℕ) : Type 0 where
    row : BridgeRow
    has : fin.get net.bridges root ≡ Some row
    mac : mac_of id ≡ row.mac

  abbrev internal_depth : (tree : ℕ) (name : List ℕ) → HasTree trees tree name → InternalDepth trees tree name (d.internal tree name)
  internal_depth tree name h = record { has_tree = h; root = d.regional_root tree name; chain = are_depths.internal tree name h }

  abbrev external_depth : (name : List ℕ) → HasTree trees 0 name → ExternalDepth trees name (d.external name)
  external_depth name h = record { has_bridge = h; root = d.root name; chain = are_depths.external name h }

  cist_row : (root : List ℕ) (id : ℕ) (b : CistBridge) → Contains trees.cist.bridges (root, b) → b.id ≡ id → RootRow root id
  cist_row root id b there same =
      let r = bridge_from net of.network cist_rules (cist_sight net) (cist_is_sight net of.network) root b there in
      let is_it = (given r.row.is_on (cist_bridge (by_tree net) (region_of net root) root r.row) b r.seen).1 in
      record {
        row = r.row;
        has = r.has_row;
        mac = ap mac_of (sym same ∙ ap (λ (x : CistBridge). x.id) (sym is_it)) ∙ mac_is (priority_of net root 0) 0 r.row.mac (of.network.bridges.mac_fits root r.row r.has_row);
      }

  msti_row : (i : ℕ) (root : List ℕ) (id : ℕ) (b : MstiBridge) → Contains (trees.msti (suc i)).bridges (root, b) → b.id ≡ id → RootRow root id
  msti_row i root id b there same =
      let r = bridge_from net of.network msti_rules (msti_sight net (suc i) o.cist.designated) (msti_is_sight net of.network (suc i) o.cist.designated) root b there in
      let is_it = (given (r.row.is_on && has_msti net (suc i) root) (msti_bridge (by_tree net) (suc i) root r.row) b r.seen).1 in
      record {
        row = r.row;
        has = r.has_row;
        mac = ap mac_of (sym same ∙ ap (λ (x : MstiBridge). x.id) (sym is_it)) ∙ mac_is (priority_of net root (suc i)) (suc i) r.row.mac (of.network.bridges.mac_fits root r.row r.has_row);
      }

  -- ---- a bridge of the CIST
  by_depths : ℕ → Member → List Row
  by_depths tree m = seen_notes v.bridges macs tree m (record { internal = d.internal tree m.name; external = d.external m.name })

  cist_hops : (name : List ℕ) (x : CistVector) → o.cist.vector name ≡ Some x
      → option_map_or (λ (b : BridgeInView). hops_note 0 name (d.internal 0 name) b.bridge.max_hops) (bridge_of v.bridges macs x.regional) [] ≡ hops_notes net d 0 name
  cist_hops name x e =
      let h = settled.cist.settled.is_bridge name x e in
      let t = ends_regional trees name_tests settled name x (d.internal 0 name) (internal_depth 0 name h) e in
      let r = cist_row (d.regional_root 0 name) x.regional t.0 t.1 t.2 in
      hops_same 0 name (d.regional_root 0 name) (d.internal 0 name) x.regional r.row r.has r.mac

  cist_age : (name : List ℕ) (x : CistVector) → o.cist.vector name ≡ Some x
      → option_map_or (λ (b : BridgeInView). age_note name (d.external name) b.bridge.max_age) (bridge_of v.bridges macs x.root) [] ≡ age_notes net d name
  cist_age name x e =
      let h = settled.cist.settled.is_bridge name x e in
      let t = ends_cist trees name_tests settled name x (d.external name) (external_depth name h) e in
      let r = cist_row (d.root name) x.root t.0 t.1 t.2 in
      age_same name (d.root name) (d.external name) x.root r.row r.has r.mac

  msti_hops : (i : ℕ) (name : List ℕ) (x : MstiVector) → (o.msti (suc i)).vector name ≡ Some x
      → option_map_or (λ (b : BridgeInView). hops_note (suc i) name (d.internal (suc i) name) b.bridge.max_hops) (bridge_of v.bridges macs x.regional) [] ≡ hops_notes net d (suc i) name
  msti_hops i name x e =
      let h = (settled.msti i).settled.is_bridge name x e in
      let t = ends_msti trees name_tests settled i name x (d.internal (suc i) name) (internal_depth (suc i) name h) e in
      let r = msti_row i (d.regional_root (suc i) name) x.regional t.0 t.1 t.2 in
      hops_same (suc i) name (d.regional_root (suc i) name) (d.internal (suc i) name) x.regional r.row r.has r.mac

  cist_same : (b : BridgeInView) (x : CistVector) → o.cist.vector b.name ≡ Some x → by_depths 0 (cist_member b x) ≡ cist_notes net d b.name x
  unfolding by_depths
  cist_same b x e =
      (λ i. cist_hops b.name x e i ++ (cist_age b.name x e i ++ external_note 0 b.name x.external) ++ internal_note 0 b.name x.internal)
      ∙ ap (λ t. t ++ internal_note 0 b.name x.internal) (sym (append_assoc (hops_notes net d 0 b.name) (age_notes net d b.name) (external_note 0 b.name x.external)))

  msti_same : (i : ℕ) (b : BridgeInView) (x : MstiVector) → (o.msti (suc i)).vector b.name ≡ Some x → by_depths (suc i) (msti_member b x) ≡ msti_notes net d (suc i) b.name x
  unfolding by_depths
  msti_same i b x e = (λ j. msti_hops i b.name x e j ++ [] ++ internal_note (suc i) b.name x.internal) ∙ ap (λ t. t ++ internal_note (suc i) b.name x.internal) (nothing (hops_notes net d (suc i) b.name))
    where
      nothing : (xs : List Row) → xs ++ [] ≡ xs
      nothing [] = refl
      nothing (y ∷ xs) = ap (λ l. y ∷ l) (nothing xs)

  -- ---- each bridge of the view
  bridge_same : (tree : ℕ) (b : BridgeInView) → Contains v.bridges b → option_map_or (by_depths tree) (seen_member f tree b) [] ≡ bridge_notes net o d tree b.name
  bridge_same zero b there = go (o.cist.vector b.name) refl
    where
      vectors : vector_of f.cist b.bridge.number ≡ o.cist.vector b.name
      vectors = is.cist.vectors b.name b.bridge.number (bridge_seen net numbers v of.view b there).has_number

      go : (w : Option CistVector) → o.cist.vector b.name ≡ w → option_map_or (by_depths 0) (option_map (cist_member b) (vector_of f.cist b.bridge.number)) [] ≡ option_map_or (cist_notes net d b.name) (o.cist.vector b.name) []
      go None e = ap (λ (w : Option CistVector). option_map_or (by_depths 0) (option_map (cist_member b) w) []) (vectors ∙ e) ∙ sym (ap (λ (w : Option CistVector). option_map_or (cist_notes net d b.name) w []) e)
      go (Some x) e = ap (λ (w : Option CistVector). option_map_or (by_depths 0) (option_map (cist_member b) w) []) (vectors ∙ e) ∙ cist_same b x e ∙ sym (ap (λ (w : Option CistVector). option_map_or (cist_notes net d b.name) w []) e)
  bridge_same (suc i) b there =
      ap (λ (w : Option Member). option_map_or (by_depths (suc i)) w []) (member_is net numbers v f of is i b) ∙ go ((o.msti (suc i)).vector b.name) refl
      ∙ sym (ap (λ (t : Bool). if t then option_map_or (cist_notes net d b.name) (o.cist.vector b.name) [] else option_map_or (msti_notes net d (suc i) b.name) ((o.msti (suc i)).vector b.name) []) (not_zero i))
    where
      vectors : msti_vector f (suc i) b.bridge.number ≡ (o.msti (suc i)).vector b.name
      vectors = (is.mstis (suc i)).vectors b.name b.bridge.number (bridge_seen net numbers v of.view b there).has_number

      go : (w : Option MstiVector) → (o.msti (suc i)).vector b.name ≡ w
          → option_map_or (by_depths (suc i)) (option_map (msti_member b) (msti_vector f (suc i) b.bridge.number)) [] ≡ option_map_or (msti_notes net d (suc i) b.name) ((o.msti (suc i)).vector b.name) []
      go None e = ap (λ (w : Option MstiVector). option_map_or (by_depths (suc i)) (option_map (msti_member b) w) []) (vectors ∙ e) ∙ sym (ap (λ (w : Option MstiVector). option_map_or (msti_notes net d (suc i) b.name) w []) e)
      go (Some x) e = ap (λ (w : Option MstiVector). option_map_or (by_depths (suc i)) (option_map (msti_member b) w) []) (vectors ∙ e) ∙ msti_same i b x e ∙ sym (ap (λ (w : Option MstiVector). option_map_or (msti_notes net d (suc i) b.name) w []) e)

  names_are : map (λ (b : BridgeInView). b.name) v.bridges ≡ fin.keys net.bridges
  names_are = sym (mapped_twice (λ (e : List ℕ × BridgeRow). e.0) named_bridge v.bridges) ∙ ap (map (λ (e : List ℕ × BridgeRow). e.0)) of.view.bridges

  bridges_same : (tree : ℕ) → flat_map (by_depths tree) (members_in v f tree) ≡ tree_notes net o d tree
  bridges_same tree =
      of_kept (by_depths tree) (seen_member f tree) v.bridges
      ∙ of_changed (bridge_notes net o d tree) (λ (b : BridgeInView). b.name) (λ b. option_map_or (by_depths tree) (seen_member f tree b) []) v.bridges (all_weaker (Contains v.bridges) _ (bridge_same tree) v.bridges (all_there v.bridges))
      ∙ ap (flat_map (bridge_notes net o d tree)) names_are

  -- ---- the depths that were found
  module _ (tree : ℕ) (members : List Member) (are : members ≡ members_in v f tree) (found : List Depths)
      (internal : (n : ℕ) → n < length members → InternalDepth trees tree (name_at members n) (depths_at found n).internal)
      (external : tree ≡ 0 → (n : ℕ) → n < length members → ExternalDepth trees (name_at members n) (depths_at found n).external) where
    has_place : (n : ℕ) (x : Member) → slice_get members n ≡ Some x → n < length members
    has_place n x e = below members n x e
      where
        below : (xs : List Member) (n : ℕ) (x : Member) → slice_get xs n ≡ Some x → n < length xs
        below [] n x e = cc
        below (y ∷ xs) zero x e = omega arith
        below (y ∷ xs) (suc n) x e = let l = below xs n x e in omega arith

    named : (n : ℕ) (x : Member) → slice_get members n ≡ Some x → name_at members n ≡ x.name
    named n x e = ap (λ (w : Option Member). option_map_or (λ m. m.name) w []) e

    internal_is : (n : ℕ) (x : Member) → slice_get members n ≡ Some x → (depths_at found n).internal ≡ d.internal tree x.name
    internal_is n x e =
        let low = has_place n x e in
        let depth = subst (λ name. InternalDepth trees tree name (depths_at found n).internal) (named n x e) (internal n low) in
        one_internal_depth trees name_tests settled tree x.name (depths_at found n).internal (d.internal tree x.name) depth (internal_depth tree x.name depth.has_tree)

    external_is : tree ≡ 0 → (n : ℕ) (x : Member) → slice_get members n ≡ Some x → (depths_at found n).external ≡ d.external x.name
    external_is z n x e =
        let low = has_place n x e in
        let depth = subst (λ name. ExternalDepth trees name (depths_at found n).external) (named n x e) (external z n low) in
        one_external_depth trees name_tests settled x.name (depths_at found n).external (d.external x.name) depth (external_depth x.name depth.has_bridge)

    path_same : (k : ℕ) → tree ≡ k → (n : ℕ) (x : Member) → slice_get members n ≡ Some x
        → option_map_or (seen_path v.bridges macs tree x (depths_at found n).external) x.root_path [] ≡ option_map_or (seen_path v.bridges macs tree x (d.external x.name)) x.root_path []
    path_same zero z n x e = ap (λ depth. option_map_or (seen_path v.bridges macs tree x depth) x.root_path []) (external_is z n x e)
    path_same (suc i) z n x e =
        ap (λ (p : Option RootPath). option_map_or (seen_path v.bridges macs tree x (depths_at found n).external) p []) none
        ∙ sym (ap (λ (p : Option RootPath). option_map_or (seen_path v.bridges macs tree x (d.external x.name)) p []) none)
      where
        none : x.root_path ≡ None
        none =
            let s = some_at members n (has_place n x e) in
            let k = kept_from (seen_member f tree) v.bridges s.0 (subst (λ l. Contains l s.0) are s.2) in
            let m = map_from (msti_member k.0) (msti_vector f (suc i) k.0.bridge.number) s.0 (sym (member_is net numbers v f of is i k.0) ∙ ap (λ t. seen_member f t k.0) (sym z) ∙ k.2) in
            ap (λ (y : Member). y.root_path) (some_is x s.0 (sym e ∙ s.1) ∙ sym m.2)

    place_same : (n : ℕ) (x : Member) → slice_get members n ≡ Some x → notes_at v.bridges macs tree members found n ≡ by_depths tree x
    unfolding by_depths
    place_same n x e =
        ap (λ (w : Option Member). option_map_or (λ m. seen_notes v.bridges macs tree m (depths_at found n)) w []) e
        ∙ (λ i. seen_hops v.bridges macs tree x (internal_is n x e i) ++ path_same tree refl n x e i ++ internal_note tree x.name x.internal)

    pub notes_are : members_notes v.bridges macs tree members found ≡ tree_notes net o d tree
    notes_are = by_places (notes_at v.bridges macs tree members found) (by_depths tree) members place_same ∙ ap (flat_map (by_depths tree)) are ∙ bridges_same tree

-- The bridges of a view under names.
use Rattle.std.proofs.Common.{◌≡◌, ℕ, ◌==◌, Bool, true, false, cond, List, [], ◌∷◌, map, Option, Some, None, refl, sym, ap, ◌∙◌, is_some}
use Rattle.std.specs.Prelude.{if◌then◌else◌}
use Rattle.std.specs.List.{Contains, find}
use Rattle.std.specs.Option.{option_map, option_map_or, option_and_then, unwrap_or}
use Rattle.std.specs.FinMap as fin
use Rattle.std.specs.FinMap.{get-entries}
use Rattle.std.specs.FinMap.Entries as entries
use Rattle.mst_ids.specs.Names.{name_cmp}
use Rattle.mst_forest.specs.outcome.Assignment.{vector_of}
use Rattle.mst_tables.specs.Tables.{Net, Numbers, BridgeRow}
use Rattle.mst_tables.specs.ByTree.{by_tree}
use Rattle.mst_tables.specs.Seen.{bridge_row}
use Rattle.mst_tables.proofs.Keyed.{flipped}
use Rattle.mst_tables.proofs.Keys.{names}
use Rattle.mst_view.proofs.Lists.{find_same}
use Rattle.mst_view.specs.Aggregation.{same_name}
use Rattle.mst_view.specs.Trees.{is_among, mstis_of}
use Rattle.mst_view.specs.Viewed.{Viewed, named_bridge}
use Rattle.mst_view.specs.declared.in_view.BridgeInView.{BridgeInView}
use Rattle.mst_forest.specs.config.Shared.{same_in}
use Rattle.mst_forest.specs.config.Regions.{same_region, first_of_region}
use Rattle.mst_forest.specs.Agrees.{AreOf}
use Rattle.mst_forest.specs.Forest.{Forest, IsForest, msti_vector}
use Rattle.mst_forest.specs.InUse.{id_in}
use Rattle.mst_forest.specs.Msti.{has_msti}
use Rattle.mst_forest.specs.Outcome.{Outcome}
use Rattle.mst_forest.specs.Seen.{trees_at}
use Rattle.mst_forest.proofs.Entries.{all_weaker}
use Rattle.mst_forest.proofs.Lists.{mapped_twice}
use Rattle.mst_forest.proofs.Looking.{has_tree_at}
use Rattle.mst_forest.proofs.Seen.{SeenBridge, bridge_seen, bridges_seen}
use Rattle.mst_view.specs.View.{bridge_names}
use Rattle.mst_facts.specs.declared.roots.Identified.{Identified}
use Rattle.mst_facts.specs.Roots.{root_of, named_by, root_name}
use Rattle.mst_facts.specs.Named.{seen_first, seen_root, seen_named, name_by}
use Rattle.mst_facts.proofs.Lists.{find-map, option_map-twice}

-- what a name finds among bridges of these rows
found_in : (name : List ℕ) (ys : List BridgeInView) → entries.find name_cmp name (map named_bridge ys) ≡ option_map (λ (y : BridgeInView). bridge_row y.bridge) (find (λ (y : BridgeInView). same_name y.name name) ys)
found_in name [] = refl
found_in name (y ∷ ys) = ap (λ b. cond b (Some (bridge_row y.bridge)) (entries.find name_cmp name (map named_bridge ys))) (flipped names name y.name) ∙ go (same_name y.name name) (found_in name ys)
  where
    go : (b : Bool) → entries.find name_cmp name (map named_bridge ys) ≡ option_map (λ (y : BridgeInView). bridge_row y.bridge) (find (λ (y : BridgeInView). same_name y.name name) ys)
        → cond b (Some (bridge_row y.bridge)) (entries.find name_cmp name (map named_bridge ys)) ≡ option_map (λ (y : BridgeInView). bridge_row y.bridge) (cond b (Some y) (find (λ (y : BridgeInView). same_name y.name name) ys))
    go true rest = refl
    go false rest = rest

-- a bridge that isn't there has no root
module _ (net : Net) (o : Outcome) (tree : ℕ) where
  pub none_there : (name : List ℕ) → fin.get net.bridges name ≡ None → (t : Bool)
      → (if t then (if fin.contains_key net.bridges name then option_map (λ v. v.root) (o.cist.vector name) else None) else (if has_msti net tree name then option_map (λ v. v.regional) ((o.msti tree).vector name) else None)) ≡ None
  none_there name e true = ap (λ (r : Option BridgeRow). if is_some r then option_map (λ v. v.root) (o.cist.vector name) else None) e
  none_there name e false =
      ap (λ (r : Option BridgeRow). if option_map_or (λ row. is_among (mstis_of net name row) tree) r false then option_map (λ v. v.regional) ((o.msti tree).vector name) else None) e

  pub no_root : (name : List ℕ) → fin.get net.bridges name ≡ None → root_name net o tree name ≡ None
  no_root name e = ap (option_and_then (named_by net tree)) (none_there name e (tree == 0))

  -- and in a tree beside the CIST that a bridge hasn't, it has none
  pub no_root_in : (name : List ℕ) → (tree == 0) ≡ false → has_msti net tree name ≡ false → root_name net o tree name ≡ None
  no_root_in name other none =
      ap (option_and_then (named_by net tree))
      (λ i. if other i then (if fin.contains_key net.bridges name then option_map (λ v. v.root) (o.cist.vector name) else None) else (if none i then option_map (λ v. v.regional) ((o.msti tree).vector name) else None))

module _ (net : Net) (numbers : Numbers) (v : Viewed) (f : Forest) (of : AreOf net numbers v f.regions) where
  pub found_named : (name : List ℕ) → fin.get net.bridges name ≡ option_map (λ (y : BridgeInView). bridge_row y.bridge) (find (λ (y : BridgeInView). same_name y.name name) v.bridges)
  found_named name = get-entries net.bridges name ∙ ap (entries.find name_cmp name) (sym of.view.bridges) ∙ found_in name v.bridges

  pub names_are : map (λ (b : BridgeInView). b.name) v.bridges ≡ bridge_names net
  names_are = sym (mapped_twice (λ (e : List ℕ × BridgeRow). e.0) named_bridge v.bridges) ∙ ap (map (λ (e : List ℕ × BridgeRow). e.0)) of.view.bridges

  -- the first bridge of a region
  pub first_named : (b : BridgeInView) → Contains v.bridges b → seen_first v f.regions b ≡ first_of_region net b.name
  first_named b there =
      let own = (bridge_seen net numbers v of.view b there).has_number in
      let same = find_same (λ (c : BridgeInView). same_in f.regions b.bridge.number c.bridge.number) (λ (c : BridgeInView). same_region net b.name c.name) v.bridges
      (all_weaker (SeenBridge net numbers) _ (λ c seen. of.regions.regions b.name c.name b.bridge.number c.bridge.number own seen.has_number) v.bridges (bridges_seen net numbers v of.view)) in
      ap (λ o. unwrap_or (option_map (λ (c : BridgeInView). c.name) o) b.name) same
      ∙ ap (λ o. unwrap_or o b.name) (sym (find-map (same_region net b.name) (λ (c : BridgeInView). c.name) v.bridges) ∙ ap (find (same_region net b.name)) names_are)

  -- the bridge that has an identifier
  pub id_named : (tree id : ℕ) → name_by (seen_named v tree) id ≡ named_by net tree id
  id_named tree id =
      ap (option_map (λ (m : Identified). m.name)) (find-map (λ (m : Identified). m.id == id) (λ (b : BridgeInView). record { id = id_in v.settings tree b.name (bridge_row b.bridge); name = b.name }) v.bridges)
      ∙ option_map-twice (λ (m : Identified). m.name) (λ (b : BridgeInView). record { id = id_in v.settings tree b.name (bridge_row b.bridge); name = b.name }) (find (λ (b : BridgeInView). id_in v.settings tree b.name (bridge_row b.bridge) == id) v.bridges)
      ∙ (λ i. option_map (λ (b : BridgeInView). b.name) (find (λ (b : BridgeInView). id_in (of.view.settings i) tree b.name (bridge_row b.bridge) == id) v.bridges))
      ∙ sym (option_map-twice (λ (e : List ℕ × BridgeRow). e.0) named_bridge (find (λ (b : BridgeInView). id_in (by_tree net) tree b.name (bridge_row b.bridge) == id) v.bridges))
      ∙ ap (option_map (λ (e : List ℕ × BridgeRow). e.0)) (sym (find-map (λ (e : List ℕ × BridgeRow). id_in (by_tree net) tree e.0 e.1 == id) named_bridge v.bridges) ∙ ap (find (λ (e : List ℕ × BridgeRow). id_in (by_tree net) tree e.0 e.1 == id)) of.view.bridges)

  module _ (is : IsForest net numbers f) (tree : ℕ) where
    pub root_named : (b : BridgeInView) → Contains v.bridges b → seen_root v f tree b.bridge.number ≡ root_of net is.outcome tree b.name
    root_named b here = go (tree == 0)
      where
        seen : SeenBridge net numbers b
        seen = bridge_seen net numbers v of.view b here

        there : fin.contains_key net.bridges b.name ≡ true
        there = ap is_some seen.has_row

        go : (t : Bool) → (if t then option_map (λ v. v.root) (vector_of f.cist b.bridge.number) else (if is_among (trees_at v b.bridge.number) tree then option_map (λ v. v.regional) (msti_vector f tree b.bridge.number) else None))
            ≡ (if t then (if fin.contains_key net.bridges b.name then option_map (λ v. v.root) (is.outcome.cist.vector b.name) else None)
            else (if has_msti net tree b.name then option_map (λ v. v.regional) ((is.outcome.msti tree).vector b.name) else None))
        go true =
            ap (option_map (λ v. v.root)) (is.cist.vectors b.name b.bridge.number seen.has_number)
            ∙ sym (ap (λ (t : Bool). if t then option_map (λ v. v.root) (is.outcome.cist.vector b.name) else None) there)
        go false = λ i.
            if has_tree_at net numbers v f.regions of tree b.name b.bridge.number seen.has_number i then option_map (λ v. v.regional) ((is.mstis tree).vectors b.name b.bridge.number seen.has_number i) else None

-- What turns in a tree, under names.
use Rattle.std.proofs.Common.{◌≡◌, ℕ, ◌==◌, ◌&&◌, ◌||◌, Bool, true, false, cond, List, [], ◌∷◌, map, Option, Some, None, refl, sym, ap, ◌∙◌}
use Rattle.std.specs.FinMap as fin
use Rattle.std.specs.List.{Contains, filter, filter_map, find, cons_option}
use Rattle.std.specs.Option.{option_map, option_map_or}
use Rattle.std.specs.Cmp.Lexicographic.{bytes_decides}
use Rattle.mst_graph.proofs.Members.{filter_none}
use Rattle.mst_graph.proofs.Splits.{map_of_map}
use Rattle.mst_net.specs.tables.Seen.{bridge_row}
use Rattle.mst_net.specs.tables.Tables.{Net, Numbers, BridgeRow}
use Rattle.mst_view.specs.Aggregation.{same_name}
use Rattle.mst_view.specs.View.{LogicalPort, bridge_names}
use Rattle.mst_view.specs.Viewed.{Viewed, named_port}
use Rattle.mst_view.specs.declared.in_view.BridgeInView.{BridgeInView}
use Rattle.mst_plan.specs.forest.Agrees.{AreOf}
use Rattle.mst_plan.specs.forest.Forest.{Forest, IsForest}
use Rattle.mst_plan.specs.forest.Msti.{has_msti, has_tree}
use Rattle.mst_plan.specs.forest.Outcome.{Outcome}
use Rattle.mst_plan.proofs.forest_lemmas.Entries.{all_weaker}
use Rattle.mst_plan.proofs.forest_lemmas.Lists.{all_there, filter_mapped, no_some, some_is}
use Rattle.mst_plan.proofs.forest_lemmas.Looking.{filter_alike, has_tree_at}
use Rattle.mst_plan.proofs.forest_lemmas.Seen.{SeenPort, bridge_seen, ports_seen}
use Rattle.mst_roles.proofs.Named.{each_same}
use Rattle.mst_sweep.proofs.facts_lemmas.Lists.{find-found}
use Rattle.mst_sweep.proofs.facts_lemmas.Named.{found_named, names_are}
use Rattle.mst_sweep.specs.facts.declared.both.Both.{Both}
use Rattle.mst_sweep.specs.facts.Both.{seen_in_both, seen_both}
use Rattle.mst_sweeping.specs.Links.{link_of}
use Rattle.mst_sweeping.specs.Seen.{seen_link_of, seen_takes_part, seen_turns, seen_way_out, seen_ways_out, HaveOtherWays}
use Rattle.mst_sweeping.specs.Turns.{has_other_way, is_way_out, leads_out, takes_part, turned, turns, ways_out}

-- ---- lists
-- the names of those that pass, of what is made of things and has their names
module _ {A B K : Type 0} (test : B → Bool) (h : A → Option B) (name : A → K) (named : B → K) (same : (x : A) (y : B) → h x ≡ Some y → named y ≡ name x) where
  abbrev made : List A → List B
  made xs = filter test (filter_map h xs)

  abbrev passed : List A → List A
  passed xs = filter (λ x. option_map_or test (h x) false) xs

  pick : (t : Bool) (x : A) (y : B) (ps : List B) (xs : List A) → named y ≡ name x → map named ps ≡ map name xs → map named (cond t (y ∷ ps) ps) ≡ map name (cond t (x ∷ xs) xs)
  pick true x y ps xs e rest = λ i. e i ∷ rest i
  pick false x y ps xs e rest = rest

  names_made : (xs : List A) → map named (made xs) ≡ map name (passed xs)
  names_made [] = refl
  names_made (x ∷ xs) = go (h x) refl (names_made xs)
    where
      go : (o : Option B) → h x ≡ o → map named (made xs) ≡ map name (passed xs) → map named (filter test (cons_option o (filter_map h xs))) ≡ map name (cond (option_map_or test o false) (x ∷ passed xs) (passed xs))
      go None e rest = rest
      go (Some y) e rest = pick (test y) x y (made xs) (passed xs) (same x y e) rest

-- ---- ways out
pub ways_named : (net : Net) (numbers : Numbers) (v : Viewed) (f : Forest) → AreOf net numbers v f.regions → (is : IsForest net numbers f) → (tree : ℕ) → seen_ways_out v f tree ≡ ways_out net is.outcome tree
ways_named net numbers v f of is tree =
    sym (ap (λ (ps : List LogicalPort). map link_of (filter (is_way_out net is.outcome tree) ps)) (sym of.view.ports)
    ∙ ap (map link_of) (filter_mapped (is_way_out net is.outcome tree) named_port v.ports)
    ∙ map_of_map link_of named_port (filter (λ p. is_way_out net is.outcome tree (named_port p)) v.ports)
    ∙ ap (map seen_link_of) (filter_alike (λ p. is_way_out net is.outcome tree (named_port p)) (seen_way_out v f tree) v.ports
    (all_weaker (SeenPort net numbers) _ (λ p seen. ap (λ r. option_map_or leads_out r false) (sym (each_same net numbers v f of is tree p seen))) v.ports (ports_seen net numbers v of.view))))

-- ---- bridges
-- one that is on and has the tree
pub part_named : (net : Net) (numbers : Numbers) (v : Viewed) (f : Forest) → AreOf net numbers v f.regions → (tree : ℕ) (x : BridgeInView) → Contains v.bridges x → seen_takes_part v tree x ≡ takes_part net tree x.name
part_named net numbers v f of tree x there =
    let seen = bridge_seen net numbers v of.view x there in
    let row : Some (bridge_row x.bridge) ≡ fin.get net.bridges x.name = sym seen.has_row in
    λ i. option_map_or (λ (row : BridgeRow). row.is_on) (row i) false && (tree == 0 || has_tree_at net numbers v f.regions of tree x.name x.bridge.number seen.has_number i)

-- those of two networks
module _ (a b : Net) (n k : Numbers) (v w : Viewed) (f g : Forest) (of : AreOf a n v f.regions) (so : AreOf b k w g.regions) (is : IsForest a n f) (are : IsForest b k g) (tree : ℕ)
    (has_other : List ℕ → Bool) (have : HaveOtherWays (seen_ways_out v f tree) (seen_ways_out w g tree) has_other) where
  abbrev seen : Both → Bool
  seen = seen_turns has_other v w tree

  abbrev by_name : List ℕ → Bool
  by_name = turns a is.outcome b are.outcome tree

  other_named : (name : List ℕ) → has_other name ≡ has_other_way (ways_out a is.outcome tree) (ways_out b are.outcome tree) name
  other_named name = have name ∙ (λ i. has_other_way (ways_named a n v f of is tree i) (ways_named b k w g so are tree i) name)

  each_turns : (x : BridgeInView) → Contains v.bridges x → option_map_or seen (seen_in_both w x) false ≡ by_name x.name
  each_turns x there = go (find (λ (y : BridgeInView). same_name y.name x.name) w.bridges) refl
    where
      none_of : (part other : Bool) → (part && false && other) ≡ false
      none_of true other = refl
      none_of false other = refl

      go : (o : Option BridgeInView) → find (λ (y : BridgeInView). same_name y.name x.name) w.bridges ≡ o
          → option_map_or seen (option_map (λ y. record { old = x; new = y }) o) false ≡ by_name x.name
      go None e =
          let none : fin.get b.bridges x.name ≡ None = found_named b k w g so x.name ∙ ap (option_map (λ (y : BridgeInView). bridge_row y.bridge)) e in
          let other = has_other_way (ways_out a is.outcome tree) (ways_out b are.outcome tree) x.name in
          sym ((λ i. takes_part a tree x.name && (option_map_or (λ (row : BridgeRow). row.is_on) (none i) false && has_tree b tree x.name) && other) ∙ none_of (takes_part a tree x.name) other)
      go (Some y) e =
          let found = find-found (λ (y : BridgeInView). same_name y.name x.name) w.bridges y e in
          let name : y.name ≡ x.name = (bytes_decides y.name x.name).0 found.1 in
          λ i. part_named a n v f of tree x there i && (part_named b k w g so tree y found.0 ∙ ap (takes_part b tree) name) i && other_named x.name i

  same_bridge : (x : BridgeInView) (both : Both) → seen_in_both w x ≡ Some both → both.old.name ≡ x.name
  same_bridge x both = go (find (λ (y : BridgeInView). same_name y.name x.name) w.bridges)
    where
      go : (o : Option BridgeInView) → option_map (λ y. record { old = x; new = y }) o ≡ Some both → both.old.name ≡ x.name
      go None e = absurd (no_some both e)
      go (Some y) e = ap (λ (b : Both). b.old.name) (sym (some_is (record { old = x; new = y }) both e))

  -- those that turn
  pub turned_named : map (λ (both : Both). both.old.name) (filter seen (seen_both v w)) ≡ turned a is.outcome b are.outcome tree
  turned_named =
      names_made seen (seen_in_both w) (λ (x : BridgeInView). x.name) (λ (both : Both). both.old.name) same_bridge v.bridges
      ∙ ap (map (λ (x : BridgeInView). x.name)) (filter_alike (λ x. option_map_or seen (seen_in_both w x) false) (λ x. by_name x.name) v.bridges (all_weaker (Contains v.bridges) _ each_turns v.bridges (all_there v.bridges)))
      ∙ sym (filter_mapped by_name (λ (x : BridgeInView). x.name) v.bridges)
      ∙ ap (filter by_name) (names_are a n v f of)

-- in a tree beside the CIST that no bridge has, none turns
pub none_turned : (a b : Net) (o p : Outcome) (tree : ℕ) → (tree == 0) ≡ false → ((name : List ℕ) → has_msti a tree name ≡ false) → turned a o b p tree ≡ []
none_turned a b o p tree other none = filter_none (turns a o b p tree) (bridge_names a) (λ name there. fails name)
  where
    none_of : (is_on part way : Bool) → ((is_on && false) && part && way) ≡ false
    none_of true part way = refl
    none_of false part way = refl

    fails : (name : List ℕ) → turns a o b p tree name ≡ false
    fails name =
        let is_on = option_map_or (λ (row : BridgeRow). row.is_on) (fin.get a.bridges name) false in
        let part = takes_part b tree name in
        let way = has_other_way (ways_out a o tree) (ways_out b p tree) name in
        (λ i. (is_on && (other i || none name i)) && part && way) ∙ none_of is_on part way

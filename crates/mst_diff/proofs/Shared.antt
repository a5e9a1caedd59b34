-- The bridges that two settled networks have: their regions and their roots.
use Rattle.std.proofs.Common.{◌≡◌, ℕ, ◌==◌, ◌||◌, false, List, [], Option, Some, None, refl, sym, ap, subst, ◌∙◌}
use Rattle.std.specs.List.{AllByRecursion, Contains, find, filter_map, flat_map}
use Rattle.std.specs.Option.{option_map, option_map_or, option_and_then}
use Rattle.std.specs.Cmp.Lexicographic.{bytes_decides}
use Rattle.std.proofs.lemmas.List.Folds.{flat_map-map}
use Rattle.std.specs.FinMap as fin
use Rattle.mst_tables.specs.Tables.{BridgeRow}
use Rattle.mst_tables.specs.Seen.{bridge_row}
use Rattle.mst_view.proofs.Lists.{all_kept}
use Rattle.mst_view.specs.Aggregation.{same_name}
use Rattle.mst_view.specs.Viewed.{Viewed, named_bridge}
use Rattle.mst_view.specs.declared.in_view.BridgeInView.{BridgeInView}
use Rattle.mst_vlan.specs.forest.config.Regions.{first_of_region}
use Rattle.mst_vlan.specs.forest.InUse.{is_in_use}
use Rattle.mst_vlan.specs.forest.Settled.{SettledNet, outcome_of, IsSettledNet}
use Rattle.mst_vlan.proofs.forest_lemmas.Entries.{all_weaker}
use Rattle.mst_vlan.proofs.forest_lemmas.Lists.{all_there, kept_same, no_some, some_is}
use Rattle.mst_view.specs.View.{bridge_names}
use Rattle.mst_vlan.proofs.forest_lemmas.NotInUse.{unused, unused_by}
use Rattle.mst_vlan.proofs.forest_lemmas.Pieces.{filter_map-map}
use Rattle.mst_rows.specs.Rows.{Row}
use Rattle.mst_facts.specs.declared.both.Both.{Both}
use Rattle.mst_diff.specs.declared.roots.RootPair.{RootPair}
use Rattle.mst_diff.specs.Regions.{region_unless, region_change, region_changes}
use Rattle.mst_facts.specs.Roots.{root_name}
use Rattle.mst_diff.specs.Roots.{paired, root_pair, same_pair, root_unless}
use Rattle.mst_graph.specs.Lists.{each_once}
use Rattle.mst_facts.specs.Both.{seen_in_both, seen_both, IsBoth}
use Rattle.mst_diff.specs.Seen.{region_of, pair_of, roots_of}
use Rattle.mst_facts.proofs.Lists.{flat_map-filter_map, filter_map-filter_map, filter_map-none, flat_map-same, find-found}
use Rattle.mst_facts.proofs.Named.{found_named, names_are, no_root, no_root_in}

no_pair : (old : Option (List ℕ)) → paired old None ≡ None
no_pair None = refl
no_pair (Some name) = refl

-- ---- two views
module _ (v w : Viewed) where
  is_both : (x : BridgeInView) (both : Both) → Contains v.bridges x → seen_in_both w x ≡ Some both → IsBoth v w both
  is_both x both there = go (find (λ (y : BridgeInView). same_name y.name x.name) w.bridges) refl
    where
      go : (o : Option BridgeInView) → find (λ (y : BridgeInView). same_name y.name x.name) w.bridges ≡ o → option_map (λ y. record { old = x; new = y }) o ≡ Some both → IsBoth v w both
      go None e h = absurd (no_some both h)
      go (Some y) e h =
          let found = find-found (λ (y : BridgeInView). same_name y.name x.name) w.bridges y e in
          subst (IsBoth v w) (some_is _ both h) (record { old = there; new = found.0; same = (bytes_decides y.name x.name).0 found.1 })

  -- each of the bridges of both is in both
  pub are_both : AllByRecursion (IsBoth v w) (seen_both v w)
  are_both = all_kept (Contains v.bridges) (IsBoth v w) (seen_in_both w) is_both v.bridges (all_there v.bridges)

-- ---- two settled networks
module _ (s t : SettledNet) (is : IsSettledNet s) (are : IsSettledNet t) where
  -- what the other network has under the name of a bridge
  abbrev row_there : (x : BridgeInView) (o : Option BridgeInView) → find (λ (y : BridgeInView). same_name y.name x.name) t.view.bridges ≡ o → fin.get t.net.bridges x.name ≡ option_map (λ (y : BridgeInView). bridge_row y.bridge) o
  row_there x o e = found_named t.net t.numbers t.view t.forest are.of x.name ∙ ap (option_map (λ (y : BridgeInView). bridge_row y.bridge)) e

  -- ---- regions
  region_named : (x : BridgeInView) → option_map_or (region_of s.net t.net) (seen_in_both t.view x) [] ≡ region_change s.net t.net (named_bridge x)
  region_named x = go (find (λ (y : BridgeInView). same_name y.name x.name) t.view.bridges) refl
    where
      told : BridgeRow → List Row
      told row = region_unless x.name (bridge_row x.bridge) (first_of_region s.net x.name) row (first_of_region t.net x.name)

      go : (o : Option BridgeInView) → find (λ (y : BridgeInView). same_name y.name x.name) t.view.bridges ≡ o
          → option_map_or (region_of s.net t.net) (option_map (λ y. record { old = x; new = y }) o) [] ≡ option_map_or told (fin.get t.net.bridges x.name) []
      go None e = sym (ap (λ r. option_map_or told r []) (row_there x None e))
      go (Some y) e = sym (ap (λ r. option_map_or told r []) (row_there x (Some y) e))

  pub regions_named : flat_map (region_of s.net t.net) (seen_both s.view t.view) ≡ region_changes s.net t.net
  regions_named =
      flat_map-filter_map (region_of s.net t.net) (seen_in_both t.view) s.view.bridges
      ∙ flat_map-same _ (λ (x : BridgeInView). region_change s.net t.net (named_bridge x)) s.view.bridges (all_weaker (Contains s.view.bridges) _ (λ x _. region_named x) s.view.bridges (all_there s.view.bridges))
      ∙ sym (flat_map-map (region_change s.net t.net) named_bridge s.view.bridges)
      ∙ ap (flat_map (region_change s.net t.net)) is.of.view.bridges

  -- ---- roots
  module _ (tree : ℕ) where
    abbrev name_in : SettledNet → List ℕ → Option (List ℕ)
    name_in u name = root_name u.net (outcome_of u) tree name

    abbrev pair_at : List ℕ → Option RootPair
    pair_at = root_pair s.net (outcome_of s) t.net (outcome_of t) tree

    pair_named : (x : BridgeInView) → option_and_then (pair_of s t tree) (seen_in_both t.view x) ≡ pair_at x.name
    pair_named x = go (find (λ (y : BridgeInView). same_name y.name x.name) t.view.bridges) refl
      where
        go : (o : Option BridgeInView) → find (λ (y : BridgeInView). same_name y.name x.name) t.view.bridges ≡ o
            → option_and_then (pair_of s t tree) (option_map (λ y. record { old = x; new = y }) o) ≡ pair_at x.name
        go None e = sym (ap (paired (name_in s x.name)) (no_root t.net (outcome_of t) tree x.name (row_there x None e)) ∙ no_pair (name_in s x.name))
        go (Some y) e = refl

    pub roots_named : flat_map (root_unless tree) (each_once same_pair (filter_map (pair_of s t tree) (seen_both s.view t.view))) ≡ roots_of s t tree
    roots_named = ap (λ ps. flat_map (root_unless tree) (each_once same_pair ps))
        (filter_map-filter_map (pair_of s t tree) (seen_in_both t.view) s.view.bridges
        ∙ kept_same _ (λ (x : BridgeInView). pair_at x.name) s.view.bridges (all_weaker (Contains s.view.bridges) _ (λ x _. pair_named x) s.view.bridges (all_there s.view.bridges))
        ∙ sym (filter_map-map pair_at (λ (x : BridgeInView). x.name) s.view.bridges)
        ∙ ap (filter_map pair_at) (names_are s.net s.numbers s.view s.forest is.of))

    -- a tree beside the CIST that no bridge of one network has, has no roots
    none_paired : ((name : List ℕ) → pair_at name ≡ None) → roots_of s t tree ≡ []
    none_paired none = ap (λ ps. flat_map (root_unless tree) (each_once same_pair ps)) (filter_map-none pair_at none (bridge_names s.net))

    none_in : (u : SettledNet) → IsSettledNet u → (tree == 0 || is_in_use u.view tree) ≡ false → (name : List ℕ) → name_in u name ≡ None
    none_in u h none name = let x = unused_by u.view tree none in no_root_in u.net (outcome_of u) tree name x.other (unused u.net u.numbers u.view u.forest.regions h.of tree x.none name)

    pub no_roots_left : (tree == 0 || is_in_use s.view tree) ≡ false → roots_of s t tree ≡ []
    no_roots_left none = none_paired (λ name. ap (λ o. paired o (name_in t name)) (none_in s is none name))

    pub no_roots_right : (tree == 0 || is_in_use t.view tree) ≡ false → roots_of s t tree ≡ []
    no_roots_right none = none_paired (λ name. ap (paired (name_in s name)) (none_in t are none name) ∙ no_pair (name_in s name))

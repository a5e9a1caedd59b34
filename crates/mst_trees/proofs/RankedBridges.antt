-- The bridges of a view in an MSTI, by the trees in which a priority is set for each.
use Rattle.std.proofs.Common.{◌≡◌, ℕ, ◌==◌, ◌&&◌, Bool, true, false, not, List, [], ◌∷◌, map, Option, Some, None, refl, sym, ap, ◌∙◌}
use Rattle.std.specs.Prelude.{if◌then◌else◌}
use Rattle.std.specs.List.{Contains, cons_option, filter_map}
use Rattle.std.proofs.lemmas.Bool.{eqb-true, not-false}
use Rattle.mst_ids.specs.Identifiers.{bridge_id}
use Rattle.mst_vector.specs.declared.msti.MstiBridge.{MstiBridge}
use Rattle.mst_net.specs.tables.ByTree.{AreInTrees, priority_in}
use Rattle.mst_net.specs.tables.Seen.{bridge_row}
use Rattle.mst_net.proofs.tables_lemmas.TreesListed.{priority_told}
use Rattle.mst_view.specs.Trees.{is_among}
use Rattle.mst_view.specs.Viewed.{Viewed}
use Rattle.mst_view.specs.declared.in_view.BridgeInView.{BridgeInView}
use Rattle.mst_forest.specs.Seen.{seen_msti_bridge, trees_at}
use Rattle.mst_forest.proofs.Entries.{all_weaker}
use Rattle.mst_forest.proofs.Lists.{all_there, kept_same}
use Rattle.mst_trees.specs.Ranked.{ranked, ranked_bridges, ranked_msti_bridge, ranked_priority}
use Rattle.mst_trees.specs.Wirings.{msti_bridges_seen}
use Rattle.mst_trees.proofs.Among.{among_where}

kept_mapped : {A B C : Type 0} (h : B → Option C) (f : A → B) (xs : List A) → filter_map h (map f xs) ≡ filter_map (λ x. h (f x)) xs
kept_mapped h f [] = refl
kept_mapped h f (x ∷ xs) = ap (cons_option (h (f x))) (kept_mapped h f xs)

module _ (v : Viewed) (set : AreInTrees v.settings) (tree : ℕ) where
  -- where no priority is set in the tree it is 8
  priority_is : (b : BridgeInView) → ranked_priority v.settings (ranked v.settings b) tree ≡ priority_in v.settings.priorities b.name tree
  priority_is b =
      ap (λ t. if t then priority_in v.settings.priorities b.name tree else 8) (among_where test tree (λ e. let n = priority_told _ e in set.priorities b.name tree n.0 n.1)) ∙ by (test tree) refl
    where
      test : ℕ → Bool
      test t = not (priority_in v.settings.priorities b.name t == 8)

      by : (t : Bool) → test tree ≡ t → (if t then priority_in v.settings.priorities b.name tree else 8) ≡ priority_in v.settings.priorities b.name tree
      by true e = refl
      by false e = sym (eqb-true (priority_in v.settings.priorities b.name tree) 8 (not-false _ e))

  one_bridge : (b : BridgeInView) → ranked_msti_bridge v tree (ranked v.settings b) ≡ seen_msti_bridge v tree b
  one_bridge b i =
      let row = bridge_row b.bridge in
      if◌then◌else◌ {A = Option (ℕ × MstiBridge)} (row.is_on && is_among (trees_at v b.bridge.number) tree) (Some (b.bridge.number, record { id = bridge_id (priority_is b i) tree row.mac })) None

  pub ranked_in_msti : filter_map (ranked_msti_bridge v tree) (ranked_bridges v) ≡ msti_bridges_seen v tree
  ranked_in_msti =
      kept_mapped (ranked_msti_bridge v tree) (ranked v.settings) v.bridges
      ∙ kept_same (λ b. ranked_msti_bridge v tree (ranked v.settings b)) (seen_msti_bridge v tree) v.bridges (all_weaker (Contains v.bridges) _ (λ b _. one_bridge b) v.bridges (all_there v.bridges))

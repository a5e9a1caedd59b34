-- In an MSTI that no bridge of a network has no bridge is settled.
use Rattle.std.proofs.Common.{◌≡◌, ℕ, ◌||◌, Bool, false, nat_eq, List, [], ◌∷◌, Option, Some, None, is_some, refl, sym, ap, ◌∙◌, true≢false}
use Rattle.std.specs.List.{AllByRecursion, list_any}
use Rattle.std.specs.Option.{option_map_or}
use Rattle.std.specs.Map.{lookup}
use Rattle.mst_vector.specs.declared.msti.MstiVector.{MstiVector}
use Rattle.mst_forest.specs.outcome.Assignment.{Assignment}
use Rattle.mst_net.specs.tables.Tables.{Net, Numbers}
use Rattle.mst_view.specs.Trees.{is_among}
use Rattle.mst_view.specs.Viewed.{Viewed}
use Rattle.mst_view.specs.declared.in_view.BridgeInView.{BridgeInView}
use Rattle.mst_view.specs.declared.in_view.PortInView.{PortInView}
use Rattle.mst_forest.specs.Agrees.{AreOf}
use Rattle.mst_trees.specs.Bound.{SettlesNoUnused}
use Rattle.mst_forest.specs.InUse.{is_in_use}
use Rattle.mst_trees.specs.Mstis.{AreOutcomes}
use Rattle.mst_forest.specs.Msti.{has_msti}
use Rattle.mst_forest.specs.Seen.{trees_at}
use Rattle.mst_forest.proofs.Entries.{all_weaker}
use Rattle.mst_forest.proofs.Looking.{has_tree_at}
use Rattle.mst_forest.proofs.Seen.{SeenBridge, bridges_seen}

none_any : {A : Type 0} (test : A → Bool) (xs : List A) → AllByRecursion (λ x. test x ≡ false) xs → list_any test xs ≡ false
none_any test [] h = refl
none_any test (x ∷ xs) h = ap (λ b. b || list_any test xs) h.0 ∙ none_any test xs h.1

-- a tree that no bridge has by name no bridge of the view has
not_in_use : (net : Net) (numbers : Numbers) (v : Viewed) (region_ids : List (ℕ × ℕ)) → AreOf net numbers v region_ids → (tree : ℕ) → ((name : List ℕ) → has_msti net tree name ≡ false) → is_in_use v tree ≡ false
not_in_use net numbers v region_ids of tree none =
    none_any (λ (b : BridgeInView). is_among (trees_at v b.bridge.number) tree) v.bridges
    (all_weaker (SeenBridge net numbers) _ (λ b seen. has_tree_at net numbers v region_ids of tree b.name b.bridge.number seen.has_number ∙ none b.name) v.bridges (bridges_seen net numbers v of.view))

pub settles_no_unused : (net : Net) (numbers : Numbers) (v : Viewed) (region_ids : List (ℕ × ℕ)) → AreOf net numbers v region_ids
    → (internal : List PortInView) (former mstis : List (ℕ × Assignment MstiVector)) → AreOutcomes v internal former mstis
    → SettlesNoUnused net (λ tree. option_map_or (λ a. a.settlings) (lookup (nat_eq tree) mstis) 0)
settles_no_unused net numbers v region_ids of internal former mstis are tree none = go (lookup (nat_eq tree) mstis) refl
  where
    go : (x : Option (Assignment MstiVector)) → lookup (nat_eq tree) mstis ≡ x → option_map_or (λ a. a.settlings) (lookup (nat_eq tree) mstis) 0 ≡ 0
    go None e = ap (λ y. option_map_or (λ (a : Assignment MstiVector). a.settlings) y 0) e
    go (Some a) e = absurd (true≢false (sym (are.only tree (ap is_some e)) ∙ not_in_use net numbers v region_ids of tree none))

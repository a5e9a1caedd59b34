-- The MSTIs that some bridge has, under names and under numbers.
use Rattle.std.proofs.Common.{◌≡◌, ℕ, List, [], ◌∷◌, ◌||◌, Bool, map, refl, sym, ap, ◌∙◌}
use Rattle.std.specs.List.{AllByRecursion, filter, list_any, range_with_len}
use Rattle.std.specs.FinMap as fin
use Rattle.mst_view.specs.Trees.{is_among}
use Rattle.mst_view.specs.Viewed.{Viewed, named_bridge}
use Rattle.mst_view.specs.declared.in_view.BridgeInView.{BridgeInView}
use Rattle.mst_tables.specs.Tables.{Net, Numbers, BridgeRow}
use Rattle.mst_vlan.specs.forest.Agrees.{AreOf}
use Rattle.mst_vlan.specs.forest.InUse.{is_in_use, seen_mstis}
use Rattle.mst_vlan.specs.forest.Msti.{has_msti, is_had}
use Rattle.mst_vlan.specs.forest.Seen.{trees_at}
use Rattle.mst_vlan.specs.forest.Forest.{Forest}
use Rattle.mst_vlan.proofs.forest_lemmas.Entries.{all_weaker}
use Rattle.mst_vlan.proofs.forest_lemmas.Looking.{has_tree_at}
use Rattle.mst_vlan.proofs.forest_lemmas.Seen.{SeenBridge, bridges_seen}
use Rattle.mst_plan_text.specs.PlanText.{mstis}

any_alike : {A : Type 0} (f g : A → Bool) (xs : List A) → AllByRecursion (λ x. f x ≡ g x) xs → list_any f xs ≡ list_any g xs
any_alike f g [] h = refl
any_alike f g (x ∷ xs) h = λ i. h.0 i || any_alike f g xs h.1 i

any_mapped : {A B : Type 0} (test : B → Bool) (f : A → B) (xs : List A) → list_any test (map f xs) ≡ list_any (λ x. test (f x)) xs
any_mapped test f [] = refl
any_mapped test f (x ∷ xs) = ap (λ t. test (f x) || t) (any_mapped test f xs)

module _ (net : Net) (numbers : Numbers) (v : Viewed) (f : Forest) (of : AreOf net numbers v f.regions) where
  had_named : (tree : ℕ) → is_in_use v tree ≡ is_had net tree
  had_named tree =
      any_alike (λ (b : BridgeInView). is_among (trees_at v b.bridge.number) tree) (λ b. has_msti net tree b.name) v.bridges
      (all_weaker (SeenBridge net numbers) _ (λ b seen. has_tree_at net numbers v f.regions of tree b.name b.bridge.number seen.has_number) v.bridges (bridges_seen net numbers v of.view))
      ∙ sym (any_mapped (λ (e : List ℕ × BridgeRow). has_msti net tree e.0) named_bridge v.bridges)
      ∙ ap (list_any (λ (e : List ℕ × BridgeRow). has_msti net tree e.0)) of.view.bridges
      ∙ sym (any_mapped (has_msti net tree) (λ (e : List ℕ × BridgeRow). e.0) (fin.entries net.bridges))

  pub mstis_named : seen_mstis v ≡ mstis net
  unfolding seen_mstis mstis
  mstis_named = λ i. filter (λ tree. had_named tree i) (range_with_len 1 4094)

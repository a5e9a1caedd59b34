-- The trees that some bridge of a view has beside the CIST.
use Rattle.std.proofs.Common.{◌≡◌, ℕ, ◌==◌, ◌||◌, Bool, true, false, List, [], ◌∷◌, Option, Some, None, refl, sym, ap, ◌∙◌, true≢false}
use Rattle.std.specs.List.{AllByRecursion, list_any}
use Rattle.std.specs.Option.{option_map_or}
use Rattle.std.specs.FinMap as fin
use Rattle.std.proofs.lemmas.Bool.{or_parts}
use Rattle.mst_net.specs.tables.Tables.{Net, Numbers, BridgeRow}
use Rattle.mst_view.specs.Trees.{is_among, mstis_of}
use Rattle.mst_view.specs.Viewed.{Viewed}
use Rattle.mst_view.specs.declared.in_view.BridgeInView.{BridgeInView}
use Rattle.mst_forest.specs.Agrees.{AreOf}
use Rattle.mst_forest.specs.InUse.{is_in_use}
use Rattle.mst_forest.specs.Msti.{has_msti}
use Rattle.mst_forest.specs.Seen.{trees_at}
use Rattle.mst_forest.proofs.Lists.{all_contained}
use Rattle.mst_forest.proofs.Seen.{bridge_seen, bridge_there}
use Rattle.mst_forest.proofs.Looking.{has_tree_at}

none_pass : {A : Type 0} (test : A → Bool) (xs : List A) → list_any test xs ≡ false → AllByRecursion (λ x. test x ≡ false) xs
none_pass test [] e = tt
none_pass {A} test (x ∷ xs) e = go (test x) refl e (none_pass test xs)
  where
    go : (b : Bool) → test x ≡ b → (b || list_any test xs) ≡ false → (list_any test xs ≡ false → AllByRecursion (λ y. test y ≡ false) xs) → AllByRecursion (λ y. test y ≡ false) (x ∷ xs)
    go true f g rest = absurd (true≢false g)
    go false f g rest = (f, rest g)

-- a tree that isn't in use no bridge of the network has
pub unused : (net : Net) (numbers : Numbers) (v : Viewed) (classes : List (ℕ × ℕ)) → AreOf net numbers v classes → (tree : ℕ) → is_in_use v tree ≡ false → (name : List ℕ) → has_msti net tree name ≡ false
unused net numbers v classes of tree none name = go (fin.get net.bridges name) refl
  where
    go : (o : Option BridgeRow) → fin.get net.bridges name ≡ o → has_msti net tree name ≡ false
    go None e = ap (λ r. option_map_or (λ row. is_among (mstis_of net name row) tree) r false) e
    go (Some row) e =
        let b = bridge_there net numbers v of.view name row e in
        let named : b.0.name ≡ name = ap (λ (q : List ℕ × BridgeRow). q.0) b.2 in
        let has = has_tree_at net numbers v classes of tree b.0.name b.0.bridge.number (bridge_seen net numbers v of.view b.0 b.1).has_number in
        ap (has_msti net tree) (sym named) ∙ sym has ∙ all_contained (λ (c : BridgeInView). is_among (trees_at v c.bridge.number) tree ≡ false) v.bridges b.0 (none_pass (λ (c : BridgeInView). is_among (trees_at v c.bridge.number) tree) v.bridges none) b.1

-- a tree that isn't had: it isn't the CIST, and no bridge has it
pub record IsUnused (v : Viewed) (tree : ℕ) : Type 0 where
  pub other : (tree == 0) ≡ false
  pub none : is_in_use v tree ≡ false

pub unused_by : (v : Viewed) (tree : ℕ) → (tree == 0 || is_in_use v tree) ≡ false → IsUnused v tree
unused_by v tree e = let parts = or_parts (tree == 0) (is_in_use v tree) e in record { other = parts.0; none = parts.1 }

-- For VIDs that no table of a bridge tells apart the same ports forward.
use Rattle.std.proofs.Common.{◌≡◌, ℕ, ◌+◌, ◌<◌, ◌==◌, nat_eq, Bool, List, [], ◌∷◌, length, map, get_or, refl, sym, ap, subst, ◌∙◌, true, false}
use Rattle.std.specs.Prelude.{if◌then◌else◌}
use Rattle.std.specs.List.{AllByRecursion, Contains, find}
use Rattle.std.specs.Option.{option_map_or}
use Rattle.std.proofs.lemmas.Bool.{eqb-true}
use Rattle.std.proofs.lemmas.List.{length-map, get_or-map}
use Rattle.mst_graph.specs.Numbers.{AreNumbers}
use Rattle.mst_tables.specs.ByTree.{table_in}
use Rattle.mst_tables.specs.Seen.{bridge_row}
use Rattle.mst_tables.specs.Table.{tree_in}
use Rattle.mst_view.specs.Viewed.{Viewed}
use Rattle.mst_view.specs.declared.in_view.BridgeInView.{BridgeInView}
use Rattle.mst_classes.specs.Alike.{AreAlike, TellApart}
use Rattle.mst_roles.specs.forest.Forest.{Forest}
use Rattle.mst_roles.specs.Roles.{forwards}
use Rattle.mst_roles.specs.SeenRoles.{seen_role, seen_tree}
use Rattle.mst_roles.proofs.forest_lemmas.Entries.{all_weaker}
use Rattle.mst_roles.proofs.forest_lemmas.Lists.{all_contained}
use Rattle.mst_vlan.specs.Kept.{seen_row, HaveRows}

-- what is found has one value, where each thing has
found_alike : {A B : Type 0} (test : A → Bool) (f g : A → B) (d : B) (xs : List A) → AllByRecursion (λ x. f x ≡ g x) xs → option_map_or f (find test xs) d ≡ option_map_or g (find test xs) d
found_alike test f g d [] all = refl
found_alike test f g d (x ∷ xs) all = go (found_alike test f g d xs all.1) (test x) refl
  where
    go : option_map_or f (find test xs) d ≡ option_map_or g (find test xs) d → (b : Bool) → test x ≡ b → option_map_or f (find test (x ∷ xs)) d ≡ option_map_or g (find test (x ∷ xs)) d
    go more true e = rw e all.0
    go more false e = rw e more

module _ (v : Viewed) (f : Forest) (tables : List (List ℕ)) (have : AllByRecursion (λ b. Contains tables (table_in v.settings.tables b.name)) v.bridges) where
  module _ (x y : ℕ) (a : AreAlike tables [] x y) where
    one_table : (b : BridgeInView) → Contains tables (table_in v.settings.tables b.name) → tree_in (table_in v.settings.tables b.name) x ≡ tree_in (table_in v.settings.tables b.name) y
    one_table b there = all_contained (λ table. tree_in table x ≡ tree_in table y) tables (table_in v.settings.tables b.name) a.same_tree there

    one_tree : (bridge : ℕ) → seen_tree v bridge x ≡ seen_tree v bridge y
    one_tree bridge =
        found_alike (λ b. bridge == b.bridge.number) (λ b. if (bridge_row b.bridge).is_rstp then 0 else tree_in (table_in v.settings.tables b.name) x)
        (λ b. if (bridge_row b.bridge).is_rstp then 0 else tree_in (table_in v.settings.tables b.name) y) 0 v.bridges
        (all_weaker _ _ (λ b there. ap (λ t. if (bridge_row b.bridge).is_rstp then 0 else t) (one_table b there)) v.bridges have)

    pub row_alike : seen_row v f x ≡ seen_row v f y
    row_alike = λ i. map (λ p. option_map_or forwards (seen_role v f (one_tree p.bridge i) p) false) v.ports

  -- the flags of each VID are those of the first of its number
  pub have_rows : (told numbers firsts : List ℕ) → TellApart tables [] told → AreNumbers nat_eq told numbers firsts → (rows : List (List Bool)) → rows ≡ map (λ place. seen_row v f (place + 1)) firsts → HaveRows v f numbers rows
  have_rows told numbers firsts tell are rows is = record {
    as_long = are.as_long ∙ tell.as_long;
    below = λ i l. subst (λ n. get_or numbers i 0 < n) (sym (ap length is ∙ length-map firsts (λ place. seen_row v f (place + 1)))) (are.below i (subst (λ k. i < k) (sym tell.as_long) l));
    own = λ i l.
        let n : ℕ = get_or numbers i 0 in
        let there : i < length told = subst (λ k. i < k) (sym tell.as_long) l in
        let below : n < length firsts = are.below i there in
        let first = are.first n below in
        let k : ℕ = get_or firsts n 0 in
        let k_below : k < 4094 = subst (λ m. k < m) tell.as_long first.0 in
        let same : get_or told k 0 ≡ get_or told i 0 = eqb-true (get_or told k 0) (get_or told i 0) ((are.equal k i 0 first.0 there).0 first.1) in
        ap (λ rs. get_or rs n []) is ∙ get_or-map (λ place. seen_row v f (place + 1)) firsts n 0 [] below ∙ row_alike (k + 1) (i + 1) (tell.alike k i k_below l same);
  }

-- Which trees are among those that pass a test.
use Rattle.std.proofs.Common.{◌≡◌, ℕ, zero, suc, ◌+◌, ◌<◌, ◌≤◌, ◌==◌, ◌&&◌, ◌||◌, Bool, true, false, cond, List, [], ◌∷◌, Option, Some, None, refl, sym, ap, ◌∙◌, arith, true≢false}
use Rattle.std.specs.List.{AllByRecursion, Contains, filter, list_any, range_with_len}
use Rattle.std.specs.Option.{option_map_or}
use Rattle.std.specs.FinMap as fin
use Rattle.std.proofs.lemmas.Bool.{eqb-true, eqb-false, and_parts, and_right}
use Rattle.mst_net.specs.tables.After.{table_of}
use Rattle.mst_net.specs.tables.Table.{has_tree, mstis_in}
use Rattle.mst_net.specs.tables.Tables.{BridgeRow}
use Rattle.mst_net.specs.tables.TreesSet.{trees_where}
use Rattle.mst_net.proofs.tables_lemmas.Rising.{all_mstis}
use Rattle.mst_net.proofs.tables_lemmas.TreesListed.{all_listed}
use Rattle.mst_view.specs.Trees.{is_among, mstis_of}
use Rattle.mst_view.specs.Viewed.{Viewed}
use Rattle.mst_view.specs.declared.in_view.BridgeInView.{BridgeInView}
use Rattle.mst_view.specs.declared.in_view.PortInView.{PortInView}
use Rattle.mst_forest.specs.InUse.{is_in_use, seen_mstis}
use Rattle.mst_forest.specs.Msti.{has_msti}
use Rattle.mst_forest.specs.Seen.{trees_at}
use Rattle.mst_forest.proofs.Entries.{all_weaker, all_both}
use Rattle.mst_forest.proofs.InUse.{all_seen}
use Rattle.mst_forest.proofs.Lists.{all_there}
use Rattle.mst_forest.proofs.Looking.{has_tree_at}
use Rattle.mst_forest.proofs.Seen.{bridge_seen}
use Rattle.mst_trees.specs.Internal.{KnownInternal}

among_kept : (kept first passes x y : Bool) → (first ≡ true → passes ≡ kept) → x ≡ (y && passes) → cond kept (first || x) x ≡ ((first || y) && passes)
among_kept true true passes x y same e = sym (same refl)
among_kept true false passes x y same e = e
among_kept false true passes x y same e = e ∙ and_right y passes (same refl) ∙ sym (same refl)
among_kept false false passes x y same e = e

pub among_filtered : (test : ℕ → Bool) (tree : ℕ) (ts : List ℕ) → is_among (filter test ts) tree ≡ (is_among ts tree && test tree)
among_filtered test tree [] = refl
among_filtered test tree (t ∷ ts) = by (test t) refl (among_filtered test tree ts)
  where
    by : (kept : Bool) → test t ≡ kept → is_among (filter test ts) tree ≡ (is_among ts tree && test tree) → is_among (cond kept (t ∷ filter test ts) (filter test ts)) tree ≡ ((t == tree || is_among ts tree) && test tree)
    by true e rest = among_kept true (t == tree) (test tree) (is_among (filter test ts) tree) (is_among ts tree) (λ f. ap test (sym (eqb-true t tree f)) ∙ e) rest
    by false e rest = among_kept false (t == tree) (test tree) (is_among (filter test ts) tree) (is_among ts tree) (λ f. ap test (sym (eqb-true t tree f)) ∙ e) rest

among_range : (tree a n : ℕ) → a ≤ tree → tree < a + n → is_among (range_with_len a n) tree ≡ true
among_range tree a zero l h = absurd (omega arith)
among_range tree a (suc n) l h = by (a == tree) refl (λ later. among_range tree (a + 1) n later (omega arith))
  where
    by : (b : Bool) → (a == tree) ≡ b → (a + 1 ≤ tree → is_among (range_with_len (a + 1) n) tree ≡ true) → (b || is_among (range_with_len (a + 1) n) tree) ≡ true
    by true e rest = refl
    by false e rest = rest (let other = eqb-false a tree e in omega arith)

pub among_where : (test : ℕ → Bool) (tree : ℕ) → (test tree ≡ true → tree ≤ 4094) → is_among (trees_where test) tree ≡ test tree
among_where test tree small = by 4095 refl (test tree) refl
  where
    by : (n : ℕ) → n ≡ 4095 → (b : Bool) → test tree ≡ b → is_among (trees_where test) tree ≡ b
    by n is true e =
        let l = small e in
        ap (λ ts. is_among ts tree) (sym (all_listed test n is)) ∙ among_filtered test tree (range_with_len 0 n) ∙ ap (λ b. b && test tree) (among_range tree 0 n (omega arith) (omega arith)) ∙ e
    by n is false e = ap (λ ts. is_among ts tree) (sym (all_listed test n is)) ∙ among_filtered test tree (range_with_len 0 n) ∙ and_right _ _ e

-- ---- the trees in use
-- one of these is in use
pub seen_in_use : (v : Viewed) (tree : ℕ) → is_among (seen_mstis v) tree ≡ true → is_in_use v tree ≡ true
seen_in_use v tree e = by 4094 refl
  where
    by : (n : ℕ) → n ≡ 4094 → is_in_use v tree ≡ true
    by n is = (and_parts (is_among (range_with_len 1 n) tree) (is_in_use v tree) (sym (ap (λ ts. is_among ts tree) (sym (all_seen v n is)) ∙ among_filtered (is_in_use v) tree (range_with_len 1 n)) ∙ e)).1

-- a tree of a table is one of the MSTIs, and so among these if it is in use
in_table : (v : Viewed) (tree : ℕ) (table : List ℕ) → is_among (mstis_in table) tree ≡ true → is_in_use v tree ≡ true → is_among (seen_mstis v) tree ≡ true
in_table v tree table e used = by 4094 refl
  where
    by : (n : ℕ) → n ≡ 4094 → is_among (seen_mstis v) tree ≡ true
    by n is =
        let small = (and_parts (is_among (range_with_len 1 n) tree) (has_tree table tree) (sym (ap (λ ts. is_among ts tree) (sym (all_mstis table n is)) ∙ among_filtered (has_tree table) tree (range_with_len 1 n)) ∙ e)).0 in
        ap (λ ts. is_among ts tree) (sym (all_seen v n is)) ∙ among_filtered (is_in_use v) tree (range_with_len 1 n) ∙ (λ i. small i && used i)

or_later : (a b : Bool) → b ≡ true → (a || b) ≡ true
or_later true b e = refl
or_later false b e = e

in_list : {A : Type 0} (test : A → Bool) (xs : List A) → AllByRecursion (λ x. test x ≡ true → list_any test xs ≡ true) xs
in_list test [] = tt
in_list {A} test (x ∷ xs) = (λ e. ap (λ b. b || list_any test xs) e, all_weaker _ _ (λ y h e. or_later (test x) (list_any test xs) (h e)) xs (in_list test xs))

module _ (v : Viewed) (internal : List PortInView) (known : KnownInternal v internal) (tree : ℕ) where
  of_bridge : (b : BridgeInView) → Contains v.bridges b → is_among (trees_at v b.bridge.number) tree ≡ true → is_in_use v tree ≡ true → is_among (seen_mstis v) tree ≡ true
  of_bridge b there e used =
      let has = has_tree_at known.net known.numbers v known.region_ids known.of tree b.name b.bridge.number (bridge_seen known.net known.numbers v known.of.view b there).has_number in
      by (fin.get known.net.bridges b.name) refl (sym has ∙ e)
    where
      kind : (row : BridgeRow) (is : Bool) → row.is_rstp ≡ is → is_among (mstis_of known.net b.name row) tree ≡ true → is_among (seen_mstis v) tree ≡ true
      kind row true is e = absurd (true≢false (sym e ∙ ap (λ t. is_among (cond t [] (mstis_in (table_of known.net b.name))) tree) is))
      kind row false is e = in_table v tree (table_of known.net b.name) (sym (ap (λ t. is_among (cond t [] (mstis_in (table_of known.net b.name))) tree) is) ∙ e) used

      by : (o : Option BridgeRow) → fin.get known.net.bridges b.name ≡ o → has_msti known.net tree b.name ≡ true → is_among (seen_mstis v) tree ≡ true
      by None f h = absurd (true≢false (sym h ∙ ap (λ o. option_map_or (λ row. is_among (mstis_of known.net b.name row) tree) o false) f))
      by (Some row) f h = kind row row.is_rstp refl (sym (ap (λ o. option_map_or (λ row. is_among (mstis_of known.net b.name row) tree) o false) f) ∙ h)

  -- each tree of a bridge of the view is one of those in use
  pub bridges_among : AllByRecursion (λ b. is_among (trees_at v b.bridge.number) tree ≡ true → is_among (seen_mstis v) tree ≡ true) v.bridges
  bridges_among =
      all_both (Contains v.bridges) _ _ (λ b there used e. of_bridge b there e (used e)) v.bridges (all_there v.bridges)
      (in_list (λ (b : BridgeInView). is_among (trees_at v b.bridge.number) tree) v.bridges)

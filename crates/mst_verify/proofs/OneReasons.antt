-- Why an expectation doesn't hold in a network is one list of reasons.
use Rattle.std.proofs.Common.{◌≡◌, ◌⊎◌, inl, inr, ℕ, ◌≤◌, ◌||◌, Bool, true, List, [], ◌∷◌, Option, Some, None, refl, sym, ap, subst, ◌∙◌, arith}
use Rattle.std.specs.Prelude.{nat_lt, MatchOption, if◌then◌else◌}
use Rattle.std.specs.FinMap as fin
use Rattle.std.specs.List.{filter, filter_map}
use Rattle.mst_graph.specs.Groups.{AreGroups, StandOnce}
use Rattle.mst_graph.proofs.Members.{in_whole}
use Rattle.mst_graph.proofs.Unique as unique
use Rattle.mst_policy.specs.declared.expectation.Expectation.{Expectation}
use Rattle.mst_policy.specs.declared.expectation.Expectation.TheVariants as expect
use Rattle.mst_rows.specs.Rows.{Row}
use Rattle.mst_net.specs.tables.Tables.{Net, IsNetwork}
use Rattle.mst_roles.specs.forest.config.Regions.{same_region}
use Rattle.mst_graph.specs.Lists.{has_any}
use Rattle.mst_roles.specs.forest.nested.Trees.{IsSettled}
use Rattle.mst_roles.specs.forest.Outcome.{Outcome, trees_of}
use Rattle.mst_island_judges.specs.judged.reasons.sweep.vlan.Reach.{bridges_on}
use Rattle.mst_island_judges.specs.judged.reasons.note_text.Children.{HasSteps}
use Rattle.mst_island_judges.specs.judged.reasons.note_text.Depths.{ParentIn}
use Rattle.mst_island_judges.specs.judged.reasons.note_text.NotesText.{AreNoteRows}
use Rattle.mst_island_judges.specs.judged.reasons.sweep.declared.failure.Failure.{Failure}
use Rattle.mst_island_judges.specs.judged.reasons.Named.{Prior, is_named, named, unnamed}
use Rattle.mst_island_judges.specs.judged.reasons.Holds.{AreTogether, IsReached}
use Rattle.mst_island_judges.specs.judged.reasons.Reasons.{limit_reason, root_reasons, AreRootReasons, has_two, AreRegionReasons, Parts, reach_reason, AreReachReasons, is_in, either_on, has_both, AreBoth, apart_reason, AreApartReasons, leaves_reason, AreLeavesReasons, AreThose, leaf_reason, AreLeafReasons, AreDepthReasons, AreFitsReasons, AreReasons}
use Rattle.mst_island_judges.specs.judged.reasons.Roots.{IsNextRoot}
use Rattle.mst_island_judges.specs.judged.reasons.declared.reason.Reason.{Reason}
use Rattle.mst_island_judges.specs.judged.reasons.declared.reason.Reason.TheVariants as why
use Rattle.mst_tree_judges.proofs.BrokenRoots.{one_next}
use Rattle.mst_island_judges.proofs.judged_lemmas.OfVids.{one_of_vids}
use Rattle.mst_verify.proofs.Paths.{one_hops, one_via}
use Rattle.mst_verify.proofs.ReasonsTogether.{OneIslands, one_together}
use Rattle.mst_tree_judges.proofs.Keys.{keys_once, names_once, on_once}
use Rattle.mst_tree_judges.proofs.RootsThere.{roots_there}
use Rattle.mst_island_judges.proofs.judged_lemmas.reasons_lemmas.Things.{any_there, each_same, once_filtered}

-- ---- those things for which something holds
those_same : {A : Type 0} (P : A → Type 0) (things those others : List A) → StandOnce things → AreThose P things those → AreThose P things others → those ≡ others
those_same P things those others once a b =
    unique.one_thinned once a.in_order b.in_order (λ x. (
      λ h. let there = in_whole a.in_order x h in (b.are x there).1 ((a.are x there).0 h),
      λ h. let there = in_whole b.in_order x h in (a.are x there).1 ((b.are x there).0 h),
    ))

module _ (net : Net) (o : Outcome) where
  -- ---- regions and islands
  one_region : (bridges : List (List ℕ)) → StandOnce bridges → (reasons others : List Reason) → AreRegionReasons net bridges reasons → AreRegionReasons net bridges others → reasons ≡ others
  one_region bridges once reasons others x y =
      let same = unique.one_list (λ a b. same_region net a b ≡ true) bridges once x.parts y.parts x.are_parts y.are_parts in
      x.are ∙ ap (λ (parts : Parts). if has_two parts then why.Region parts ∷ [] else []) same ∙ sym y.are

  one_reach : (vids : List Bool) (bridges : List (List ℕ)) → StandOnce bridges → (reasons others : List Reason) → AreReachReasons net o vids bridges reasons → AreReachReasons net o vids bridges others → reasons ≡ others
  one_reach vids bridges once reasons others x y =
      one_of_vids (λ vid parts. AreGroups (IsReached net o vid) bridges parts) (λ vid parts other a b. unique.one_list (IsReached net o vid) bridges once parts other a b) reach_reason vids reasons others x y

  both_same : (bridges others : List (List ℕ)) (vid : ℕ) (parts other : Parts) → AreBoth net o bridges others vid parts → AreBoth net o bridges others vid other → parts ≡ other
  both_same bridges others vid parts other x y =
      let once = once_filtered (λ (z : List ℕ). is_in bridges z || is_in others z) (bridges_on net) (on_once net) in
      x.are ∙ ap (filter (has_both bridges others)) (unique.one_list (AreTogether net o vid) (either_on net bridges others) once x.all y.all x.are_parts y.are_parts) ∙ sym y.are

  one_apart : (vids : List Bool) (bridges others : List (List ℕ)) (reasons more : List Reason) → AreApartReasons net o vids bridges others reasons → AreApartReasons net o vids bridges others more → reasons ≡ more
  one_apart vids bridges others reasons more x y = one_of_vids (AreBoth net o bridges others) (both_same bridges others) apart_reason vids reasons more x y

  one_leaves : (vids : List Bool) (bridges others : List (List ℕ)) (reasons more : List Reason) → AreLeavesReasons net o vids bridges others reasons → AreLeavesReasons net o vids bridges others more → reasons ≡ more
  one_leaves vids bridges others reasons more x y = one_of_vids (AreBoth net o bridges others) (both_same bridges others) leaves_reason vids reasons more x y

  -- ---- parents
  one_leaf : (tree : ℕ) (bridges : List (List ℕ)) (reasons others : List Reason) → AreLeafReasons net o tree bridges reasons → AreLeafReasons net o tree bridges others → reasons ≡ others
  one_leaf tree bridges reasons others x y =
      x.are
      ∙ each_same (λ b. leaf_reason tree b (x.children b)) (λ b. leaf_reason tree b (y.children b)) bridges
      (λ b h.
      ap (leaf_reason tree b)
      (those_same (λ child. ParentIn (trees_of net o) tree child b) (fin.keys net.bridges) (x.children b) (y.children b) (keys_once net) (x.are_children b h) (y.are_children b h))) ∙ sym y.are

  module _ (tree most : ℕ) where
    not_deeper : (reasons others : List Reason) (x : AreDepthReasons net o tree most reasons) (y : AreDepthReasons net o tree most others) → x.greatest ≤ y.greatest
    not_deeper reasons others x y = go x.some
      where
        go : (x.greatest ≡ 0) ⊎ (has_any x.deepest ≡ true) → x.greatest ≤ y.greatest
        go (inl none) = omega arith
        go (inr e) = let b = any_there x.deepest e in y.none_deeper b.0 x.greatest ((x.are_deepest.are b.0 (in_whole x.are_deepest.in_order b.0 b.1)).0 b.1)

    one_depth : (reasons others : List Reason) → AreDepthReasons net o tree most reasons → AreDepthReasons net o tree most others → reasons ≡ others
    one_depth reasons others x y =
        let low = not_deeper reasons others x y in
        let high = not_deeper others reasons y x in
        let greatest : x.greatest ≡ y.greatest = omega arith in
        let its : ℕ → List (List ℕ) → Type 0 = λ steps those. AreThose (λ bridge. HasSteps (trees_of net o) tree bridge steps) (fin.keys net.bridges) those in
        let deepest : x.deepest ≡ y.deepest = those_same (λ bridge. HasSteps (trees_of net o) tree bridge x.greatest) (fin.keys net.bridges) x.deepest y.deepest (keys_once net) x.are_deepest
        (subst (λ steps. its steps y.deepest) (sym greatest) y.are_deepest) in
        x.are ∙ (λ i. if nat_lt most (greatest i) then why.Depth tree (greatest i) (deepest i) ∷ [] else []) ∙ sym y.are

  -- ---- limits
  one_fits : ((notes other : List Row) → AreNoteRows net o notes → AreNoteRows net o other → notes ≡ other) → (reasons others : List Reason) → AreFitsReasons net o reasons → AreFitsReasons net o others → reasons ≡ others
  one_fits one reasons others x y = x.are ∙ ap (filter_map (λ (note : Row). limit_reason note.kind note.cells)) (one x.notes y.notes x.are_notes y.are_notes) ∙ sym y.are

  module _ (ok : IsNetwork net) (settled : IsSettled (trees_of net o)) where
    -- ---- roots
    next_same : (tree : ℕ) (b : List ℕ) (m n : Option (List ℕ)) → MatchOption m ((c : List ℕ) → IsNextRoot net o tree b c → ⊥) (IsNextRoot net o tree b) → MatchOption n ((c : List ℕ) → IsNextRoot net o tree b c → ⊥) (IsNextRoot net o tree b)
        → m ≡ n
    next_same tree b None None x y = refl
    next_same tree b None (Some d) x y = absurd (x d y)
    next_same tree b (Some c) None x y = absurd (y c x)
    next_same tree b (Some c) (Some d) x y = ap Some (one_next net ok o tree (roots_there net ok o settled tree) b c d x y)

    one_root : (tree : ℕ) (b : List ℕ) (wanted : Option (List ℕ)) (reasons others : List Reason) → AreRootReasons net o tree b wanted reasons → AreRootReasons net o tree b wanted others → reasons ≡ others
    one_root tree b wanted reasons others x y = x.are ∙ ap (root_reasons net o tree b wanted) (next_same tree b x.next y.next x.is_next y.is_next) ∙ sym y.are

    -- ---- all fourteen
    module _ (before : Net) (lost : List Failure) (prior : Prior) (islands : OneIslands) (one : (notes other : List Row) → AreNoteRows net o notes → AreNoteRows net o other → notes ≡ other) where
      pub reasons_same : (e : Expectation) (reasons others : List Reason) → AreReasons net o before lost prior e reasons → AreReasons net o before lost prior e others → reasons ≡ others
      reasons_same (expect.Root tree b next) reasons others x y = one_root tree b next reasons others x y
      reasons_same (expect.Region names) reasons others x y = one_region (named net lost names) (names_once net (is_named lost names)) reasons others x y
      reasons_same (expect.Role tree ports roles) reasons others x y = x ∙ sym y
      reasons_same (expect.Reach vids names) reasons others x y = one_reach vids (named net lost names) (names_once net (is_named lost names)) reasons others x y
      reasons_same (expect.Apart vids names more) reasons others x y = one_apart vids (named net lost names) (named net lost more) reasons others x y
      reasons_same (expect.Leaves vids names) reasons others x y = one_leaves vids (named net lost names) (unnamed net names) reasons others x y
      reasons_same (expect.Together vids names) reasons others x y = one_together net o vids lost names prior.leaving islands prior.before reasons others x y
      reasons_same (expect.Leaf tree names) reasons others x y = one_leaf tree (named net lost names) reasons others x y
      reasons_same (expect.Depth tree steps) reasons others x y = one_depth tree steps reasons others x y
      reasons_same (expect.Hops vids most names) reasons others x y = one_hops net o vids most (named net lost names) reasons others x y
      reasons_same (expect.Via vids a b c) reasons others x y = one_via net o vids a b c reasons others x y
      reasons_same (expect.Carries lan vids) reasons others x y = x ∙ sym y
      reasons_same (expect.Avoids lan vids) reasons others x y = x ∙ sym y
      reasons_same expect.Fits reasons others x y = one_fits one reasons others x y

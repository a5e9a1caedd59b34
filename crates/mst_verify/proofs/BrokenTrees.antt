-- A reason is told just where an expectation doesn't hold: of parents, of steps to them, and of limits.
use Rattle.std.proofs.Common.{◌≡◌, ◌↔◌, ◌⊎◌, inl, inr, ℕ, ◌≤◌, true, false, true≢false, List, [], sym, ◌∙◌, arith}
use Rattle.std.specs.Prelude.{nat_lt}
use Rattle.std.proofs.lemmas.Bool.Decides.{nat_tests}
use Rattle.mst_graph.proofs.Members.{in_whole}
use Rattle.mst_net.specs.tables.Tables.{Net, IsNetwork}
use Rattle.mst_roles.specs.forest.Outcome.{Outcome, IsOutcome}
use Rattle.mst_graph.specs.Lists.{has_any}
use Rattle.mst_island_judges.specs.judged.reasons.Holds.{AreLeaves, IsShallow}
use Rattle.mst_island_judges.specs.judged.reasons.Reasons.{leaf_reason, AreLeafReasons, AreDepthReasons}
use Rattle.mst_island_judges.specs.judged.reasons.declared.reason.Reason.{Reason}
use Rattle.mst_island_judges.specs.judged.reasons.declared.reason.Reason.TheVariants as why
use Rattle.mst_tree_judges.proofs.Keys.{child_there}
use Rattle.mst_island_judges.proofs.judged_lemmas.reasons_lemmas.Things.{any_there, there_any, not_any, told_if, each_none, none_each}

-- ---- parents
pub leaf_broken : (net : Net) (o : Outcome) → IsNetwork net → IsOutcome net o → (tree : ℕ) (bridges : List (List ℕ)) (reasons : List Reason) → AreLeafReasons net o tree bridges reasons
    → (reasons ≡ []) ↔ AreLeaves net o tree bridges
leaf_broken net o ok is tree bridges reasons r = (
  λ e child bridge h parent.
      let there = ((r.are_children bridge h).are child (child_there net ok o is tree child bridge parent)).1 parent in
      let none = (told_if (has_any (r.children bridge)) (why.Leaf tree bridge (r.children bridge))).0 (each_none (λ b. leaf_reason tree b (r.children b)) bridges (sym r.are ∙ e) bridge h) in
      true≢false (sym (there_any (r.children bridge) child there) ∙ none),
  λ leaves. r.are ∙ none_each (λ b. leaf_reason tree b (r.children b)) bridges
      (λ bridge h. (told_if (has_any (r.children bridge)) (why.Leaf tree bridge (r.children bridge))).1
      (not_any (r.children bridge) (λ child k. let those = r.are_children bridge h in leaves child bridge h ((those.are child (in_whole those.in_order child k)).0 k)))),
)

-- ---- steps to parents
pub not_less : (m n : ℕ) → nat_lt m n ≡ false → n ≤ m
not_less m n e = grind (arith, nat_tests)

pub less_not : (m n : ℕ) → n ≤ m → nat_lt m n ≡ false
less_not m n l = grind (arith, nat_tests)

pub depth_broken : (net : Net) (o : Outcome) (tree most : ℕ) (reasons : List Reason) → AreDepthReasons net o tree most reasons → (reasons ≡ []) ↔ IsShallow net o tree most
depth_broken net o tree most reasons r =
    let t = told_if (nat_lt most r.greatest) (why.Depth tree r.greatest r.deepest) in (
      λ e bridge steps has.
          let low : r.greatest ≤ most = not_less most r.greatest (t.0 (sym r.are ∙ e)) in
          let below : steps ≤ r.greatest = r.none_deeper bridge steps has in
          omega arith,
      λ shallow. r.are ∙ t.1 (less_not most r.greatest (low shallow r.some)),
    )
  where
    low : IsShallow net o tree most → (r.greatest ≡ 0) ⊎ (has_any r.deepest ≡ true) → r.greatest ≤ most
    low shallow (inl none) = omega arith
    low shallow (inr e) =
        let b = any_there r.deepest e in
        shallow b.0 r.greatest ((r.are_deepest.are b.0 (in_whole r.are_deepest.in_order b.0 b.1)).0 b.1)

use Rattle.std.proofs.Common.{◌≡◌, ◌≢◌, ◌⊎◌, ◌∙◌, inl, inr, ℕ, ◌≤◌, Bool, List, [], ◌∷◌, length, Some, sym, subst, arith}
use Rattle.std.specs.List.{Contains}
use Rattle.mst_graph.proofs.Members.{cases, here, in_none, there}
use Rattle.mst_graph.proofs.Walks.{back}
use Rattle.mst_graph.specs.Islands.{link_ends}
use Rattle.mst_net.specs.tables.Tables.{Net}
use Rattle.mst_path.specs.Paths.{Hop, IsPathOf}
use Rattle.mst_roles.specs.forest.Outcome.{Outcome}
use Rattle.mst_island_judges.specs.judged.reasons.Holds.{AllReach, AreNear, AreTogether, IsReached}
use Rattle.mst_verify.specs.Joined.{AllHavePath, NoTwoTogether}
use Rattle.mst_verify.proofs.BrokenPaths.{none_itself}
use Rattle.mst_verify.proofs.Paths.{path_together, together_path}
use Rattle.mst_verify.proofs.ReachLinked.{same_or_not}
use Rattle.mst_verify.proofs.laws.paths_as_islands.Goals as goal

module _ (net : Net) (o : Outcome) (vids : List Bool) where
  -- a path without a hop leads to where it began
  no_hops : (vid : ℕ) (a b : List ℕ) (path : List Hop) → IsPathOf net o vid a b (Some path) → length path ≤ 0 → a ≡ b
  no_hops vid a b [] is low = is.1.path.way
  no_hops vid a b (h ∷ hops) is low = absurd (omega arith)

  near_apart : (bridges : List (List ℕ)) → AreNear net o vids 0 bridges → NoTwoTogether net o vids bridges
  near_apart bridges near vid h a b ha hb n t = let p = together_path net o vid a b t in n (no_hops vid a b p.0 p.1 (near vid h a b ha hb p.0 p.1))

  apart_near : (bridges : List (List ℕ)) → NoTwoTogether net o vids bridges → AreNear net o vids 0 bridges
  apart_near bridges apart vid h a b ha hb path is = elim (same_or_not a b) [
    | inl e ↦ (let none = none_itself net o 0 bridges vid a b path is e in omega arith)
    | inr n ↦ absurd (apart vid h a b ha hb n (path_together net o vid a b path is))
  ]

  turned : (vid : ℕ) (a b : List ℕ) → AreTogether net o vid a b → AreTogether net o vid b a
  turned vid a b t = record { first = t.second; second = t.first; joined = back link_ends t.joined }

  reach_path : (a b : List ℕ) → a ≢ b → AllReach net o vids (a ∷ b ∷ []) → AllHavePath net o vids a b
  reach_path a b n all vid h = go (all vid h a b (here a (b ∷ [])) (there a b (b ∷ []) (here b [])))
    where
      go : IsReached net o vid a b → (path : List Hop) × IsPathOf net o vid a b (Some path)
      go (inl e) = absurd (n e)
      go (inr t) = together_path net o vid a b t

  path_reach : (a b : List ℕ) → AllHavePath net o vids a b → AllReach net o vids (a ∷ b ∷ [])
  path_reach a b all vid h x y hx hy = go (of_two x hx) (of_two y hy)
    where
      t : AreTogether net o vid a b
      t = let p = all vid h in path_together net o vid a b p.0 p.1

      of_two : (z : List ℕ) → Contains (a ∷ b ∷ []) z → (a ≡ z) ⊎ (b ≡ z)
      of_two z c = elim (cases a z (b ∷ []) c) [ inl e ↦ inl e | inr k ↦ elim (cases b z [] k) [ inl e ↦ inr e | inr none ↦ absurd (in_none z none) ] ]

      go : (a ≡ x) ⊎ (b ≡ x) → (a ≡ y) ⊎ (b ≡ y) → IsReached net o vid x y
      go (inl e) (inl f) = inl (sym e ∙ f)
      go (inr e) (inr f) = inl (sym e ∙ f)
      go (inl e) (inr f) = inr (subst (λ x. AreTogether net o vid x y) e (subst (AreTogether net o vid a) f t))
      go (inr e) (inl f) = inr (subst (λ x. AreTogether net o vid x y) e (subst (AreTogether net o vid b) f (turned vid a b t)))

pub returns-clause-apart : goal.returns-clause-apart
returns-clause-apart c net o vids bridges = (near_apart net o vids bridges, apart_near net o vids bridges)

pub returns-clause-reach : goal.returns-clause-reach
returns-clause-reach c net o vids a b n = (reach_path net o vids a b n, path_reach net o vids a b)

-- What becomes of the lines of a policy along the steps of a change.
use Rattle.std.specs.Prelude.{◌≡◌, ◌&&◌, ◌||◌, not, Bool, false, ℕ, List, [], ◌∷◌, count_by, ⊤}
use Rattle.std.specs.List.{AllZip, Contains}
use Rattle.mst_rows.specs.Rows.{Row}
use Rattle.mst_graph.specs.Lists.{has_any}
use Rattle.mst_policy.specs.declared.policy.PolicyLine.{PolicyLine}
use Rattle.mst_verdict.specs.telling.Steps.{Change, is_broken, mends}
use Rattle.mst_verdict.specs.telling.Texts.{news, same_text}
use Rattle.mst_verdict.specs.Stepping.{StepTold, changes_in}

-- how many lines a step breaks, which were kept before it, and how many it mends, which have a `mends` row
abbrev pub broken_by : List PolicyLine → StepTold → ℕ
broken_by lines t = count_by is_broken (changes_in lines t)

abbrev pub mended_by : List PolicyLine → StepTold → ℕ
mended_by lines t = count_by (λ c. has_any (mends t.number c)) (changes_in lines t)

-- whether a line is kept behind a step, by what is told of it there alone: it is unkept where something new is told of it, kept where it is mended, and else as before
abbrev pub told_unkept : ℕ → Change → Bool
told_unkept step c = has_any (news c.before c.now) || has_any c.before && not (has_any (mends step c))

-- of a line behind two steps: no row that is told behind the second has the text of one that is told behind the first
abbrev pub AreOtherNews : Change → Change → Type 0
AreOtherNews c d = (row other : Row) → Contains (news c.before c.now) row → Contains (news d.before d.now) other → same_text other row ≡ false

-- of each line behind a step, and behind the next one
abbrev pub AreNewsNext : List PolicyLine → List StepTold → Type 0
AreNewsNext lines [] = ⊤
AreNewsNext lines (t ∷ []) = ⊤
AreNewsNext lines (t ∷ u ∷ told) = AllZip AreOtherNews (changes_in lines t) (changes_in lines u) × AreNewsNext lines (u ∷ told)

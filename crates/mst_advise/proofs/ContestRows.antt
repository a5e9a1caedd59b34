-- Contests in rows that are put one by one.
use Rattle.std.proofs.Common.{◌≡◌, ◌-◌, ◌≤◌, List, [], ◌∷◌, ◌++◌, take, drop, get_or, length, map, Option, None, refl, ap, sym, ◌∙◌, append_assoc, append-nil, arith}
use Rattle.std.specs.List.{cons_option}
use Rattle.std.proofs.lemmas.List.{take_all}
use Rattle.std.proofs.lemmas.List.Elements.{filter_map-append}
use Rattle.mst_kinds.specs.declared.contest_line.ContestLine.{ContestLine}
use Rattle.mst_kinds.specs.declared.kind.Kind.{Kind}
use Rattle.mst_kinds.specs.declared.kind.Kind.TheVariants as kind
use Rattle.mst_rows.specs.Cells.{Cell}
use Rattle.mst_rows.specs.Rows.{Row, cell, row_of}
use Rattle.mst_rows.specs.declared.value.Value.{Value}
use Rattle.mst_advise.specs.Contests.{contest_by, contest_in, contest_of, contests_in}
use Rattle.mst_advise.specs.declared.contests.RootContest.{RootContest}

-- one row more
pub one_more : (first old new : List RootContest) (rows : List Row) (row : Row) → old ≡ first ++ contests_in rows → new ≡ old ++ contests_in (row ∷ []) → new ≡ first ++ contests_in (rows ++ row ∷ [])
one_more first old new rows row before after =
    after
    ∙ ap (λ l. l ++ contests_in (row ∷ [])) before
    ∙ append_assoc first (contests_in rows) (contests_in (row ∷ []))
    ∙ ap (λ l. first ++ l) (sym (filter_map-append (λ (r : Row). contest_of r.kind r.cells) rows (row ∷ [])))

-- a row of another kind tells none
not_contest : (k : Kind) (cells : List Cell) → ((line : ContestLine) → k ≡ kind.Contest line → ⊥) → contest_of k cells ≡ None
not_contest (kind.Contest line) cells h = absurd (h line refl)
not_contest _ cells h = refl

pub none_more : (first old : List RootContest) (rows : List Row) (k : Kind) (cells : List Cell) → ((line : ContestLine) → k ≡ kind.Contest line → ⊥) → old ≡ first ++ contests_in rows → old ≡ first ++ contests_in (rows ++ row_of k cells ∷ [])
none_more first old rows k cells h before = one_more first old old rows (row_of k cells) before (sym (append-nil old) ∙ ap (λ (o : Option RootContest). old ++ cons_option o []) (sym (not_contest k cells h)))

-- a row of a contest
pub contest_said : (line : ContestLine) (values : List Value) (w x : Value) → 4 ≤ length values → w ≡ get_or values 2 w → x ≡ get_or values 3 x
    → contest_by line (cell w) (cell x) (map cell (take (length values - 4) (drop 4 values))) ≡ contest_in line (map cell values)
contest_said line [] w x l f g = absurd (omega arith)
contest_said line (a ∷ []) w x l f g = absurd (omega arith)
contest_said line (a ∷ b ∷ []) w x l f g = absurd (omega arith)
contest_said line (a ∷ b ∷ v ∷ []) w x l f g = absurd (omega arith)
contest_said line (a ∷ b ∷ v ∷ y ∷ more) w x l f g =
    let behind = take_all (length (a ∷ b ∷ v ∷ y ∷ more) - 4) more (omega arith) in λ i. contest_by line (cell (f i)) (cell (g i)) (map cell (behind i))

use Rattle.std.proofs.Common.{[], ◌∷◌, ◌++◌, map, ap, sym, ◌∙◌}
use Rattle.std.proofs.lemmas.Result.{on_ok_weaker}
use Rattle.mst_kinds.specs.declared.kind.Kind.{Kind}
use Rattle.mst_rows.specs.Rows.{cell, row_of}
use Rattle.mst_advise.specs.Contests.{contests_in}
use Rattle.mst_advise.proofs.ContestRows.{none_more, one_more}
use Rattle.mst_advise.proofs.contests.ContestsRows.row.Goals as goal

pub returns-in-Contest : goal.returns-in-Contest
returns-in-Contest c first rows grew =
    let cells = map cell c.args.values.now in
    let found = c.args.self.now.found.items in
    on_ok_weaker c.add_contest.result
    (λ w. one_more first.found.items found _ rows (row_of c.args.kind cells) grew (w ∙ ap (λ (k : Kind). found ++ contests_in (row_of k cells ∷ [])) (sym c.in-Contest.is))) c.add_contest.ensures

pub returns-in_default : goal.returns-in_default
returns-in_default c first rows grew = none_more first.found.items c.args.self.now.found.items rows c.args.kind (map cell c.args.values.now) c.in_default.not-Contest grew

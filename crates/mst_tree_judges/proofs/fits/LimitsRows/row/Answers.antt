use Rattle.std.proofs.Common.{◌≡◌, ◌++◌, map, sym, ap, ◌∙◌}
use Rattle.std.proofs.lemmas.Result.{on_ok_weaker}
use Rattle.mst_rows.specs.Rows.{Row, cell, row_of}
use Rattle.mst_judged.specs.reasons.Reasons.{limit_in, limit_reason, some_of}
use Rattle.mst_tree_judges.proofs.LimitRows.{none_more, not_note, one_more, told}
use Rattle.mst_tree_judges.proofs.fits.LimitsRows.row.Goals as goal

pub returns-in-Note : goal.returns-in-Note
returns-in-Note c first rows grew =
    let cells = map cell c.args.values.now in
    let row : Row = row_of c.args.kind cells in
    let is : told row ≡ limit_in c.in-Note.line cells = ap (λ k. limit_reason k cells) c.in-Note.is in
    on_ok_weaker c.add_note.result (λ w. one_more first.reasons.items _ _ rows row grew (w ∙ ap (λ o. c.args.self.now.reasons.items ++ some_of o) (sym is))) c.add_note.ensures

pub returns-in_default : goal.returns-in_default
returns-in_default c first rows grew =
    let cells = map cell c.args.values.now in
    none_more first.reasons.items _ rows (row_of c.args.kind cells) (not_note c.args.kind cells c.in_default.not-Note) grew

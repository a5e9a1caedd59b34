use Rattle.std.proofs.Common.{◌≡◌, ◌∙◌, ◌∷◌, [], ◌++◌, List, append-nil, append_assoc, map, subst, sym}
use Rattle.std.proofs.lemmas.Result.{on_ok_weaker}
use Rattle.mst_rows.specs.Lines.{row_line}
use Rattle.mst_rows.specs.Rows.{Row, cell, row_of}
use Rattle.mst_telling.specs.Judged.{AreTexts}
use Rattle.mst_telling.proofs.TextLines.{for_all}
use Rattle.mst_telling.proofs.texts.TextsRows.row.Goals as goal

pub returns : goal.returns
returns c first rows grew =
    let row : Row = row_of c.args.kind (map cell c.args.values.now) in
    let line : c.row.new.self.items ≡ row_line row =
    c.in_ok-row.ensures c.new-text.result [] (sym (append-nil c.new-text.result.items)) ∙ (λ i. c.new-text.ensures.items i ++ (row_line row ++ [])) ∙ append-nil (row_line row) in
    for_all c.add.result (λ before. AreTexts before first) (λ before. AreTexts (before ++ (rows ++ row ∷ [])) c.add.new.self)
    (λ before are. on_ok_weaker c.add.result (subst (λ (all : List Row). AreTexts all c.add.new.self) (append_assoc before rows (row ∷ []))) (c.add.ensures (before ++ rows) row (grew before are) line))

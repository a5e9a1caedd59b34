use Rattle.std.proofs.Common.{◌≡◌, ◌∙◌, [], ◌++◌, List, subst}
use Rattle.mst_rows.specs.Rows.{Row}
use Rattle.mst_telling.specs.Judged.{AreTexts, line_found, line_lacks}
use Rattle.mst_telling.specs.Lines.{unkept_by}
use Rattle.mst_telling.specs.Told.{missing_rows}
use Rattle.mst_telling.proofs.Only.{all_new, plain}
use Rattle.mst_telling.proofs.TextLines.{begun}
use Rattle.mst_telling.proofs.unkept.texts_of.Goals as goal

pub returns : goal.returns
returns c =
    let n = c.args.n in
    let line = c.args.line.now in
    let lacking : List Row = missing_rows line.number c.lacks.result in
    let unkept : List Row = unkept_by line.number line.read (line_found n c.as_slice-found.result.now) in
    let put = c.in_ok-put_unkept.ensures [] c.new-none.ensures c.new-texts.result _ (c.in_ok-put_lacking.ensures.put c.new-texts.result [] (begun c.new-texts.result)) in
    subst (λ (rows : List Row). AreTexts rows c.put_unkept.new.out)
    ((λ i. plain lacking i ++ all_new unkept i) ∙ (λ i. missing_rows line.number (c.lacks.ensures i) ++ unkept_by line.number line.read (line_found n (c.as_slice-found.ensures.value i)))) (put [] c.new-texts.ensures)

use Rattle.std.proofs.Common.{◌∙◌, ap}
use Rattle.std.specs.List.{list_any}
use Rattle.mst_rows.specs.Lines.{row_line}
use Rattle.mst_telling.specs.Texts.{same_line}
use Rattle.mst_telling.proofs.texts.Texts.has.Goals as goal

pub returns : goal.returns
returns c rows row are is = c.contains.ensures ∙ are c.args.text.now ∙ ap (λ text. list_any (λ row. same_line text (row_line row)) rows) is

use Rattle.std.proofs.Common.{◌++◌, [], sym, ap, ◌∙◌}
use Rattle.std.specs.List.{flat_map}
use Rattle.mst_rows.specs.Lines.{row_line}
use Rattle.mst_edits.specs.EditRows.{save_rows}
use Rattle.mst_edits.proofs.digest.text_of.Goals as goal

pub returns : goal.returns
returns g c =
    let empty = c.new-text.ensures.items in
    c.in_ok-put_saved.ensures c.new-text.result [] (empty ∙ sym (ap (λ l. l ++ []) empty)) ∙ ap (λ l. l ++ flat_map row_line (save_rows (g.C.Contents.tables c.args.contents.now).net)) empty

use Rattle.std.proofs.Common.{◌∙◌, [], ◌++◌, append-nil, sym}
use Rattle.mst_rows.specs.Lines.{row_line}
use Rattle.mst_telling.specs.Rows.{reason_row}
use Rattle.mst_telling.proofs.reason.reason_text.Goals as goal

pub returns : goal.returns
returns c =
    let line = row_line (reason_row c.args.number c.args.cause.now c.args.reason.now) in
    c.in_ok-put_reason.ensures c.new-text.result [] (sym (append-nil c.new-text.result.items)) ∙ (λ i. c.new-text.ensures.items i ++ (line ++ [])) ∙ append-nil line

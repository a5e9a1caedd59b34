use Rattle.std.proofs.Common.{◌++◌, ◌∙◌, [], sym, ap}
use Rattle.std.specs.List.{flat_map}
use Rattle.mst_rows.specs.Answers.{record_line}
use Rattle.mst_rows.specs.Lines.{row_line}
use Rattle.mst_rows.proofs.Printers.{nothing_yet}
use Rattle.mst_questions.specs.tool.engine.print.Shape.{listed}
use Rattle.mst_ask.specs.Kept.{rows_of}
use Rattle.mst_ask.proofs.undone.undone_text.Goals as goal

pub returns-in_ok-put_undone-in-Text : goal.returns-in_ok-put_undone-in-Text
returns-in_ok-put_undone-in-Text c =
    let rows = rows_of c.args.lines.now in
    c.in_ok-put_undone-in-Text.ensures c.new-out.result [] (nothing_yet c.new-out.result.items) ∙ ap (λ t. t ++ flat_map row_line rows) c.new-out.ensures.items ∙ ap (λ form. listed form rows) (sym c.in-Text.is)

pub returns-in_ok-put_undone-in-Json : goal.returns-in_ok-put_undone-in-Json
returns-in_ok-put_undone-in-Json c =
    let rows = rows_of c.args.lines.now in
    c.in_ok-put_undone-in-Json.ensures (record { out = c.new-out.result }) [] (nothing_yet c.new-out.result.items) ∙ ap (λ t. t ++ flat_map record_line rows) c.new-out.ensures.items ∙ ap (λ form. listed form rows) (sym c.in-Json.is)

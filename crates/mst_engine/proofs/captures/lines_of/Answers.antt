use Rattle.std.proofs.Common.{◌++◌, ◌∙◌, [], ap}
use Rattle.std.specs.List.{flat_map}
use Rattle.mst_bpdu.specs.CaptureText.{comparison_rows}
use Rattle.mst_rows.specs.Lines.{row_line}
use Rattle.mst_rows.proofs.Printers.{nothing_yet}
use Rattle.mst_engine.proofs.captures.lines_of.Goals as goal

pub returns : goal.returns
returns c =
    let text = flat_map row_line (comparison_rows c.args.number c.args.port.now c.args.differences.now) in
    c.in_ok-put_comparison.ensures c.new-text.result [] (nothing_yet c.new-text.result.items) ∙ ap (λ t. t ++ text) c.new-text.ensures.items

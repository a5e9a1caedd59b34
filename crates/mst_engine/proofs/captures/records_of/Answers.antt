use Rattle.std.proofs.Common.{◌++◌, ◌∙◌, [], ap}
use Rattle.std.specs.List.{flat_map}
use Rattle.mst_bpdu.specs.CaptureText.{comparison_rows}
use Rattle.mst_rows.specs.Answers.{record_line}
use Rattle.mst_rows.proofs.Printers.{nothing_yet}
use Rattle.mst_engine.proofs.captures.records_of.Goals as goal

pub returns : goal.returns
returns c =
    let text = flat_map record_line (comparison_rows c.args.number c.args.port.now c.args.differences.now) in
    c.in_ok-put_comparison.ensures (record { out = c.new-out.result }) [] (nothing_yet c.new-out.result.items) ∙ ap (λ t. t ++ text) c.new-out.ensures.items

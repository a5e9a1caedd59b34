use Rattle.std.proofs.Common.{[], None, ap}
use Rattle.std.specs.Prelude.{not}
use Rattle.mst_tables.specs.Contents.{Contents}
use Rattle.mst_tool.proofs.engine_lemmas.print_lemmas.Shown.{grew_none}
use Rattle.mst_between.specs.Diff.{diff_row}
use Rattle.mst_between.proofs.WholeDiff.{difference_shown}
use Rattle.mst_between.proofs.diffs.planned_apart.Goals as goal

pub returns : goal.returns
returns c =
    let printer = c.in_ok-printer.printer in
    let counts = c.in_ok-counts.counts in
    let put = c.in_ok-counts.ensures printer [] (grew_none printer) in (
      counts,
      ap not c.is_nothing.ensures,
      difference_shown c.args.form c.args.old.now.contents.net c.args.new.now.contents.net c.settle.new.self.contents.net c.settle-2.new.self.contents.net counts put.0 c.in_ok-text.text.items
          (ap (λ (k : Contents). k.net) c.settle.ensures.same) (ap (λ (k : Contents). k.net) c.settle-2.ensures.same) put.1
          (c.in_ok-text.ensures c.args.form None diff_row printer put.0 c.in_ok-printer.ensures put.2),
    )

use Rattle.std.proofs.Common.{[], None, refl}
use Rattle.mst_tool.proofs.engine_lemmas.print_lemmas.Shown.{grew_none}
use Rattle.mst_between.specs.Diff.{edits_row}
use Rattle.mst_between.proofs.diffs.set_apart.Goals as goal

pub returns : goal.returns
returns c =
    let printer = c.in_ok-printer.printer in
    let put = c.in_ok-differs.ensures printer [] (grew_none printer) in
    (c.in_ok-differs.differs, refl, (put.0, put.1, c.in_ok-text.ensures c.args.form None edits_row printer put.0 c.in_ok-printer.ensures put.2))

use Rattle.std.proofs.Common.{refl, subst, ◌++◌}
use Rattle.std.proofs.lemmas.Result.{on_ok_weaker}
use Rattle.mst_edits.specs.EditRows.{save_rows}
use Rattle.mst_report.proofs.planner.Planner.saved.Goals as goal

pub returns : goal.returns
returns g c first before grew =
    on_ok_weaker c.put_saved.result
    (λ grown. (save_rows c.args.self.now.contents.net, refl, subst (λ n. g.R.Rows.grew first c.put_saved.new.out (before ++ save_rows n.net)) c.network.ensures grown)) (c.put_saved.ensures first before grew)

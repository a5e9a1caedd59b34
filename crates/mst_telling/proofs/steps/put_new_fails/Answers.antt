use Rattle.std.proofs.Common.{◌++◌, List, map, subst, sym}
use Rattle.std.specs.Result.{OnOk}
use Rattle.mst_rows.specs.Rows.{Row}
use Rattle.mst_telling.specs.Judged.{line_found, line_rows}
use Rattle.mst_telling.specs.Lines.{unkept_by}
use Rattle.mst_telling.specs.Rows.{behind}
use Rattle.mst_telling.specs.Texts.{news}
use Rattle.mst_telling.proofs.NewRows.{fails_are}
use Rattle.mst_telling.proofs.steps.put_new_fails.Goals as goal

pub returns : goal.returns
returns g c first rows grew =
    let line = c.args.line.now in
    let before = c.args.before.now in
    let now = c.args.now.now in
    subst (λ (more : List Row). OnOk c.put_unkept.result (g.R.Rows.grew first c.put_unkept.new.out (rows ++ map (behind c.args.step) more))) (sym (fails_are c.args.n line before now))
    (subst (λ found. OnOk c.put_unkept.result (g.R.Rows.grew first c.put_unkept.new.out (rows ++ map (behind c.args.step) (news (line_rows c.args.n line before) (unkept_by line.number line.read (line_found c.args.n found))))))
    c.as_slice-found.ensures.value (c.put_unkept.ensures (line_rows c.args.n line before) c.in_ok-texts.ensures first rows grew))

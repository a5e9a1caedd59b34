use Rattle.std.proofs.Common.{◌++◌, List, map, not, subst, take}
use Rattle.mst_rows.specs.Rows.{Row}
use Rattle.mst_telling.specs.Judged.{found_at}
use Rattle.mst_telling.specs.Rows.{row_at}
use Rattle.mst_telling.specs.Texts.{is_told, news}
use Rattle.mst_telling.specs.Told.{Found, found_rows, reason_rows}
use Rattle.mst_telling.proofs.GoesOn.{flat_mapped, more, then_filtered, then_mapped, whole}
use Rattle.mst_telling.proofs.news.put_all_unless.Goals as goal

pub loop-finding-preserved : goal.loop-finding-preserved
loop-finding-preserved g c those are first rows grew =
    let at = c.args.at in
    let so_far : List Row = map (row_at at.step) (news those (found_rows at.number (map (found_at c.args.n) (take c.loop-finding.finding-index c.args.found.now)))) in
    more (g.R.Rows.grew first c.put_unless.new.out)
    (then_mapped (row_at at.step) (then_filtered (λ (row : Row). not (is_told those row)) (flat_mapped (λ (f : Found). reason_rows at.number f.place f.reasons) (found_at c.args.n)))) c.args.found.now c.loop-finding.finding-index
    c.finding-item.result rows c.loop-finding-test.true c.finding-item.is
    (subst (λ reasons. g.R.Rows.grew first c.put_unless.new.out ((rows ++ so_far) ++ map (row_at at.step) (news those (reason_rows at.number c.finding-item.result.place reasons)))) c.reasons_of.ensures
    (c.in_ok-put_unless.ensures those are first _ (c.loop-finding.invariant those are first rows grew)))

pub returns : goal.returns
returns g c those are first rows grew =
    let at = c.args.at in
    whole (g.R.Rows.grew first c.loop-finding.out)
    (then_mapped (row_at at.step) (then_filtered (λ (row : Row). not (is_told those row)) (flat_mapped (λ (f : Found). reason_rows at.number f.place f.reasons) (found_at c.args.n)))) c.args.found.now c.loop-finding.finding-index rows
    c.loop-finding-test.false (c.loop-finding.invariant those are first rows grew)

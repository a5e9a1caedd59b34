use Rattle.std.proofs.Common.{◌++◌, List, map, subst, take}
use Rattle.mst_rows.specs.Rows.{Row}
use Rattle.mst_telling.specs.Judged.{found_at}
use Rattle.mst_telling.specs.Rows.{row_at}
use Rattle.mst_telling.specs.Told.{Found, found_rows, reason_rows}
use Rattle.mst_telling.proofs.GoesOn.{flat_mapped, more, then_mapped, whole}
use Rattle.mst_telling.proofs.judgement.put_found.Goals as goal

pub loop-finding-preserved : goal.loop-finding-preserved
loop-finding-preserved g c first rows grew =
    let at = c.args.at in
    let found = c.args.found.now in
    let i = c.loop-finding.finding-index in
    let so_far : List Row = map (row_at at.step) (found_rows at.number (map (found_at c.args.n) (take i found))) in
    more (g.R.Rows.grew first c.put_reasons.new.out) (then_mapped (row_at at.step) (flat_mapped (λ (f : Found). reason_rows at.number f.place f.reasons) (found_at c.args.n))) found i c.finding-item.result rows
    c.loop-finding-test.true c.finding-item.is
    (subst (λ reasons. g.R.Rows.grew first c.put_reasons.new.out ((rows ++ so_far) ++ map (row_at at.step) (reason_rows at.number c.finding-item.result.place reasons))) c.reasons_of.ensures
    (c.in_ok-put_reasons.ensures first _ (c.loop-finding.invariant first rows grew)))

pub returns : goal.returns
returns g c first rows grew =
    let at = c.args.at in
    whole (g.R.Rows.grew first c.loop-finding.out) (then_mapped (row_at at.step) (flat_mapped (λ (f : Found). reason_rows at.number f.place f.reasons) (found_at c.args.n))) c.args.found.now c.loop-finding.finding-index rows
    c.loop-finding-test.false (c.loop-finding.invariant first rows grew)

use Rattle.std.proofs.Common.{◌++◌, ◌∙◌, subst, true}
use Rattle.std.specs.List.{flat_map}
use Rattle.mst_rows.proofs.Loops.{rows_all, rows_more}
use Rattle.mst_edits.specs.Edits.{bridge_part}
use Rattle.mst_edits.specs.EditRows.{edits_rows}
use Rattle.mst_edits.proofs.save.put_bridges.Goals as goal

pub loop-name-preserved : goal.loop-name-preserved
loop-name-preserved g c first rows grew =
    let a = (g.C.Contents.tables c.args.old.now).net in
    let b = (g.D.Contents.tables c.args.new.now).net in
    rows_more (g.R.Rows.grew first c.put_part.new.out) (λ bridge. edits_rows (bridge_part true a b bridge)) c.as_slice-name-items.result.now c.loop-name.name-index c.name-item.result rows c.loop-name-test.true c.name-item.is
    (c.in_ok-put_part.ensures first _ (c.loop-name.invariant first rows grew))

pub returns : goal.returns
returns g c first rows grew =
    let a = (g.C.Contents.tables c.args.old.now).net in
    let b = (g.D.Contents.tables c.args.new.now).net in
    subst (λ xs. g.R.Rows.grew first c.loop-name.out (rows ++ flat_map (λ bridge. edits_rows (bridge_part true a b bridge)) xs)) (c.as_slice-name-items.ensures.value ∙ c.in_ok-names.ensures)
    (rows_all (g.R.Rows.grew first c.loop-name.out) (λ bridge. edits_rows (bridge_part true a b bridge)) c.as_slice-name-items.result.now c.loop-name.name-index rows c.loop-name-test.false (c.loop-name.invariant first rows grew))

use Rattle.std.proofs.Common.{true, ◌++◌, ap, subst, ◌∙◌}
use Rattle.std.proofs.lemmas.Result.{on_ok_weaker}
use Rattle.mst_edits.specs.Edits.{bridge_part}
use Rattle.mst_edits.specs.EditRows.{edits_rows}
use Rattle.mst_edits.proofs.save.put_part.Goals as goal

pub returns : goal.returns
returns g c first rows grew =
    let a = (g.C.Contents.tables c.args.old.now).net in
    let b = (g.D.Contents.tables c.args.new.now).net in
    let part = bridge_part true a b c.args.name.now in
    on_ok_weaker c.put_rows.result (subst (λ es. g.R.Rows.grew first c.put_rows.new.out (rows ++ edits_rows es)) (c.deref.ensures.value ∙ c.in_ok-add_part.ensures ∙ ap (λ es. es ++ part) c.new-edits.ensures.items))
    (c.put_rows.ensures first rows grew)

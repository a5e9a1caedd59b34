use Rattle.std.proofs.Common.{true, ◌∷◌, ◌++◌, ◌∙◌, ap, subst}
use Rattle.std.proofs.lemmas.Result.{on_ok_weaker}
use Rattle.mst_net.specs.tables.Tables.{Net}
use Rattle.mst_edits.specs.Edits.{joined, coming}
use Rattle.mst_edits.specs.EditRows.{edits_rows, first_row}
use Rattle.mst_edits.proofs.RowsInTurn.{whole}
use Rattle.mst_edits.proofs.save.put_saved.Goals as goal

pub returns : goal.returns
returns g c first rows grew =
    let b = (g.C.Contents.tables c.args.contents.now).net in
    let a = c.new-nothing.result.net in
    let lans = c.in_ok-put_lans.ensures first _ (c.in_ok-put_bridges.ensures first _ (c.in_ok-put_version.ensures first rows grew)) in
    on_ok_weaker c.put_plugs.result
    (subst (g.R.Rows.grew first c.put_plugs.new.out) (whole a b rows c.deref-2.result.now (c.deref-2.ensures.value ∙ c.in_ok-ports.ensures) ∙ ap (λ (x : Net). rows ++ first_row ∷ edits_rows (joined (coming true x b))) c.new-nothing.ensures.net))
    (c.put_plugs.ensures first _ lans)

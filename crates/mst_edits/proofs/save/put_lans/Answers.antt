use Rattle.std.proofs.Common.{true, ◌++◌, ap, subst, ◌∙◌}
use Rattle.std.specs.List.{flat_map}
use Rattle.std.specs.FinMap as fin
use Rattle.std.proofs.lemmas.Result.{on_ok_weaker}
use Rattle.mst_edits.specs.Edits.{lan_edits}
use Rattle.mst_edits.specs.EditRows.{edits_rows}
use Rattle.mst_edits.proofs.save.put_lans.Goals as goal

pub returns : goal.returns
returns g c first rows grew =
    let a = (g.C.Contents.tables c.args.old.now).net in
    let b = (g.D.Contents.tables c.args.new.now).net in
    let lans = flat_map (lan_edits true a b) (fin.keys b.lans) in
    on_ok_weaker c.put_rows.result (subst (λ es. g.R.Rows.grew first c.put_rows.new.out (rows ++ edits_rows es)) (c.deref.ensures.value ∙ c.in_ok-add_lans.ensures ∙ ap (λ es. es ++ lans) c.new-edits.ensures.items))
    (c.put_rows.ensures first rows grew)

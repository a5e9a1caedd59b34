use Rattle.std.proofs.Common.{◌++◌, ap, subst, ◌∙◌}
use Rattle.std.specs.List.{flat_map}
use Rattle.std.proofs.lemmas.Result.{on_ok_weaker}
use Rattle.mst_edits.specs.Edits.{plug_edits}
use Rattle.mst_edits.specs.EditRows.{edits_rows}
use Rattle.mst_edits.proofs.save.put_plugs.Goals as goal

pub returns : goal.returns
returns g c first rows grew =
    let a = (g.C.Contents.tables c.args.old.now).net in
    let b = (g.D.Contents.tables c.args.new.now).net in
    let plugs = flat_map (plug_edits a b) c.args.ports.now in
    on_ok_weaker c.put_rows.result (subst (λ es. g.R.Rows.grew first c.put_rows.new.out (rows ++ edits_rows es)) (c.deref.ensures.value ∙ c.in_ok-add_plugs.ensures ∙ ap (λ es. es ++ plugs) c.new-edits.ensures.items))
    (c.put_rows.ensures first rows grew)

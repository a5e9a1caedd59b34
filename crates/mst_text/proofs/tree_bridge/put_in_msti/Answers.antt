use Rattle.std.proofs.Common.{refl, ap, ◌∙◌}
use Rattle.mst_rows.specs.Cells.{number}
use Rattle.mst_text.specs.TreeRows.{msti_row}
use Rattle.mst_text.proofs.tree_bridge.put_in_msti.Goals as goal

pub returns : goal.returns
returns g c net are first rows grew =
    let row = msti_row net c.args.tree c.args.bridge.now c.args.id c.args.vector.now in
    c.put.ensures first rows row.cells
    (ap number (c.from.ensures ∙ c.value.ensures.value), (refl, (refl, (refl, (c.value-2.ensures net are, (refl, (refl, (c.value-3.ensures net are, (refl, (refl, tt)))))))))) grew

use Rattle.std.proofs.Common.{refl}
use Rattle.mst_text.specs.TreeRows.{cist_row}
use Rattle.mst_text.proofs.tree_bridge.put_in_cist.Goals as goal

pub returns : goal.returns
returns g c net are first rows grew =
    let row = cist_row net c.args.bridge.now c.args.id c.args.vector.now in
    c.put.ensures first rows row.cells
    (refl, (refl, (refl, (refl, (c.value.ensures net are, (refl, (refl, (c.value-2.ensures net are, (refl, (refl, (c.value-3.ensures net are, (refl, (refl, tt))))))))))))) grew

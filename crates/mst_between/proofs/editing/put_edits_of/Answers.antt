use Rattle.std.proofs.Common.{◌∙◌}
use Rattle.std.proofs.lemmas.Result.{IfOk-weaker}
use Rattle.mst_edits.specs.EditRows.{change_rows}
use Rattle.mst_edits.specs.Edits.{edits, has_any}
use Rattle.mst_between.proofs.editing.put_edits_of.Goals as goal

pub returns : goal.returns
returns g c first before grew =
    IfOk-weaker c.put_edits.result _ _ (λ differs said. (
      change_rows c.network.result.now.net c.network-2.result.now.net,
      record {
        some = said.0 ∙ (λ i. has_any (edits (c.network.ensures i).net (c.network-2.ensures i).net));
        are = λ i. change_rows (c.network.ensures i).net (c.network-2.ensures i).net;
      },
      said.1,
    )) (c.put_edits.ensures first before grew)

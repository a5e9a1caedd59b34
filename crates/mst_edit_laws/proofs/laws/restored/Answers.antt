use Rattle.std.proofs.Common.{true, subst}
use Rattle.std.specs.List.{AllByRecursion}
use Rattle.mst_net.specs.tables.Tables.{empty_net}
use Rattle.mst_net.proofs.tables_lemmas.AfterLemmas.{no_network}
use Rattle.mst_edits.specs.Edits.{saved_edits}
use Rattle.mst_edit_laws.proofs.Nothing.{as_saved}
use Rattle.mst_edit_laws.proofs.ReadAgain.{text_restores}
use Rattle.mst_edit_laws.proofs.Sayable.{IsGood, edits_good}
use Rattle.mst_edit_laws.proofs.laws.restored.Goals as goal

pub returns : goal.returns
returns c net is short =
    let good = subst (AllByRecursion IsGood) (as_saved net) (edits_good true empty_net net no_network is) in
    text_restores (saved_edits net) good short net (c.made_again.ensures.accepted net is) (c.made_again.ensures.made net is)

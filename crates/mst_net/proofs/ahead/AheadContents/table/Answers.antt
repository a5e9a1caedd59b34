use Rattle.std.proofs.Common.{ap, sym, ◌∙◌}
use Rattle.mst_tables.specs.After.{table_of}
use Rattle.mst_net.specs.Foreseen.{table_after}
use Rattle.mst_net.proofs.ForeseenLemmas.{foreseen_table}
use Rattle.mst_net.proofs.ahead.AheadContents.table.Goals as goal

pub returns : goal.returns
returns c =
    let old = c.self.inside.network.now in
    let edit = c.self.inside.edit.now in
    c.table_ahead.ensures ∙ ap (table_after edit c.args.bridge.now) c.table.ensures
    ∙ sym (foreseen_table edit old.net c.args.bridge.now) ∙ ap (λ t. table_of t.net c.args.bridge.now) c.self.view_is

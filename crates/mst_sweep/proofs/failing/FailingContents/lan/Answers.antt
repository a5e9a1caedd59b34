use Rattle.std.proofs.Common.{Some, sym, ap, ◌∙◌}
use Rattle.std.specs.List.{list_any}
use Rattle.std.specs.Option.{option_map}
use Rattle.mst_net.specs.tables.Tables.{LanRow}
use Rattle.mst_sweep.specs.Failing.{fails_lan, down_if}
use Rattle.mst_sweep.proofs.Together.{lan_failed}
use Rattle.mst_sweep.proofs.failing.FailingContents.lan.Goals as goal

pub returns-in-None-clause-row : goal.returns-in-None-clause-row
returns-in-None-clause-row c =
    let fs = c.args.self.now.failures.now in
    let name = c.args.name.now in
    ap (option_map (down_if (list_any (fails_lan name) fs))) c.in-None.ensures.row ∙ sym (lan_failed fs c.args.self.now.network.now.net.lans name)

pub returns-in-Some-clause-row : goal.returns-in-Some-clause-row
returns-in-Some-clause-row c =
    let fs = c.args.self.now.failures.now in
    ap (λ (row : LanRow). Some row) c.down_if.ensures.row
    ∙ (λ i. option_map (down_if (c.any_fails_lan.ensures i)) (c.in-Some.ensures.row i)) ∙ sym (lan_failed fs c.args.self.now.network.now.net.lans c.args.name.now)

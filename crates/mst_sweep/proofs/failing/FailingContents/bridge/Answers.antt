use Rattle.std.proofs.Common.{Some, sym, ap, ◌∙◌}
use Rattle.std.specs.List.{list_any}
use Rattle.std.specs.Option.{option_map}
use Rattle.mst_net.specs.tables.Tables.{BridgeRow}
use Rattle.mst_sweep.specs.Failing.{fails_bridge, off_if}
use Rattle.mst_sweep.proofs.Together.{bridge_failed}
use Rattle.mst_sweep.proofs.failing.FailingContents.bridge.Goals as goal

pub returns-in-None-clause-row : goal.returns-in-None-clause-row
returns-in-None-clause-row c =
    let fs = c.args.self.now.failures.now in
    let name = c.args.name.now in
    ap (option_map (off_if (list_any (fails_bridge name) fs))) c.in-None.ensures.row ∙ sym (bridge_failed fs c.args.self.now.network.now.net.bridges name)

pub returns-in-Some-clause-row : goal.returns-in-Some-clause-row
returns-in-Some-clause-row c =
    let fs = c.args.self.now.failures.now in
    ap (λ (row : BridgeRow). Some row) c.off_if.ensures.row
    ∙ (λ i. option_map (off_if (c.any_fails_bridge.ensures i)) (c.in-Some.ensures.row i)) ∙ sym (bridge_failed fs c.args.self.now.network.now.net.bridges c.args.name.now)

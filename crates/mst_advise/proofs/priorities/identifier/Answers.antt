use Rattle.std.proofs.Common.{Option, sym, ap, ◌∙◌}
use Rattle.std.specs.Option.{option_copied, option_map_or}
use Rattle.mst_net.specs.tables.ByTree.{by_tree}
use Rattle.mst_net.specs.tables.Seen.{bridge_row}
use Rattle.mst_net.specs.tables.Tables.{BridgeRow}
use Rattle.mst_roles.specs.forest.InUse.{id_in}
use Rattle.mst_advise.proofs.BridgeNamed.{is_there, not_there}
use Rattle.mst_advise.proofs.priorities.identifier.Goals as goal

pub returns-in-None : goal.returns-in-None
returns-in-None c =
    let s = c.args.plan.now in
    ap (λ (row : Option BridgeRow). option_map_or (id_in (by_tree s.net) c.args.tree c.args.name.now) row 0) (sym (not_there s c.known.ensures c.args.name.now (sym c.bridge_named.ensures ∙ ap option_copied c.in-None.is)))

pub returns-in-Some : goal.returns-in-Some
returns-in-Some c =
    let s = c.args.plan.now in
    let b = c.in-Some.bridge.now in
    let found = is_there s c.known.ensures c.args.name.now b (sym c.bridge_named.ensures ∙ ap option_copied c.in-Some.is) in
    c.bridge_id.ensures ∙ (λ i. id_in (c.settings.ensures i) c.args.tree (found.named i) (bridge_row b.bridge))
    ∙ ap (λ (row : Option BridgeRow). option_map_or (id_in (by_tree s.net) c.args.tree c.args.name.now) row 0) (sym found.has_row)

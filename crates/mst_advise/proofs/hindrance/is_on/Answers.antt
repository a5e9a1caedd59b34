use Rattle.std.proofs.Common.{Option, false, sym, ap, ◌∙◌}
use Rattle.std.specs.Option.{option_copied, option_map_or}
use Rattle.mst_net.specs.tables.Tables.{BridgeRow}
use Rattle.mst_advise.proofs.BridgeNamed.{is_there, not_there}
use Rattle.mst_advise.proofs.hindrance.is_on.Goals as goal

pub returns-in-None : goal.returns-in-None
returns-in-None c =
    ap (λ (row : Option BridgeRow). option_map_or (λ (r : BridgeRow). r.is_on) row false) (sym (not_there c.args.plan.now c.known.ensures c.args.name.now (sym c.bridge_named.ensures ∙ ap option_copied c.in-None.is)))

pub returns-in-Some : goal.returns-in-Some
returns-in-Some c =
    let found = is_there c.args.plan.now c.known.ensures c.args.name.now c.in-Some.bridge.now (sym c.bridge_named.ensures ∙ ap option_copied c.in-Some.is) in
    c.is_on.ensures ∙ ap (λ (row : Option BridgeRow). option_map_or (λ (r : BridgeRow). r.is_on) row false) (sym found.has_row)

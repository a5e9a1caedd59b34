use Rattle.std.proofs.Common.{is_some, sym, ap, ◌∙◌}
use Rattle.std.specs.FinMap as fin
use Rattle.std.specs.Option.{option_map}
use Rattle.mst_net.specs.tables.Seen.{bridge_row}
use Rattle.mst_net.specs.tables.Tables.{Net}
use Rattle.mst_questions.specs.Explaining.{unexplained_of}
use Rattle.mst_questions.proofs.Explained.{without_bridge}
use Rattle.mst_questions.proofs.explaining.unexplained_in.Goals as goal

pub no_port-requires : goal.no_port-requires
no_port-requires c =
    let bridge = c.args.port.now.bridge in
    ap is_some (ap (λ (n : Net). fin.get n.bridges bridge) c.settled-plan.ensures ∙ sym (ap (option_map bridge_row) (sym c.in-Some.is) ∙ c.bridge.ensures.row ∙ ap (λ n. fin.get n.net.bridges bridge) c.network.ensures))

pub returns-in-None : goal.returns-in-None
returns-in-None c =
    let name = c.args.port.now in
    sym (without_bridge c.args.planner.now.contents.net name c.args.tree
    (ap is_some (sym (ap (option_map bridge_row) (sym c.in-None.is) ∙ c.bridge.ensures.row ∙ ap (λ n. fin.get n.net.bridges name.bridge) c.network.ensures))))

pub returns-in-Some : goal.returns-in-Some
returns-in-Some c = c.no_port.ensures ∙ ap (λ (n : Net). unexplained_of n c.args.port.now c.args.tree) c.settled-plan.ensures

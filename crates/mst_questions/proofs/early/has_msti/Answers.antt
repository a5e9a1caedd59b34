use Rattle.std.proofs.Common.{◌∙◌, ap, sym}
use Rattle.mst_net.specs.tables.After.{is_rstp}
use Rattle.mst_net.specs.tables.Seen.{bridge_row}
use Rattle.mst_net.specs.tables.Table.{has_tree}
use Rattle.mst_questions.proofs.EarlyRefusals.{mstp_has}
use Rattle.mst_questions.proofs.early.has_msti.Goals as goal

pub returns-in-Mstp : goal.returns-in-Mstp
returns-in-Mstp c =
    c.has.ensures ∙ ap (λ table. has_tree table c.args.tree) c.table.ensures
    ∙ mstp_has c.args.network.now.net c.args.name.now (bridge_row c.in-Some.bridge) c.args.tree (sym c.in-Some.ensures.row) (ap is_rstp c.in-Mstp.is) c.requires.0 c.requires.1

use Rattle.std.proofs.Common.{ap, sym, ◌∙◌}
use Rattle.std.specs.FinMap as fin
use Rattle.mst_tables.proofs.Keyed.{get_keyed}
use Rattle.mst_tables.proofs.Keys.{ports}
use Rattle.mst_net.proofs.network.Network.port_record.Goals as goal

pub returns-clause-row : goal.returns-clause-row
returns-clause-row c = c.get.ensures.row ∙ sym (get_keyed ports c.self.inside.ports.rows c.args.port.now) ∙ ap (λ n. fin.get n.net.ports c.args.port.now) c.self.view_is

pub returns-clause-number : goal.returns-clause-number
returns-clause-number c = c.get.ensures.number ∙ sym (get_keyed ports c.self.inside.ports.numbers c.args.port.now) ∙ ap (λ n. fin.get n.numbers.ports c.args.port.now) c.self.view_is

use Rattle.std.proofs.Common.{ap, sym, ◌∙◌}
use Rattle.std.specs.FinMap as fin
use Rattle.mst_tables.proofs.Keyed.{get_keyed}
use Rattle.mst_tables.proofs.Keys.{names}
use Rattle.mst_net.proofs.network.Network.lan_record.Goals as goal

pub returns-clause-row : goal.returns-clause-row
returns-clause-row c = c.get.ensures.row ∙ sym (get_keyed names c.self.inside.lans.rows c.args.lan.now) ∙ ap (λ n. fin.get n.net.lans c.args.lan.now) c.self.view_is

pub returns-clause-number : goal.returns-clause-number
returns-clause-number c = c.get.ensures.number ∙ sym (get_keyed names c.self.inside.lans.numbers c.args.lan.now) ∙ ap (λ n. fin.get n.numbers.lans c.args.lan.now) c.self.view_is

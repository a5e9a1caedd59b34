use Rattle.std.proofs.Common.{Some, ap, sym, ◌∙◌}
use Rattle.std.specs.FinMap as fin
use Rattle.mst_tables.proofs.Keyed.{get_keyed}
use Rattle.mst_tables.proofs.Keys.{names}
use Rattle.mst_net.proofs.network.NetworkContents.lan_name.Goals as goal

pub returns-clause-found : goal.returns-clause-found
returns-clause-found c name is =
    sym (ap (λ n. fin.get n.numbers.lans name) c.self.view_is) ∙ get_keyed names c.self.inside.lans.numbers name ∙ c.key.ensures.found name is ∙ ap Some c.number.view_is

pub returns-clause-none : goal.returns-clause-none
returns-clause-none c none name at =
    c.key.ensures.none none name (sym (get_keyed names c.self.inside.lans.numbers name) ∙ ap (λ n. fin.get n.numbers.lans name) c.self.view_is ∙ at ∙ ap Some (sym c.number.view_is))

use Rattle.std.proofs.Common.{Some, ap, sym, ◌∙◌}
use Rattle.std.specs.FinMap as fin
use Rattle.mst_net.specs.Foreseen.{port_name_after}
use Rattle.mst_net.proofs.ForeseenLemmas.{foreseen_port_name}
use Rattle.mst_net.proofs.ahead.AheadContents.port_name.Goals as goal

pub returns-clause-found : goal.returns-clause-found
returns-clause-found c =
    let old = c.self.inside.network.now in
    let edit = c.self.inside.edit.now in
    let was = foreseen_port_name edit old.net old.next old.numbers c.known.ensures.numbered c.self.invariant.accepted (λ q at. c.next_port.ensures.fresh q (at ∙ ap Some (sym c.next_port.ensures.next))) c.args.number c.port_name.result (record { found = c.port_name.ensures.found; none = c.port_name.ensures.none }) in
    λ name is. ap (λ t. fin.get t.numbers.ports name) (sym c.self.view_is) ∙ was.found name (ap (λ n. port_name_after edit n c.args.number c.port_name.result) (sym c.next_port.ensures.next) ∙ sym c.port_name_ahead.ensures ∙ is)

pub returns-clause-none : goal.returns-clause-none
returns-clause-none c =
    let old = c.self.inside.network.now in
    let edit = c.self.inside.edit.now in
    let was = foreseen_port_name edit old.net old.next old.numbers c.known.ensures.numbered c.self.invariant.accepted (λ q at. c.next_port.ensures.fresh q (at ∙ ap Some (sym c.next_port.ensures.next))) c.args.number c.port_name.result (record { found = c.port_name.ensures.found; none = c.port_name.ensures.none }) in
    λ none name at. was.none (ap (λ n. port_name_after edit n c.args.number c.port_name.result) (sym c.next_port.ensures.next) ∙ sym c.port_name_ahead.ensures ∙ none) name (ap (λ t. fin.get t.numbers.ports name) c.self.view_is ∙ at)

use Rattle.std.proofs.Common.{Some, ap, sym, ◌∙◌}
use Rattle.std.specs.FinMap as fin
use Rattle.mst_net.specs.Foreseen.{bridge_name_after}
use Rattle.mst_net.proofs.ForeseenLemmas.{foreseen_bridge_name}
use Rattle.mst_net.proofs.ahead.AheadContents.bridge_name.Goals as goal

pub returns-clause-found : goal.returns-clause-found
returns-clause-found c =
    let old = c.self.inside.network.now in
    let edit = c.self.inside.edit.now in
    let was = foreseen_bridge_name edit old.net old.next old.numbers c.known.ensures.numbered c.self.invariant.accepted (λ q at. c.next_bridge.ensures.fresh q (at ∙ ap Some (sym c.next_bridge.ensures.next))) c.args.number c.bridge_name.result (record { found = c.bridge_name.ensures.found; none = c.bridge_name.ensures.none }) in
    λ name is. ap (λ t. fin.get t.numbers.bridges name) (sym c.self.view_is) ∙ was.found name (ap (λ n. bridge_name_after edit n c.args.number c.bridge_name.result) (sym c.next_bridge.ensures.next) ∙ sym c.bridge_name_ahead.ensures ∙ is)

pub returns-clause-none : goal.returns-clause-none
returns-clause-none c =
    let old = c.self.inside.network.now in
    let edit = c.self.inside.edit.now in
    let was = foreseen_bridge_name edit old.net old.next old.numbers c.known.ensures.numbered c.self.invariant.accepted (λ q at. c.next_bridge.ensures.fresh q (at ∙ ap Some (sym c.next_bridge.ensures.next))) c.args.number c.bridge_name.result (record { found = c.bridge_name.ensures.found; none = c.bridge_name.ensures.none }) in
    λ none name at. was.none (ap (λ n. bridge_name_after edit n c.args.number c.bridge_name.result) (sym c.next_bridge.ensures.next) ∙ sym c.bridge_name_ahead.ensures ∙ none) name (ap (λ t. fin.get t.numbers.bridges name) c.self.view_is ∙ at)

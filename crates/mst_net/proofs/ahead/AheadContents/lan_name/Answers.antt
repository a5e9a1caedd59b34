use Rattle.std.proofs.Common.{Some, ap, sym, ◌∙◌}
use Rattle.std.specs.FinMap as fin
use Rattle.mst_net.specs.Foreseen.{lan_name_after}
use Rattle.mst_net.proofs.ForeseenLemmas.{foreseen_lan_name}
use Rattle.mst_net.proofs.ahead.AheadContents.lan_name.Goals as goal

pub returns-clause-found : goal.returns-clause-found
returns-clause-found c =
    let old = c.self.inside.network.now in
    let edit = c.self.inside.edit.now in
    let was = foreseen_lan_name edit old.net old.next old.numbers c.known.ensures.numbered c.self.invariant.accepted (λ q at. c.next_lan.ensures.fresh q (at ∙ ap Some (sym c.next_lan.ensures.next))) c.args.number c.lan_name.result (record { found = c.lan_name.ensures.found; none = c.lan_name.ensures.none }) in
    λ name is. ap (λ t. fin.get t.numbers.lans name) (sym c.self.view_is) ∙ was.found name (ap (λ n. lan_name_after edit n c.args.number c.lan_name.result) (sym c.next_lan.ensures.next) ∙ sym c.lan_name_ahead.ensures ∙ is)

pub returns-clause-none : goal.returns-clause-none
returns-clause-none c =
    let old = c.self.inside.network.now in
    let edit = c.self.inside.edit.now in
    let was = foreseen_lan_name edit old.net old.next old.numbers c.known.ensures.numbered c.self.invariant.accepted (λ q at. c.next_lan.ensures.fresh q (at ∙ ap Some (sym c.next_lan.ensures.next))) c.args.number c.lan_name.result (record { found = c.lan_name.ensures.found; none = c.lan_name.ensures.none }) in
    λ none name at. was.none (ap (λ n. lan_name_after edit n c.args.number c.lan_name.result) (sym c.next_lan.ensures.next) ∙ sym c.lan_name_ahead.ensures ∙ none) name (ap (λ t. fin.get t.numbers.lans name) c.self.view_is ∙ at)

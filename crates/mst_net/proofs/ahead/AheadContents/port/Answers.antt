use Rattle.std.proofs.Common.{ℕ, ap, sym, ◌∙◌}
use Rattle.std.specs.Option.{option_map}
use Rattle.std.specs.FinMap as fin
use Rattle.mst_net.specs.Foreseen.{port_row_after, port_number_after}
use Rattle.mst_net.proofs.ForeseenLemmas.{foreseen_port, foreseen_port_number}
use Rattle.mst_net.proofs.ahead.AheadContents.port.Goals as goal

pub returns-clause-row : goal.returns-clause-row
returns-clause-row c =
    let old = c.self.inside.network.now in
    let edit = c.self.inside.edit.now in
    let name = c.args.name.now in
    c.kept_port.ensures.row ∙ c.port_after.ensures.row ∙ ap (port_row_after edit name) c.port_record.ensures.row
    ∙ sym (foreseen_port edit old.net name) ∙ ap (λ t. fin.get t.net.ports name) c.self.view_is

pub returns-clause-number : goal.returns-clause-number
returns-clause-number c =
    let old = c.self.inside.network.now in
    let edit = c.self.inside.edit.now in
    let name = c.args.name.now in
    c.kept_port.ensures.number ∙ c.port_after.ensures.number ∙ ap (λ (n : ℕ). port_number_after edit n name (option_map (λ r. r.number) c.port_record.result)) c.next_port.ensures.next
    ∙ ap (port_number_after edit old.next.port name) c.port_record.ensures.number
    ∙ sym (foreseen_port_number edit old.next old.numbers name) ∙ ap (λ t. fin.get t.numbers.ports name) c.self.view_is

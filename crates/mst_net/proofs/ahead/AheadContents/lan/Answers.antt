use Rattle.std.proofs.Common.{ℕ, ap, sym, ◌∙◌}
use Rattle.std.specs.Option.{option_map}
use Rattle.std.specs.FinMap as fin
use Rattle.mst_net.specs.Foreseen.{lan_row_after, lan_number_after}
use Rattle.mst_net.proofs.ForeseenLemmas.{foreseen_lan, foreseen_lan_number}
use Rattle.mst_net.proofs.ahead.AheadContents.lan.Goals as goal

pub returns-clause-row : goal.returns-clause-row
returns-clause-row c =
    let old = c.self.inside.network.now in
    let edit = c.self.inside.edit.now in
    let name = c.args.name.now in
    c.kept_lan.ensures.row ∙ c.lan_after.ensures.row ∙ ap (lan_row_after edit name) c.lan_record.ensures.row
    ∙ sym (foreseen_lan edit old.net name) ∙ ap (λ t. fin.get t.net.lans name) c.self.view_is

pub returns-clause-number : goal.returns-clause-number
returns-clause-number c =
    let old = c.self.inside.network.now in
    let edit = c.self.inside.edit.now in
    let name = c.args.name.now in
    c.kept_lan.ensures.number ∙ c.lan_after.ensures.number ∙ ap (λ (n : ℕ). lan_number_after edit n name (option_map (λ r. r.number) c.lan_record.result)) c.next_lan.ensures.next
    ∙ ap (lan_number_after edit old.next.lan name) c.lan_record.ensures.number
    ∙ sym (foreseen_lan_number edit old.next old.numbers name) ∙ ap (λ t. fin.get t.numbers.lans name) c.self.view_is

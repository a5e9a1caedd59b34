use Rattle.std.proofs.Common.{ℕ, ap, sym, ◌∙◌}
use Rattle.std.specs.Option.{option_map}
use Rattle.std.specs.FinMap as fin
use Rattle.mst_net.specs.Foreseen.{bridge_row_after, bridge_number_after}
use Rattle.mst_net.proofs.ForeseenLemmas.{foreseen_bridge, foreseen_bridge_number}
use Rattle.mst_net.proofs.ahead.AheadContents.bridge.Goals as goal

pub returns-clause-row : goal.returns-clause-row
returns-clause-row c =
    let old = c.self.inside.network.now in
    let edit = c.self.inside.edit.now in
    let name = c.args.name.now in
    c.kept_bridge.ensures.row ∙ c.bridge_after.ensures.row ∙ ap (bridge_row_after edit name) c.bridge_record.ensures.row
    ∙ sym (foreseen_bridge edit old.net name) ∙ ap (λ t. fin.get t.net.bridges name) c.self.view_is

pub returns-clause-number : goal.returns-clause-number
returns-clause-number c =
    let old = c.self.inside.network.now in
    let edit = c.self.inside.edit.now in
    let name = c.args.name.now in
    c.kept_bridge.ensures.number ∙ c.bridge_after.ensures.number ∙ ap (λ (n : ℕ). bridge_number_after edit n name (option_map (λ r. r.number) c.bridge_record.result)) c.next_bridge.ensures.next
    ∙ ap (bridge_number_after edit old.next.bridge name) c.bridge_record.ensures.number
    ∙ sym (foreseen_bridge_number edit old.next old.numbers name) ∙ ap (λ t. fin.get t.numbers.bridges name) c.self.view_is

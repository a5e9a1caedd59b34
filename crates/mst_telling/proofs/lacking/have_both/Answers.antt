use Rattle.std.proofs.Common.{◌&&◌, Bool, map, sym, ap, ◌∙◌}
use Rattle.std.specs.List.{list_all}
use Rattle.mst_view.specs.declared.in_view.BridgeInView.{BridgeInView}
use Rattle.mst_policy.specs.declared.item.NameItem.{NameItem}
use Rattle.mst_reasons.specs.Risks.{has_one}
use Rattle.mst_telling.proofs.LackedSeen.{all_appended}
use Rattle.mst_telling.proofs.lacking.have_both.Goals as goal

pub returns-then-first : goal.returns-then-first
returns-then-first c =
    let test : NameItem → Bool = has_one (map (λ (b : BridgeInView). b.name) c.args.bridges.now) in
    let others = c.args.others.now in
    c.have_bridges.ensures ∙ ap (λ b. b && list_all test others) (sym c.if-first.true ∙ c.have_bridges-first.ensures) ∙ sym (all_appended test c.args.names.now others)

pub returns-else-first : goal.returns-else-first
returns-else-first c =
    let test : NameItem → Bool = has_one (map (λ (b : BridgeInView). b.name) c.args.bridges.now) in
    let others = c.args.others.now in
    c.if-first.false ∙ ap (λ b. b && list_all test others) (sym c.if-first.false ∙ c.have_bridges-first.ensures) ∙ sym (all_appended test c.args.names.now others)

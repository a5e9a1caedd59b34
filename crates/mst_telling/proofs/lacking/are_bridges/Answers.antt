use Rattle.std.proofs.Common.{Bool, map, sym, ap, ◌∙◌}
use Rattle.std.specs.List.{list_all}
use Rattle.mst_view.specs.declared.in_view.BridgeInView.{BridgeInView}
use Rattle.mst_policy.specs.declared.item.NameItem.{NameItem}
use Rattle.mst_policy.specs.declared.item.PortItem.{PortItem}
use Rattle.mst_reasons.proofs.summary_lemmas.Lists.{all_mapped}
use Rattle.mst_reasons.specs.Risks.{has_one}
use Rattle.mst_reasons.specs.Missing.{bridges_of}
use Rattle.mst_telling.proofs.lacking.are_bridges.Goals as goal

pub returns-in-Role : goal.returns-in-Role
returns-in-Role c =
    let test : NameItem → Bool = has_one (map (λ (b : BridgeInView). b.name) c.args.bridges.now) in
    c.have_port_bridges.ensures ∙ ap (list_all (λ (item : PortItem). test item.bridge)) c.as_slice-in-Role.ensures
    ∙ sym (all_mapped test (λ (item : PortItem). item.bridge) c.in-Role.ports) ∙ ap (λ e. list_all test (bridges_of e)) (sym c.in-Role.is)

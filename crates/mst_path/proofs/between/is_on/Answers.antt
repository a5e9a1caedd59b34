use Rattle.std.proofs.Common.{◌≡◌, ◌↔◌, ◌&&◌, true, sym, ap, ◌∙◌, subst}
use Rattle.std.specs.List.{Contains, list_any}
use Rattle.mst_tables.specs.Seen.{bridge_row}
use Rattle.mst_view.specs.Aggregation.{same_name}
use Rattle.mst_view.specs.Viewed.{Viewed}
use Rattle.mst_view.specs.declared.in_view.BridgeInView.{BridgeInView}
use Rattle.mst_vlan.specs.Reach.{bridges_on}
use Rattle.mst_path.proofs.On.{on_by_name}
use Rattle.mst_path.proofs.between.is_on.Goals as goal

pub returns : goal.returns
returns c =
    let s = c.args.plan.now in
    let name = c.args.name.now in
    let test : BridgeInView → _ = λ b. same_name b.name name && (bridge_row b.bridge).is_on in
    subst (λ b. b ≡ true ↔ Contains (bridges_on s.net) name)
    (sym (c.has_on.ensures ∙ ap (list_any test) (c.bridges.ensures ∙ ap (λ (v : Viewed). v.bridges) c.view.ensures))) (on_by_name s.net s.numbers s.view c.known.ensures.of.view name)

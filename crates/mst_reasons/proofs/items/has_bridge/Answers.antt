use Rattle.std.proofs.Common.{sym, ◌∙◌}
use Rattle.mst_policy.specs.Items.{item_has}
use Rattle.mst_summary.proofs.Lists.{any_mapped}
use Rattle.mst_reasons.proofs.items.has_bridge.Goals as goal

pub returns : goal.returns
returns c = c.any_bridge.ensures ∙ sym (any_mapped (item_has c.args.item.now) (λ x. x.name) c.args.bridges.now)

use Rattle.std.proofs.Common.{◌∙◌}
use Rattle.mst_roles.specs.forest.outcome.Assignment.{designated_of}
use Rattle.mst_roles.specs.forest.Seen.{seen_internal}
use Rattle.mst_roles.proofs.forest_lemmas.Seen.{port_seen}
use Rattle.mst_explain.proofs.Planned.{internal_is}
use Rattle.mst_advise.proofs.costs.is_inner.Goals as goal

pub returns : goal.returns
returns c =
    let s = c.args.plan.now in
    let is = c.known.ensures in
    let p = c.args.port.now in
    c.is_internal.ensures ∙ (λ i. seen_internal (c.view.ensures i) (c.forest.ensures i).regions (designated_of (c.forest.ensures i).cist) p) ∙ internal_is s is p (port_seen s.net s.numbers s.view is.of.view p c.requires)

use Rattle.std.proofs.Common.{IfOk, sym, ap, subst, ◌∙◌}
use Rattle.mst_net.specs.tables.Contents.{Tables, ahead_of}
use Rattle.mst_trees.specs.Bound.{SettlesNoUnused}
use Rattle.mst_plan.specs.Kept.{HasRegions}
use Rattle.mst_plan.specs.Standing.{msti_settlings, standing_of}
use Rattle.mst_plan.specs.declared.plan.Plan.{Plan}
use Rattle.mst_plan.proofs.Keeping.{regions_last}
use Rattle.mst_plan.proofs.kept.KeptPlan.ahead.Goals as goal

pub next-requires : goal.next-requires
next-requires c stands =
    let network = c.args.network.now in
    let edit = c.args.edit.now in
    let then = ahead_of network edit in
    let outlast = c.regions_outlast-regions_stand.ensures in
    subst (λ (t : Tables). HasRegions t.net t.numbers c.args.self.now) (ap (ahead_of network) (sym c.requires.edit) ∙ sym c.ahead.ensures)
    (regions_last network.net then.net network.numbers then.numbers c.args.self.now c.requires.kept (outlast.stood stands)
    (λ regions are. c.regions_stay.ensures.ahead edit network.net network.numbers network.next regions (outlast.untouched stands) are))

pub returns-clause-unused : goal.returns-clause-unused
returns-clause-unused c =
    let network = c.args.network.now in
    subst (λ (t : Tables). IfOk c.next.result (λ (plan : Plan). SettlesNoUnused t.net (msti_settlings (standing_of plan.forest)))) (c.ahead.ensures ∙ ap (ahead_of network) c.requires.edit) c.next.ensures.unused

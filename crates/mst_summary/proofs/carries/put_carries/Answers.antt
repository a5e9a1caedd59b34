use Rattle.std.proofs.Common.{ap, ◌∙◌}
use Rattle.mst_summary.specs.Seen.{seen_joining_lans}
use Rattle.mst_summary.proofs.Named.{joining_named}
use Rattle.mst_summary.proofs.carries.put_carries.Goals as goal

pub put_carried-requires-clause-lans : goal.put_carried-requires-clause-lans
put_carried-requires-clause-lans g c = c.as_slice.ensures.value ∙ c.in_ok-lans.ensures ∙ ap seen_joining_lans c.view-view.ensures ∙ joining_named c.args.plan.now c.known.ensures

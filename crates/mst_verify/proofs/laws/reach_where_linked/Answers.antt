use Rattle.mst_verify.proofs.ReachLinked.{kept_where_linked, reach_where_linked}
use Rattle.mst_verify.proofs.laws.reach_where_linked.Goals as goal

pub returns-clause-now : goal.returns-clause-now
returns-clause-now c net o vids bridges ok is pass = reach_where_linked c.joined_without_loop.ensures.sets net o vids bridges ok is pass

pub returns-clause-always : goal.returns-clause-always
returns-clause-always c net o prior vids names ok is pass = kept_where_linked c.joined_without_loop.ensures.sets c.has_outcome.ensures net o prior vids names ok is pass

use Rattle.std.proofs.Common.{◌∙◌}
use Rattle.mst_roles.proofs.Forwarded.{named_forwards}
use Rattle.mst_roles.proofs.for_vid.forwards.Goals as goal

pub returns-clause-named : goal.returns-clause-named
returns-clause-named c = λ net numbers is of name e. c.forwards_at.ensures ∙ named_forwards net numbers c.args.view.now c.args.forest.now of is c.args.vid name c.args.port e

use Rattle.mst_verify.proofs.CutsFail.{holds_where_uncut, told_where_cut}
use Rattle.mst_verify.proofs.laws.cuts_are_failures.Goals as goal

pub returns-clause-vids : goal.returns-clause-vids
returns-clause-vids c net o p event vids cut rows fails whole cuts = holds_where_uncut c.one_outcome.ensures net o p event fails vids whole cut rows cuts

pub returns-clause-counted : goal.returns-clause-counted
returns-clause-counted c net o event vids told ok is can all whole t = told_where_cut c.one_outcome.ensures net o ok is event can vids all whole told t

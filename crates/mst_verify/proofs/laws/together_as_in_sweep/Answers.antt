use Rattle.mst_verify.proofs.TogetherSwept.{rows_same, together_where_uncut}
use Rattle.mst_verify.proofs.laws.together_as_in_sweep.Goals as goal

pub returns-clause-rows : goal.returns-clause-rows
returns-clause-rows c net o p event vids reasons cut rows fails every r cuts = rows_same net event.failures event.cause o p vids every cut rows cuts c.islands_of_vid.ensures.one reasons r

pub returns-clause-counted : goal.returns-clause-counted
returns-clause-counted c net o event vids told ok is can every t = together_where_uncut c.one_outcome.ensures net o ok event vids every told t

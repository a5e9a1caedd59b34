use Rattle.mst_summary.proofs.Next.{next_is, none_next}
use Rattle.mst_summary.proofs.laws.next_is_least.Goals as goal

pub returns-clause-next : goal.returns-clause-next
returns-clause-next g id all next e = next_is id all next e

pub returns-clause-none : goal.returns-clause-none
returns-clause-none g id all e f h = none_next id all e f h

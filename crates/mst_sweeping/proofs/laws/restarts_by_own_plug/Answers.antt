use Rattle.mst_sweeping.proofs.RestartLaws.{left_alone, none_by_itself, plugged_over}
use Rattle.mst_sweeping.proofs.laws.restarts_by_own_plug.Goals as goal

pub returns-clause-none : goal.returns-clause-none
returns-clause-none c net = none_by_itself net

pub returns-clause-over : goal.returns-clause-over
returns-clause-over c a b port x = plugged_over a b port x

pub returns-clause-alone : goal.returns-clause-alone
returns-clause-alone c a b port x there = left_alone a b port x there

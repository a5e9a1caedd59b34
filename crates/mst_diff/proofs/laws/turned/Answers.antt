use Rattle.mst_diff.proofs.Turned.{regions_turned, roots_turned, ports_turned, sides_turned, counts_turned}
use Rattle.mst_diff.proofs.ReachTurned.{reach_turned}
use Rattle.mst_diff.proofs.laws.turned.Goals as goal

pub returns-clause-regions : goal.returns-clause-regions
returns-clause-regions g = regions_turned

pub returns-clause-roots : goal.returns-clause-roots
returns-clause-roots g = roots_turned

pub returns-clause-ports : goal.returns-clause-ports
returns-clause-ports g = ports_turned

pub returns-clause-sides : goal.returns-clause-sides
returns-clause-sides g a b o p = sides_turned a b o p g.islands_of_vid.ensures.one

pub returns-clause-reach : goal.returns-clause-reach
returns-clause-reach g a b o p rows others v w x y = reach_turned a b o p g.islands_of_vid.ensures.one g.group_lists.ensures.one rows others v w x y

pub returns-clause-counts : goal.returns-clause-counts
returns-clause-counts g a b o p = counts_turned a b o p g.islands_of_vid.ensures.one

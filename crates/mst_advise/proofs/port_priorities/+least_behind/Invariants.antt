use Rattle.std.proofs.Common.{◌-◌}
use Rattle.mst_advise.proofs.port_priorities.+least_behind.Given as goal

abbrev pub decreases-least_behind : goal.decreases-least_behind
decreases-least_behind l = 15 - l.step

use Rattle.std.proofs.Common.{◌∙◌}
use Rattle.mst_summary.proofs.OverSeen.{two_seen}
use Rattle.mst_summary.proofs.over.are_of_two.Goals as goal

pub returns-in-len1-up : goal.returns-in-len1-up
returns-in-len1-up c = c.any_of_other.ensures ∙ two_seen c.args.ports.now c.first-item.result c.in-len1-up.len_at_least c.first-item.is

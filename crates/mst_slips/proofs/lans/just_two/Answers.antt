use Rattle.std.proofs.Common.{sym, ◌∙◌}
use Rattle.mst_slips.specs.Lans.{just_two as the_two}
use Rattle.mst_slips.proofs.Fronts.{in_front}
use Rattle.mst_slips.proofs.lans.just_two.Goals as goal

pub returns-in-len1-up : goal.returns-in-len1-up
returns-in-len1-up c = c.two_alone.ensures ∙ sym (in_front the_two c.args.bridges.now c.first-item.result c.in-len1-up.len_at_least c.first-item.is)

use Rattle.std.proofs.Common.{◌≡◌, length, map, take}
use Rattle.std.specs.Option.{option_copied}
use Rattle.mst_judged.specs.reasons.sweep.Cuts.{names_of}
use Rattle.mst_forest.specs.Settled.{outcome_of}
use Rattle.mst_judged.specs.Islands.{AreOfClasses}
use Rattle.mst_judged.specs.reasons.Named.{named}
use Rattle.mst_judged.specs.reasons.Reasons.{AreBoth}
use Rattle.mst_island_judges.specs.Seen.{others_in}
use Rattle.mst_island_judges.proofs.apart.bodies.Given as goal

-- the parts of the classes so far
abbrev pub invariant-loop-class : goal.invariant-loop-class
invariant-loop-class l = record {
  as_long : length l.bodies.items ≡ l.class;
  parts : AreOfClasses (AreBoth l.fn.judged.plan.now.net (outcome_of l.fn.judged.plan.now) (named l.fn.judged.plan.now.net l.fn.judged.lost.now l.names) (others_in l.fn.judged.plan.now.net l.fn.judged.lost.now l.names (option_copied l.others))) (take l.class l.fn.judged.before.now.classes.firsts.items) l.flags (map names_of l.bodies.items);
}

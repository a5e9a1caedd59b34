use Rattle.std.proofs.Common.{◌≡◌, length, map, take}
use Rattle.mst_judged.specs.reasons.sweep.Cuts.{names_of}
use Rattle.mst_island_judges.specs.Compared.{HaveParts}
use Rattle.mst_judged.specs.Islands.{AreOfClasses}
use Rattle.mst_island_judges.proofs.together.bodies.Given as goal

-- the parts of the classes so far
abbrev pub invariant-loop-class : goal.invariant-loop-class
invariant-loop-class l = record {
  as_long : length l.bodies.items ≡ l.class;
  parts : AreOfClasses (HaveParts l.compared) (take l.class l.compared.prior.now.classes.now.firsts.items) l.flags (map names_of l.bodies.items);
}

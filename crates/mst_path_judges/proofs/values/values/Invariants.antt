use Rattle.std.proofs.Common.{◌≡◌, None, length, map, take}
use Rattle.mst_roles.specs.forest.Settled.{outcome_of}
use Rattle.mst_judged.specs.Valued.{AreValuesOf}
use Rattle.mst_path_judges.specs.Asked.{HasTold, told_of}
use Rattle.mst_path_judges.proofs.values.values.Given as goal

-- what is told of the classes so far
abbrev pub invariant-loop-class : goal.invariant-loop-class
invariant-loop-class l = record {
  as_long : length l.values.items ≡ l.class;
  told : AreValuesOf None (HasTold l.fn.judged.plan.now.net (outcome_of l.fn.judged.plan.now) l.asked) (take l.class l.fn.judged.before.now.classes.firsts.items) l.flags (map told_of l.values.items);
}

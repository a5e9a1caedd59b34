use Rattle.std.proofs.Common.{◌≡◌, ◌<◌, ◌∷◌, [], ℕ, get_or, length, map}
use Rattle.mst_net.specs.tables.Tables.{Net}
use Rattle.mst_sweep.specs.Between.{OfPair, pair_of}
use Rattle.mst_sweep.specs.CutClasses.{IsPartsOfClass}
use Rattle.mst_sweep.specs.Cuts.{names_of}
use Rattle.mst_sweep.proofs.both_failed.parts_by_breaking.Given as goal

-- the parts of the classes so far
abbrev pub invariant-loop-class : goal.invariant-loop-class
invariant-loop-class l = record {
  as_long : length l.parts.items ≡ l.class;
  parts : OfPair l.fn.old l.fn.new l.fn.first l.fn.second l.fn.baseline.classes (λ net outcomes. (class : ℕ) → class < l.class
      → IsPartsOfClass net (pair_of l.fn.first l.fn.second) outcomes l.fn.baseline.classes class (get_or (map names_of l.parts.items) class []));
}

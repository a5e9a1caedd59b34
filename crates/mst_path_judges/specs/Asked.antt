-- What is asked of the paths of VIDs, and what is told of them.
use Rattle.std.specs.Prelude.{ℕ, List, Option}
use Rattle.std.specs.Option.{option_map}
use Rattle.mst_roles.specs.forest.Outcome.{Outcome}
use Rattle.mst_tables.specs.Tables.{Net}
use Rattle.mst_judged.specs.reasons.Reasons.{hops_reason, via_reason}
use Rattle.mst_judged.specs.reasons.Stretches.{HasLongest, HasStretch, Stretch}
use Rattle.mst_judged.specs.reasons.declared.reason.Reason.{Reason}
use Rattle.mst_path_judges.specs.declared.asked.Asked.{Asked}
use Rattle.mst_path_judges.specs.declared.asked.Asked.TheVariants as asked
use Rattle.mst_path_judges.specs.declared.stretch.Stretch as kept

-- a stretch as it is kept
abbrev pub told : kept.Stretch → Stretch
told s = record { hops = s.hops; bridges = s.bridges.items }

abbrev pub told_of : Option kept.Stretch → Option Stretch
told_of s = option_map told s

-- the stretch that is asked for
abbrev pub HasTold : Net → Outcome → Asked → ℕ → Option Stretch → Type 0
HasTold net o (asked.Hops most bridges) vid stretch = HasLongest net o bridges.now vid stretch
HasTold net o (asked.Via from to by) vid stretch = HasStretch net o from to vid stretch

-- the reasons that are told of VIDs by it
abbrev pub tells : Asked → List ℕ → Option Stretch → List Reason
tells (asked.Hops most bridges) vids stretch = hops_reason most vids stretch
tells (asked.Via from to by) vids stretch = via_reason by vids stretch

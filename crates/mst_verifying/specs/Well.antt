-- When verifying the network of a script ends with status 0.
use Rattle.std.specs.Prelude.{◌≡◌, ⊤, List, MatchOption}
use Rattle.std.specs.List.{AllByRecursion}
use Rattle.mst_policy.specs.declared.policy.PolicyLine.{PolicyLine}
use Rattle.mst_tables.specs.Tables.{Net}
use Rattle.mst_forest.specs.Outcome.{Outcome}
use Rattle.mst_tool.specs.engine.Steps.{Step, refusals_of, lacks_of}
use Rattle.mst_verdict.specs.reasons.Judged.{IsKept}
use Rattle.mst_verdict.specs.reasons.Named.{nothing_before}
use Rattle.mst_verdict.specs.reasons.Risks.{events}
use Rattle.mst_verdict.specs.sweep.Failures.{Event}
use Rattle.mst_verdict.specs.telling.Told.{judged}
use Rattle.mst_verdict.specs.telling.Verified.{Counts}

-- the promise of a line is kept, if the line is judged
abbrev pub IsLineKept : Net → Outcome → List Event → PolicyLine → Type 0
IsLineKept net o events line = MatchOption (judged net events line) ⊤ (IsKept net o nothing_before events)

-- No line of the script is refused, be it for want of memory, no line of the policy is, and a network with this outcome keeps each promise
pub record IsWell (net : Net) (o : Outcome) (steps : List Step) (lines : List PolicyLine) (counts : Counts) : Type 0 where
  pub accepted : refusals_of steps ≡ 0
  pub served : lacks_of steps ≡ 0
  pub unrefused : counts.refused ≡ 0
  pub kept : AllByRecursion (IsLineKept net o (events net lines)) lines

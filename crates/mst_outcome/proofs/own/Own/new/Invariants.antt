use Rattle.mst_outcome.proofs.Tables.{IsFilled}
use Rattle.mst_outcome.proofs.own.Own.new.Given as goal

-- the settings and the table have what came by
abbrev pub invariant-loop-number : goal.invariant-loop-number
invariant-loop-number g l = IsFilled l.own.entries l.number-iterator l.settings.items l.flat

-- What an exit status says.
use Rattle.std.specs.Prelude.{◌≡◌, Result, Ok, Err}
use Rattle.mst_io.specs.declared.outcome.Outcome.{Outcome}
use Rattle.mst_io.specs.declared.outcome.RunFault.{RunFault}

-- it came to its end, and memory was there for each line
abbrev pub IsServed : Result Outcome RunFault → Type 0
IsServed (Err fault) = ⊥
IsServed (Ok outcome) = outcome.memory ≡ 0

-- it came to its end, no line was refused, and nothing differs
abbrev pub IsGood : Result Outcome RunFault → Type 0
IsGood (Err fault) = ⊥
IsGood (Ok outcome) = (outcome.refused ≡ 0) × (outcome.memory ≡ 0) × (outcome.differing ≡ 0)

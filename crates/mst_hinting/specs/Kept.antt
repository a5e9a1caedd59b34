-- What is kept of the lines that came so far.
use Rattle.std.specs.Prelude.{◌≡◌, ℕ}
use Rattle.mst_hints.specs.Kept as scripts
use Rattle.mst_hinting.specs.Lines.{Before, of_script, of_policy, of_change}
use Rattle.mst_hinting.specs.declared.lines.LineHints.{LineHints}
use Rattle.mst_hinting.specs.declared.lines.LineHints.TheVariants.{Script, Policy, Change}

abbrev pub IsKept : Before → LineHints → Type 0
IsKept (of_script past) (Script hints) = scripts.IsKept past hints
IsKept (of_policy number) (Policy hints) = hints.number ≡ number
IsKept (of_change version number) (Change hints) = (hints.version ≡ version) × (hints.number ≡ number)
IsKept _ _ = ⊥

-- the number of the next line
abbrev pub number_of : LineHints → ℕ
number_of (Script hints) = hints.number
number_of (Policy hints) = hints.number
number_of (Change hints) = hints.number

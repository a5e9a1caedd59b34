-- The lines of a policy that say something.
use Rattle.std.specs.Prelude.{ℕ, ◌+◌, List, [], ◌∷◌, ◌++◌, Result, Ok, Err, Option, Some, None}
use Rattle.std.specs.List.{flat_map}
use Rattle.mst_ids.specs.Words.{after_space}
use Rattle.mst_lang.specs.Words.{words}
use Rattle.mst_lang.specs.declared.line.Fault.{Fault}
use Rattle.mst_policy.specs.Reading.{reading}
use Rattle.mst_policy.specs.declared.expectation.Promise.{Promise}
use Rattle.mst_policy.specs.declared.policy.PolicyLine.{PolicyLine}
use Rattle.mst_policy.specs.declared.risk.RiskLine.{RiskLine}
use Rattle.mst_policy.specs.declared.risk.Said.{Said}
use Rattle.mst_policy.specs.declared.risk.Said.TheVariants as says

-- words with one space between two of them
abbrev pub spaced : List (List ℕ) → List ℕ
spaced [] = []
spaced (word ∷ words) = word ++ flat_map after_space words

abbrev pub numbered : ℕ → List ℕ → Result Said Fault → PolicyLine
numbered number text read = record { number = number; words = text; read = read }

-- what was read of a line, under its number: nothing where it is blank or a comment. Its words go with what it says
abbrev pub line_read : ℕ → List ℕ → Result (Option Said) Fault → List PolicyLine
line_read number text (Ok None) = []
line_read number text (Ok (Some said)) = numbered number text (Ok said) ∷ []
line_read number text (Err fault) = numbered number [] (Err fault) ∷ []

abbrev pub line_of : ℕ → List ℕ → List PolicyLine
line_of number line = line_read number (spaced (words line)) (reading line)

-- all lines, numbered from n on
abbrev pub policy_from : ℕ → List (List ℕ) → List PolicyLine
policy_from n [] = []
policy_from n (line ∷ lines) = line_of n line ++ policy_from (n + 1) lines

-- ---- what a line says
-- its promise, if it can be read and is one
abbrev pub promise_in : Result Said Fault → Option Promise
promise_in (Ok (says.Promise promise)) = Some promise
promise_in _ = None

-- what it says of a risk, if it can be read and is of one
abbrev pub risk_in : Result Said Fault → Option RiskLine
risk_in (Ok (says.Risk risk)) = Some risk
risk_in _ = None

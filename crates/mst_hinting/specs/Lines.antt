-- The lines of a script, of a policy or of a change that came so far, and the hints of those that follow.
use Rattle.std.specs.Prelude.{ℕ, ◌+◌, List, [], ◌∷◌, ◌++◌, Option, Some, None, if◌then◌else◌}
use Rattle.mst_lang.specs.Reading.{says_version_2}
use Rattle.mst_lang.specs.declared.line.Version.{Version}
use Rattle.mst_lang.specs.declared.line.Version.TheVariants.{V1}
use Rattle.mst_hints.specs.Hints.{hint_of, hint_line}
use Rattle.mst_hints.specs.Scripts as scripts
use Rattle.mst_hints.specs.Scripts.{Past, text_before, version_with}
use Rattle.mst_hints.specs.declared.whose.Script.{Script}
use Rattle.mst_hints.specs.declared.whose.Script.TheVariants.{Run, Loaded, Old, New, Policy, Change}
use Rattle.mst_policy_hints.specs.Hints as policies

-- what came before the next line: of a script, of a policy, where it is how many lines alone, or of a change, where it is its
-- version, too, once its first line has come. A line of a policy or of a change has its hint by itself
pub data Before : Type 0 where
  of_script : Past → Before
  of_policy : ℕ → Before
  of_change : Option Version → ℕ → Before

abbrev pub nothing : Script → Before
nothing Run = of_script (scripts.nothing Run)
nothing Loaded = of_script (scripts.nothing Loaded)
nothing Old = of_script (scripts.nothing Old)
nothing New = of_script (scripts.nothing New)
nothing Policy = of_policy 1
nothing Change = of_change None 1

-- the number of the next line
abbrev pub number_at : Before → ℕ
number_at (of_script past) = past.number
number_at (of_policy number) = number
number_at (of_change version number) = number

-- of a line of a change: it has a hint where it isn't read, in its version. The first line of one of version 2 says that
abbrev pub change_hint : Option Version → List ℕ → Option (List ℕ)
change_hint (Some version) line = hint_of version line
change_hint None line = if says_version_2 line then None else hint_of V1 line

-- what is printed of the next line
abbrev pub hint_after : Before → List ℕ → List ℕ
hint_after (of_script past) line = scripts.hint_after past line
hint_after (of_policy number) line = hint_line (text_before Policy) number (policies.hint_of line)
hint_after (of_change version number) line = hint_line (text_before Change) number (change_hint version line)

-- and with one line more
abbrev pub past_after : Before → List ℕ → Before
past_after (of_script past) line = of_script (scripts.past_after past line)
past_after (of_policy number) line = of_policy (number + 1)
past_after (of_change version number) line = of_change (Some (version_with version line)) (number + 1)

-- of the lines that follow
abbrev pub hints_from : Before → List (List ℕ) → List ℕ
hints_from past [] = []
hints_from past (line ∷ lines) = hint_after past line ++ hints_from (past_after past line) lines

-- of all lines
abbrev pub hints_of : Script → List (List ℕ) → List ℕ
hints_of script lines = hints_from (nothing script) lines

use Rattle.std.proofs.Common.{◌≡◌, ◌++◌, ℕ, List, [], ap, sym, ◌∙◌, codes}
use Rattle.std.proofs.lemmas.Str.{chars-nil}
use Rattle.std.specs.List.{flat_map}
use Rattle.mstplan.specs.Endings.{behind_word}
use Rattle.mstplan.specs.Said.{shown, shown_char}
use Rattle.mstplan.proofs.endings.behind_word.Goals as goal

-- no name is shown as nothing
no_name : (before behind : List ℕ) → before ++ (shown [] ++ behind) ≡ before ++ behind
no_name before behind = ap (λ cs. before ++ (flat_map shown_char cs ++ behind)) chars-nil

pub returns-in-Json : goal.returns-in-Json
returns-in-Json c = no_name (codes "; --json?\n") [] ∙ ap (behind_word c.args.word.now) (sym c.in-Json.is)

pub returns-in-Hints : goal.returns-in-Hints
returns-in-Hints c = no_name (codes "; --hints?\n") [] ∙ ap (behind_word c.args.word.now) (sym c.in-Hints.is)

pub returns-in-Help : goal.returns-in-Help
returns-in-Help c = no_name (codes "; mstplan --help?\n") [] ∙ ap (behind_word c.args.word.now) (sym c.in-Help.is)

pub returns-in-Version : goal.returns-in-Version
returns-in-Version c = no_name (codes "; mstplan --version?\n") [] ∙ ap (behind_word c.args.word.now) (sym c.in-Version.is)

pub returns-in-Flag : goal.returns-in-Flag
returns-in-Flag c = no_name (codes "; flags are --json and --hints, what a command takes stands without --\n") [] ∙ ap (behind_word c.args.word.now) (sym c.in-Flag.is)

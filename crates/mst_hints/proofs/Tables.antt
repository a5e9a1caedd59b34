-- The table of forms, as the code keeps it and as the grammar has it.
use Rattle.std.proofs.Common.{◌≡◌, ◌∙◌, ℕ, Bool, List, Option, Some, None, find, map, Bor, refl, ap}
use Rattle.std.specs.Option.{option_map}
use Rattle.mst_lang.specs.Forms.{all_commands, rule_of, form_of, Row, row_of, written}
use Rattle.mst_lang.specs.declared.form.Form.{Form}
use Rattle.mst_lang.specs.declared.line.Command.{Command}
use Rattle.mst_lang.proofs.Tables.{find_map, form_found}
use Rattle.mst_hints.specs.Hints.{command_where}

-- a word and its command
abbrev Entry : Type 0
Entry = List ℕ × Command

-- the arguments in a row that is a command's
pub arguments_of : (o : Option Form) (p : Option Command) → option_map written o ≡ option_map row_of p → option_map (λ (form : Form). form.arguments.now) o ≡ option_map form_of p
arguments_of None None same = refl
arguments_of None (Some command) same = ap (option_map (λ (row : Row). row.2)) same
arguments_of (Some form) None same = ap (option_map (λ (row : Row). row.2)) same
arguments_of (Some form) (Some command) same = ap (option_map (λ (row : Row). row.2)) same

-- the word in one
words_alike : (o : Option Form) (p : Option Command) → option_map written o ≡ option_map row_of p → option_map (λ (text : Bor (List ℕ)). text.now) (option_map (λ (form : Form). form.word) o) ≡ option_map (λ (command : Command). (rule_of command).word) p
words_alike None None same = refl
words_alike None (Some command) same = ap (option_map (λ (row : Row). row.0)) same
words_alike (Some form) None same = ap (option_map (λ (row : Row). row.0)) same
words_alike (Some form) (Some command) same = ap (option_map (λ (row : Row). row.0)) same

word_found : (o : Option Command) → option_map (λ (command : Command). (rule_of command).word) o ≡ option_map (λ (entry : Entry). entry.0) (option_map (λ (command : Command). ((rule_of command).word, command)) o)
word_found None = refl
word_found (Some command) = refl

-- the first command that passes a test
pub text_found : (test : List ℕ → Bool) (table : List Form) → map written table ≡ map row_of all_commands → option_map (λ (text : Bor (List ℕ)). text.now) (option_map (λ (form : Form). form.word) (find (λ (form : Form). test form.word.now) table)) ≡ command_where test
text_found test table same =
    words_alike (find (λ (form : Form). test form.word.now) table) (find (λ (command : Command). test (rule_of command).word) all_commands) (form_found test table same)
    ∙ word_found (find (λ (command : Command). test (rule_of command).word) all_commands)
    ∙ ap (option_map (λ (entry : Entry). entry.0)) (find_map (λ (command : Command). ((rule_of command).word, command)) (λ (entry : Entry). test entry.0) all_commands)

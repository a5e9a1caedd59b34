-- The flags that stand among the program's words, wherever they stand before the first `--`.
use Rattle.std.specs.Prelude.{ℕ, Bool, false, not, ◌||◌, ◌&&◌, List, [], ◌∷◌, codes, if◌then◌else◌}
use Rattle.std.specs.Str.{bytes_eq}
use Rattle.mst_print.specs.declared.form.Form.{Form}
use Rattle.mst_print.specs.declared.form.Form.TheVariants.{Text, Json}
use Rattle.mst_command.specs.Table.{row_of}
use Rattle.mst_command.specs.Words.{is_dashes}
use Rattle.mst_command.specs.declared.flags.Flags.{Flags}
use Rattle.mst_command.specs.declared.table.Verb.{Verb}

-- this flag stands among these words, before the first `--`
abbrev pub has_flag : List ℕ → List (List ℕ) → Bool
has_flag flag [] = false
has_flag flag (word ∷ words) = not (is_dashes word) && (bytes_eq word flag || has_flag flag words)

abbrev pub no_flags : Flags
no_flags = record { json = false; hints = false }

-- which flags do
abbrev pub flags_in : List (List ℕ) → Flags
flags_in words = record { json = has_flag (codes "--json") words; hints = has_flag (codes "--hints") words }

abbrev pub is_flag : List ℕ → Bool
is_flag word = bytes_eq word (codes "--json") || bytes_eq word (codes "--hints")

-- these words but for the flags. Behind the first `--` no word is a flag
abbrev pub without_flags : List (List ℕ) → List (List ℕ)
without_flags [] = []
without_flags (word ∷ words) = if is_dashes word then word ∷ words else if is_flag word then without_flags words else word ∷ without_flags words

-- the same of all words, of which the first is the program's name, and no flag whatever it is
abbrev pub without_flags_behind : List (List ℕ) → List (List ℕ)
without_flags_behind [] = []
without_flags_behind (name ∷ words) = name ∷ without_flags words

-- what is printed by these flags
abbrev pub form_of : Flags → Form
form_of flags = if flags.json then Json else Text

-- what is to be done takes these flags: each takes hints
abbrev pub takes : Flags → Verb → Bool
takes flags verb = not flags.json || (row_of verb).is_json

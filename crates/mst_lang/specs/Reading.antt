-- What a line of a script says, or the least fault of it.
use Rattle.std.specs.Prelude.{ℕ, Bool, ◌==◌, List, [], ◌∷◌, length, nat_lt, not, ◌&&◌, Result, Ok, Err, if◌then◌else◌, codes, false}
use Rattle.std.specs.Option.{option_map_or}
use Rattle.std.specs.List.{list_all}
use Rattle.mst_lang.specs.Words.{words, is_plain, two_of}
use Rattle.mst_lang.specs.Arguments.{is_text, with}
use Rattle.mst_lang.specs.Forms.{Makes, value_as, rule_of, command_of}
use Rattle.mst_lang.specs.declared.form.Argument.{Argument}
use Rattle.mst_lang.specs.declared.line.Version.{Version}
use Rattle.mst_lang.specs.declared.line.Version.TheVariants.{V1}
use Rattle.mst_lang.specs.declared.line.Line.{Line}
use Rattle.mst_lang.specs.declared.line.Line.TheVariants as lines
use Rattle.mst_lang.specs.declared.line.Command.{Command}
use Rattle.mst_lang.specs.declared.line.Fault.{Fault}
use Rattle.mst_lang.specs.declared.line.Fault.TheVariants.{E01}

-- a line whose words take the places of these arguments, after what was made so far: E01 where it has another number of words,
-- else the least fault of them, else what is made of their values
abbrev pub filled : Version → (form : List Argument) → Result (Makes form) Fault → List (List ℕ) → Result Line Fault
filled version [] made [] = made
filled version [] made (word ∷ words) = Err E01
filled version (argument ∷ form) made [] = Err E01
filled version (argument ∷ form) made (word ∷ words) = filled version form (with made (value_as version argument word)) words

-- what a command makes of the words that follow it
abbrev pub says_as : Version → Command → List (List ℕ) → Result Line Fault
says_as version command words = filled version (rule_of command).arguments (Ok (rule_of command).says) words

-- the first byte is `#`
abbrev pub is_comment : List ℕ → Bool
is_comment [] = false
is_comment (b ∷ bs) = b == 35

-- a line by its words: blank where it has none, a comment whatever bytes it holds, else a command, all
-- of whose bytes are plain
abbrev pub worded : Version → Bool → List (List ℕ) → Result Line Fault
worded version plain [] = if plain then Ok lines.Blank else Err E01
worded version plain (word ∷ arguments) =
    if is_comment word then Ok lines.Blank
    else (if plain then option_map_or (λ command. says_as version command arguments) (command_of word) (Err E01) else Err E01)

-- a line of at most 4,096 bytes, in a script of this version
abbrev pub reading_as : Version → List ℕ → Result Line Fault
reading_as version line = if nat_lt 4096 (length line) then Err E01 else worded version (list_all is_plain line) (words line)

-- in a script of version 1
abbrev pub reading : List ℕ → Result Line Fault
reading = reading_as V1

-- a line of at most 4,096 bytes that has just the words `mstplan` and `2`. A script with this first line is of
-- version 2, and the line says nothing else
abbrev pub says_version_2 : List ℕ → Bool
says_version_2 line = not (nat_lt 4096 (length line)) && option_map_or (λ w. is_text w.0 (codes "mstplan") && is_text w.1 (codes "2")) (two_of (words line)) false

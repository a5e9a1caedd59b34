-- What the program's words ask for, with clap's names.
use Rattle.std.specs.Prelude.{◌≡◌, ◌⊎◌, ◌==◌, ◌&&◌, ◌||◌, ℕ, Bool, true, false, not, List, [], ◌∷◌, Option, Some, None, String, codes, drop, map, option_map, slice_get, string_bytes, unwrap_or, if◌then◌else◌}
use Rattle.std.specs.List.{list_any}
use Rattle.std.specs.Option.{option_and_then}
use Rattle.std.specs.declared.alloc.Global.{Global}
use Rattle.std.specs.Str.{bytes_eq}
use Rattle.clap.specs.Words.{App, Row, Rule, Shape, first_of, new_app, new_rule, with_rule}
use Rattle.mst_io.specs.declared.outcome.RunFault.TheVariants.{Memory, Write}
use Rattle.mst_command.specs.declared.stop.Stop.{Stop}
use Rattle.mst_command.specs.declared.stop.Stop.TheVariants.{Told, NoWord, Unopened, Fault}
use Rattle.mst_command.specs.Strays.{IsStray, meant_by_unknown}
use Rattle.mst_command.specs.Table.{Place, Row as TableRow, row_of, verb_named, verbs}
use Rattle.mst_command.specs.declared.strays.Meant.{Meant}
use Rattle.mst_command.specs.declared.strays.Meant.TheVariants.{File}
use Rattle.mst_command.specs.declared.table.Verb.{Verb}
use Rattle.mst_command.specs.declared.table.Verb.TheVariants.{Run}
use Rattle.mst_command.specs.declared.words.Asked.{Asked}
use Rattle.mst_command.specs.declared.words.Behind.{Behind}

-- the words behind one of the program's, each in its place. The first names standard input, `-`, where no word stands there
pub record Placed : Type 0 where
  pub first : List ℕ
  pub second : Option (List ℕ)
  pub third : Option (List ℕ)
  pub fourth : Option (List ℕ)
  pub fifth : Option (List ℕ)

-- a word that has to be there. It is
abbrev pub wanted : Option (List ℕ) → List ℕ
wanted word = unwrap_or word (codes "-")

-- these words in their places
abbrev pub in_places : List (List ℕ) → Placed
in_places words = record { first = wanted (slice_get words 0); second = slice_get words 1; third = slice_get words 2; fourth = slice_get words 3; fifth = slice_get words 4 }

-- what words ask for: what is to be done, and the words behind that
pub record Request : Type 0 where
  pub verb : Verb
  pub words : Placed

abbrev pub texts_of : Behind → Placed
texts_of behind = record {
  first = behind.first.now;
  second = option_map (λ word. word.now) behind.second;
  third = option_map (λ word. word.now) behind.third;
  fourth = option_map (λ word. word.now) behind.fourth;
  fifth = option_map (λ word. word.now) behind.fifth;
}

abbrev pub words_of : Asked → Request
words_of asked = record { verb = asked.verb; words = texts_of asked.behind }

-- a word that isn't read as an option: it doesn't begin with a hyphen, or is one alone
abbrev pub is_plain : List ℕ → Bool
is_plain [] = true
is_plain (b ∷ []) = true
is_plain (b ∷ c ∷ rest) = not (b == 45)

-- the word behind which no word is read as an option
abbrev pub is_dashes : List ℕ → Bool
is_dashes word = bytes_eq word (codes "--")

-- words that aren't options, of which the first `--` is none and those behind it may be any
abbrev pub are_values : List (List ℕ) → Bool
are_values [] = true
are_values (word ∷ words) = is_dashes word || (is_plain word && are_values words)

-- the words of the program that aren't read as options. `--` stands behind a command
abbrev pub are_plain : List (List ℕ) → Bool
are_plain [] = true
are_plain (command ∷ words) = is_plain command && are_values words

-- the same words without the first `--`
abbrev pub without_dashes : List (List ℕ) → List (List ℕ)
without_dashes [] = []
without_dashes (word ∷ words) = if is_dashes word then words else word ∷ without_dashes words

-- the words behind the first, which is the program's name
abbrev pub behind_name : List (String Global) → List (List ℕ)
behind_name words = drop 1 (map string_bytes words)

-- these words stand in these places: each has one, but where none has to stand behind the last
abbrev pub fit : List Place → List (List ℕ) → Bool
fit places [] = not (list_any (λ place. place.is_wanted) places)
fit [] (word ∷ words) = false
fit (place ∷ places) (word ∷ words) = fit places words

-- what they ask for behind the name of something that is to be done
abbrev pub asked_of_verb : List (List ℕ) → Verb → Option Request
asked_of_verb words verb = if fit (row_of verb).places words then Some (record { verb = verb; words = in_places words }) else None

-- What words ask for that aren't options, behind the program's name: none for the script on standard input, and else what a row of the table
-- has, by its name, where the others stand in its places. What is asked for are the words themselves. Any other words ask for nothing
abbrev pub asked_by : List (List ℕ) → Option Request
asked_by [] = Some (record { verb = Run; words = in_places [] })
asked_by (command ∷ words) = option_and_then (asked_of_verb words) (verb_named command)

-- words that ask the program for its help alone, and for its version
abbrev pub is_help : List (List ℕ) → Bool
is_help (word ∷ []) = list_any (λ option. bytes_eq option word) (codes "--help" ∷ codes "-h" ∷ [])
is_help words = false

abbrev pub is_version : List (List ℕ) → Bool
is_version (word ∷ []) = list_any (λ option. bytes_eq option word) (codes "--version" ∷ codes "-V" ∷ [])
is_version words = false

-- these were answered, with status 0, or standard output took no more of that, or memory was wanted
abbrev pub IsAnswer : Stop → Type 0
IsAnswer stop = (stop ≡ Told 0) ⊎ ((stop ≡ Fault Write) ⊎ (stop ≡ Fault Memory))

-- a byte that a file's name has, and no command's: `.` or `/`
abbrev pub is_of_path : ℕ → Bool
is_of_path b = b == 46 || b == 47

-- this word stands alone, in the place of a command, and may be meant for a file: it has such a byte, or a file of this name is there
pub record IsFileAlone (IsThere : List ℕ → Type 0) (words : List (List ℕ)) (word : List ℕ) : Type 0 where
  pub alone : words ≡ word ∷ []
  pub meant : (list_any is_of_path word ≡ true) ⊎ IsThere word

-- this word was meant for that, which there is no word for: for a file, where it stands alone, or for another word
abbrev pub IsMeant : (List ℕ → Type 0) → List (List ℕ) → List ℕ → Meant → Type 0
IsMeant IsThere words word meant = ((meant ≡ File) × IsFileAlone IsThere words word) ⊎ IsStray words word meant

-- this word is told, and what it was meant for
abbrev pub IsNoWord : List ℕ → Stop → Type 0
IsNoWord word (NoWord told meant) = (told.now ≡ word) × (meant ≡ meant_by_unknown word)
IsNoWord word stop = ⊥

-- words that ask for nothing are told with status 2, or by one of them and what it was meant for
abbrev pub IsWrong : (List ℕ → Type 0) → List (List ℕ) → Stop → Type 0
IsWrong IsThere words (Told status) = status ≡ 2
IsWrong IsThere words (NoWord word meant) = IsMeant IsThere words word.now meant
IsWrong IsThere words (Unopened file why) = ⊥
IsWrong IsThere words (Fault fault) = ⊥

-- why words that aren't options aren't served: for want of memory, or since they ask for nothing
abbrev pub IsRefusal : (List ℕ → Type 0) → List (List ℕ) → Option Request → Stop → Type 0
IsRefusal IsThere words (Some request) stop = stop ≡ Fault Memory
IsRefusal IsThere words None stop = IsWrong IsThere words stop ⊎ (stop ≡ Fault Memory)

-- what it calls the words in the five places
abbrev pub place_ids : List (List ℕ)
place_ids = codes "1" ∷ codes "2" ∷ codes "3" ∷ codes "4" ∷ codes "5" ∷ []

-- what was found in them
abbrev pub found_in : List Row → Placed
found_in rows = record { first = wanted (first_of (codes "1") rows); second = first_of (codes "2") rows; third = first_of (codes "3") rows; fourth = first_of (codes "4") rows; fifth = first_of (codes "5") rows }

-- what the name of a command, if there is one, and what was found for it ask for
abbrev pub asked_of : Option (List ℕ × List Row) → Request
asked_of None = record { verb = Run; words = in_places [] }
asked_of (Some found) = record { verb = unwrap_or (verb_named found.0) Run; words = found_in found.1 }

-- a place, which help calls something else
abbrev pub place_rule : List ℕ → Place → Rule
place_rule id place = record (new_rule id) { value_names = 1; required = place.is_wanted }

abbrev pub with_place : App → List ℕ → Option Place → App
with_place app id None = app
with_place app id (Some place) = with_rule app (place_rule id place)

abbrev pub rules_of : List (List ℕ) → List Place → List Rule
rules_of [] places = []
rules_of (id ∷ ids) [] = []
rules_of (id ∷ ids) (place ∷ places) = place_rule id place ∷ rules_of ids places

-- a command by its row
abbrev pub command_shape : TableRow → Shape
command_shape row = record ((new_app row.name).top) { rules = rules_of place_ids row.places }

-- the program with no command, which has a version, and no command that prints help
abbrev pub no_command : App
no_command = record { top = record ((new_app (codes "mstplan")).top) { has_version = true; disable_help_subcommand = true }; subs = [] }

-- and with a command of each row
abbrev pub program : App
program = record { top = record no_command.top { is_leaf = false }; subs = map (λ verb. command_shape (row_of verb)) verbs }

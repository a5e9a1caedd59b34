-- What the program's words come to, by the rules of its command line.
use Rattle.std.proofs.Common.{◌≡◌, ◌≢◌, ◌⊎◌, ℕ, zero, suc, Bool, true, false, not, List, [], ◌∷◌, Option, Some, None, codes, refl, sym, ap, ap₂, ◌∙◌, subst, inl, inr, map, option_map}
use Rattle.std.specs.Prelude.{◌&&◌, ◌||◌, if◌then◌else◌, is_some, drop, find, fold, option_and_then, unwrap_or}
use Rattle.std.specs.List.{list_all, list_any}
use Rattle.std.specs.Option.{option_map_or}
use Rattle.std.specs.Str.{bytes_eq}
use Rattle.std.proofs.lemmas.Bool.{false≢true}
use Rattle.std.proofs.lemmas.Option.{none-some, same_Some}
use Rattle.std.proofs.lemmas.Slice.Eq.{bytes_eq-Decides}
use Rattle.clap.specs.Words.{Shape, Text, built, fault_of, is_simple, is_simple_and_free, subcommand_of}
use Rattle.clap.specs.Faults.{built_fault, entered_fault, level_fault, other_fault, step_fault, turn_fault, walk_fault}
use Rattle.clap.specs.Kinds.{Kinds, IsAmong, check_kinds, or_else}
use Rattle.clap.specs.declared.error.kind.ErrorKind.{ErrorKind}
use Rattle.clap.specs.declared.error.kind.ErrorKind.TheVariants.{DisplayHelp, DisplayVersion, InvalidSubcommand, OutOfMemory}
use Rattle.clap.specs.Walk.{Names as Labels, Walk, after_step, answers_to, idle, nothing_held, stop_after, subcommand_met, subcommand_or_other, value, walk, walk_from, walked}
use Rattle.clap.specs.Simple.{built_leaf, entered, inherited, label_of, marked_built, names_of, on_top, rows_at, with_leaf_noted}
use Rattle.clap.proofs.FaultLemmas.{stopped_fault}
use Rattle.clap.proofs.OnLiterals.{clap_on_literals}
use Rattle.clap.proofs.WalkLemmas.{walk_stopped}
use Rattle.mst_io.specs.declared.outcome.RunFault.TheVariants.{Memory, Write}
use Rattle.mst_command.specs.declared.stop.Stop.{Stop}
use Rattle.mst_command.specs.declared.stop.Stop.TheVariants.{Told, Fault}
use Rattle.mst_command.specs.declared.table.Verb.{Verb}
use Rattle.mst_command.specs.declared.table.Verb.TheVariants.{Run}
use Rattle.mst_command.specs.Table.{Place, Row as TableRow, row_of, verb_named, verbs}
use Rattle.mst_command.specs.Words.{IsAnswer, IsRefusal, IsWrong, Placed, Request, are_plain, are_values, asked_by, asked_of, asked_of_verb, command_shape, fit, in_places, is_dashes, is_help, is_plain, is_version, program, without_dashes}
use Rattle.mst_command.proofs.PlainWords.{Fits, IsSingle, both_so, fits_values, is_no_help, leaf, leaf_found, level, plain_dashes, plain_turn, refuses, values_found, values_leaf}

-- ---- the words of the program

abbrev names : Labels
names = names_of (built program)

-- the whole parse, by the walk over its words
abbrev whole : Kinds → Walk → Kinds
whole faults w = level (built program).top faults (entered_fault (built program) w.stopped) (is_some (entered (built program) w.stopped)) w.held

abbrev whole_found : Walk → Request
whole_found w = asked_of (entered (built program) w.stopped)

abbrev faults : List Text → Kinds
faults words = built_fault (built program) nothing_held words

abbrev found : List Text → Request
found words = asked_of (entered (built program) (stop_after (built program).top.rules names words))

abbrev FitsWords : List Text → Type 0
FitsWords words = Fits (asked_by (without_dashes words)) (faults words) (found words)

or_else-nil : (kinds : Kinds) → or_else kinds [] ≡ kinds
or_else-nil [] = refl
or_else-nil (k ∷ ks) = refl

-- the walk that a command stops
abbrev stopped_at : Text → List Text → Walk
stopped_at command rest = record (walk_from nothing_held) { stopped = Some (command, rest) }

at_command : (command : Text) (rest : List Text) → walked (built program).top.rules names (walk_from nothing_held) command ≡ stopped_at command []
    → ◌≡◌ {A = Walk} (walk (built program).top.rules names nothing_held (command ∷ rest)) (stopped_at command rest)
at_command command rest stops =
    ap (λ (w : Walk). fold (walked (built program).top.rules names) w rest) stops ∙ sym (walk_stopped (built program).top.rules names (walk_from nothing_held) command [] rest)

command_faults : (command : Text) (rest : List Text) → walked (built program).top.rules names (walk_from nothing_held) command ≡ stopped_at command [] → turn_fault (built program).top names (walk_from nothing_held) command ≡ []
    → walk_fault (built program).top names (walk_from nothing_held) (command ∷ rest) ≡ []
unfolding walk_fault
command_faults command rest stops none =
    ap₂ (λ t (w : Walk). or_else t (walk_fault (built program).top names w rest)) none stops ∙ stopped_fault (built program).top names (walk_from nothing_held) (command, []) rest

-- `--` isn't the first word
no_dashes : (word : Text) (words : List Text) → is_dashes word ≡ false → without_dashes (word ∷ words) ≡ word ∷ without_dashes words
no_dashes word words e = ap (λ (x : Bool). if x then words else word ∷ without_dashes words) e

-- ---- rows of the table

-- what a command takes from the program
abbrev above : Shape
above = (on_top with_leaf_noted (on_top marked_built program)).top

-- a command of a row, as it is built
abbrev leaf_of : TableRow → Shape
leaf_of row = built_leaf (inherited above (command_shape row))

abbrev verb_leaf : Verb → Shape
verb_leaf verb = leaf_of (row_of verb)

abbrev is_named : Text → Verb → Bool
is_named word verb = bytes_eq (row_of verb).name word

abbrev label : Verb → Text × List Text
label verb = ((row_of verb).name, [])

-- the same is found among labels, among commands and in the table
found_label : (word : Text) (vs : List Verb) → find (answers_to word) (map label_of (map verb_leaf vs)) ≡ option_map label (find (is_named word) vs)
found_label word [] = refl
found_label word (verb ∷ vs) = go (is_named word verb) (found_label word vs)
  where
    go : (x : Bool) → find (answers_to word) (map label_of (map verb_leaf vs)) ≡ option_map label (find (is_named word) vs)
        → ◌≡◌ {A = Option (Text × List Text)} (if x || false then Some (label verb) else find (answers_to word) (map label_of (map verb_leaf vs))) (option_map label (if x then Some verb else find (is_named word) vs))
    go true later = refl
    go false later = later

found_leaf : (word : Text) (vs : List Verb) → find (λ s. answers_to word (label_of s)) (map verb_leaf vs) ≡ option_map verb_leaf (find (is_named word) vs)
found_leaf word [] = refl
found_leaf word (verb ∷ vs) = go (is_named word verb) (found_leaf word vs)
  where
    go : (x : Bool) → find (λ s. answers_to word (label_of s)) (map verb_leaf vs) ≡ option_map verb_leaf (find (is_named word) vs)
        → ◌≡◌ {A = Option Shape} (if x || false then Some (verb_leaf verb) else find (λ s. answers_to word (label_of s)) (map verb_leaf vs)) (option_map verb_leaf (if x then Some verb else find (is_named word) vs))
    go true later = refl
    go false later = later

-- what is found is what was looked for, and has what all have
found_is : (is has : Verb → Bool) (vs : List Verb) (verb : Verb) → find is vs ≡ Some verb → list_all has vs ≡ true → (is verb ≡ true) × (has verb ≡ true)
found_is is has [] verb found all = absurd (none-some verb found)
found_is is has (first ∷ vs) verb found all =
    let both = both_so (has first) (list_all has vs) all in
    go both.0 (λ later. found_is is has vs verb later both.1) (is first) refl found
  where
    go : has first ≡ true → (find is vs ≡ Some verb → (is verb ≡ true) × (has verb ≡ true)) → (x : Bool) → is first ≡ x → ◌≡◌ {A = Option Verb} (if x then Some first else find is vs) (Some verb) → (is verb ≡ true) × (has verb ≡ true)
    go here later true e same = subst (λ v. (is v ≡ true) × (has v ≡ true)) (same_Some first verb same) (e, here)
    go here later false e found = later found

abbrev at_most : ℕ → List Place → Bool
at_most n [] = true
at_most zero (place ∷ places) = false
at_most (suc n) (place ∷ places) = at_most n places

abbrev has_five : Verb → Bool
has_five verb = at_most 5 (row_of verb).places

all_have_five : list_all has_five verbs ≡ true
all_have_five = refl

-- ---- what values come to in the places of a row

-- whether one is wanted in a place behind so many
abbrev lacks : ℕ → List Place → Bool
lacks n [] = false
lacks zero (place ∷ places) = (place.is_wanted && true) || lacks zero places
lacks (suc n) (place ∷ places) = (place.is_wanted && false) || lacks n places

is_lacking : (n : ℕ) (places : List Place) → lacks n places ≡ list_any (λ place. place.is_wanted) (drop n places)
is_lacking zero [] = refl
is_lacking (suc n) [] = refl
is_lacking zero (place ∷ places) = ap₂ (λ x y. x || y) (go place.is_wanted) (is_lacking zero places)
  where
    go : (x : Bool) → (x && true) ≡ x
    go true = refl
    go false = refl
is_lacking (suc n) (place ∷ places) = ap (λ x. x || lacks n places) (go place.is_wanted) ∙ is_lacking n places
  where
    go : (x : Bool) → (x && false) ≡ false
    go true = refl
    go false = refl

fits_lacking : (n : ℕ) (places : List Place) (found : Placed) → Fits (if not (list_any (λ place. place.is_wanted) (drop n places)) then Some found else None) (check_kinds false false (lacks n places)) found
fits_lacking n places found = go (lacks n places) (list_any (λ place. place.is_wanted) (drop n places)) (is_lacking n places)
  where
    by_one : (x : Bool) → Fits (if not x then Some found else None) (check_kinds false false x) found
    by_one true = refl
    by_one false = (refl, refl)

    go : (x y : Bool) → x ≡ y → Fits (if not y then Some found else None) (check_kinds false false x) found
    go x y e = subst (λ y. Fits (if not y then Some found else None) (check_kinds false false x) found) e (by_one x)

-- each place takes one value
single_places : (row : TableRow) → IsSingle (leaf_of row)
single_places row = go row.places
  where
    go : (places : List Place) → IsSingle (leaf_of (record row { places = places }))
    go [] = refl
    go (a ∷ []) = refl
    go (a ∷ b ∷ []) = refl
    go (a ∷ b ∷ c ∷ []) = refl
    go (a ∷ b ∷ c ∷ d ∷ []) = refl
    go (a ∷ b ∷ c ∷ d ∷ e ∷ more) = refl

-- values in them ask for themselves, where none is wanted that isn't there
abbrev place_asks : TableRow → List Text → Option Placed
place_asks row values = if fit row.places values then Some (in_places values) else None

abbrev FitsPlaces : TableRow → List Text → Type 0
FitsPlaces row values = Fits (place_asks row values) (values_leaf (leaf_of row) values) (values_found (leaf_of row) values)

places_fit : (row : TableRow) → at_most 5 row.places ≡ true → (values : List Text) → FitsPlaces row values
unfolding clap_on_literals
places_fit row = go row.places
  where
    go : (places : List Place) → at_most 5 places ≡ true → (values : List Text) → FitsPlaces (record row { places = places }) values
    go [] few [] = fits_lacking 0 [] _
    go [] few (v ∷ vs) = refl
    go (a ∷ []) few [] = fits_lacking 0 (a ∷ []) _
    go (a ∷ []) few (v ∷ []) = fits_lacking 1 (a ∷ []) _
    go (a ∷ []) few (v ∷ w ∷ vs) = refl
    go (a ∷ b ∷ []) few [] = fits_lacking 0 (a ∷ b ∷ []) _
    go (a ∷ b ∷ []) few (v ∷ []) = fits_lacking 1 (a ∷ b ∷ []) _
    go (a ∷ b ∷ []) few (v ∷ w ∷ []) = fits_lacking 2 (a ∷ b ∷ []) _
    go (a ∷ b ∷ []) few (v ∷ w ∷ x ∷ vs) = refl
    go (a ∷ b ∷ c ∷ []) few [] = fits_lacking 0 (a ∷ b ∷ c ∷ []) _
    go (a ∷ b ∷ c ∷ []) few (v ∷ []) = fits_lacking 1 (a ∷ b ∷ c ∷ []) _
    go (a ∷ b ∷ c ∷ []) few (v ∷ w ∷ []) = fits_lacking 2 (a ∷ b ∷ c ∷ []) _
    go (a ∷ b ∷ c ∷ []) few (v ∷ w ∷ x ∷ []) = fits_lacking 3 (a ∷ b ∷ c ∷ []) _
    go (a ∷ b ∷ c ∷ []) few (v ∷ w ∷ x ∷ y ∷ vs) = refl
    go (a ∷ b ∷ c ∷ d ∷ []) few [] = fits_lacking 0 (a ∷ b ∷ c ∷ d ∷ []) _
    go (a ∷ b ∷ c ∷ d ∷ []) few (v ∷ []) = fits_lacking 1 (a ∷ b ∷ c ∷ d ∷ []) _
    go (a ∷ b ∷ c ∷ d ∷ []) few (v ∷ w ∷ []) = fits_lacking 2 (a ∷ b ∷ c ∷ d ∷ []) _
    go (a ∷ b ∷ c ∷ d ∷ []) few (v ∷ w ∷ x ∷ []) = fits_lacking 3 (a ∷ b ∷ c ∷ d ∷ []) _
    go (a ∷ b ∷ c ∷ d ∷ []) few (v ∷ w ∷ x ∷ y ∷ []) = fits_lacking 4 (a ∷ b ∷ c ∷ d ∷ []) _
    go (a ∷ b ∷ c ∷ d ∷ []) few (v ∷ w ∷ x ∷ y ∷ z ∷ vs) = refl
    go (a ∷ b ∷ c ∷ d ∷ e ∷ []) few [] = fits_lacking 0 (a ∷ b ∷ c ∷ d ∷ e ∷ []) _
    go (a ∷ b ∷ c ∷ d ∷ e ∷ []) few (v ∷ []) = fits_lacking 1 (a ∷ b ∷ c ∷ d ∷ e ∷ []) _
    go (a ∷ b ∷ c ∷ d ∷ e ∷ []) few (v ∷ w ∷ []) = fits_lacking 2 (a ∷ b ∷ c ∷ d ∷ e ∷ []) _
    go (a ∷ b ∷ c ∷ d ∷ e ∷ []) few (v ∷ w ∷ x ∷ []) = fits_lacking 3 (a ∷ b ∷ c ∷ d ∷ e ∷ []) _
    go (a ∷ b ∷ c ∷ d ∷ e ∷ []) few (v ∷ w ∷ x ∷ y ∷ []) = fits_lacking 4 (a ∷ b ∷ c ∷ d ∷ e ∷ []) _
    go (a ∷ b ∷ c ∷ d ∷ e ∷ []) few (v ∷ w ∷ x ∷ y ∷ z ∷ []) = fits_lacking 5 (a ∷ b ∷ c ∷ d ∷ e ∷ []) _
    go (a ∷ b ∷ c ∷ d ∷ e ∷ []) few (v ∷ w ∷ x ∷ y ∷ z ∷ u ∷ vs) = refl
    go (a ∷ b ∷ c ∷ d ∷ e ∷ f ∷ more) few values = absurd (false≢true few)

-- ---- a word that is a command

met_command : (command : Text) (verb : Verb) → verb_named command ≡ Some verb → (row_of verb).name ≡ command → subcommand_met names idle command ≡ Some command
met_command command verb named same =
    ap (option_map (λ (s : Text × List Text). s.0)) (found_label command verbs ∙ ap (option_map label) named) ∙ ap Some same

command_stops : (command : Text) → subcommand_met names idle command ≡ Some command → walked (built program).top.rules names (walk_from nothing_held) command ≡ stopped_at command []
unfolding walked
command_stops command met =
    let c = (built program).top.rules in
    ap (λ (met : Option Text). let step = subcommand_or_other c met idle 1 command nothing_held in after_step c command (walk_from nothing_held) step.0 step.1) met

command_faultless : (command : Text) → subcommand_met names idle command ≡ Some command → turn_fault (built program).top names (walk_from nothing_held) command ≡ []
unfolding clap_on_literals
command_faultless command met =
    let t = (built program).top in
    ap (λ (met : Option Text). let step = subcommand_or_other t.rules met idle 1 command nothing_held in or_else (other_fault t met command nothing_held) (step_fault t 1 step.0 step.1)) met ∙ go (bytes_eq command (codes "help"))
  where
    go : (x : Bool) → or_else (if x && false then DisplayHelp ∷ InvalidSubcommand ∷ [] else []) [] ≡ []
    go true = refl
    go false = refl

-- what the words behind it come to
abbrev whole_met : List Text → Option Shape → Kinds
whole_met rest met = level (built program).top [] (option_map_or (λ s. level_fault s [] nothing_held rest false []) met []) (is_some (option_map (λ s. rows_at s rest) met)) nothing_held

found_command : (command : Text) (verb : Verb) → verb_named command ≡ Some verb → find (λ s. answers_to command (label_of s)) (built program).subs ≡ Some (verb_leaf verb)
found_command command verb named = found_leaf command verbs ∙ ap (option_map verb_leaf) named

whole_some : (rest : List Text) (s : Shape) → whole_met rest (Some s) ≡ or_else (leaf s rest) []
unfolding clap_on_literals
whole_some rest s = refl

command_whole : (command : Text) (verb : Verb) (rest : List Text) → verb_named command ≡ Some verb → whole [] (stopped_at command rest) ≡ leaf (verb_leaf verb) rest
command_whole command verb rest named = ap (whole_met rest) (found_command command verb named) ∙ whole_some rest (verb_leaf verb) ∙ or_else-nil (leaf (verb_leaf verb) rest)

abbrev request : Verb → Placed → Request
request verb words = record { verb = verb; words = words }

command_found : (command : Text) (verb : Verb) (rest : List Text) → verb_named command ≡ Some verb → (row_of verb).name ≡ command → whole_found (stopped_at command rest) ≡ request verb (leaf_found (verb_leaf verb) rest)
command_found command verb rest named same =
    ap (λ (met : Option Shape). asked_of (option_map (λ s. rows_at s rest) met)) (found_command command verb named)
    ∙ ap (λ (v : Option Verb). request (unwrap_or v Run) (leaf_found (verb_leaf verb) rest)) (ap verb_named same ∙ named)

-- what asks for words in places asks for them with the verb
with_verb : (verb : Verb) (x : Bool) (words found : Placed) (kinds : Kinds) → Fits (if x then Some words else None) kinds found → Fits (if x then Some (request verb words) else None) kinds (request verb found)
with_verb verb true words found kinds fits = (fits.0, ap (request verb) fits.1)
with_verb verb false words found kinds fits = fits

fits_command : (command : Text) (verb : Verb) (rest : List Text) → is_plain command ≡ true → are_values rest ≡ true → verb_named command ≡ Some verb → FitsWords (command ∷ rest)
fits_command command verb rest plain values named =
    let behind = without_dashes rest in
    let s = verb_leaf verb in
    let is = found_is (is_named command) has_five verbs verb named all_have_five in
    let same : (row_of verb).name ≡ command = (bytes_eq-Decides (row_of verb).name command).0 is.0 in
    let met = met_command command verb named same in
    let stops = command_stops command met in
    let goes = at_command command rest stops in
    let kinds = ap₂ whole (command_faults command rest stops (command_faultless command met)) goes ∙ command_whole command verb rest named in
    let finds = ap whole_found goes ∙ command_found command verb rest named same in
    let fits = with_verb verb (fit (row_of verb).places behind) (in_places behind) (leaf_found s rest) (leaf s rest) (fits_values s (single_places (row_of verb)) (place_asks (row_of verb)) rest values (places_fit (row_of verb) is.1)) in
    let asks = ap asked_by (no_dashes command rest (plain_dashes command plain)) ∙ ap (option_and_then (asked_of_verb behind)) named in
    subst (λ (k : Kinds). Fits (asked_by (without_dashes (command ∷ rest))) k (found (command ∷ rest))) (sym kinds)
    (subst (Fits (asked_by (without_dashes (command ∷ rest))) (leaf s rest)) (sym finds)
    (subst (λ (asks : Option Request). Fits asks (leaf s rest) (request verb (leaf_found s rest))) (sym asks) fits))

-- ---- a word that is none

names_none : (command : Text) → verb_named command ≡ None → subcommand_met names idle command ≡ None
names_none command none = ap (option_map (λ (s : Text × List Text). s.0)) (found_label command verbs ∙ ap (option_map label) none)

stray_refused : (more : Kinds) (end : Walk) → refuses (whole (or_else (step_fault (built program).top 1 nothing_held value) more) end) ≡ true
unfolding clap_on_literals
stray_refused more end = refl

other_refused : (command : Text) (rest : List Text) → is_plain command ≡ true → subcommand_met names idle command ≡ None → refuses (faults (command ∷ rest)) ≡ true
unfolding walk_fault
other_refused command rest plain none =
    let t = (built program).top in
    let later = walk_fault t names (walked t.rules names (walk_from nothing_held) command) rest in
    let end = walk t.rules names nothing_held (command ∷ rest) in
    ap (λ k. refuses (whole (or_else k later) end)) (plain_turn t names 1 command nothing_held plain none) ∙ stray_refused later end

fits_other : (command : Text) (rest : List Text) → is_plain command ≡ true → verb_named command ≡ None → FitsWords (command ∷ rest)
fits_other command rest plain none =
    subst (λ (asks : Option Request). Fits asks (faults (command ∷ rest)) (found (command ∷ rest)))
    (sym (ap asked_by (no_dashes command rest (plain_dashes command plain)) ∙ ap (option_and_then (asked_of_verb (without_dashes rest))) none)) (other_refused command rest plain (names_none command none))

-- ---- the words behind the program's name

fits_none : FitsWords []
unfolding clap_on_literals
fits_none = (refl, refl)

words_fit : (words : List Text) → are_plain words ≡ true → FitsWords words
words_fit [] h = fits_none
words_fit (command ∷ rest) h =
    let both = both_so (is_plain command) (are_values rest) h in
    go both.0 both.1 (verb_named command) refl
  where
    go : is_plain command ≡ true → are_values rest ≡ true → (verb : Option Verb) → verb_named command ≡ verb → FitsWords (command ∷ rest)
    go plain values (Some verb) named = fits_command command verb rest plain values named
    go plain values None none = fits_other command rest plain none

-- the same of all the words, the program's name first
pub all_fit : (words : List Text) → are_plain (drop 1 words) ≡ true → Fits (asked_by (without_dashes (drop 1 words))) (fault_of program words) (asked_of (subcommand_of program words))
all_fit words h = words_fit (drop 1 words) h

-- what is among such faults is no call for help or the version
among_refuses : (kinds : Kinds) (kind : ErrorKind) → refuses kinds ≡ true → IsAmong kind kinds → is_no_help kind ≡ true
among_refuses [] kind h among = absurd among
among_refuses (k ∷ ks) kind h among = each (k ∷ ks) h among
  where
    each : (xs : Kinds) → list_all is_no_help xs ≡ true → IsAmong kind xs → is_no_help kind ≡ true
    each [] e among = absurd among
    each (x ∷ xs) e (inl same) = subst (λ y. is_no_help y ≡ true) (sym same) (both_so (is_no_help x) (list_all is_no_help xs) e).0
    each (x ∷ xs) e (inr later) = each xs (both_so (is_no_help x) (list_all is_no_help xs) e).1 later

-- ---- calls for help and the version

-- these words have this fault alone
abbrev Calls : ErrorKind → List Text → Type 0
Calls kind words = faults words ≡ kind ∷ []

called_help : Calls DisplayHelp (codes "--help" ∷ [])
unfolding clap_on_literals
called_help = refl

called_help_short : Calls DisplayHelp (codes "-h" ∷ [])
unfolding clap_on_literals
called_help_short = refl

called_version : Calls DisplayVersion (codes "--version" ∷ [])
unfolding clap_on_literals
called_version = refl

called_version_short : Calls DisplayVersion (codes "-V" ∷ [])
unfolding clap_on_literals
called_version_short = refl

-- a word that is one of two
either_calls : (kind : ErrorKind) (one two word : Text) → Calls kind (one ∷ []) → Calls kind (two ∷ []) → (bytes_eq one word || (bytes_eq two word || false)) ≡ true → Calls kind (word ∷ [])
either_calls kind one two word first second h = go (bytes_eq one word) (bytes_eq two word) refl refl h
  where
    go : (x y : Bool) → bytes_eq one word ≡ x → bytes_eq two word ≡ y → (x || (y || false)) ≡ true → Calls kind (word ∷ [])
    go true y e f h = subst (λ w. Calls kind (w ∷ [])) ((bytes_eq-Decides one word).0 e) first
    go false true e f h = subst (λ w. Calls kind (w ∷ [])) ((bytes_eq-Decides two word).0 f) second
    go false false e f h = absurd (false≢true h)

pub help_calls : (words : List Text) → is_help (drop 1 words) ≡ true → fault_of program words ≡ DisplayHelp ∷ []
help_calls words h = go (drop 1 words) h
  where
    go : (behind : List Text) → is_help behind ≡ true → Calls DisplayHelp behind
    go [] h = absurd (false≢true h)
    go (word ∷ []) h = either_calls DisplayHelp (codes "--help") (codes "-h") word called_help called_help_short h
    go (word ∷ other ∷ rest) h = absurd (false≢true h)

pub version_calls : (words : List Text) → is_version (drop 1 words) ≡ true → fault_of program words ≡ DisplayVersion ∷ []
version_calls words h = go (drop 1 words) h
  where
    go : (behind : List Text) → is_version behind ≡ true → Calls DisplayVersion behind
    go [] h = absurd (false≢true h)
    go (word ∷ []) h = either_calls DisplayVersion (codes "--version") (codes "-V") word called_version called_version_short h
    go (word ∷ other ∷ rest) h = absurd (false≢true h)

abbrev has_kind : Kinds → Bool
has_kind [] = false
has_kind (kind ∷ kinds) = true

pub called : (kinds : Kinds) (kind : ErrorKind) → kinds ≡ kind ∷ [] → kinds ≡ [] → ⊥
called kinds kind one none = false≢true (ap has_kind (sym none ∙ one))

-- and such a fault is answered
pub called_answers : (kinds : Kinds) (call kind : ErrorKind) (stop : Stop) → kinds ≡ call ∷ [] → (kind ≡ OutOfMemory) ⊎ IsAmong kind kinds → (kind ≡ OutOfMemory → stop ≡ Fault Memory)
    → (kind ≡ call → (stop ≡ Told 0) ⊎ (stop ≡ Fault Write)) → IsAnswer stop
called_answers kinds call kind stop one (inl lacks) memory told = inr (inr (memory lacks))
called_answers kinds call kind stop one (inr among) memory told = go (subst (IsAmong kind) one among)
  where
    answer : (stop ≡ Told 0) ⊎ (stop ≡ Fault Write) → IsAnswer stop
    answer (inl done) = inl done
    answer (inr fault) = inr (inl fault)

    go : IsAmong kind (call ∷ []) → IsAnswer stop
    go (inl same) = answer (told same)
    go (inr never) = absurd never

-- ---- what the program makes of it

pub simple : is_simple program ≡ true
unfolding clap_on_literals
simple = refl

pub free : is_simple_and_free program ≡ true
unfolding clap_on_literals
free = refl

-- words with no fault ask for what was found
pub fits_asks : (asked : Option Request) (kinds : Kinds) (found : Request) → Fits asked kinds found → kinds ≡ [] → asked ≡ Some found
fits_asks (Some asks) kinds found fit e = ap Some (sym fit.1)
fits_asks None kinds found fit e = absurd (false≢true (sym (ap refuses e) ∙ fit))

module _ (IsThere : Text → Type 0) (words : List Text) where
  pub memory_refuses : (asked : Option Request) → IsRefusal IsThere words asked (Fault Memory)
  memory_refuses (Some asks) = refl
  memory_refuses None = inr refl

  -- words with a fault are refused, and others only for want of memory
  pub told_refuses : (asked : Option Request) (kinds : Kinds) (found : Request) (kind : ErrorKind) (stop : Stop) → Fits asked kinds found → (kind ≡ OutOfMemory) ⊎ IsAmong kind kinds
      → (kind ≡ OutOfMemory → stop ≡ Fault Memory) → (kind ≢ DisplayHelp → kind ≢ DisplayVersion → IsWrong IsThere words stop ⊎ (stop ≡ Fault Memory)) → IsRefusal IsThere words asked stop
  told_refuses (Some asks) kinds found kind stop fit (inl lacks) memory other = memory lacks
  told_refuses (Some asks) kinds found kind stop fit (inr among) memory other = absurd (subst (IsAmong kind) fit.0 among)
  told_refuses None kinds found kind stop fit (inl lacks) memory other = inr (memory lacks)
  told_refuses None kinds found kind stop fit (inr among) memory other =
      let calls_none = among_refuses kinds kind fit among in
      other (λ e. false≢true (sym (ap is_no_help e) ∙ calls_none)) (λ e. false≢true (sym (ap is_no_help e) ∙ calls_none))

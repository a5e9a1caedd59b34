-- How words are walked over that aren't options, and what those of a command come to.
use Rattle.std.proofs.Common.{◌≡◌, ◌==◌, ℕ, Bool, true, false, not, List, [], ◌∷◌, Option, Some, None, codes, refl, sym, ap, ap₂, subst, ◌∙◌}
use Rattle.std.specs.Prelude.{◌&&◌, ◌||◌, if◌then◌else◌, option_and_then, fold, find}
use Rattle.std.specs.List.{list_all}
use Rattle.std.specs.Option.{option_map_or}
use Rattle.std.specs.Str.{bytes_eq}
use Rattle.std.proofs.lemmas.Bool.{false≢true}
use Rattle.std.proofs.lemmas.Option.{none-some, same_Some}
use Rattle.std.proofs.lemmas.Slice.Eq.{bytes_eq-Decides}
use Rattle.clap.specs.Words.{Rule, Shape, Text}
use Rattle.clap.specs.Faults.{bundle_fault, check_fault, defaults_fault, flag_word_fault, level_fault, other_fault, settle_fault, step_fault, turn_fault, walk_fault, word_fault}
use Rattle.clap.specs.Kinds.{Kinds, or_else}
use Rattle.clap.specs.declared.error.kind.ErrorKind.{ErrorKind}
use Rattle.clap.specs.declared.error.kind.ErrorKind.TheVariants.{DisplayHelp, DisplayVersion}
use Rattle.clap.specs.Lexer.{long_of, long_of_rest, short_of, short_of_rest, strip_byte}
use Rattle.clap.specs.Walk.{Held, Names as Labels, Step, Walk, after_step, arg_by_index, finished, idle, is_multiple, long_or_other, next_position, nothing_held, positional, positional_held, rows_after, settled, short_or_plain, subcommand_met, subcommand_or_other, to_positional, trailing, value, walked, word_met}
use Rattle.mst_command.specs.Words.{Placed, are_values, found_in, is_dashes, is_plain, without_dashes}

-- ---- a plain word

not_hyphen : (b : ℕ) → not (b == 45) ≡ true → (b == 45) ≡ false
not_hyphen b h = go (b == 45) h
  where
    go : (x : Bool) → not x ≡ true → x ≡ false
    go false e = refl
    go true e = absurd (false≢true e)

pub plain_dashes : (word : Text) → is_plain word ≡ true → bytes_eq word (45 ∷ 45 ∷ []) ≡ false
plain_dashes [] h = refl
plain_dashes (b ∷ []) h = go (b == 45)
  where
    go : (x : Bool) → (x && false) ≡ false
    go false = refl
    go true = refl
plain_dashes (b ∷ c ∷ rest) h = ap (λ x. x && bytes_eq (c ∷ rest) (45 ∷ [])) (not_hyphen b h)

plain_long : (word : Text) → is_plain word ≡ true → long_of word ≡ None
plain_long [] h = refl
plain_long (b ∷ []) h = go (b == 45)
  where
    go : (x : Bool) → option_and_then long_of_rest (option_and_then (strip_byte 45) (if x then Some [] else None)) ≡ None
    go false = refl
    go true = refl
plain_long (b ∷ c ∷ rest) h = ap (λ x. option_and_then long_of_rest (option_and_then (strip_byte 45) (if x then Some (c ∷ rest) else None))) (not_hyphen b h)

plain_short : (word : Text) → is_plain word ≡ true → short_of word ≡ None
plain_short [] h = refl
plain_short (b ∷ []) h = go (b == 45)
  where
    go : (x : Bool) → option_and_then short_of_rest (if x then Some [] else None) ≡ None
    go false = refl
    go true = refl
plain_short (b ∷ c ∷ rest) h = ap (λ x. option_and_then short_of_rest (if x then Some (c ∷ rest) else None)) (not_hyphen b h)

-- ---- a step of the walk, at a plain word that names no command

plain_met : (c : List Rule) (names : Labels) (position : ℕ) (word : Text) (h : Held) → is_plain word ≡ true → subcommand_met names idle word ≡ None
    → ◌≡◌ {A = Held × Step} (word_met c names false idle position word h) (h, value)
plain_met c names position word h plain none =
    ap (λ met. subcommand_or_other c met idle position word h) none
    ∙ ap (λ (x : Bool). if x then (h, trailing position) else long_or_other c idle word (long_of word) h) (plain_dashes word plain)
    ∙ ap (λ long. long_or_other c idle word long h) (plain_long word plain)
    ∙ ap (λ short. short_or_plain c idle word short h) (plain_short word plain)

-- before the word of this position, behind `--` or not
abbrev pub at : Bool → Held → ℕ → Walk
at marked h position = record { held = h; waiting = idle; position = position; is_trailing = marked; stopped = None }

plain_walked : (c : List Rule) (names : Labels) (position : ℕ) (word : Text) (h : Held) → is_plain word ≡ true → subcommand_met names idle word ≡ None
    → walked c names (at false h position) word ≡ after_step c word (at false h position) h value
unfolding walked
plain_walked c names position word h plain none = ap (λ (met : Held × Step). after_step c word (at false h position) met.0 met.1) (plain_met c names position word h plain none)

plain_fault : (s : Shape) (names : Labels) (word : Text) (h : Held) → is_plain word ≡ true → subcommand_met names idle word ≡ None → word_fault s names false idle word h ≡ []
plain_fault s names word h plain none =
    ap (λ met. other_fault s met word h) none
    ∙ ap (λ (x : Bool). if x then [] else flag_word_fault s.rules s.args_override_self (long_of word) word h) (plain_dashes word plain)
    ∙ ap (λ long. flag_word_fault s.rules s.args_override_self long word h) (plain_long word plain)
    ∙ ap (λ short. option_map_or (λ flags. bundle_fault s.rules s.args_override_self flags h) short []) (plain_short word plain)

pub plain_turn : (s : Shape) (names : Labels) (position : ℕ) (word : Text) (h : Held) → is_plain word ≡ true → subcommand_met names idle word ≡ None
    → turn_fault s names (at false h position) word ≡ step_fault s position h value
plain_turn s names position word h plain none =
    ap₂ or_else (plain_fault s names word h plain none) (ap (λ (met : Held × Step). step_fault s position met.0 met.1) (plain_met s.rules names position word h plain none))

-- ---- what words come to

-- a fault that isn't the answer to a call for help or the version
abbrev pub is_no_help : ErrorKind → Bool
is_no_help DisplayHelp = false
is_no_help DisplayVersion = false
is_no_help _ = true

abbrev pub refuses : Kinds → Bool
refuses [] = false
refuses (kind ∷ kinds) = list_all is_no_help (kind ∷ kinds)

-- words that ask for something have no fault, and it is found, and others have a fault
abbrev pub Fits : {A : Type 0} → Option A → Kinds → A → Type 0
Fits (Some asked) kinds found = (kinds ≡ []) × (found ≡ asked)
Fits None kinds found = refuses kinds ≡ true

-- ---- the words of a command

-- one level, by the walk over its words
abbrev pub level : Shape → Kinds → Kinds → Bool → Held → Kinds
level s faults below has end =
    or_else faults (or_else below (or_else (settle_fault s.rules s.args_override_self end) (or_else (defaults_fault (settled s.rules end).rows s.rules) (check_fault s (finished s.rules end) has))))

abbrev pub leaf : Shape → List Text → Kinds
leaf s words = level_fault s [] nothing_held words false []

abbrev pub leaf_found : Shape → List Text → Placed
leaf_found s words = found_in (rows_after s.rules [] words)

-- ---- values

pub both_so : (a b : Bool) → (a && b) ≡ true → (a ≡ true) × (b ≡ true)
both_so true b e = (refl, e)
both_so false b e = absurd (false≢true e)

not_so : (b : Bool) → not b ≡ true → b ≡ false
not_so true e = absurd (false≢true e)
not_so false e = refl

-- what is held after a value for this argument, or for none, and the position of the next
abbrev pub value_held : List Rule → Option Rule → Text → Held → Held
value_held c None word h = h
value_held c (Some rule) word h = positional_held c rule word h

abbrev pub value_position : Option Rule → ℕ → ℕ
value_position None position = position
value_position (Some rule) position = next_position rule position

-- what is held after values from this position on, and their faults
abbrev pub values_held : Shape → Held → ℕ → List Text → Held
values_held s h position [] = h
values_held s h position (word ∷ words) =
    let met = arg_by_index s.rules position in
    values_held s (value_held s.rules met word h) (value_position met position) words

abbrev pub values_fault : Shape → Held → ℕ → List Text → Kinds
values_fault s h position [] = []
values_fault s h position (word ∷ words) =
    let met = arg_by_index s.rules position in
    or_else (step_fault s position h value) (values_fault s (value_held s.rules met word h) (value_position met position) words)

-- what values alone come to
abbrev pub values_leaf : Shape → List Text → Kinds
values_leaf s words = level s (values_fault s nothing_held 1 words) [] false (values_held s nothing_held 1 words)

abbrev pub values_found : Shape → List Text → Placed
values_found s words = found_in (finished s.rules (values_held s nothing_held 1 words))

-- an argument that takes one value
abbrev pub is_single : Rule → Bool
is_single rule = not (is_multiple rule) && not rule.trailing_var_arg

-- the command has such arguments alone
abbrev pub IsSingle : Shape → Type 0
IsSingle s = list_all is_single s.rules ≡ true

found_single : (rules : List Rule) (is : Rule → Bool) (rule : Rule) → list_all is_single rules ≡ true → find is rules ≡ Some rule → is_single rule ≡ true
found_single [] is rule all found = absurd (none-some rule found)
found_single (first ∷ rules) is rule all found =
    let both = both_so (is_single first) (list_all is_single rules) all in
    go both.0 (λ later. found_single rules is rule both.1 later) (is first) found
  where
    go : is_single first ≡ true → (find is rules ≡ Some rule → is_single rule ≡ true) → (x : Bool) → ◌≡◌ {A = Option Rule} (if x then Some first else find is rules) (Some rule) → is_single rule ≡ true
    go here later true e = subst (λ r. is_single r ≡ true) (same_Some first rule e) here
    go here later false e = later e

or-false : (x : Bool) → (x || false) ≡ x
or-false true = refl
or-false false = refl

-- a value leads to the next position, behind `--` or not
value_step : (s : Shape) → IsSingle s → (marked : Bool) (h : Held) (position : ℕ) (word : Text)
    → ◌≡◌ {A = Walk} (after_step s.rules word (at marked h position) h value) (at marked (value_held s.rules (arg_by_index s.rules position) word h) (value_position (arg_by_index s.rules position) position))
value_step s single marked h position word = go (arg_by_index s.rules position) refl
  where
    go : (met : Option Rule) → arg_by_index s.rules position ≡ met → ◌≡◌ {A = Walk} (to_positional s.rules met word (at marked h position) h) (at marked (value_held s.rules met word h) (value_position met position))
    go None e = refl
    go (Some rule) e =
        let fit = both_so (not (is_multiple rule)) (not rule.trailing_var_arg) (found_single s.rules _ rule single e) in
        ap₂ (λ (several trails : Bool). record {
          held = positional_held s.rules rule word h;
          waiting = if several then positional else idle;
          position = next_position rule position;
          is_trailing = marked || trails;
          stopped = None;
        }) (not_so (is_multiple rule) fit.0) (not_so rule.trailing_var_arg fit.1)
        ∙ ap (λ (x : Bool). at x (positional_held s.rules rule word h) (next_position rule position)) (or-false marked)

-- the walk over words, what is held at its end, and its faults
abbrev walk_held : Shape → Walk → List Text → Held
walk_held s w words = (fold (walked s.rules []) w words).held

-- behind `--` every word is a value
marked_walked : (s : Shape) (h : Held) (position : ℕ) (word : Text) → ◌≡◌ {A = Walk} (walked s.rules [] (at true h position) word) (after_step s.rules word (at true h position) h value)
unfolding walked
marked_walked s h position word = refl

marked_held : (s : Shape) → IsSingle s → (words : List Text) (h : Held) (position : ℕ) → walk_held s (at true h position) words ≡ values_held s h position words
marked_held s single [] h position = refl
marked_held s single (word ∷ words) h position =
    let met = arg_by_index s.rules position in
    ap (λ (w : Walk). walk_held s w words) (marked_walked s h position word ∙ value_step s single true h position word)
    ∙ marked_held s single words (value_held s.rules met word h) (value_position met position)

marked_fault : (s : Shape) → IsSingle s → (words : List Text) (h : Held) (position : ℕ) → walk_fault s [] (at true h position) words ≡ values_fault s h position words
unfolding walk_fault
marked_fault s single [] h position = refl
marked_fault s single (word ∷ words) h position =
    let met = arg_by_index s.rules position in
    ap (λ (w : Walk). or_else (step_fault s position h value) (walk_fault s [] w words)) (marked_walked s h position word ∙ value_step s single true h position word)
    ∙ ap (or_else (step_fault s position h value)) (marked_fault s single words (value_held s.rules met word h) (value_position met position))

-- `--` itself is none
dashes_walked : (s : Shape) (h : Held) (position : ℕ) → ◌≡◌ {A = Walk} (walked s.rules [] (at false h position) (codes "--")) (at true h position)
unfolding walked
dashes_walked s h position = refl

dashes_fault : (s : Shape) (h : Held) (position : ℕ) → turn_fault s [] (at false h position) (codes "--") ≡ []
dashes_fault s h position = refl

-- words that aren't options come to what they do as values, without the first `--`
held_of_values : (s : Shape) → IsSingle s → (words : List Text) (h : Held) (position : ℕ) → are_values words ≡ true → walk_held s (at false h position) words ≡ values_held s h position (without_dashes words)
held_of_values s single [] h position all = refl
held_of_values s single (word ∷ words) h position all =
    let met = arg_by_index s.rules position in
    go (λ later. held_of_values s single words (value_held s.rules met word h) (value_position met position) later) (is_dashes word) refl all
  where
    go : (are_values words ≡ true → walk_held s (at false (value_held s.rules (arg_by_index s.rules position) word h) (value_position (arg_by_index s.rules position) position)) words
        ≡ values_held s (value_held s.rules (arg_by_index s.rules position) word h) (value_position (arg_by_index s.rules position) position) (without_dashes words))
        → (x : Bool) → is_dashes word ≡ x → (x || (is_plain word && are_values words)) ≡ true
        → walk_held s (at false h position) (word ∷ words) ≡ values_held s h position (if x then words else word ∷ without_dashes words)
    go later true e _ =
        ap (λ w. walk_held s (walked s.rules [] (at false h position) w) words) ((bytes_eq-Decides word (codes "--")).0 e)
        ∙ ap (λ (w : Walk). walk_held s w words) (dashes_walked s h position) ∙ marked_held s single words h position
    go later false e both =
        let plain = both_so (is_plain word) (are_values words) both in
        ap (λ (w : Walk). walk_held s w words) (plain_walked s.rules [] position word h plain.0 refl ∙ value_step s single false h position word) ∙ later plain.1

faults_of_values : (s : Shape) → IsSingle s → (words : List Text) (h : Held) (position : ℕ) → are_values words ≡ true → walk_fault s [] (at false h position) words ≡ values_fault s h position (without_dashes words)
unfolding walk_fault
faults_of_values s single [] h position all = refl
faults_of_values s single (word ∷ words) h position all =
    let met = arg_by_index s.rules position in
    go (λ later. faults_of_values s single words (value_held s.rules met word h) (value_position met position) later) (is_dashes word) refl all
  where
    turn : Text → Kinds
    turn w = or_else (turn_fault s [] (at false h position) w) (walk_fault s [] (walked s.rules [] (at false h position) w) words)

    go : (are_values words ≡ true → walk_fault s [] (at false (value_held s.rules (arg_by_index s.rules position) word h) (value_position (arg_by_index s.rules position) position)) words
        ≡ values_fault s (value_held s.rules (arg_by_index s.rules position) word h) (value_position (arg_by_index s.rules position) position) (without_dashes words))
        → (x : Bool) → is_dashes word ≡ x → (x || (is_plain word && are_values words)) ≡ true → turn word ≡ values_fault s h position (if x then words else word ∷ without_dashes words)
    go later true e _ =
        ap turn ((bytes_eq-Decides word (codes "--")).0 e)
        ∙ ap₂ (λ k (w : Walk). or_else k (walk_fault s [] w words)) (dashes_fault s h position) (dashes_walked s h position)
        ∙ marked_fault s single words h position
    go later false e both =
        let plain = both_so (is_plain word) (are_values words) both in
        ap₂ (λ k (w : Walk). or_else k (walk_fault s [] w words)) (plain_turn s [] position word h plain.0 refl) (plain_walked s.rules [] position word h plain.0 refl ∙ value_step s single false h position word)
        ∙ ap (or_else (step_fault s position h value)) (later plain.1)

-- so it is enough to know what values come to
pub fits_values : (s : Shape) → IsSingle s → (asks : List Text → Option Placed) (words : List Text) → are_values words ≡ true
    → ((values : List Text) → Fits (asks values) (values_leaf s values) (values_found s values)) → Fits (asks (without_dashes words)) (leaf s words) (leaf_found s words)
fits_values s single asks words all fits =
    let held = held_of_values s single words nothing_held 1 all in
    let faults = faults_of_values s single words nothing_held 1 all in
    subst (λ (k : Kinds). Fits (asks (without_dashes words)) k (leaf_found s words)) (sym (ap₂ (λ k h. level s k [] false h) faults held))
    (subst (λ (r : Placed). Fits (asks (without_dashes words)) (values_leaf s (without_dashes words)) r) (sym (ap (λ h. found_in (finished s.rules h)) held)) (fits (without_dashes words)))

-- What would be right where a line of a policy isn't read.
use Rattle.std.specs.Prelude.{ℕ, ◌&&◌, ◌||◌, Bool, true, false, not, List, [], ◌∷◌, ◌++◌, length, nat_lt, Option, Some, None, is_some, if◌then◌else◌, codes}
use Rattle.std.specs.Option.{option_map, option_map_or}
use Rattle.std.specs.List.{flat_map, list_all, list_any}
use Rattle.std.specs.Result.{is_err}
use Rattle.mst_ids.specs.Words.{after_space}
use Rattle.mst_lang.specs.Arguments.{is_text, name}
use Rattle.mst_lang.specs.Forms.{command_of}
use Rattle.mst_lang.specs.Reading.{is_comment}
use Rattle.mst_lang.specs.Words.{words, is_plain, three_of}
use Rattle.mst_hints.specs.Hints.{too_long, bad_byte, has_order_mark, is_utf16, besides, question, comment_text, count_text}
use Rattle.mst_policy.specs.Forms.{Row, rule_of, kind_of, is_right, range_of, word_of}
use Rattle.mst_policy.specs.Reading.{is_leaving}
use Rattle.mst_policy.specs.declared.form.Argument.{Argument}
use Rattle.mst_policy.specs.declared.form.Argument.TheVariants.{Names}
use Rattle.mst_policy.specs.declared.form.Kind.{Kind}
use Rattle.mst_policy_hints.specs.Near.{rows, nearest}

-- ---- a line with another byte than the language has
unfoldable pub order_mark_text : List ℕ
order_mark_text = codes "a byte order mark stands before the first word; a policy has none"

unfoldable pub utf16_text : List ℕ
utf16_text = codes "this is UTF-16; a policy is plain text of one byte a character"

-- by the bytes that it begins with
abbrev pub byte_text : List ℕ → List ℕ
byte_text line = if has_order_mark line then order_mark_text else (if is_utf16 line then utf16_text else bad_byte)

-- ---- a word that is no expectation
-- failures are of these two kinds
abbrev pub is_failing : List ℕ → Bool
is_failing word = is_text word (codes "lan") || is_text word (codes "bridge")

-- the first word of a line that says what fails together
abbrev pub is_risk : List ℕ → Bool
is_risk word = is_text word (codes "risk")

-- what stands behind `after`
abbrev pub is_event : List ℕ → Bool
is_event word = is_failing word || is_risk word

unfoldable pub is_script_word : List ℕ → Bool
is_script_word word = is_some (command_of word)

unfoldable pub command_text : List ℕ
command_text = codes "that is a command of scripts"

-- a scope stands first in its line
abbrev pub is_scope : List ℕ → Bool
is_scope word = is_text word (codes "after") || is_text word (codes "always")

unfoldable pub one_scope_text : List ℕ
one_scope_text = codes "a line has one scope"

-- `finally` stands before a scope
abbrev pub is_finally : List ℕ → Bool
is_finally word = is_text word (codes "finally")

unfoldable pub comes_first_text : List ℕ
comes_first_text = codes "finally comes first"

-- what is said of it: of `finally` and of `risk` where they stand, of a scope that it is one too many, of a kind of failures that it stands behind
-- `after`, of a command of scripts that it is one, and else which word is nearest to it
abbrev pub said_nearest : List ℕ → Option (List ℕ)
said_nearest word = if is_script_word word then Some command_text else option_map question (nearest word)

abbrev pub said_failing : List ℕ → Option (List ℕ)
said_failing word = if is_failing word then Some (question (codes "after " ++ word)) else said_nearest word

abbrev pub said_scope : List ℕ → Option (List ℕ)
said_scope word = if is_scope word then Some one_scope_text else said_failing word

unfoldable pub nothing_before_text : List ℕ
nothing_before_text = codes "a line of a risk begins with risk"

abbrev pub said_risk : List ℕ → Option (List ℕ)
said_risk word = if is_risk word then Some nothing_before_text else said_scope word

abbrev pub said_of : List ℕ → Option (List ℕ)
said_of word = if is_finally word then Some comes_first_text else said_risk word

abbrev pub unknown_text : List ℕ → List ℕ
unknown_text word = codes "no expectation " ++ word ++ besides (said_of word)

-- ---- an expectation with another number of words
-- the words of a form, each after a space
abbrev pub form_text : List Argument → List ℕ
form_text form = flat_map (λ argument. after_space (word_of argument)) form

abbrev pub places_text : List Argument → List ℕ
places_text [] = codes " no words"
places_text (argument ∷ form) = form_text (argument ∷ form)

-- each of the forms that a word has, the first of them or a further one
abbrev pub or_text : Bool → List ℕ
or_text first = if first then [] else codes ", or"

abbrev pub forms_text : List ℕ → Bool → List Row → List ℕ
forms_text word first [] = []
forms_text word first (row ∷ rows) =
    if is_text row.0 word then or_text first ++ places_text row.2 ++ forms_text word false rows else forms_text word first rows

unfoldable pub all_forms_text : List ℕ → List ℕ
all_forms_text word = forms_text word true rows

abbrev pub number_text : List ℕ → List (List ℕ) → List ℕ
number_text word arguments = word ++ codes " takes" ++ all_forms_text word ++ codes "; " ++ count_text (length arguments)

-- where a comment stands behind the words, that is told
abbrev pub words_text : List ℕ → List (List ℕ) → List ℕ
words_text word arguments = if list_any is_comment arguments then comment_text else number_text word arguments

-- whether a word is an expectation
unfoldable pub is_expectation : List ℕ → Bool
is_expectation word = list_any (λ row. is_text row.0 word) rows

-- words that are of no form
abbrev pub formless_text : List ℕ → List (List ℕ) → List ℕ
formless_text word arguments = if is_expectation word then words_text word arguments else unknown_text word

-- ---- an expectation with an argument that isn't in its form
-- the first argument that isn't
abbrev pub first_wrong : List Argument → List (List ℕ) → Option Argument
first_wrong [] words = None
first_wrong (argument ∷ form) [] = None
first_wrong (argument ∷ form) (word ∷ words) = if is_right argument word then first_wrong form words else Some argument

abbrev pub wrong_text : List ℕ → List Argument → Argument → List ℕ
wrong_text word form argument = word ++ form_text form ++ codes ": " ++ range_of argument

-- ---- the hint of an expectation
-- by the arguments of the form that its words are of
abbrev pub form_hint : List ℕ → List (List ℕ) → Option (List Argument) → Option (List ℕ)
form_hint word arguments None = Some (formless_text word arguments)
form_hint word arguments (Some form) = option_map (wrong_text word form) (first_wrong form arguments)

abbrev pub arguments_of : Kind → List Argument
arguments_of kind = (rule_of kind).arguments

unfoldable pub form_of : List ℕ → List (List ℕ) → Option (List Argument)
form_of word arguments = option_map arguments_of (kind_of word arguments)

unfoldable pub scope_text : List ℕ
scope_text = codes "a scope has an expectation behind it"

abbrev pub expected_hint : List (List ℕ) → Option (List ℕ)
expected_hint [] = Some scope_text
expected_hint (word ∷ arguments) = form_hint word arguments (form_of word arguments)

-- ---- the hint of what stands by itself
unfoldable pub alone_text : List ℕ
alone_text = codes "leaves stands by itself, without a scope or finally; it is judged in the last network"

-- of an expectation behind a scope
abbrev pub behind_scope_hint : List (List ℕ) → Option (List ℕ)
behind_scope_hint words = if is_leaving words then Some alone_text else expected_hint words

-- ---- the hint of a scope
unfoldable pub after_text : List ℕ
after_text = codes "after takes lan NAMES, bridge NAMES or risk NAMES, and an expectation behind it"

-- what is said of a list of what fails
abbrev pub failing_text : List ℕ → List ℕ
failing_text failing = codes "after " ++ failing ++ form_text (Names ∷ []) ++ codes ": " ++ range_of Names

-- whether words are of a form of an expectation that a scope may stand in front of
abbrev pub has_form : List (List ℕ) → Bool
has_form [] = false
has_form (word ∷ arguments) = not (is_leaving (word ∷ arguments)) && is_some (form_of word arguments)

-- of the words behind `after`: the list is told where it is none and the words behind it are an expectation's
abbrev pub behind_hint : List ℕ → List ℕ → List (List ℕ) → Option (List ℕ)
behind_hint failing list others = if is_right Names list || not (has_form others) then behind_scope_hint others else Some (failing_text failing)

abbrev pub after_hint : List (List ℕ) → Option (List ℕ)
after_hint (failing ∷ list ∷ others) = if is_event failing then behind_hint failing list others else Some after_text
after_hint _ = Some after_text

-- of an expectation, and of the scope that the first word says, if it says one
abbrev pub scoped_hint : List ℕ → List (List ℕ) → Option (List ℕ)
scoped_hint word others =
    if is_text word (codes "after") then after_hint others
    else (if is_text word (codes "always") then behind_scope_hint others else expected_hint (word ∷ others))

-- ---- the hint of what stands behind `finally`
unfoldable pub finally_text : List ℕ
finally_text = codes "finally has an expectation behind it"

-- of the words behind `finally`
abbrev pub finally_hint : List (List ℕ) → Option (List ℕ)
finally_hint [] = Some finally_text
finally_hint (word ∷ others) = if is_leaving (word ∷ others) then Some alone_text else scoped_hint word others

-- ---- the hint of what stands behind `risk`
unfoldable pub risk_text : List ℕ
risk_text = codes "risk takes NAME lan NAMES or NAME bridge NAMES"

unfoldable pub risk_name_text : List ℕ
risk_name_text = codes "NAME is 1 to 16 letters, digits, _, - and ., the first a letter or a digit"

-- the form of a line of a risk of this kind, and what is wrong in it
abbrev pub risk_wrong_text : List ℕ → List ℕ → List ℕ
risk_wrong_text kind wrong = codes "risk NAME " ++ kind ++ form_text (Names ∷ []) ++ codes ": " ++ wrong

-- which words are in the form of what isn't: the name comes before the list
unfoldable pub risk_wrong : List ℕ → List ℕ → Option (List ℕ)
risk_wrong word list = if is_err (name word) then Some risk_name_text else (if is_right Names list then None else Some (range_of Names))

abbrev pub risk_parts_hint : List ℕ → List ℕ → List ℕ → Option (List ℕ)
risk_parts_hint word kind list = option_map (risk_wrong_text kind) (risk_wrong word list)

-- of words of another number, or of another kind than failures have, what is taken there
abbrev pub risk_form_text : List (List ℕ) → List ℕ
risk_form_text others = if list_any is_comment others then comment_text else risk_text

-- of a word, a kind and a list
abbrev pub kind_hint : List (List ℕ) → List ℕ × List ℕ × List ℕ → Option (List ℕ)
kind_hint others p = if is_failing p.1 then risk_parts_hint p.0 p.1 p.2 else Some (risk_form_text others)

abbrev pub risk_hint : List (List ℕ) → Option (List ℕ)
risk_hint others = option_map_or (kind_hint others) (three_of others) (Some (risk_form_text others))

-- ---- the hint of a line
abbrev pub promise_hint : List ℕ → List (List ℕ) → Option (List ℕ)
promise_hint word others = if is_finally word then finally_hint others else scoped_hint word others

abbrev pub said_hint : List ℕ → List (List ℕ) → Option (List ℕ)
said_hint word others = if is_risk word then risk_hint others else promise_hint word others

-- of a line by its words, by whether all its bytes are plain, and by what is told where they aren't
abbrev pub worded_hint : Bool → List ℕ → List (List ℕ) → Option (List ℕ)
worded_hint plain bytes [] = if plain then None else Some bytes
worded_hint plain bytes (word ∷ others) = if is_comment word then None else (if plain then said_hint word others else Some bytes)

abbrev pub hint_of : List ℕ → Option (List ℕ)
hint_of line = if nat_lt 4096 (length line) then Some too_long else worded_hint (list_all is_plain line) (byte_text line) (words line)

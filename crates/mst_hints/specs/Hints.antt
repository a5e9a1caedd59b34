-- What would be right where a line isn't read.
use Rattle.std.specs.Prelude.{ℕ, ◌+◌, ◌==◌, ◌||◌, ◌&&◌, Bool, true, false, not, List, [], ◌∷◌, ◌++◌, length, take, drop, position, nat_eq, nat_lt, Option, Some, None, is_some, is_ok, if◌then◌else◌, codes, decimal, find}
use Rattle.std.specs.Option.{option_map, option_map_or, option_and_then, option_or}
use Rattle.std.specs.List.{flat_map, list_all, list_any, starts_with}
use Rattle.mst_ids.specs.Words.{after_space}
use Rattle.mst_lang.specs.Arguments.{is_text, name, number_value, port_number}
use Rattle.mst_lang.specs.Forms.{commands, command_of, form_of, word_of, is_right, range_of}
use Rattle.mst_lang.specs.Words.{words, is_plain}
use Rattle.mst_lang.specs.Reading.{is_comment}
use Rattle.mst_lang.specs.declared.line.Version.{Version}
use Rattle.mst_lang.specs.declared.line.Command.{Command}
use Rattle.mst_lang.specs.declared.form.Argument.{Argument}
use Rattle.mst_lang.specs.declared.form.Argument.TheVariants.{BridgeName, MemberList, PortNumber, VidList}
use Rattle.mst_hints.specs.Meant.{meaning, meant_by}
use Rattle.mst_hints.specs.Near.{is_in_case, is_joined, is_within_one, is_within_two}
use Rattle.mst_hints.specs.Tools.{asks, saying_among}

-- ---- a line that may hold no command
unfoldable pub too_long : List ℕ
too_long = codes "a line has at most 4096 bytes"

unfoldable pub bad_byte : List ℕ
bad_byte = codes "a line has tabs and bytes of 20 to 7E hexadecimal alone"

-- what a line is that holds another byte, by those that it begins with: those of a byte order mark, of the two orders of bytes
-- of UTF-16, and of the four forms of a pcap file
abbrev pub begins : List ℕ → List ℕ → Bool
begins line front = starts_with nat_eq line front

abbrev pub has_order_mark : List ℕ → Bool
has_order_mark line = begins line (239 ∷ 187 ∷ 191 ∷ [])

abbrev pub is_utf16 : List ℕ → Bool
is_utf16 line = begins line (255 ∷ 254 ∷ []) || begins line (254 ∷ 255 ∷ [])

abbrev pub is_pcap : List ℕ → Bool
is_pcap line =
    begins line (212 ∷ 195 ∷ 178 ∷ 161 ∷ []) || (begins line (161 ∷ 178 ∷ 195 ∷ 212 ∷ [])
    || (begins line (77 ∷ 60 ∷ 178 ∷ 161 ∷ []) || begins line (161 ∷ 178 ∷ 60 ∷ 77 ∷ [])))

unfoldable pub order_mark_text : List ℕ
order_mark_text = codes "a byte order mark stands before the first word; a script has none"

unfoldable pub utf16_text : List ℕ
utf16_text = codes "this is UTF-16; a script is plain text of one byte a character"

unfoldable pub pcap_text : List ℕ
pcap_text = codes "this is a pcap file; tools/import/captures.py makes a script of it"

abbrev pub byte_text : List ℕ → List ℕ
byte_text line = if has_order_mark line then order_mark_text else (if is_utf16 line then utf16_text else (if is_pcap line then pcap_text else bad_byte))

-- ---- a word that is no command
-- the first word of the table of commands that passes a test
abbrev pub command_where : (List ℕ → Bool) → Option (List ℕ)
command_where test = option_map (λ entry. entry.0) (find (λ entry. test entry.0) commands)

-- the command that is nearest to a word: it but for its case, or where there is none one that is at most two changes from it.
-- It is the first in the table where two are as near
abbrev pub by_changes : List ℕ → Option (List ℕ)
by_changes word = option_or (command_where (λ text. is_within_one text word)) (command_where (λ text. is_within_two text word))

unfoldable pub nearest : List ℕ → Option (List ℕ)
nearest word = option_or (command_where (λ text. is_in_case text word)) (by_changes word)

-- the command that a word and the next one are, written apart, in either order
abbrev pub parted : List ℕ → List (List ℕ) → Option (List ℕ)
parted word [] = None
parted word (behind ∷ others) = option_or (command_where (λ text. is_joined text word behind)) (command_where (λ text. is_joined text behind word))

-- the command that stands behind a word
abbrev pub next_command : List (List ℕ) → Option (List ℕ)
next_command [] = None
next_command (word ∷ others) = if is_some (command_of word) then Some word else None

-- the nearest command of a word that asks for nothing by itself, in other tools, in this program or in a policy
abbrev pub near_alone : List ℕ → Option (List ℕ)
near_alone word = if asks word then None else nearest word

-- what is said of a word: the command that it was to be, what it or one of the words behind it asks for, or the command that
-- stands behind it
abbrev pub question : List ℕ → List ℕ
question command = command ++ codes "?"

abbrev pub meant : List ℕ → List (List ℕ) → Option (List ℕ)
meant word arguments = option_or (parted word arguments) (near_alone word)

abbrev pub said_behind : List ℕ → List (List ℕ) → Option (List ℕ)
said_behind word arguments = option_or (saying_among word arguments) (option_map question (next_command arguments))

abbrev pub said_of : List ℕ → List (List ℕ) → Option (List ℕ)
said_of word arguments = option_or (option_map question (meant word arguments)) (said_behind word arguments)

-- behind what was said already
abbrev pub besides : Option (List ℕ) → List ℕ
besides said = option_map_or (λ text. codes "; " ++ text) said []

abbrev pub unknown_text : List ℕ → List (List ℕ) → List ℕ
unknown_text word arguments = codes "no command " ++ word ++ besides (said_of word arguments)

-- ---- a command with another number of words
-- the words of a form, each after a space
abbrev pub form_text : List Argument → List ℕ
form_text form = flat_map (λ argument. after_space (word_of argument)) form

abbrev pub takes_text : List Argument → List ℕ
takes_text [] = codes " no words"
takes_text (argument ∷ form) = form_text (argument ∷ form)

abbrev pub count_text : ℕ → List ℕ
count_text count = if count == 1 then codes "1 word stands here" else decimal count ++ codes " words stand here"

-- what a word is that was meant to be another one, or several
abbrev pub word_is : List ℕ → List ℕ → List ℕ
word_is word right = word ++ codes " is " ++ right

-- a port as B:P is one word, where B and P are two
abbrev pub halves : List ℕ → Option (List ℕ × List ℕ)
halves word = option_map (λ colon. (take colon word, drop (colon + 1) word)) (position (λ b. b == 58) word)

abbrev pub two_words : List ℕ × List ℕ → Option (List ℕ)
two_words port = if is_ok (name port.0) && is_ok (port_number port.1) then Some (port.0 ++ 32 ∷ port.1) else None

abbrev pub port_apart : List Argument → List (List ℕ) → Option (List ℕ)
port_apart (BridgeName ∷ PortNumber ∷ form) (word ∷ arguments) = option_map (word_is word) (option_and_then two_words (halves word))
port_apart form arguments = None

-- a list of VIDs is one word, where several stand
abbrev pub is_list : Argument → Bool
is_list VidList = true
is_list MemberList = true
is_list _ = false

unfoldable pub list_text : List ℕ
list_text = codes "a list of VIDs is one word, as in 1-9,20"

abbrev pub list_apart : List Argument → List (List ℕ) → Option (List ℕ)
list_apart form arguments = if list_any is_list form && nat_lt (length form) (length arguments) then Some list_text else None

-- Linux has a command of the name `bridge`, too
abbrev pub other_bridge : List ℕ → List (List ℕ) → Option (List ℕ)
other_bridge word arguments = if is_text word (codes "bridge") then saying_among word arguments else None

abbrev pub advice : List ℕ → List Argument → List (List ℕ) → Option (List ℕ)
advice word form arguments = option_or (port_apart form arguments) (option_or (list_apart form arguments) (other_bridge word arguments))

abbrev pub number_text : List ℕ → List Argument → List (List ℕ) → List ℕ
number_text word form arguments =
    word ++ codes " takes" ++ takes_text form ++ codes "; " ++ count_text (length arguments) ++ besides (advice word form arguments)

-- where a comment stands behind the words, that is told
unfoldable pub comment_text : List ℕ
comment_text = codes "a comment is a line of its own"

abbrev pub words_text : List ℕ → List Argument → List (List ℕ) → List ℕ
words_text word form arguments = if list_any is_comment arguments then comment_text else number_text word form arguments

-- ---- a command with an argument that isn't in its form
-- the first argument that isn't, and the word that stands there
abbrev pub first_wrong : Version → List Argument → List (List ℕ) → Option (Argument × List ℕ)
first_wrong version [] arguments = None
first_wrong version (argument ∷ form) [] = None
first_wrong version (argument ∷ form) (word ∷ arguments) = if is_right version argument word then first_wrong version form arguments else Some (argument, word)

-- and what it was meant to be, where that can be told
abbrev pub meant_text : Version → Argument → List ℕ → Option (List ℕ)
meant_text version argument word = option_map (λ meant. word_is word (meaning word meant)) (meant_by version argument word)

-- the first two neighbours among some words that are to be exchanged, so that each word is in the form of its argument. Of two
-- numbers either may be meant where it stands
abbrev pub are_numbers : List ℕ → List ℕ → Bool
are_numbers a b = is_some (number_value a) && is_some (number_value b)

abbrev pub reads_exchanged : Version → List Argument → List (List ℕ) → Bool
reads_exchanged version (first ∷ second ∷ form) (a ∷ b ∷ words) =
    not (are_numbers a b) && (is_right version first b && (is_right version second a && not (is_some (first_wrong version form words))))
reads_exchanged version form words = false

abbrev pub exchanged : Version → List Argument → List (List ℕ) → Option (List ℕ × List ℕ)
exchanged version (argument ∷ form) (a ∷ b ∷ words) =
    if reads_exchanged version (argument ∷ form) (a ∷ b ∷ words) then Some (a, b)
    else (if is_right version argument a then exchanged version form (b ∷ words) else None)
exchanged version form words = None

abbrev pub pair_text : List ℕ × List ℕ → List ℕ
pair_text pair = word_is (pair.0 ++ 32 ∷ pair.1) (pair.1 ++ 32 ∷ pair.0)

abbrev pub exchanged_text : Version → List Argument → List (List ℕ) → Option (List ℕ)
exchanged_text version form arguments = option_map pair_text (exchanged version form arguments)

-- what the word was meant to be, or which words are to be exchanged
abbrev pub right_text : Version → List Argument → List (List ℕ) → Argument × List ℕ → Option (List ℕ)
right_text version form arguments wrong = option_or (meant_text version wrong.0 wrong.1) (exchanged_text version form arguments)

abbrev pub wrong_text : Version → List ℕ → List Argument → List (List ℕ) → Argument × List ℕ → List ℕ
wrong_text version word form arguments wrong =
    word ++ form_text form ++ codes ": " ++ range_of version wrong.0 ++ besides (right_text version form arguments wrong)

-- ---- the hint of a line
abbrev pub form_hint : Version → List ℕ → List Argument → List (List ℕ) → Option (List ℕ)
form_hint version word form arguments =
    if length arguments == length form then option_map (wrong_text version word form arguments) (first_wrong version form arguments)
    else Some (words_text word form arguments)

abbrev pub command_hint : Version → List ℕ → Option Command → List (List ℕ) → Option (List ℕ)
command_hint version word None arguments = Some (unknown_text word arguments)
command_hint version word (Some command) arguments = form_hint version word (form_of command) arguments

-- of a line by its words, by whether all its bytes are plain, and by what is told where they aren't
abbrev pub worded_hint : Version → Bool → List ℕ → List (List ℕ) → Option (List ℕ)
worded_hint version plain bytes [] = if plain then None else Some bytes
worded_hint version plain bytes (word ∷ arguments) =
    if is_comment word then None
    else (if plain then command_hint version word (command_of word) arguments else Some bytes)

-- of a line in a script of this version
abbrev pub hint_of : Version → List ℕ → Option (List ℕ)
hint_of version line = if nat_lt 4096 (length line) then Some too_long else worded_hint version (list_all is_plain line) (byte_text line) (words line)

-- what is printed of it: what tells its script from another one and the number of the line go first
abbrev pub hint_line : List ℕ → ℕ → Option (List ℕ) → List ℕ
hint_line of number None = []
hint_line of number (Some text) = of ++ codes "line " ++ decimal number ++ 32 ∷ text ++ 10 ∷ []

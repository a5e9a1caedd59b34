-- There is a hint exactly where a line isn't read.
use Rattle.std.proofs.Common.{◌≡◌, ◌∙◌, ℕ, ◌==◌, Bool, true, false, cond, not, ◌&&◌, ◌||◌, nat_lt, List, [], ◌∷◌, length, map, Option, Some, None, is_some, Ok, Err, refl, sym, ap}
use Rattle.std.proofs.Math.Dec.{eqb-suc-zero, eqb-zero-suc, eqb-suc-suc}
use Rattle.std.specs.Prelude.{Result}
use Rattle.std.specs.Result.{is_ok, is_err}
use Rattle.std.specs.Option.{option_map, option_map_or}
use Rattle.std.specs.List.{list_all}
use Rattle.mst_lang.specs.Words.{words, is_plain}
use Rattle.mst_lang.specs.Arguments.{with}
use Rattle.mst_lang.specs.Forms.{value_as, is_right, Makes, rule_of, command_of, form_of}
use Rattle.mst_lang.specs.Reading.{filled, reading_as, worded, says_as, is_comment}
use Rattle.mst_lang.specs.declared.form.Argument.{Argument}
use Rattle.mst_lang.specs.declared.line.Version.{Version}
use Rattle.mst_lang.specs.declared.line.Line.{Line}
use Rattle.mst_lang.specs.declared.line.Line.TheVariants as lines
use Rattle.mst_lang.specs.declared.line.Command.{Command}
use Rattle.mst_lang.specs.declared.line.Fault.{Fault}
use Rattle.mst_lang.specs.declared.line.Fault.TheVariants.{E01}
use Rattle.mst_hints.specs.Hints.{first_wrong, form_hint, command_hint, worded_hint, hint_of, too_long, byte_text, wrong_text, words_text}

-- as many words as there are tests, and each passes its own
abbrev passes : List (List ℕ → Bool) → List (List ℕ) → Bool
passes [] [] = true
passes [] (word ∷ words) = false
passes (test ∷ tests) [] = false
passes (test ∷ tests) (word ∷ words) = test word && passes tests words

-- ---- a form and its tests
some_or : {A B : Type 0} (f : A → B) (b : Bool) (o : Option A) (x : B) → is_some (cond b (option_map f o) (Some x)) ≡ (not b || is_some o)
some_or f true None x = refl
some_or f true (Some a) x = refl
some_or f false o x = refl

or_true : (b : Bool) → (b || true) ≡ true
or_true true = refl
or_true false = refl

one_further : {A : Type 0} (r b : Bool) (o : Option A) (x : A) (p : Bool) → (not b || is_some o) ≡ not p → (not b || is_some (cond r o (Some x))) ≡ not (r && p)
one_further true b o x p same = same
one_further false b o x p same = or_true (not b)

wrong_passes : (version : Version) (form : List Argument) (arguments : List (List ℕ)) → (not (length arguments == length form) || is_some (first_wrong version form arguments)) ≡ not (passes (map (is_right version) form) arguments)
wrong_passes version [] [] = refl
wrong_passes version [] (word ∷ arguments) = ap (λ b. not b || false) (eqb-suc-zero (length arguments))
wrong_passes version (argument ∷ form) [] = ap (λ b. not b || false) (eqb-zero-suc (length form))
wrong_passes version (argument ∷ form) (word ∷ arguments) =
    ap (λ b. not b || is_some (first_wrong version (argument ∷ form) (word ∷ arguments))) (eqb-suc-suc (length arguments) (length form))
    ∙ one_further (is_right version argument word) (length arguments == length form) (first_wrong version form arguments) (argument, word) (passes (map (is_right version) form) arguments) (wrong_passes version form arguments)

form_passes : (version : Version) (word : List ℕ) (form : List Argument) (arguments : List (List ℕ)) → is_some (form_hint version word form arguments) ≡ not (passes (map (is_right version) form) arguments)
form_passes version word form arguments =
    some_or (wrong_text version word form arguments) (length arguments == length form) (first_wrong version form arguments) (words_text word form arguments) ∙ wrong_passes version form arguments

-- ---- what the grammar makes of some words
and_false : (a : Bool) → true ≡ not (a && false)
and_false true = refl
and_false false = refl

none_passes : {A : Type 0} (r : Result A Fault) → is_err r ≡ not (is_ok r && true)
none_passes (Ok a) = refl
none_passes (Err fault) = refl

one_passes : {A B : Type 0} (r : Result (A → B) Fault) (s : Result A Fault) (p : Bool) → not (is_ok (with r s) && p) ≡ not (is_ok r && (is_ok s && p))
one_passes (Ok make) (Ok a) p = refl
one_passes (Ok make) (Err fault) p = refl
one_passes (Err fault) (Ok a) p = refl
one_passes (Err fault) (Err other) p = refl

-- words take the places of arguments where each passes the test of its place
filled_passes : (version : Version) (form : List Argument) (r : Result (Makes form) Fault) (words : List (List ℕ)) → is_err (filled version form r words) ≡ not (is_ok r && passes (map (is_right version) form) words)
filled_passes version [] r [] = none_passes r
filled_passes version [] r (word ∷ words) = and_false (is_ok r)
filled_passes version (argument ∷ form) r [] = and_false (is_ok r)
filled_passes version (argument ∷ form) r (word ∷ words) =
    filled_passes version form (with r (value_as version argument word)) words ∙ one_passes r (value_as version argument word) (passes (map (is_right version) form) words)

says_passes : (version : Version) (command : Command) (arguments : List (List ℕ)) → is_err (says_as version command arguments) ≡ not (passes (map (is_right version) (form_of command)) arguments)
says_passes version command arguments = filled_passes version (form_of command) (Ok (rule_of command).says) arguments

-- ---- a line
command_hinted : (version : Version) (word : List ℕ) (command : Option Command) (arguments : List (List ℕ)) → is_some (command_hint version word command arguments) ≡ is_err (option_map_or (λ c. says_as version c arguments) command (Err E01))
command_hinted version word None arguments = refl
command_hinted version word (Some command) arguments = form_passes version word (form_of command) arguments ∙ sym (says_passes version command arguments)

-- where the tests come out alike
blank_hinted : (plain : Bool) (bytes : List ℕ) → is_some (cond plain None (Some bytes)) ≡ is_err {T = Line} {E = Fault} (cond plain (Ok lines.Blank) (Err E01))
blank_hinted true bytes = refl
blank_hinted false bytes = refl

tests_hinted : (comment plain : Bool) (bytes : List ℕ) (h : Option (List ℕ)) (r : Result Line Fault) → is_some h ≡ is_err r → is_some (cond comment None (cond plain h (Some bytes))) ≡ is_err (cond comment (Ok lines.Blank) (cond plain r (Err E01)))
tests_hinted true plain bytes h r same = refl
tests_hinted false true bytes h r same = same
tests_hinted false false bytes h r same = refl

words_hinted : (version : Version) (plain : Bool) (bytes : List ℕ) (words : List (List ℕ)) → is_some (worded_hint version plain bytes words) ≡ is_err (worded version plain words)
words_hinted version plain bytes [] = blank_hinted plain bytes
words_hinted version plain bytes (word ∷ arguments) =
    tests_hinted (is_comment word) plain bytes (command_hint version word (command_of word) arguments) (option_map_or (λ c. says_as version c arguments) (command_of word) (Err E01)) (command_hinted version word (command_of word) arguments)

length_hinted : (long : Bool) (h : Option (List ℕ)) (r : Result Line Fault) → is_some h ≡ is_err r → is_some (cond long (Some too_long) h) ≡ is_err (cond long (Err E01) r)
length_hinted true h r same = refl
length_hinted false h r same = same

pub line_hinted : (version : Version) (line : List ℕ) → is_some (hint_of version line) ≡ is_err (reading_as version line)
line_hinted version line =
    length_hinted (nat_lt 4096 (length line)) (worded_hint version (list_all is_plain line) (byte_text line) (words line)) (worded version (list_all is_plain line) (words line)) (words_hinted version (list_all is_plain line) (byte_text line) (words line))

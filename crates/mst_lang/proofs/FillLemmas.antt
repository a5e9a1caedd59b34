-- A line that is made of marked values is the one that the grammar makes of the words.
use Rattle.std.proofs.Common.{◌≡◌, ◌∙◌, ℕ, ◌<◌, ◌≤◌, List, [], ◌∷◌, length, get_or, Some, Ok, Err, refl, sym, ap, arith}
use Rattle.std.specs.Prelude.{Result}
use Rattle.std.specs.Option.{option_and_then, ok_or}
use Rattle.std.specs.Result.{is_ok}
use Rattle.mst_lang.specs.Arguments.{lesser, with}
use Rattle.mst_lang.specs.Forms.{ValueOf, value_as, is_right, Makes, rule_of, form_of}
use Rattle.mst_lang.specs.Reading.{filled, says_as}
use Rattle.mst_lang.specs.Values.{marked, unmarked, value_of, filled_with, made, made_by}
use Rattle.mst_lang.specs.Words.{one_of, two_of, three_of, four_of}
use Rattle.mst_lang.specs.declared.form.Argument.{Argument}
use Rattle.mst_lang.specs.declared.form.Argument.TheVariants.{BridgeName}
use Rattle.mst_lang.specs.declared.line.Version.{Version}
use Rattle.mst_lang.specs.declared.line.Line.{Line}
use Rattle.mst_lang.specs.declared.line.Command.{Command}
use Rattle.mst_lang.specs.declared.line.Command.TheVariants.{AddBridge}
use Rattle.mst_lang.specs.declared.line.Fault.{Fault}
use Rattle.mst_lang.specs.declared.line.Fault.TheVariants.{E01}
use Rattle.mst_lang.specs.declared.value.Value.{Value}
use Rattle.mst_lang.proofs.WordsLemmas.{one_word_is, two_words_are, three_words_are, four_words_are}

-- ---- each kind, and each command: the first clause is there so that the second is taken for each of the others
unmarked_marked : (argument : Argument) (a : ValueOf argument) → unmarked argument (marked argument a) ≡ Some a
unmarked_marked BridgeName a = refl
unmarked_marked argument a = refl

value_is : (version : Version) (argument : Argument) (word : List ℕ) → value_of version argument word ≡ with (Ok (marked argument)) (value_as version argument word)
value_is version BridgeName word = refl
value_is version argument word = refl

-- a word that has a marked value has one
marked_ok : {A B : Type 0} (mark : A → B) (r : Result A Fault) → is_ok (with (Ok mark) r) ≡ is_ok r
marked_ok mark (Ok a) = refl
marked_ok mark (Err f) = refl

pub right_is : (version : Version) (argument : Argument) (word : List ℕ) → is_ok (value_of version argument word) ≡ is_right version argument word
right_is version argument word = ap is_ok (value_is version argument word) ∙ marked_ok (marked argument) (value_as version argument word)

made_is : (command : Command) (values : List Value) → made command values ≡ filled_with (rule_of command).arguments (rule_of command).says values
made_is AddBridge values = refl
made_is command values = refl

-- ---- values that are collected
-- what collects a value for each argument
abbrev Collects : List Argument → Type 0
Collects [] = List Value
Collects (argument ∷ form) = Value → Collects form

abbrev collect : (form : List Argument) → (List Value → List Value) → Collects form
collect [] front = front []
collect (argument ∷ form) front = λ value. collect form (λ values. front (value ∷ values))

-- the values of words that take the places of arguments, after those that were collected so far
abbrev collected : Version → (form : List Argument) → Result (Collects form) Fault → List (List ℕ) → Result (List Value) Fault
collected version [] r [] = r
collected version [] r (word ∷ words) = Err E01
collected version (argument ∷ form) r [] = Err E01
collected version (argument ∷ form) r (word ∷ words) = collected version form (with r (value_of version argument word)) words

abbrev values_as : Version → List Argument → List (List ℕ) → Result (List Value) Fault
values_as version form words = collected version form (Ok (collect form (λ values. values))) words

-- ---- lists of a number of arguments
list_none : (l : List Argument) → length l < 1 → [] ≡ l
list_none [] h = refl
list_none (a ∷ l) h = absurd (omega arith)

list_one : (l : List Argument) (d : Argument) → 1 ≤ length l → length l < 2 → get_or l 0 d ∷ [] ≡ l
list_one [] d h i = absurd (omega arith)
list_one (a ∷ []) d h i = refl
list_one (a ∷ b ∷ l) d h i = absurd (omega arith)

list_two : (l : List Argument) (d : Argument) → 2 ≤ length l → length l < 3 → get_or l 0 d ∷ get_or l 1 d ∷ [] ≡ l
list_two [] d h i = absurd (omega arith)
list_two (a ∷ l) d h i = ap (λ k. a ∷ k) (list_one l d (omega arith) (omega arith))

list_three : (l : List Argument) (d : Argument) → 3 ≤ length l → length l < 4 → get_or l 0 d ∷ get_or l 1 d ∷ get_or l 2 d ∷ [] ≡ l
list_three [] d h i = absurd (omega arith)
list_three (a ∷ l) d h i = ap (λ k. a ∷ k) (list_two l d (omega arith) (omega arith))

list_four : (l : List Argument) (d : Argument) → 4 ≤ length l → length l < 5 → get_or l 0 d ∷ get_or l 1 d ∷ get_or l 2 d ∷ get_or l 3 d ∷ [] ≡ l
list_four [] d h i = absurd (omega arith)
list_four (a ∷ l) d h i = ap (λ k. a ∷ k) (list_three l d (omega arith) (omega arith))

module _ (version : Version) (command : Command) where
  -- what was collected makes what was made
  abbrev Agree : (form : List Argument) → Collects form → Makes form → Type 0
  Agree [] values line = made command values ≡ Some line
  Agree (argument ∷ form) collects makes = (a : ValueOf argument) → Agree form (collects (marked argument a)) (makes a)

  data Alike (form : List Argument) : Result (Collects form) Fault → Result (Makes form) Fault → Type 0 where
    values : (collects : Collects form) (makes : Makes form) → Agree form collects makes → Alike form (Ok collects) (Ok makes)
    fault : (f : Fault) → Alike form (Err f) (Err f)

  one_more : (argument : Argument) (form : List Argument) {r : Result (Collects (argument ∷ form)) Fault} {s : Result (Makes (argument ∷ form)) Fault} → Alike (argument ∷ form) r s
      → (t : Result (ValueOf argument) Fault) → Alike form (with r (with (Ok (marked argument)) t)) (with s t)
  one_more argument form (values collects makes agree) (Ok a) = values (collects (marked argument a)) (makes a) (agree a)
  one_more argument form (values collects makes agree) (Err f) = fault f
  one_more argument form (fault f) (Ok a) = fault f
  one_more argument form (fault f) (Err other) = fault (lesser f other)

  at_end : {r : Result (List Value) Fault} {s : Result Line Fault} → Alike [] r s → made_by command r ≡ s
  at_end (values collects makes agree) = ap (λ o. ok_or o E01) agree
  at_end (fault f) = refl

  alike : (form : List Argument) (r : Result (Collects form) Fault) (s : Result (Makes form) Fault) (words : List (List ℕ)) → Alike form r s → made_by command (collected version form r words) ≡ filled version form s words
  alike [] r s [] h = at_end h
  alike [] r s (word ∷ words) h = refl
  alike (argument ∷ form) r s [] h = refl
  alike (argument ∷ form) r s (word ∷ words) h =
      ap (λ v. made_by command (collected version form (with r v) words)) (value_is version argument word)
      ∙ alike form (with r (with (Ok (marked argument)) (value_as version argument word))) (with s (value_as version argument word)) words (one_more argument form h (value_as version argument word))

  -- values of the arguments make what their rule says
  agree : (form : List Argument) (front : List Value → List Value) (makes : Makes form) → ((values : List Value) → made command (front values) ≡ filled_with form makes values) → Agree form (collect form front) makes
  agree [] front makes same = same []
  agree (argument ∷ form) front makes same = λ a.
      agree form (λ values. front (marked argument a ∷ values)) (makes a) (λ values. same (marked argument a ∷ values) ∙ ap (option_and_then (λ x. filled_with form (makes x) values)) (unmarked_marked argument a))

  says_by : (words : List (List ℕ)) → says_as version command words ≡ made_by command (values_as version (form_of command) words)
  says_by words =
      sym (alike (form_of command) (Ok (collect (form_of command) (λ values. values))) (Ok (rule_of command).says) words (values _ _ (agree (form_of command) (λ values. values) (rule_of command).says (made_is command))))

  says_form : (form : List Argument) (words : List (List ℕ)) → form ≡ form_of command → says_as version command words ≡ made_by command (values_as version form words)
  says_form form words same = says_by words ∙ ap (λ f. made_by command (values_as version f words)) (sym same)

  -- ---- a command with no, one, .. four arguments
  pub none_read : (l : List Argument) (words : List (List ℕ)) → l ≡ form_of command → length l < 1 → words ≡ [] → ok_or (made command []) E01 ≡ says_as version command words
  none_read l words same most nothing = sym (says_form [] words (list_none l most ∙ same) ∙ ap (λ ws. made_by command (values_as version [] ws)) nothing)

  pub one_read : (l : List Argument) (words : List (List ℕ)) (v : List ℕ) (r : Result Value Fault) → l ≡ form_of command → 1 ≤ length l → length l < 2 → Some v ≡ one_of words
      → r ≡ value_of version (get_or l 0 BridgeName) v → made_by command (with (Ok (λ x. x ∷ [])) r) ≡ says_as version command words
  one_read l words v r same least most some p =
      (λ i. made_by command (with (Ok (λ x. x ∷ [])) (p i)))
      ∙ sym (says_form _ words (list_one l BridgeName least most ∙ same) ∙ ap (λ ws. made_by command (values_as version (get_or l 0 BridgeName ∷ []) ws)) (one_word_is words v some))

  pub two_read : (l : List Argument) (words : List (List ℕ)) (v w : List ℕ) (r s : Result Value Fault) → l ≡ form_of command → 2 ≤ length l → length l < 3 → Some (v, w) ≡ two_of words
      → r ≡ value_of version (get_or l 0 BridgeName) v → s ≡ value_of version (get_or l 1 BridgeName) w → made_by command (with (with (Ok (λ x y. x ∷ y ∷ [])) r) s) ≡ says_as version command words
  two_read l words v w r s same least most some p q =
      (λ i. made_by command (with (with (Ok (λ x y. x ∷ y ∷ [])) (p i)) (q i)))
      ∙ sym (says_form _ words (list_two l BridgeName least most ∙ same) ∙ ap (λ ws. made_by command (values_as version (get_or l 0 BridgeName ∷ get_or l 1 BridgeName ∷ []) ws)) (two_words_are words v w some))

  pub three_read : (l : List Argument) (words : List (List ℕ)) (v w x : List ℕ) (r s t : Result Value Fault) → l ≡ form_of command → 3 ≤ length l → length l < 4 → Some (v, w, x) ≡ three_of words
      → r ≡ value_of version (get_or l 0 BridgeName) v → s ≡ value_of version (get_or l 1 BridgeName) w → t ≡ value_of version (get_or l 2 BridgeName) x
      → made_by command (with (with (with (Ok (λ x y z. x ∷ y ∷ z ∷ [])) r) s) t) ≡ says_as version command words
  three_read l words v w x r s t same least most some p q u =
      (λ i. made_by command (with (with (with (Ok (λ x y z. x ∷ y ∷ z ∷ [])) (p i)) (q i)) (u i)))
      ∙ sym (says_form _ words (list_three l BridgeName least most ∙ same) ∙ ap (λ ws. made_by command (values_as version (get_or l 0 BridgeName ∷ get_or l 1 BridgeName ∷ get_or l 2 BridgeName ∷ []) ws)) (three_words_are words v w x some))

  pub four_read : (l : List Argument) (words : List (List ℕ)) (v w x y : List ℕ) (r s t u : Result Value Fault) → l ≡ form_of command → 4 ≤ length l → length l < 5 → Some (v, w, x, y) ≡ four_of words
      → r ≡ value_of version (get_or l 0 BridgeName) v → s ≡ value_of version (get_or l 1 BridgeName) w → t ≡ value_of version (get_or l 2 BridgeName) x → u ≡ value_of version (get_or l 3 BridgeName) y
      → made_by command (with (with (with (with (Ok (λ x y z a. x ∷ y ∷ z ∷ a ∷ [])) r) s) t) u) ≡ says_as version command words
  four_read l words v w x y r s t u same least most some p q n m =
      (λ i. made_by command (with (with (with (with (Ok (λ x y z a. x ∷ y ∷ z ∷ a ∷ [])) (p i)) (q i)) (n i)) (m i)))
      ∙ sym (says_form _ words (list_four l BridgeName least most ∙ same) ∙ ap (λ ws. made_by command (values_as version (get_or l 0 BridgeName ∷ get_or l 1 BridgeName ∷ get_or l 2 BridgeName ∷ get_or l 3 BridgeName ∷ []) ws)) (four_words_are words v w x y some))

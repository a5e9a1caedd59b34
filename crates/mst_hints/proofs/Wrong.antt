-- Steps of the code along the definitions of hints.
use Rattle.std.proofs.Common.{◌≡◌, ◌∙◌, ◌==◌, Bor, ℕ, List, [], ◌∷◌, length, Option, Some, None, is_some, true, false, cond, refl, ap, true≢false, sym}
use Rattle.std.specs.Option.{option_map, unwrap_or}
use Rattle.mst_lang.specs.declared.line.Version.{Version}
use Rattle.mst_lang.specs.declared.line.Command.{Command}
use Rattle.mst_lang.specs.declared.form.Argument.{Argument}
use Rattle.mst_lang.specs.Forms.{form_of}
use Rattle.mst_hints.specs.Hints.{first_wrong, form_hint, command_hint, unknown_text, words_text, wrong_text}

-- where no word is left, none is wrong
pub none_left : (version : Version) (form : List Argument) → first_wrong version form [] ≡ None
none_left version [] = refl
none_left version (argument ∷ form) = refl

-- the hint of a command, by its form
pub of_form : (version : Version) (word : List ℕ) (form : List Argument) (command : Option Command) (arguments : List (List ℕ)) → Some form ≡ option_map form_of command → form_hint version word form arguments ≡ command_hint version word command arguments
of_form version word form None arguments same = absurd (true≢false (ap is_some same))
of_form version word form (Some command) arguments same = ap (λ f. form_hint version word f arguments) (ap (λ (o : Option (List Argument)). unwrap_or o []) same)

-- of a word that has none
pub of_no_form : (version : Version) (word : List ℕ) (command : Option Command) (arguments : List (List ℕ)) → None ≡ option_map form_of command → Some (unknown_text word arguments) ≡ command_hint version word command arguments
of_no_form version word None arguments same = refl
of_no_form version word (Some command) arguments same = absurd (true≢false (sym (ap is_some same)))

-- a word that has a form is a command, and one that has none is none
pub is_command : (form : List Argument) (command : Option Command) → Some form ≡ option_map form_of command → is_some command ≡ true
is_command form None e = absurd (true≢false (ap is_some e))
is_command form (Some command) e = refl

pub is_no_command : (command : Option Command) → None ≡ option_map form_of command → is_some command ≡ false
is_no_command None e = refl
is_no_command (Some command) e = absurd (true≢false (sym (ap is_some e)))

-- and either as the other
pub some_alike : (form : Option (Bor (List Argument))) (command : Option Command) → option_map (λ (f : Bor (List Argument)). f.now) form ≡ option_map form_of command → is_some form ≡ is_some command
some_alike None None e = refl
some_alike None (Some command) e = ap is_some e
some_alike (Some form) None e = ap is_some e
some_alike (Some form) (Some command) e = refl

-- where as many words stand as there are arguments, and one is wrong
pub of_wrong : (version : Version) (word : List ℕ) (form : List Argument) (arguments : List (List ℕ)) (wrong : Argument × List ℕ) → (length arguments == length form) ≡ true → Some wrong ≡ first_wrong version form arguments
    → Some (wrong_text version word form arguments wrong) ≡ form_hint version word form arguments
of_wrong version word form arguments wrong same found =
    ap (option_map (wrong_text version word form arguments)) found
    ∙ ap (λ t. cond t (option_map (wrong_text version word form arguments) (first_wrong version form arguments)) (Some (words_text word form arguments))) (sym same)

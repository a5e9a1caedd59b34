-- The table of forms, as the code of policies keeps it and as the definitions give it.
use Rattle.std.proofs.Common.{◌≡◌, ◌∙◌, ◌||◌, ℕ, Bool, Bor, List, [], ◌∷◌, Option, Some, None, is_some, find, map, refl, sym, ap, true≢false}
use Rattle.std.specs.List.{list_any}
use Rattle.std.specs.Option.{option_map}
use Rattle.mst_lang.proofs.Tables.{find_map}
use Rattle.mst_lang.specs.Arguments.{is_text}
use Rattle.mst_policy.specs.Forms.{Row, row_of, written}
use Rattle.mst_policy.specs.declared.form.Form.{Form}
use Rattle.mst_policy.specs.declared.form.Kind.{Kind}
use Rattle.mst_policy_hints.specs.Hints.{arguments_of}
use Rattle.mst_policy_hints.specs.Near.{rows}

-- the word in a row
words_alike : (o : Option Form) → option_map (λ (text : Bor (List ℕ)). text.now) (option_map (λ (form : Form). form.word) o) ≡ option_map (λ (row : Row). row.0) (option_map written o)
words_alike None = refl
words_alike (Some form) = refl

-- the first word that passes a test
pub word_found : (test : List ℕ → Bool) (forms : List Form) → map written forms ≡ rows
    → option_map (λ (text : Bor (List ℕ)). text.now) (option_map (λ (form : Form). form.word) (find (λ (form : Form). test form.word.now) forms)) ≡ option_map (λ (row : Row). row.0) (find (λ (row : Row). test row.0) rows)
word_found test forms same =
    words_alike (find (λ (form : Form). test form.word.now) forms)
    ∙ ap (option_map (λ (row : Row). row.0)) (find_map written (λ (row : Row). test row.0) forms ∙ ap (λ (rs : List Row). find (λ (row : Row). test row.0) rs) same)

-- whether a word is one of the table's
any_map : {A B : Type 0} (f : A → B) (test : B → Bool) (xs : List A) → list_any (λ x. test (f x)) xs ≡ list_any test (map f xs)
any_map f test [] = refl
any_map f test (x ∷ xs) = ap (λ b. test (f x) || b) (any_map f test xs)

pub among : (word : List ℕ) (forms : List Form) → map written forms ≡ rows → list_any (λ (form : Form). is_text form.word.now word) forms ≡ list_any (λ (row : Row). is_text row.0 word) rows
among word forms same = any_map written (λ (row : Row). is_text row.0 word) forms ∙ ap (λ (rs : List Row). list_any (λ (row : Row). is_text row.0 word) rs) same

-- the arguments in the row that is found
pub arguments_found : (form : Form) (o : Option Kind) → Some (written form) ≡ option_map row_of o → Some form.arguments.now ≡ option_map arguments_of o
arguments_found form None same = absurd (true≢false (ap is_some same))
arguments_found form (Some kind) same = ap (option_map (λ (row : Row). row.2)) same

pub none_found : (o : Option Kind) → None ≡ option_map row_of o → None ≡ option_map arguments_of o
none_found None same = refl
none_found (Some kind) same = absurd (true≢false (sym (ap is_some same)))

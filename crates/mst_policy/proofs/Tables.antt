-- The table of forms, as the code keeps it and as the definitions give it.
use Rattle.std.proofs.Common.{◌≡◌, ◌∙◌, ◌&&◌, ℕ, List, Option, Some, None, is_some, find, map, refl, sym, ap, true≢false}
use Rattle.std.specs.Option.{option_map, unwrap_or}
use Rattle.mst_lang.proofs.Tables.{find_map}
use Rattle.mst_lang.specs.Arguments.{is_text}
use Rattle.mst_policy.specs.Forms.{all_kinds, kind_of, Row, row_of, takes, written}
use Rattle.mst_policy.specs.declared.form.Form.{Form}
use Rattle.mst_policy.specs.declared.form.Kind.{Kind}

-- both tables have the same first form of a word that takes some words
pub form_found : (word : List ℕ) (words : List (List ℕ)) (forms : List Form) → map written forms ≡ map row_of all_kinds
    → option_map written (find (λ (form : Form). is_text form.word.now word && takes form.arguments.now words) forms) ≡ option_map row_of (kind_of word words)
form_found word words forms same =
    find_map written (λ (row : Row). is_text row.0 word && takes row.2 words) forms
    ∙ ap (λ (rows : List Row). find (λ (row : Row). is_text row.0 word && takes row.2 words) rows) same
    ∙ sym (find_map row_of (λ (row : Row). is_text row.0 word && takes row.2 words) all_kinds)

-- of what is lent, the row
pub option_rows : {A : Type 0} (now : A → Form) (o : Option A) → option_map (λ a. written (now a)) o ≡ option_map written (option_map now o)
option_rows now None = refl
option_rows now (Some a) = refl

-- which form is found, and with which arguments
pub kind_is : (form : Form) (o : Option Kind) → Some (written form) ≡ option_map row_of o → Some form.kind ≡ o
kind_is form None same = absurd (true≢false (ap is_some same))
kind_is form (Some kind) same = ap (λ o. Some (unwrap_or o (written form)).1) same

pub none_is : (o : Option Kind) → None ≡ option_map row_of o → None ≡ o
none_is None same = refl
none_is (Some kind) same = absurd (true≢false (sym (ap is_some same)))

-- The table of forms, as the code keeps it and as the grammar has it.
use Rattle.std.proofs.Common.{◌≡◌, ◌∙◌, ℕ, Bool, true, false, cond, List, [], ◌∷◌, Option, Some, None, is_some, find, map, refl, sym, ap, true≢false}
use Rattle.std.specs.Option.{option_map, unwrap_or}
use Rattle.mst_lang.specs.Forms.{all_commands, rule_of, form_of, Row, row_of, written}
use Rattle.mst_lang.specs.declared.form.Form.{Form}
use Rattle.mst_lang.specs.declared.line.Command.{Command}

-- what is found among values is the value of what is found
found_or : {A B : Type 0} (f : A → B) (b : Bool) (x : A) (o : Option A) (p : Option B) → option_map f o ≡ p → option_map f (cond b (Some x) o) ≡ cond b (Some (f x)) p
found_or f true x o p same = refl
found_or f false x o p same = same

pub find_map : {A B : Type 0} (f : A → B) (test : B → Bool) (xs : List A) → option_map f (find (λ x. test (f x)) xs) ≡ find test (map f xs)
find_map f test [] = refl
find_map f test (x ∷ xs) = found_or f (test (f x)) x (find (λ y. test (f y)) xs) (find test (map f xs)) (find_map f test xs)

-- both tables have the same first command whose word passes a test
pub form_found : (test : List ℕ → Bool) (forms : List Form) → map written forms ≡ map row_of all_commands → option_map written (find (λ (form : Form). test form.word.now) forms) ≡ option_map row_of (find (λ (command : Command). test (rule_of command).word) all_commands)
form_found test forms same =
    find_map written (λ (row : Row). test row.0) forms ∙ ap (λ (rows : List Row). find (λ (row : Row). test row.0) rows) same ∙ sym (find_map row_of (λ (row : Row). test row.0) all_commands)

-- of what is lent, the row
pub option_rows : {A : Type 0} (now : A → Form) (o : Option A) → option_map (λ a. written (now a)) o ≡ option_map written (option_map now o)
option_rows now None = refl
option_rows now (Some a) = refl

-- what is found in the code's table is the grammar's command of the word, with its arguments
pub found_is : (form : Form) (o : Option Command) → Some (written form) ≡ option_map row_of o → (form.arguments.now ≡ form_of form.command) × (o ≡ Some form.command)
found_is form None same = absurd (true≢false (ap is_some same))
found_is form (Some command) same =
    let rows : written form ≡ row_of command = ap (λ o. unwrap_or o (written form)) same in
    let commands : form.command ≡ command = ap (λ (row : Row). row.1) rows in
    (ap (λ (row : Row). row.2) rows ∙ ap form_of (sym commands), ap Some (sym commands))

pub none_is : (o : Option Command) → None ≡ option_map row_of o → o ≡ None
none_is None same = refl
none_is (Some command) same = absurd (true≢false (sym (ap is_some same)))

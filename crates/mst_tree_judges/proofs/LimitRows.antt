-- The reasons of notes that are put one by one.
use Rattle.std.proofs.Common.{◌≡◌, ℕ, ◌-◌, ◌≤◌, List, [], ◌∷◌, ◌++◌, take, drop, get_or, length, map, Option, Some, None, refl, ap, sym, ◌∙◌, append_assoc, arith}
use Rattle.std.specs.List.{cons_option, filter_map}
use Rattle.std.specs.Option.{option_and_then}
use Rattle.std.proofs.lemmas.List.{take_all}
use Rattle.mst_kinds.specs.declared.kind.Kind.{Kind}
use Rattle.mst_kinds.specs.declared.kind.Kind.TheVariants as kind
use Rattle.mst_kinds.specs.declared.note_line.NoteLine.{NoteLine}
use Rattle.mst_rows.specs.Cells.{Cell}
use Rattle.mst_rows.specs.Rows.{Row, cell}
use Rattle.mst_rows.specs.declared.value.Value.{Value}
use Rattle.mst_judged.specs.reasons.Reasons.{limit_in, limit_of, limit_reason, number_in, some_of, word_in}
use Rattle.mst_judged.specs.reasons.declared.reason.Reason.{Reason}

-- one thing more
kept_more : {A B : Type 0} (f : A → Option B) (xs : List A) (x : A) → filter_map f (xs ++ x ∷ []) ≡ filter_map f xs ++ some_of (f x)
kept_more {A} {B} f [] x = go (f x)
  where
    go : (o : Option B) → cons_option o [] ≡ some_of o
    go None = refl
    go (Some y) = refl
kept_more {A} {B} f (z ∷ xs) x = go (f z) (kept_more f xs x)
  where
    go : (o : Option B) → filter_map f (xs ++ x ∷ []) ≡ filter_map f xs ++ some_of (f x) → cons_option o (filter_map f (xs ++ x ∷ [])) ≡ cons_option o (filter_map f xs) ++ some_of (f x)
    go None same = same
    go (Some y) same = ap (λ ys. y ∷ ys) same

-- those of things that have names
kept_named : {A B C : Type 0} (name : A → B) (f : B → Option C) (xs : List A) → filter_map (λ x. f (name x)) xs ≡ filter_map f (map name xs)
kept_named name f [] = refl
kept_named name f (x ∷ xs) = ap (cons_option (f (name x))) (kept_named name f xs)

-- what a row tells
abbrev pub told : Row → Option Reason
told note = limit_reason note.kind note.cells

pub one_more : (first old new : List Reason) (rows : List Row) (row : Row) → old ≡ first ++ filter_map told rows → new ≡ old ++ some_of (told row) → new ≡ first ++ filter_map told (rows ++ row ∷ [])
one_more first old new rows row before after =
    after ∙ ap (λ l. l ++ some_of (told row)) before ∙ append_assoc first (filter_map told rows) (some_of (told row)) ∙ ap (λ l. first ++ l) (sym (kept_more told rows row))

pub none_more : (first old : List Reason) (rows : List Row) (row : Row) → told row ≡ None → old ≡ first ++ filter_map told rows → old ≡ first ++ filter_map told (rows ++ row ∷ [])
none_more first old rows row none before = one_more first old old rows row before (nothing_more old ∙ ap (λ o. old ++ some_of o) (sym none))
  where
    nothing_more : (xs : List Reason) → xs ≡ xs ++ []
    nothing_more [] = refl
    nothing_more (x ∷ xs) = ap (λ ys. x ∷ ys) (nothing_more xs)

-- a row that is no note tells nothing
pub not_note : (k : Kind) (cells : List Cell) → ((line : NoteLine) → k ≡ kind.Note line → ⊥) → limit_reason k cells ≡ None
not_note (kind.Note l) cells h = absurd (h l refl)
not_note _ cells h = refl

-- ---- a note of a tree and a bridge, with numbers behind them
pub limit_said : (line : NoteLine) (values : List Value) (first second : Value) (tree : ℕ) (bridge numbers : List ℕ) → 2 ≤ length values → first ≡ get_or values 0 first → second ≡ get_or values 1 second
    → Some tree ≡ number_in (cell first) → Some bridge ≡ word_in (cell second) → numbers ≡ filter_map (λ v. number_in (cell v)) (take (length values - 2) (drop 2 values)) → limit_of line tree bridge numbers ≡ limit_in line (map cell values)
limit_said line [] first second tree bridge numbers l f s e g n = absurd (omega arith)
limit_said line (v ∷ []) first second tree bridge numbers l f s e g n = absurd (omega arith)
limit_said line (v ∷ w ∷ values) first second tree bridge numbers l f s e g n =
    let is_tree : Some tree ≡ number_in (cell v) = e ∙ ap (λ x. number_in (cell x)) f in
    let is_bridge : Some bridge ≡ word_in (cell w) = g ∙ ap (λ x. word_in (cell x)) s in
    let are_numbers : numbers ≡ filter_map number_in (map cell values) =
    n ∙ ap (filter_map (λ x. number_in (cell x))) (take_all (length (v ∷ w ∷ values) - 2) values (omega arith)) ∙ kept_named cell number_in values in
    λ i. option_and_then (λ t. option_and_then (λ b. limit_of line t b (are_numbers i)) (is_bridge i)) (is_tree i)

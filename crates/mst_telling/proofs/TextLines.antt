-- Lines of text that are found by hash.
use Rattle.std.proofs.Common.{Vec, Global, ◌≡◌, ◌∙◌, ℕ, ◌||◌, Bool, true, false, List, [], ◌∷◌, ◌++◌, Result, Ok, Err, refl, sym, ap, subst, append-nil}
use Rattle.std.specs.Prelude.{if◌then◌else◌}
use Rattle.std.specs.Cmp.Lexicographic.{bytes_decides, nat_list_eq_equiv}
use Rattle.std.specs.List.{list_any}
use Rattle.std.specs.Result.{OnOk}
use Rattle.std.proofs.lemmas.List.Folds.{list_any-append}
use Rattle.mst_rows.specs.Lines.{row_line}
use Rattle.mst_rows.specs.Rows.{Row}
use Rattle.mst_telling.specs.Judged.{AreTexts}
use Rattle.mst_telling.specs.Texts.{same_line}
use Rattle.mst_telling.specs.declared.texts.Texts.{Texts}

or_nothing : (b : Bool) → (b || false) ≡ b
or_nothing true = refl
or_nothing false = refl

pub lines_symm : (x y : List ℕ) → same_line x y ≡ same_line y x
lines_symm x y = nat_list_eq_equiv.symm x y

module _ (rows : List Row) (keys : List (Vec ℕ Global)) (are : (text : List ℕ) → list_any (λ key. same_line text key.items) keys ≡ list_any (λ row. same_line text (row_line row)) rows)
    (key : Vec ℕ Global) (row : Row) (is : key.items ≡ row_line row) where
  abbrev found : List ℕ → List (Vec ℕ Global) → Bool
  found text keys = list_any (λ key. same_line text key.items) keys

  among : (text : List ℕ) → list_any (λ row. same_line text (row_line row)) (rows ++ row ∷ []) ≡ (found text keys || same_line text key.items)
  among text =
      list_any-append (λ row. same_line text (row_line row)) rows (row ∷ [])
      ∙ (λ i. sym (are text) i || (or_nothing (same_line text (row_line row)) ∙ ap (same_line text) (sym is)) i)

  known : found key.items keys ≡ true → (text : List ℕ) → found text keys ≡ (found text keys || same_line text key.items)
  known e text = go (same_line text key.items) refl
    where
      go : (b : Bool) → same_line text key.items ≡ b → found text keys ≡ (found text keys || b)
      go false k = sym (or_nothing (found text keys))
      go true k =
          let there : found text keys ≡ true = ap (λ t. found t keys) ((bytes_decides text key.items).0 k) ∙ e in
          there ∙ ap (λ b. b || true) (sym there)

  pub told_more : (text : List ℕ) → found text (if found key.items keys then keys else keys ++ key ∷ []) ≡ list_any (λ row. same_line text (row_line row)) (rows ++ row ∷ [])
  told_more text = go (found key.items keys) refl
    where
      go : (b : Bool) → found key.items keys ≡ b → found text (if b then keys else keys ++ key ∷ []) ≡ list_any (λ row. same_line text (row_line row)) (rows ++ row ∷ [])
      go true e = known e text ∙ sym (among text)
      go false e =
          list_any-append (λ (key : Vec ℕ Global). same_line text key.items) keys (key ∷ []) ∙ ap (λ b. found text keys || b) (or_nothing (same_line text key.items))
          ∙ sym (among text)

-- ---- lines of text that rows are put into
-- of no rows none is added
pub begun : (texts : Texts) (before : List Row) → AreTexts before texts → AreTexts (before ++ []) texts
begun texts before are = subst (λ (rows : List Row). AreTexts rows texts) (sym (append-nil before)) are

-- what is so of all rows before where there is a value
pub for_all : {T E : Type 0} (r : Result T E) (Old New : List Row → Type 0) → ((before : List Row) → Old before → OnOk r (New before)) → OnOk r ((before : List Row) → Old before → New before)
for_all (Ok value) Old New each = each
for_all (Err fault) Old New each = tt

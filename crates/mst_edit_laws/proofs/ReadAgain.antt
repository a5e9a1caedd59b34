-- The text of the edits, read line by line, is the edits, and leaves the new network.
use Rattle.std.proofs.Common.{◌≡◌, ℕ, Bool, true, false, List, [], ◌∷◌, ◌++◌, map, codes, Ok, refl, sym, ap, subst, ◌∙◌, append_assoc, true≢false}
use Rattle.std.specs.Prelude.{◌==◌, if◌then◌else◌}
use Rattle.std.specs.List.{list_all, flat_map, AllByRecursion}
use Rattle.std.proofs.lemmas.Bool.{and_parts, ne_eqb}
use Rattle.std.proofs.lemmas.List.{append-nil}
use Rattle.mst_lang.specs.Lines.{drop_cr, last_line, lines_from, lines_of}
use Rattle.mst_lang.specs.Reading.{reading_as}
use Rattle.mst_lang.specs.Words.{is_plain}
use Rattle.mst_lang.specs.declared.line.Version.TheVariants.{V2}
use Rattle.mst_lang.specs.declared.line.Line.TheVariants.{Edit as edit}
use Rattle.mst_lang.specs.declared.line.Edit.{Edit}
use Rattle.mst_net.specs.tables.Tables.{Net, empty_net}
use Rattle.mst_net.specs.tables.After.{effect}
use Rattle.mst_rows.specs.Lines.{row_line}
use Rattle.mst_net.proofs.tables_lemmas.AfterLemmas.{after_accepted}
use Rattle.mst_edits.specs.Making.{made, Accepted}
use Rattle.mst_edits.specs.SaveText.{Makes, Leave, Restores, IsShort}
use Rattle.mst_edit_laws.proofs.Spaced.{spaced_is_plain}
use Rattle.mst_edits.specs.EditRows.{edits_rows, first_row}
use Rattle.mst_edit_laws.specs.EditText.{ReadAs, ChangesInto}
use Rattle.mst_edit_laws.proofs.RowLines.{ended, row_words, said_line, text_is}
use Rattle.mst_edit_laws.proofs.Reading.{are_words, said_read}
use Rattle.mst_edit_laws.proofs.Sayable.{IsGood}

-- ---- lines
abbrev IsPlain : List ℕ → Type 0
IsPlain line = list_all is_plain line ≡ true

-- a byte of a line is neither LF nor CR
no_end : (b : ℕ) → is_plain b ≡ true → ((b == 10) ≡ false) × ((b == 13) ≡ false)
no_end b h = (ne_eqb b 10 (λ e. true≢false (sym (ap is_plain (sym e) ∙ h))), ne_eqb b 13 (λ e. true≢false (sym (ap is_plain (sym e) ∙ h))))

no_cr : (line : List ℕ) → IsPlain line → drop_cr line ≡ line
no_cr [] h = refl
no_cr (b ∷ []) h = ap (λ (t : Bool). if t then [] else b ∷ []) ((no_end b ((and_parts (is_plain b) true h).0)).1)
no_cr (b ∷ c ∷ bs) h = ap (λ l. b ∷ l) (no_cr (c ∷ bs) ((and_parts (is_plain b) (list_all is_plain (c ∷ bs)) h).1))

one_line : (part line rest : List ℕ) → IsPlain line → lines_from last_line part (line ++ 10 ∷ rest) ≡ drop_cr (part ++ line) ∷ lines_from last_line [] rest
one_line part [] rest h = ap (λ l. drop_cr l ∷ lines_from last_line [] rest) (sym (append-nil part))
one_line part (b ∷ bs) rest h =
    let both = and_parts (is_plain b) (list_all is_plain bs) h in
    ap (λ (t : Bool). if t then drop_cr part ∷ lines_from last_line [] (bs ++ 10 ∷ rest) else lines_from last_line (part ++ b ∷ []) (bs ++ 10 ∷ rest)) ((no_end b both.0).0)
    ∙ one_line (part ++ b ∷ []) bs rest both.1 ∙ ap (λ l. drop_cr l ∷ lines_from last_line [] rest) (append_assoc part (b ∷ []) bs)

lines_again : (ls : List (List ℕ)) → AllByRecursion IsPlain ls → lines_of (flat_map ended ls) ≡ ls
lines_again [] h = refl
lines_again (l ∷ ls) h =
    ap lines_of (append_assoc l (10 ∷ []) (flat_map ended ls)) ∙ one_line [] l (flat_map ended ls) h.0 ∙ (let a = no_cr l h.0 in let b = lines_again ls h.1 in λ i. a i ∷ b i)

plain_lines : (es : List Edit) → AllByRecursion IsGood es → AllByRecursion IsPlain (map said_line es)
plain_lines [] h = tt
plain_lines (e ∷ es) h = (spaced_is_plain (row_words e) (are_words e h.0.in_range h.0.sayable), plain_lines es h.1)

-- ---- what they say
one_read : (e : Edit) → IsGood e → IsShort e → reading_as V2 (said_line e) ≡ Ok (edit e)
one_read e good short = said_read e good.in_range good.sayable (good.short short)

all_read : (es : List Edit) → AllByRecursion IsGood es → AllByRecursion IsShort es → map (reading_as V2) (map said_line es) ≡ map (λ e. Ok (edit e)) es
all_read [] good short = refl
all_read (e ∷ es) good short = let first = one_read e good.0 short.0 in let others = all_read es good.1 short.1 in λ i. first i ∷ others i

leave : (es : List Edit) (net new : Net) → AllByRecursion IsGood es → AllByRecursion IsShort es → Accepted es net → made es net ≡ new → Leave net (map said_line es) new
leave [] net new good short accepted is = is
leave (e ∷ es) net new good short accepted is =
    (effect e net, subst (λ r. Makes net r (effect e net)) (sym (one_read e good.0 short.0)) (after_accepted e net accepted.0), leave es (effect e net) new good.1 short.1 accepted.1 is)

module _ (es : List Edit) (good : AllByRecursion IsGood es) (short : AllByRecursion IsShort es) where
  -- the lines of their rows, behind the version
  abbrev lines : List (List ℕ)
  lines = lines_of (flat_map row_line (first_row ∷ edits_rows es))

  lines_are : lines ≡ codes "mstplan 2" ∷ map said_line es
  lines_are = ap lines_of (text_is es) ∙ lines_again (codes "mstplan 2" ∷ map said_line es) (refl, plain_lines es good)

  pub text_read : ReadAs lines es
  text_read = subst (λ ls. ReadAs ls es) (sym lines_are) (refl, all_read es good short)

  pub text_changes : (a b : Net) → Accepted es a → made es a ≡ b → ChangesInto lines a b
  text_changes a b accepted is = subst (λ ls. ChangesInto ls a b) (sym lines_are) (refl, leave es a b good short accepted is)

  pub text_restores : (net : Net) → Accepted es empty_net → made es empty_net ≡ net → Restores lines net
  text_restores net accepted is = subst (λ ls. Restores ls net) (sym lines_are) (refl, leave es empty_net net good short accepted is)

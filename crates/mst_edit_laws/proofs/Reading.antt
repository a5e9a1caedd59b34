-- The line of the row of an edit is read as the edit.
use Rattle.std.proofs.Common.{◌≡◌, ℕ, ◌≤◌, Bool, true, false, List, [], ◌∷◌, codes, decimal, length, Ok, Err, refl, sym, ap, ◌∙◌, arith, true≢false}
use Rattle.std.specs.Prelude.{nat_lt, if◌then◌else◌}
use Rattle.std.specs.Bool.{beq}
use Rattle.std.specs.Cmp.{booleans_Decides}
use Rattle.std.specs.Cmp.Lexicographic.{pointwise, pointwise_decides}
use Rattle.std.proofs.lemmas.Bool.{le-ltb}
use Rattle.mst_ids.specs.Texts.{is_name}
use Rattle.mst_ids.specs.declared.name.PortName.{PortName}
use Rattle.mst_lang.specs.Arguments as forms
use Rattle.mst_lang.specs.Arguments.{with}
use Rattle.mst_lang.specs.Ranges.{InRange, IsPort}
use Rattle.mst_lang.specs.Reading.{reading_as, worded}
use Rattle.mst_lang.specs.declared.line.Version.TheVariants.{V2}
use Rattle.mst_lang.specs.declared.line.Line.TheVariants.{Edit as edit}
use Rattle.mst_lang.specs.declared.line.Edit.{Edit}
use Rattle.mst_lang.specs.declared.line.Edit.TheVariants.{DelPort, SetByTree}
use Rattle.mst_lang.specs.declared.line.TreeChange.TheVariants.{Vlans}
use Rattle.mst_lang.specs.declared.line.Fault.TheVariants.{E02}
use Rattle.mst_net.specs.tables.After.{all_vids}
use Rattle.mst_edits.specs.EditLine.{spaced, line_of, IsSayable}
use Rattle.mst_edit_laws.proofs.Numbers.{number_of_read}
use Rattle.mst_edit_laws.proofs.LinesRead.{edit_words, line_read}
use Rattle.mst_edits.proofs.Short.{spaced_short, name_short, number_short}
use Rattle.mst_edit_laws.proofs.Spaced.{AreWords, spaced_is_plain, words_of_spaced}
use Rattle.mst_edit_laws.proofs.RowLines.{vlans_words, row_words, said_line}

if_true : {A : Type 0} (b : Bool) (x y : A) → b ≡ true → (if b then x else y) ≡ x
if_true true x y h = refl
if_true false x y h = absurd (true≢false (sym h))

if_false : {A : Type 0} (b : Bool) (x y : A) → b ≡ false → (if b then x else y) ≡ y
if_false true x y h = absurd (true≢false h)
if_false false x y h = refl

-- ---- a port in each VLAN
module _ (port : PortName) (is : IsPort port) where
  abbrev all_words : List (List ℕ)
  all_words = codes "setportvlans" ∷ port.bridge ∷ decimal port.number ∷ codes "all" ∷ []

  all_are_words : AreWords all_words
  all_are_words = let names = edit_words (DelPort port) (record { names = is; values = tt }) tt in (record { some = omega arith; bytes = refl }, (names.1.0, (names.1.1.0, (record { some = omega arith; bytes = refl }, tt))))

  all_short : length (spaced all_words) ≤ 4096
  all_short = let short = spaced_short all_words (omega arith, (name_short port.bridge is.0, (number_short port.number (omega (arith, is.2)), (omega arith, tt)))) in omega (arith, short)

  all_said : worded V2 true all_words ≡ Ok (edit (SetByTree (Vlans port all_vids)))
  all_said =
      let bridge : forms.name port.bridge ≡ Ok port.bridge = if_true (is_name port.bridge) (Ok port.bridge) (Err E02) is.0 in
      let number : forms.port_number (decimal port.number) ≡ Ok port.number = number_of_read 1 4095 port.number E02 is.1 is.2 (omega (arith, is.2)) in
      λ i. with (with (with (Ok (λ b p v. edit (SetByTree (Vlans (record { bridge = b; number = p }) v)))) (bridge i)) (number i)) (Ok all_vids)

  all_read : reading_as V2 (spaced all_words) ≡ Ok (edit (SetByTree (Vlans port all_vids)))
  all_read =
      let plain = spaced_is_plain all_words all_are_words in
      let same = words_of_spaced all_words all_are_words in
      if_false (nat_lt 4096 (length (spaced all_words))) _ _ (le-ltb 4096 (length (spaced all_words)) all_short) ∙ (λ i. worded V2 (plain i) (same i)) ∙ all_said

-- ---- each edit
pub are_words : (e : Edit) → InRange e → IsSayable e → AreWords (row_words e)
are_words (SetByTree (Vlans port set)) in_range sayable = by (pointwise beq set all_vids)
  where
    by : (in_all : Bool) → AreWords (vlans_words port in_all set)
    by true = all_are_words port in_range.names
    by false = edit_words (SetByTree (Vlans port set)) in_range sayable
are_words e in_range sayable = edit_words e in_range sayable

pub said_read : (e : Edit) → InRange e → IsSayable e → length (line_of e) ≤ 4096 → reading_as V2 (said_line e) ≡ Ok (edit e)
said_read (SetByTree (Vlans port set)) in_range sayable short = by (pointwise beq set all_vids) refl
  where
    by : (in_all : Bool) → pointwise beq set all_vids ≡ in_all → reading_as V2 (spaced (vlans_words port in_all set)) ≡ Ok (edit (SetByTree (Vlans port set)))
    by true e = all_read port in_range.names ∙ ap (λ vids. Ok (edit (SetByTree (Vlans port vids)))) (sym ((pointwise_decides booleans_Decides set all_vids).0 e))
    by false e = line_read (SetByTree (Vlans port set)) in_range sayable short
said_read e in_range sayable short = line_read e in_range sayable short

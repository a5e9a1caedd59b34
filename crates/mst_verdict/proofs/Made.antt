-- What lines of a change make of a network, one after another.
use Rattle.std.proofs.Common.{◌≡◌, ℕ, ◌+◌, ◌<◌, ◌≤◌, Bool, true, false, true≢false, ◌&&◌, List, [], ◌∷◌, ◌++◌, length, length-append, length-take, take, get_or, Result, Ok, Err, refl, sym, ap, ◌∙◌, arith, append-nil, append_assoc}
use Rattle.std.proofs.lemmas.List.{take_more}
use Rattle.mst_lang.specs.declared.line.Edit.{Edit}
use Rattle.mst_lang.specs.declared.line.Fault.{Fault}
use Rattle.mst_net.specs.tables.After.{after}
use Rattle.mst_net.specs.tables.Contents.{Contents}
use Rattle.mst_net.specs.tables.Tables.{Net}
use Rattle.mst_net.specs.tables.declared.refusal.Refusal.{Refusal}
use Rattle.mst_rows.specs.Rows.{Row}
use Rattle.mst_change.specs.Reading.{LineRead}
use Rattle.mst_verdict.specs.Setting.{IsMade, after_lines, refused_lines, rows_of_edit, rows_of_line, rows_of_read, set_by}
use Rattle.mst_verdict.specs.declared.setting.Made.{Made}

-- one line more
pub after_more : (net : Net) (xs : List LineRead) (x : LineRead) → after_lines net (xs ++ x ∷ []) ≡ set_by (after_lines net xs) x.read
after_more net [] x = refl
after_more net (y ∷ ys) x = after_more (set_by net y.read) ys x

refused_more : (step : ℕ) (net : Net) (xs : List LineRead) (x : LineRead) → refused_lines step net (xs ++ x ∷ []) ≡ refused_lines step net xs ++ rows_of_line step (after_lines net xs) x
refused_more step net [] x = append-nil (rows_of_line step net x)
refused_more step net (y ∷ ys) x =
    ap (λ (more : List Row). rows_of_line step net y ++ more) (refused_more step (set_by net y.read) ys x)
    ∙ sym (append_assoc (rows_of_line step net y) (refused_lines step (set_by net y.read) ys) (rows_of_line step (after_lines net (y ∷ ys)) x))

-- a line has one row at most
edit_few : (step n : ℕ) (made : Result Net Refusal) → length (rows_of_edit step n made) ≤ 1
edit_few step n (Ok new) = omega arith
edit_few step n (Err refused) = omega arith

read_few : (step : ℕ) (net : Net) (n : ℕ) (read : Result Edit Fault) → length (rows_of_read step net n read) ≤ 1
read_few step net n (Err fault) = omega arith
read_few step net n (Ok edit) = edit_few step n (after edit net)

pub lines_few : (step : ℕ) (net : Net) (lines : List LineRead) → length (refused_lines step net lines) ≤ length lines
lines_few step net [] = omega arith
lines_few step net (line ∷ lines) =
    omega (arith, length-append (rows_of_line step net line) (refused_lines step (set_by net line.read) lines), read_few step net line.number line.read, lines_few step (set_by net line.read) lines)

and_first : (a b : Bool) → (a && b) ≡ true → a ≡ true
and_first true b e = refl
and_first false b e = e

and_second : (a b : Bool) → (a && b) ≡ true → b ≡ true
and_second true b e = e
and_second false b e = absurd (true≢false (sym e))

-- at first nothing was made
pub none_made : (a : Contents) → IsMade a a a.net [] (record { refused = 0; regions_stand = true })
none_made a = record { net_is = refl; refused = refl; regions = λ stand region_ids are. are }

module _ (step : ℕ) (a b c : Contents) (lines : List LineRead) (i : ℕ) (x : LineRead) (below : i < length lines) (is : x ≡ get_or lines i x) where
  taken : take (i + 1) lines ≡ take i lines ++ x ∷ []
  taken = take_more lines i x below ∙ ap (λ z. take i lines ++ z ∷ []) (sym is)

  pub rows_taken : refused_lines step a.net (take (i + 1) lines) ≡ refused_lines step a.net (take i lines) ++ rows_of_line step (after_lines a.net (take i lines)) x
  rows_taken = ap (refused_lines step a.net) taken ∙ refused_more step a.net (take i lines) x

  -- one line more was made
  pub one_made : (m k : Made) → IsMade a b (after_lines a.net (take i lines)) (refused_lines step a.net (take i lines)) m → IsMade b c (set_by b.net x.read) (rows_of_line step b.net x) k
      → IsMade a c (after_lines a.net (take (i + 1) lines)) (refused_lines step a.net (take (i + 1) lines)) (record { refused = m.refused + k.refused; regions_stand = m.regions_stand && k.regions_stand })
  one_made m k was more = record {
    net_is = more.net_is ∙ ap (λ net. set_by net x.read) was.net_is ∙ sym (after_more a.net (take i lines) x) ∙ ap (after_lines a.net) (sym taken);
    refused = (λ j. was.refused j + (more.refused ∙ ap (λ net. length (rows_of_line step net x)) was.net_is) j) ∙ sym (ap length rows_taken ∙ length-append (refused_lines step a.net (take i lines)) (rows_of_line step (after_lines a.net (take i lines)) x));
    regions = λ stand region_ids are. more.regions (and_second m.regions_stand k.regions_stand stand) region_ids (was.regions (and_first m.regions_stand k.regions_stand stand) region_ids are);
  }

  -- of no more lines than there are
  pub few_made : (m k : Made) → IsMade a b (after_lines a.net (take i lines)) (refused_lines step a.net (take i lines)) m → IsMade b c (set_by b.net x.read) (rows_of_line step b.net x) k → m.refused + k.refused ≤ length lines
  few_made m k was more = omega (arith, was.refused, lines_few step a.net (take i lines), length-take i lines, more.refused, read_few step b.net x.number x.read)

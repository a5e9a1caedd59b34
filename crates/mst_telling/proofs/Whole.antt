-- All rows of a policy of a network, as they are put.
use Rattle.std.proofs.Common.{◌≡◌, ◌∙◌, ◌+◌, ◌∷◌, [], ◌++◌, ℕ, Bool, true, false, cond, not, ◌&&◌, List, ap, arith, length, length-append, map, refl, subst, sym, append_assoc, append-nil}
use Rattle.std.specs.Prelude.{◌==◌}
use Rattle.std.specs.List.{AllZip, count_by, flat_map}
use Rattle.std.proofs.lemmas.List.Sums.{sum_by-cons}
use Rattle.mst_policy.specs.declared.policy.PolicyLine.{PolicyLine}
use Rattle.mst_rows.specs.Cells.{PromiseSaid}
use Rattle.mst_rows.specs.Rows.{Row}
use Rattle.mst_graph.specs.Lists.{has_any}
use Rattle.mst_tables.specs.Tables.{Net}
use Rattle.mst_roles.specs.forest.Outcome.{Outcome}
use Rattle.mst_reasons.specs.Risks.{events}
use Rattle.mst_telling.specs.Verified.{Counts, IsVerdict, IsVerified, all_refused, counts_in, joined, judged_count, judged_in, last_row, network_count, promises_in, promises_of, refused_rows, whole_rows}
use Rattle.mst_telling.proofs.GoesOn.{one_if, positive}

pub flags_counted : {A : Type 0} (test : A → Bool) (xs : List A) → count_by (λ flag. flag) (map test xs) ≡ count_by test xs
flags_counted test [] = refl
flags_counted test (x ∷ xs) =
    sum_by-cons (λ b. one_if b) (test x) (map test xs) ∙ ap (λ n. one_if (test x) + n) (flags_counted test xs) ∙ sym (sum_by-cons (λ y. one_if (test y)) x xs)

-- no row, no number of rows
pub none_counted : (rows : List Row) → (length rows == 0) ≡ not (has_any rows)
none_counted [] = refl
none_counted (row ∷ rows) = positive (length rows)

-- four times rows one after another
pub put_four : (rows a b c : List Row) (d : Row) → (((rows ++ a) ++ b) ++ c) ++ d ∷ [] ≡ rows ++ ((a ++ b) ++ c ++ d ∷ [])
put_four rows a b c d =
    ap (λ (l : List Row). (l ++ c) ++ d ∷ []) (append_assoc rows a b) ∙ ap (λ (l : List Row). l ++ d ∷ []) (append_assoc rows (a ++ b) c) ∙ append_assoc rows ((a ++ b) ++ c) (d ∷ [])

module _ (net : Net) (o : Outcome) (lines : List PolicyLine) (told : List (List Row)) (each : AllZip (IsVerdict net o (events net lines)) lines told) (refused : List Row)
    (refused_are : refused ≡ flat_map (refused_rows net (events net lines)) lines) (counts : List ℕ) (counts_are : counts ≡ map (network_count net (events net lines)) lines) where
  abbrev judged : ℕ
  judged = judged_count counts

  judged_is : judged_count counts ≡ judged_in net lines
  judged_is = ap judged_count counts_are

  pub front_is : refused ++ whole_rows (judged_count counts) refused ≡ all_refused net lines
  front_is = λ i. refused_are i ++ whole_rows (judged_is i) (refused_are i)

  promises_are : promises_of lines counts (map has_any told) ≡ promises_in net lines told
  promises_are = ap (λ counts. promises_of lines counts (map has_any told)) counts_are

  -- so these are the rows, and this is counted of them
  pub verified : (own : Counts) → own.refused ≡ length (refused ++ whole_rows (judged_count counts) refused) → own.judged ≡ judged_count counts → own.failing ≡ count_by has_any told
      → IsVerified net o lines own ((refused ++ whole_rows (judged_count counts) refused) ++ joined told ++ last_row (judged_count counts) (promises_of lines counts (map has_any told)) ∷ [])
  verified own a b d = record {
    told = told;
    each = each;
    counted = λ i. record { refused = (a ∙ ap length front_is) i; judged = (b ∙ judged_is) i; failing = d i };
    are = λ i. front_is i ++ joined told ++ last_row (judged_is i) (promises_are i) ∷ [];
  }

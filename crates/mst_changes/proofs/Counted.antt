-- How many rows there are, one list after another.
use Rattle.std.proofs.Common.{◌≡◌, ◌+◌, ◌∙◌, ℕ, List, ◌++◌, length, min, sym, ap, arith}
use Rattle.std.proofs.lemmas.List.{length-append}
use Rattle.mst_rows.specs.Rows.{Row}
use Rattle.mst_changes.specs.PortChanges.{counted}

added : (m n : ℕ) → min (min m 18446744073709551615 + n) 18446744073709551615 ≡ min (m + n) 18446744073709551615
added m n = omega arith

added_too : (m n : ℕ) → min (m + min n 18446744073709551615) 18446744073709551615 ≡ min (m + n) 18446744073709551615
added_too m n = omega arith

-- with the number of some more
pub counted_more : (rows more : List Row) (count put : ℕ) → count ≡ counted rows → put ≡ length more → min (count + put) 18446744073709551615 ≡ counted (rows ++ more)
counted_more rows more count put before after =
    (λ i. min (before i + after i) 18446744073709551615) ∙ added (length rows) (length more) ∙ ap (λ (n : ℕ). min n 18446744073709551615) (sym (length-append rows more))

-- with what is counted of some more
pub counted_both : (rows more : List Row) (count put : ℕ) → count ≡ counted rows → put ≡ counted more → min (count + put) 18446744073709551615 ≡ counted (rows ++ more)
counted_both rows more count put before after =
    (λ i. min (before i + after i) 18446744073709551615) ∙ added (length rows) (counted more) ∙ added_too (length rows) (length more) ∙ ap (λ (n : ℕ). min n 18446744073709551615) (sym (length-append rows more))

-- What failures one after another do.
use Rattle.std.proofs.Common.{◌≡◌, ℕ, ◌+◌, ◌≤◌, Bool, true, false, cond, List, [], ◌∷◌, ◌++◌, map, Result, Ok, Err, IfOk, refl, sym, subst, ◌∙◌, append-nil, append_assoc, arith}
use Rattle.std.specs.List.{AllZip}
use Rattle.std.proofs.lemmas.Grind.{flat_map-append}
use Rattle.std.proofs.lemmas.List.Sums.{sum_by-append}
use Rattle.mst_net.specs.tables.Contents.{Contents, SameContents}
use Rattle.mst_rows.specs.Rows.{Row}
use Rattle.mst_sweep.specs.SweepText.{Told, AreRowsOf}
use Rattle.mst_sweep.proofs.SweptParts.{zip_joined}
use Rattle.mst_sweeping.specs.Sweeping.{AreToldBy, Puts}

-- what is as it was stays so
pub same_then : (a b c : Contents) → SameContents a b → SameContents b c → SameContents a c
same_then a b c x y = record { net = y.net ∙ x.net; numbers = y.numbers ∙ x.numbers; next = y.next ∙ x.next }

-- one more that is counted, or isn't
abbrev pub counts : Bool → ℕ
counts b = cond b 1 0

pub counts_few : (b : Bool) → counts b ≤ 1
counts_few true = omega arith
counts_few false = omega arith

module _ {A : Type 0} (Tells : A → Told → Type 0) where
  -- at first none is told of
  pub none_told : AreToldBy Tells [] 0 []
  none_told = record { told = []; each = tt; counted = refl; is = refl }

  -- some, and then others
  pub told_then : (xs ys : List A) (cuts more : ℕ) (rows words : List Row) → AreToldBy Tells xs cuts rows → AreToldBy Tells ys more words → AreToldBy Tells (xs ++ ys) (cuts + more) (rows ++ words)
  told_then xs ys cuts more rows words x y = record {
    told = x.told ++ y.told;
    each = zip_joined Tells xs ys x.told y.told x.each y.each;
    counted = (λ i. x.counted i + y.counted i) ∙ sym (sum_by-append (λ (t : Told). counts t.cuts) x.told y.told);
    is = (λ i. x.is i ++ y.is i) ∙ sym (flat_map-append (λ (t : Told). t.rows) x.told y.told);
  }

  -- one more
  one_told : (x : A) (words : List Row) (b : Bool) → Tells x (record { rows = words; cuts = b }) → AreToldBy Tells (x ∷ []) (counts b) words
  one_told x words b is = record { told = record { rows = words; cuts = b } ∷ []; each = (is, tt); counted = omega arith; is = sym (append-nil words) }

  pub more_told : (xs : List A) (x : A) (cuts : ℕ) (rows words : List Row) (b : Bool) → AreToldBy Tells xs cuts rows → Tells x (record { rows = words; cuts = b })
      → (ys : List A) → ys ≡ xs ++ x ∷ [] → (n : ℕ) → n ≡ cuts + counts b → AreToldBy Tells ys n (rows ++ words)
  more_told xs x cuts rows words b are is ys ys_are n n_is =
      let all = told_then xs (x ∷ []) cuts (counts b) rows words are (one_told x words b is) in
      record { told = all.told; each = subst (λ l. AllZip Tells l all.told) (sym ys_are) all.each; counted = n_is ∙ all.counted; is = all.is }

  -- and all of these, with the last row
  pub swept : (last : List A → ℕ → Row) (xs ys : List A) → xs ≡ ys → (cuts : ℕ) (rows : List Row) → AreToldBy Tells xs cuts rows → AreRowsOf Tells last ys (rows ++ last xs cuts ∷ []) cuts
  swept last xs ys e cuts rows are = record {
    told = are.told;
    each = subst (λ l. AllZip Tells l are.told) e are.each;
    counted = are.counted;
    is = λ i. are.is i ++ last (e i) cuts ∷ [];
  }

-- what is told of what a function makes of things is told of these
zip_made : {A B C : Type 0} (R : B → C → Type 0) (f : A → B) (xs : List A) (ys : List C) → AllZip R (map f xs) ys → AllZip (λ x. R (f x)) xs ys
zip_made R f [] [] h = h
zip_made R f [] (y ∷ ys) h = h
zip_made R f (x ∷ xs) [] h = h
zip_made R f (x ∷ xs) (y ∷ ys) h = (h.0, zip_made R f xs ys h.1)

pub told_made : {A B : Type 0} (Tells : B → Told → Type 0) (f : A → B) (xs : List A) (cuts : ℕ) (rows : List Row) → AreToldBy Tells (map f xs) cuts rows → AreToldBy (λ x. Tells (f x)) xs cuts rows
told_made Tells f xs cuts rows are = record { told = are.told; each = zip_made Tells f xs are.told are.each; counted = are.counted; is = are.is }

-- ---- rows that are put
module _ {P : Type 0} (grew : P → P → List Row → Type 0) where
  pub none_put : (p : P) → Puts grew p p []
  none_put p = λ first before h. subst (grew first p) (sym (append-nil before)) h

  pub put_then : (old now new : P) (rows more : List Row) → Puts grew old now rows → Puts grew now new more → Puts grew old new (rows ++ more)
  put_then old now new rows more x y = λ first before h. subst (grew first new) (append_assoc before rows more) (y first (before ++ rows) (x first before h))

-- what follows of the value where there is one
pub if_ok : {A E : Type 0} (r : Result A E) (P Q : A → Type 0) → ((a : A) → P a → Q a) → IfOk r P → IfOk r Q
if_ok (Ok a) P Q f h = f a h
if_ok (Err e) P Q f h = h

-- How what was done with some bytes goes on, whatever the job.
use Rattle.std.proofs.Common.{◌≡◌, ◌≢◌, ℕ, ◌+◌, false, nat_eq, cond, List, [], ◌∷◌, ◌++◌, Option, refl, sym, ap, subst, arith, append_assoc, eq-eqb, length-append}
use Rattle.std.proofs.lemmas.Grind.{common_steps}
use Rattle.std.specs.Io.KnownBytes.{Appends}
use Rattle.std.proofs.KnownBytes.{Appends-nil}
use Rattle.mst_lang.specs.Lines.{drop_cr, last_line}
use Rattle.mst_io.specs.Held.{hold, lines_held}
use Rattle.mst_io.specs.Written.{AppendsFront}
use Rattle.mst_io.proofs.Known.{AppendsFront-after, AppendsFront-longer}
use Rattle.mst_drive.specs.Feeding.{Breaks, BreaksIn, Feeds}

line_first : (last : List ℕ → List (List ℕ)) (p rest : List ℕ) (b : ℕ) → b ≡ 10 → lines_held last p (b ∷ rest) ≡ drop_cr p ∷ lines_held last [] rest
line_first last p rest b e = ap (λ c. cond c (drop_cr p ∷ lines_held last [] rest) (lines_held last (hold p b) rest)) (eq-eqb b 10 e)

not_end : (b : ℕ) → b ≢ 10 → nat_eq b 10 ≡ false
not_end b h = grind (arith, common_steps)

module _ {J : Type 0} (tells : J → ℕ → List (List ℕ) → List ℕ → J → Type 0) where
  pub Feeds-nil : (job : J) (number : ℕ) (part : List ℕ) → Feeds tells job number part [] [] job number part
  Feeds-nil job number part = record { goes = λ last rest more after h. h; few = omega arith }

  pub Feeds-join : (a b c : J) (m n k : ℕ) (p q r xs ys x y : List ℕ) → Feeds tells a m p xs x b n q → Feeds tells b n q ys y c k r → Feeds tells a m p (xs ++ ys) (x ++ y) c k r
  Feeds-join a b c m n k p q r xs ys x y f g = record {
    goes = λ last rest more after h.
        subst (λ l. tells a m (lines_held last p l) ((x ++ y) ++ more) after) (sym (append_assoc xs ys rest))
        (subst (λ t. tells a m (lines_held last p (xs ++ (ys ++ rest))) t after) (sym (append_assoc x y more)) (f.goes last (ys ++ rest) (y ++ more) after (g.goes last rest more after h)));
    few = omega (arith, f.few, g.few, length-append xs ys);
  }

  -- a byte that ends no line
  pub Feeds-byte : (job : J) (number : ℕ) (p : List ℕ) (b : ℕ) → b ≢ 10 → Feeds tells job number p (b ∷ []) [] job number (hold p b)
  Feeds-byte job number p b other = record {
    goes = λ last rest more after h. subst (λ c. tells job number (cond c (drop_cr p ∷ lines_held last [] rest) (lines_held last (hold p b) rest)) more after) (sym (not_end b other)) h;
    few = omega arith;
  }

  -- the byte that ends a line, which the job took
  pub Feeds-line : (old new : J) (number : ℕ) (p text : List ℕ) → ((others : List (List ℕ)) (more : List ℕ) (after : J) → tells new (number + 1) others more after → tells old number (drop_cr p ∷ others) (text ++ more) after)
      → Feeds tells old number p (10 ∷ []) text new (number + 1) []
  Feeds-line old new number p text takes = record {
    goes = λ last rest more after h. subst (λ l. tells old number l (text ++ more) after) (sym (line_first last p rest 10 refl)) (takes (lines_held last [] rest) more after h);
    few = omega arith;
  }

  pub Breaks-line : (a c : Option (List ℕ)) (old : J) (number : ℕ) (p : List ℕ) → ((others : List (List ℕ)) → BreaksIn tells a c old number (drop_cr p ∷ others)) → Breaks tells a c old number p (10 ∷ [])
  Breaks-line a c old number p breaks rest = subst (BreaksIn tells a c old number) (sym (line_first last_line p rest 10 refl)) (breaks (lines_held last_line [] rest))

  -- nothing of it went out
  pub unwritten : (a : Option (List ℕ)) (old : J) (number : ℕ) (lines : List (List ℕ)) → ((text : List ℕ) × (after : J) × tells old number lines text after) → BreaksIn tells a a old number lines
  unwritten a old number lines h = record { text = h.0; after = h.1; told = h.2; front = record { front = []; rest = h.0; whole = refl; written = Appends-nil a } }

  -- a front of what the first line prints went out
  pub first_front : (a c : Option (List ℕ)) (old new : J) (number : ℕ) (line text : List ℕ) (others : List (List ℕ))
      → ((others : List (List ℕ)) (more : List ℕ) (after : J) → tells new (number + 1) others more after → tells old number (line ∷ others) (text ++ more) after)
      → ((text : List ℕ) × (after : J) × tells new (number + 1) others text after) → AppendsFront a c text → BreaksIn tells a c old number (line ∷ others)
  first_front a c old new number line text others takes h front = record { text = text ++ h.0; after = h.1; told = takes others h.0 h.1 h.2; front = AppendsFront-longer a c text h.0 front }

  pub Breaks-after : (a b c : Option (List ℕ)) (old job : J) (m n : ℕ) (p q xs ys x : List ℕ) → Feeds tells old m p xs x job n q → Appends a b x → Breaks tells b c job n q ys → Breaks tells a c old m p (xs ++ ys)
  Breaks-after a b c old job m n p q xs ys x f went breaks rest =
      let r = breaks rest in
      record {
        text = x ++ r.text;
        after = r.after;
        told = subst (λ l. tells old m (lines_held last_line p l) (x ++ r.text) r.after) (sym (append_assoc xs ys rest)) (f.goes last_line (ys ++ rest) r.text r.after r.told);
        front = AppendsFront-after a b c x r.text went r.front;
      }

  pub Breaks-longer : (a c : Option (List ℕ)) (old : J) (number : ℕ) (p ys zs : List ℕ) → Breaks tells a c old number p ys → Breaks tells a c old number p (ys ++ zs)
  Breaks-longer a c old number p ys zs breaks rest = subst (λ l. BreaksIn tells a c old number (lines_held last_line p l)) (sym (append_assoc ys zs rest)) (breaks (zs ++ rest))

-- The trees that are marked for a record.
use Rattle.std.proofs.Common.{◌≡◌, ◌<◌, ℕ, zero, suc, ◌+◌, ◌/◌, ◌%◌, ◌&&◌, Bool, true, false, cond, List, [], ◌∷◌, length, set, get_or, Option, Some, None, refl, ap, sym, subst, ◌∙◌, replicate, arith, true≢false}
use Rattle.std.specs.Option.{unwrap_or}
use Rattle.std.specs.Map.{lookup}
use Rattle.std.specs.Prelude.{slice_index_or}
use Rattle.std.proofs.lemmas.List.{get_or-set_other, length-set}
use Rattle.std.proofs.lemmas.Grind.{get_or-set_at}
use Rattle.mst_records.specs.Blocks.{in_block, is_marked, with_tree, no_marks}

-- each place of a list of one value has that value
pub at_any : {X : Type 0} (n i : ℕ) (x : X) → slice_index_or (replicate n x) i x ≡ x
at_any zero i x = refl
at_any (suc n) zero x = refl
at_any (suc n) (suc i) x = at_any n i x

pub none_marked : (tree : ℕ) → in_block no_marks tree ≡ false
none_marked tree = ap (λ b. b && slice_index_or no_marks (64 + tree % 64) false) (at_any 128 (tree / 64) false)

-- a flag that is set stays so where another is
set_still : (flags : List Bool) (i j : ℕ) → get_or flags j false ≡ true → get_or (set flags i true) j false ≡ true
set_still [] i j h = absurd (true≢false (sym h))
set_still (flag ∷ flags) zero zero h = refl
set_still (flag ∷ flags) zero (suc j) h = h
set_still (flag ∷ flags) (suc i) zero h = h
set_still (flag ∷ flags) (suc i) (suc j) h = set_still flags i j h

both : (a b c d : Bool) → (a ≡ true → c ≡ true) → (b ≡ true → d ≡ true) → (a && b) ≡ true → (c && d) ≡ true
both true true c d f g h = ap (λ x. x && d) (f refl) ∙ g refl
both true false c d f g h = absurd (true≢false (sym h))
both false b c d f g h = absurd (true≢false (sym h))

-- what is marked still is with one more tree
pub still_with : (flags : List Bool) (tree other : ℕ) → in_block flags other ≡ true → in_block (with_tree flags tree) other ≡ true
still_with flags tree other h =
    both (get_or flags (other / 64) false) (get_or flags (64 + other % 64) false) (get_or (with_tree flags tree) (other / 64) false) (get_or (with_tree flags tree) (64 + other % 64) false)
    (λ block. set_still (set flags (tree / 64) true) (64 + tree % 64) (other / 64) (set_still flags (tree / 64) (other / 64) block))
    (λ place. set_still (set flags (tree / 64) true) (64 + tree % 64) (64 + other % 64) (set_still flags (tree / 64) (64 + other % 64) place)) h

-- and the tree is
pub now_with : (flags : List Bool) (tree : ℕ) → length flags ≡ 128 → tree < 4096 → in_block (with_tree flags tree) tree ≡ true
now_with flags tree long small =
    let b = tree / 64 in
    let p = 64 + tree % 64 in
    let block : get_or (with_tree flags tree) b false ≡ true = get_or-set_other (set flags b true) p b true false (λ same. omega (arith, same, small)) ∙ get_or-set_at flags b b true false refl (subst (λ n. b < n) (sym long) (omega (arith, small))) in
    let place : get_or (with_tree flags tree) p false ≡ true = get_or-set_at (set flags b true) p p true false refl (subst (λ n. p < n) (sym (length-set flags b true ∙ long)) (omega arith)) in
    ap (λ x. x && get_or (with_tree flags tree) p false) block ∙ place

-- of a block that has no flag no tree is marked
pub not_in : (flags : List Bool) (tree other : ℕ) → slice_index_or flags (tree / 64) false ≡ false → other / 64 ≡ tree / 64 → in_block flags other ≡ false
not_in flags tree other none same = ap (λ b. b && slice_index_or flags (64 + other % 64) false) (ap (λ block. slice_index_or flags block false) same ∙ none)

-- the flags that are kept, or none
pub flags_or : (o : Option (List Bool)) (none : List Bool) → ((tree : ℕ) → in_block none tree ≡ false) → (tree : ℕ) → in_block (unwrap_or o none) tree ≡ in_block (unwrap_or o []) tree
flags_or None none h tree = h tree
flags_or (Some flags) none h tree = refl

-- what is marked where other flags are kept under a key
module _ {K : Type 0} (eq : K → K → Bool) (old new : List (K × List Bool)) (key q : K) (flags : List Bool) (kept : lookup (eq q) new ≡ cond (eq key q) (Some flags) (lookup (eq q) old)) where
  pub marked_here : (tree : ℕ) → in_block flags tree ≡ true → eq key q ≡ true → is_marked eq new q tree ≡ true
  marked_here tree is here = ap (λ o. in_block (unwrap_or o []) tree) (kept ∙ ap (λ t. cond t (Some flags) (lookup (eq q) old)) here) ∙ is

  pub marked_still : (other : ℕ) → (is_marked eq old key other ≡ true → in_block flags other ≡ true)
      → cond (eq key q) (is_marked eq old key other) (is_marked eq old q other) ≡ true → is_marked eq new q other ≡ true
  marked_still other grows = by (eq key q) kept
    where
      by : (t : Bool) → lookup (eq q) new ≡ cond t (Some flags) (lookup (eq q) old) → cond t (is_marked eq old key other) (is_marked eq old q other) ≡ true → is_marked eq new q other ≡ true
      by true is h = ap (λ o. in_block (unwrap_or o []) other) is ∙ grows h
      by false is h = ap (λ o. in_block (unwrap_or o []) other) is ∙ h

-- A list in which each parent stands before its children is a forest.
use Rattle.std.proofs.Common.{◌≡◌, ◌≢◌, inl, inr, sym, ◌∙◌, ℕ, zero, suc, ◌<◌, List, [], ◌∷◌, ◌++◌, length, get_or, Option, Some, None, arith, length-append}
use Rattle.std.proofs.lemmas.List.{get_or_append_left, get_or_push}
use Rattle.mst_note_text.specs.Places.{IsParent, IsForest}
use Rattle.mst_note_text.specs.declared.parent.Parent.{Parent}
use Rattle.mst_note_text.proofs.Down.{same_place}

pub has_place : (parents : List (Option Parent)) (n : ℕ) (p : Parent) → IsParent parents n p → n < length parents
has_place [] n p s = cc
has_place (x ∷ parents) zero p s = omega arith
has_place (x ∷ parents) (suc n) p s = let h = has_place parents n p s in omega arith

-- each parent stands before the bridge
abbrev pub StandsBefore : List (Option Parent) → Type 0
StandsBefore parents = (n : ℕ) (p : Parent) → IsParent parents n p → p.place < n

pub forest : (parents : List (Option Parent)) → StandsBefore parents → IsForest parents
forest parents before = record {
  height = λ n. n;
  in_list = λ n p s. (let low = has_place parents n p s in let h = before n p s in omega arith);
  falls = λ n p s. before n p s;
}

pub stands_more : (parents more : List (Option Parent)) (x : Option Parent) → more ≡ parents ++ x ∷ [] → StandsBefore parents → ((p : Parent) → x ≡ Some p → p.place < length parents) → StandsBefore more
stands_more parents more x is before last n p s = elim (same_place n (length parents)) [
  | inl e ↦ (let at : get_or (parents ++ x ∷ []) n None ≡ x = get_or_push parents x None n (sym e) in let h = last p (sym at ∙ (rw is at s)) in omega arith)
  | inr differ ↦ (let low = has_place (parents ++ x ∷ []) n p (rw is at s) in let below = within n low differ in before n p (sym (get_or_append_left parents (x ∷ []) None n below) ∙ (rw is at s)))
]
  where
    within : (n : ℕ) → n < length (parents ++ x ∷ []) → n ≢ length parents → n < length parents
    within n low differ = let e = length-append parents (x ∷ []) in omega arith

pub stands_none : (parents : List (Option Parent)) → parents ≡ [] → StandsBefore parents
stands_none parents empty n p s = (let none : IsParent [] n p = rw empty at s in cc)

-- The values of the items of a list, one behind another.
use Rattle.std.proofs.Common.{◌≡◌, ℕ, ◌+◌, ◌<◌, ◌&&◌, Bool, true, false, cond, is_some, is_ok, List, [], ◌∷◌, ◌++◌, length, get_or, drop, Option, Some, None, refl, sym, ap, ◌∙◌, append_assoc, arith}
use Rattle.std.proofs.lemmas.List.{append-nil, at_drop_more, at_drop_all}
use Rattle.std.specs.Option.{option_map, option_and_then, ok_or}
use Rattle.std.specs.List.{list_all}
use Rattle.mst_policy.specs.Arguments.{all_values}

-- some values, and those of further items behind them
abbrev pub with_values : {A : Type 0} → (List ℕ → Option A) → List A → List (List ℕ) → Option (List A)
with_values value made items = option_map (λ others. made ++ others) (all_values value items)

-- behind no values
pub with_values-none : {A : Type 0} (value : List ℕ → Option A) (made : List A) (items : List (List ℕ)) → made ≡ [] → with_values value made items ≡ all_values value items
with_values-none {A} value made items is = ap (λ m. with_values value m items) is ∙ go (all_values value items)
  where
    go : (o : Option (List A)) → option_map (λ others. [] ++ others) o ≡ o
    go None = refl
    go (Some others) = refl

-- no items
with_values-nil : {A : Type 0} (value : List ℕ → Option A) (made : List A) → with_values value made [] ≡ Some made
with_values-nil value made = ap Some (append-nil made)

-- an item that has no value
with_values-bad : {A : Type 0} (value : List ℕ → Option A) (made : List A) (item : List ℕ) (items : List (List ℕ)) → value item ≡ None → with_values value made (item ∷ items) ≡ None
with_values-bad value made item items bad = ap (λ o. option_map (λ others. made ++ others) (option_and_then (λ first. option_map (λ others. first ∷ others) (all_values value items)) o)) bad

-- an item that has one
with_values-cons : {A : Type 0} (value : List ℕ → Option A) (made more : List A) (x : A) (item : List ℕ) (items : List (List ℕ)) → value item ≡ Some x → more ≡ made ++ x ∷ [] → with_values value made (item ∷ items) ≡ with_values value more items
with_values-cons {A} value made more x item items has is =
    ap (λ o. option_map (λ others. made ++ others) (option_and_then (λ first. option_map (λ others. first ∷ others) (all_values value items)) o)) has
    ∙ go (all_values value items)
  where
    go : (o : Option (List A)) → option_map (λ others. made ++ others) (option_map (λ others. x ∷ others) o) ≡ option_map (λ others. more ++ others) o
    go None = refl
    go (Some others) = ap Some (sym (ap (λ m. m ++ others) is ∙ append_assoc made (x ∷ []) others))

-- ---- the items in order: the n-th has no value, or has one, or there is none
pub bad_item : {A : Type 0} (value : List ℕ → Option A) (made : List A) (items : List (List ℕ)) (item : List ℕ) (n : ℕ) → (n < length items) × (item ≡ get_or items n item) → value item ≡ None → with_values value made (drop n items) ≡ all_values value items → all_values value items ≡ None
bad_item value made items item n is bad whole =
    sym whole
    ∙ at_drop_more (with_values value made) items n item is.0
    ∙ ap (λ x. with_values value made (x ∷ drop (n + 1) items)) (sym is.1)
    ∙ with_values-bad value made item (drop (n + 1) items) bad

pub good_item : {A : Type 0} (value : List ℕ → Option A) (made more : List A) (x : A) (items : List (List ℕ)) (item : List ℕ) (n m : ℕ) → m ≡ n + 1 → (n < length items) × (item ≡ get_or items n item) → value item ≡ Some x → more ≡ made ++ x ∷ [] → with_values value made (drop n items) ≡ all_values value items → with_values value more (drop m items) ≡ all_values value items
good_item value made more x items item n m next is has adds whole =
    ap (λ k. with_values value more (drop k items)) next
    ∙ sym (with_values-cons value made more x item (drop (n + 1) items) has adds)
    ∙ ap (λ y. with_values value made (y ∷ drop (n + 1) items)) is.1
    ∙ sym (at_drop_more (with_values value made) items n item is.0)
    ∙ whole

pub all_items : {A : Type 0} (value : List ℕ → Option A) (made : List A) (items : List (List ℕ)) (n : ℕ) → n ≡ length items → with_values value made (drop n items) ≡ all_values value items → all_values value items ≡ Some made
all_items value made items n is whole =
    sym whole ∙ at_drop_all (with_values value made) items n (omega arith) ∙ with_values-nil value made

-- ---- whether there is a value of a list
pub there_where : {A F : Type 0} (b : Bool) (a : A) (fault : F) → is_ok (ok_or (cond b (Some a) None) fault) ≡ b
there_where true a fault = refl
there_where false a fault = refl

-- of an item and of those behind it
one_there : {A F : Type 0} (o : Option A) (all : Option (List A)) (fault : F) (b : Bool) → is_ok (ok_or all fault) ≡ b → is_ok (ok_or (option_and_then (λ first. option_map (λ others. first ∷ others) all) o) fault) ≡ (is_some o && b)
one_there None all fault b same = refl
one_there (Some a) None fault b same = same
one_there (Some a) (Some others) fault b same = same

pub values_there : {A F : Type 0} (value : List ℕ → Option A) (fault : F) (items : List (List ℕ)) → is_ok (ok_or (all_values value items) fault) ≡ list_all (λ item. is_some (value item)) items
values_there value fault [] = refl
values_there value fault (item ∷ items) = one_there (value item) (all_values value items) fault (list_all (λ i. is_some (value i)) items) (values_there value fault items)

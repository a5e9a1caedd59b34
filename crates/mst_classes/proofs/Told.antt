-- Numbers that tell the VIDs of sets apart, where each set that is given again is passed.
use Rattle.std.proofs.Common.{◌≡◌, ℕ, ◌+◌, ◌<◌, Bool, true, false, cond, not, List, [], ◌∷◌, ◌++◌, length, take, get_or, sym, ap, subst}
use Rattle.std.specs.Bool.{beq}
use Rattle.std.specs.Cmp.{booleans_Decides}
use Rattle.std.specs.Cmp.Lexicographic.{pointwise, pointwise_decides}
use Rattle.std.specs.List.{AllByRecursion, Contains, list_any}
use Rattle.std.proofs.lemmas.List.Elements.{Contains-append_left, Contains-push}
use Rattle.mst_ids.specs.Vids.{has}
use Rattle.mst_classes.specs.Alike.{IsSplit, SplitBySets}
use Rattle.mst_classes.specs.Splitting.{AreApart, IsReady}
use Rattle.mst_classes.specs.declared.splitting.Splitting.{Splitting}
use Rattle.mst_view.proofs.Lists.{all_weaker, all_of, all_pushed}
use Rattle.mst_classes.proofs.Gathered.{all_contained, met_more, known_same, known_there, new_pushed}

-- the sets so far were met, and each that was met split the numbers
pub record SplitByMet (sets : List (List Bool)) (first : List ℕ) (met : List (List Bool)) (s : Splitting) : Type 0 where
  pub ready : IsReady s
  pub told : SplitBySets met first s.numbers.items
  pub there : AllByRecursion (Contains met) sets

-- equal sets are the same
pub same_sets : (a b : List Bool) → pointwise beq a b ≡ true → a ≡ b
same_sets a b e = (pointwise_decides booleans_Decides a b).0 e

-- none yet
pub none_met : (s : Splitting) → IsReady s → SplitByMet [] s.numbers.items [] s
none_met s ready = record { ready = ready; told = record { as_long = ready.as_long; finer = λ i j li lj e. (e, tt) }; there = tt }

-- one more
set_pushed : (sets : List (List Bool)) (set : List Bool) (first numbers split : List ℕ) → SplitBySets sets first numbers → IsSplit (has set) numbers split → SplitBySets (sets ++ set ∷ []) first split
set_pushed sets set first numbers split told new = record {
  as_long = new.as_long;
  finer = λ i j li lj e.
      let finer = new.finer i j li lj e in
      let before = told.finer i j li lj finer.0 in
      (before.0, all_pushed (λ set. has set (i + 1) ≡ has set (j + 1)) sets set before.1 finer.1);
}

module _ (sets : List (List Bool)) (k : ℕ) (set : List Bool) (l : k < length sets) (is : set ≡ get_or sets k set) (first : List ℕ) (old new : List (List Bool)) (is_new : Bool)
    (are : new ≡ cond (list_any (pointwise beq set) old) old (old ++ set ∷ [])) (told : is_new ≡ not (list_any (pointwise beq set) old)) (s t : Splitting) (m : SplitByMet (take k sets) first old s) where
  pub new_met : is_new ≡ true → IsReady t → IsSplit (has set) s.numbers.items t.numbers.items → SplitByMet (take (k + 1) sets) first new t
  new_met e ready split =
      subst (λ new. SplitByMet (take (k + 1) sets) first new t) (sym (new_pushed (pointwise beq) same_sets old new set is_new are told e)) (record {
        ready = ready;
        told = set_pushed old set first s.numbers.items t.numbers.items m.told split;
        there = met_more (λ (set : List Bool). set) sets k set l is old (old ++ set ∷ []) (λ y. Contains-append_left old (set ∷ []) y) (Contains-push old set) m.there;
      })

  pub known_met : is_new ≡ false → SplitByMet (take (k + 1) sets) first new s
  known_met e =
      subst (λ new. SplitByMet (take (k + 1) sets) first new s) (sym (known_same (pointwise beq) same_sets old new set is_new are told e)) (record {
        ready = m.ready;
        told = m.told;
        there = met_more (λ (set : List Bool). set) sets k set l is old old (λ y h. h) (known_there (pointwise beq) same_sets old new set is_new are told e) m.there;
      })

-- and all
pub all_told : (sets met : List (List Bool)) (first : List ℕ) (s : Splitting) → SplitByMet sets first met s → SplitBySets sets first s.numbers.items
all_told sets met first s m = record {
  as_long = m.told.as_long;
  finer = λ i j li lj e.
      let finer = m.told.finer i j li lj e in
      (finer.0, all_weaker _ _ (λ set there. all_contained (λ set. has set (i + 1) ≡ has set (j + 1)) met set finer.1 there) sets m.there);
}

-- numbers that are all apart tell all apart
pub apart_told : (sets : List (List Bool)) (first numbers : List ℕ) → length numbers ≡ 4094 → AreApart numbers → SplitBySets sets first numbers
apart_told sets first numbers long apart = record {
  as_long = long;
  finer = λ i j li lj e. let same = apart i j li lj e in (ap (λ k. get_or first k 0) same, all_of (λ set. has set (i + 1) ≡ has set (j + 1)) (λ set. ap (λ k. has set (k + 1)) same) sets);
}

-- A table of slots by number: what it has at a number is in that number's slot.
use Rattle.std.proofs.Common.{◌≡◌, ℕ, zero, suc, ◌+◌, ◌<◌, ◌≤◌, List, [], ◌∷◌, ◌++◌, length, take, replicate, slice_index_or, slice_set, Option, Some, None, IsSome, refl, sym, ◌∙◌, ap, inl, inr, arith, get_or-set_same, get_or-set_other, Less, Equal, Greater}
use Rattle.std.specs.List.{AllByRecursion}
use Rattle.std.specs.List.Sorted.{IsStrictlySortedBy}
use Rattle.std.specs.Map.{keys_of}
use Rattle.std.specs.declared.cmp.Ordering.{Ordering}
use Rattle.std.specs.Ordering.{nat_cmp, MatchOrdering}
use Rattle.std.proofs.lemmas.Cmp.{ranked}
use Rattle.mst_topology.specs.ByNumber.{entries_from}
use Rattle.mst_topology.specs.Places.{in_map, HasRoomAt}
use Rattle.mst_topology.specs.Settling.{IsPut}
use Rattle.mst_topology.proofs.Entries.{same_or_other}

-- what numbers compare to
below_less : (k n : ℕ) → k < n → nat_cmp k n ≡ Less
below_less k n l = go (nat_cmp k n) (ranked k n (nat_cmp k n) refl)
  where
    go : (r : Ordering) → MatchOrdering r (k < n) (k ≡ n) (n < k) → r ≡ Less
    go Less h = refl
    go Equal h = absurd (omega arith)
    go Greater h = absurd (omega arith)

equal_itself : (n : ℕ) → nat_cmp n n ≡ Equal
equal_itself n = go (nat_cmp n n) (ranked n n (nat_cmp n n) refl)
  where
    go : (r : Ordering) → MatchOrdering r (n < n) (n ≡ n) (n < n) → r ≡ Equal
    go Less h = absurd (omega arith)
    go Equal h = refl
    go Greater h = absurd (omega arith)

above_greater : (k n : ℕ) → n < k → nat_cmp k n ≡ Greater
above_greater k n l = go (nat_cmp k n) (ranked k n (nat_cmp k n) refl)
  where
    go : (r : Ordering) → MatchOrdering r (k < n) (k ≡ n) (n < k) → r ≡ Greater
    go Less h = absurd (omega arith)
    go Equal h = absurd (omega arith)
    go Greater h = refl

sorted_cons : (n : ℕ) (ns : List ℕ) → AllByRecursion (λ j. nat_cmp n j ≡ Less) ns → IsStrictlySortedBy nat_cmp ns → IsStrictlySortedBy nat_cmp (n ∷ ns)
unfolding IsStrictlySortedBy
sorted_cons n ns above sorted = (above, sorted)

module _ {T : Type 0} where
  -- no number below the first has a slot
  none_before : (k n : ℕ) (slots : List (Option T)) → k < n → in_map (entries_from n slots) k ≡ None
  none_before k n [] l = refl
  none_before k n (None ∷ slots) l = none_before k (n + 1) slots (omega arith)
  none_before k n (Some x ∷ slots) l = rw (below_less k n l) (none_before k (n + 1) slots (omega arith))

  entry_is : (i k n : ℕ) (slots : List (Option T)) → k ≡ n + i → in_map (entries_from n slots) k ≡ slice_index_or slots i None
  entry_is i k n [] e = refl
  entry_is zero k n (None ∷ slots) e = none_before k (n + 1) slots (omega arith)
  entry_is zero k n (Some x ∷ slots) e = let same : k ≡ n = omega arith in rw (same, equal_itself n) refl
  entry_is (suc i) k n (None ∷ slots) e = entry_is i k (n + 1) slots (omega arith)
  entry_is (suc i) k n (Some x ∷ slots) e = rw (above_greater k n (omega arith)) (entry_is i k (n + 1) slots (omega arith))

  pub slot_is : (k : ℕ) (slots : List (Option T)) → in_map (entries_from 0 slots) k ≡ slice_index_or slots k None
  slot_is k slots = entry_is k k 0 slots (omega arith)

  -- a number past the slots
  pub no_slot : (k : ℕ) (slots : List (Option T)) → length slots ≤ k → in_map (entries_from 0 slots) k ≡ None
  no_slot k slots l = slot_is k slots ∙ past k slots l
    where
      past : (k : ℕ) (slots : List (Option T)) → length slots ≤ k → slice_index_or slots k None ≡ None
      past k [] l = refl
      past zero (x ∷ slots) l = absurd (omega arith)
      past (suc k) (x ∷ slots) l = past k slots (omega arith)

  -- a number with a value has a slot
  pub slot_there : (k : ℕ) (slots : List (Option T)) → HasRoomAt (entries_from 0 slots) k → k < length slots
  slot_there k slots room = low k slots (rw (slot_is k slots) at room)
    where
      low : (k : ℕ) (slots : List (Option T)) → IsSome (slice_index_or slots k None) → k < length slots
      low k [] h = cc
      low zero (x ∷ slots) h = omega arith
      low (suc k) (x ∷ slots) h = let rest = low k slots h in omega arith

  -- a slot that is written
  pub slot_put : (k : ℕ) (slots : List (Option T)) (x : T) → k < length slots → IsPut (in_map (entries_from 0 slots)) k x (in_map (entries_from 0 (slice_set slots k (Some x))))
  slot_put k slots x l n = elim (same_or_other n k) [
    | inl e ↦ inl (e, rw e (slot_is k (slice_set slots k (Some x)) ∙ get_or-set_same slots k (Some x) None l))
    | inr e ↦ inr (e, slot_is n (slice_set slots k (Some x)) ∙ get_or-set_other slots k n (Some x) None e ∙ sym (slot_is n slots))
  ]

  keys_from : (i n : ℕ) (slots : List (Option T)) (x : T) → IsSome (slice_index_or slots i None) → keys_of (entries_from n (slice_set slots i (Some x))) ≡ keys_of (entries_from n slots)
  keys_from i n [] x h = cc
  keys_from zero n (None ∷ slots) x h = cc
  keys_from zero n (Some y ∷ slots) x h = refl
  keys_from (suc i) n (None ∷ slots) x h = keys_from i (n + 1) slots x h
  keys_from (suc i) n (Some y ∷ slots) x h = ap (λ ks. n ∷ ks) (keys_from i (n + 1) slots x h)

  pub slot_keys : (k : ℕ) (slots : List (Option T)) (x : T) → HasRoomAt (entries_from 0 slots) k → keys_of (entries_from 0 (slice_set slots k (Some x))) ≡ keys_of (entries_from 0 slots)
  slot_keys k slots x room = keys_from k 0 slots x (rw (slot_is k slots) at room)

  -- more slots that are empty
  empty_from : (more n : ℕ) → entries_from {T = T} n (replicate more None) ≡ []
  empty_from zero n = refl
  empty_from (suc more) n = empty_from more (n + 1)

  pub more_slots : (n : ℕ) (slots : List (Option T)) (more : ℕ) → entries_from n (slots ++ replicate more None) ≡ entries_from n slots
  more_slots n [] more = empty_from more n
  more_slots n (None ∷ slots) more = more_slots (n + 1) slots more
  more_slots n (Some x ∷ slots) more = ap (λ es. (n, x) ∷ es) (more_slots (n + 1) slots more)

  take_whole : (n : ℕ) (slots : List (Option T)) → length slots ≤ n → take n slots ≡ slots
  take_whole zero [] l = refl
  take_whole (suc n) [] l = refl
  take_whole zero (x ∷ slots) l = absurd (omega arith)
  take_whole (suc n) (x ∷ slots) l = ap (λ xs. x ∷ xs) (take_whole n slots (omega arith))

  pub grown_same : (slots grown : List (Option T)) (n more : ℕ) → length slots ≤ n → grown ≡ take n slots ++ replicate more None → entries_from 0 grown ≡ entries_from 0 slots
  grown_same slots grown n more l e = ap (entries_from 0) (e ∙ ap (λ xs. xs ++ replicate more None) (take_whole n slots l)) ∙ more_slots 0 slots more

  -- numbers ascend, and there are no more than slots
  all_above : (k n : ℕ) (slots : List (Option T)) → k < n → AllByRecursion (λ j. nat_cmp k j ≡ Less) (keys_of (entries_from n slots))
  all_above k n [] l = tt
  all_above k n (None ∷ slots) l = all_above k (n + 1) slots (omega arith)
  all_above k n (Some x ∷ slots) l = (below_less k n l, all_above k (n + 1) slots (omega arith))

  pub slots_sorted : (n : ℕ) (slots : List (Option T)) → IsStrictlySortedBy nat_cmp (keys_of (entries_from n slots))
  slots_sorted n [] = unfold IsStrictlySortedBy in tt
  slots_sorted n (None ∷ slots) = slots_sorted (n + 1) slots
  slots_sorted n (Some x ∷ slots) = sorted_cons n (keys_of (entries_from (n + 1) slots)) (all_above n (n + 1) slots (omega arith)) (slots_sorted (n + 1) slots)

  pub slots_few : (n : ℕ) (slots : List (Option T)) → length (entries_from n slots) ≤ length slots
  slots_few n [] = omega arith
  slots_few n (None ∷ slots) = let rest = slots_few (n + 1) slots in omega arith
  slots_few n (Some x ∷ slots) = let rest = slots_few (n + 1) slots in omega arith

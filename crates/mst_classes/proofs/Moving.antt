-- The VIDs of a set get other numbers, VID after VID.
use Rattle.std.proofs.Common.{◌≡◌, ◌≢◌, ℕ, ◌+◌, ◌<◌, ◌≤◌, ◌⊎◌, inl, inr, Bool, true, false, List, length, get_or, set, sym, ap, subst, ◌∙◌, arith, true≢false}
use Rattle.std.proofs.lemmas.Bool.{cases_lt, cases_eq, cases_Bool}
use Rattle.std.proofs.lemmas.List.{length-set, get_or-set_same, get_or-set_other, get_or_past}
use Rattle.mst_ids.specs.Vids.{has}
use Rattle.mst_classes.specs.Alike.{IsSplit}
use Rattle.mst_classes.specs.Splitting.{IsKnown, IsFresh, IsReady, IsReadyFor}
use Rattle.mst_classes.specs.declared.splitting.Splitting.{Splitting}

-- the VIDs of the set below this one have numbers that were given since the start
pub record MovedBelow (vids : List Bool) (start : ℕ) (old : List ℕ) (s : Splitting) (vid : ℕ) : Type 0 where
  pub as_long : length s.numbers.items ≡ 4094
  pub room : length s.given.items ≡ 16384
  pub some : 0 < start
  pub since : start ≤ s.next
  pub few : s.next + 1 ≤ start + vid
  pub within : (i : ℕ) → get_or old i 0 < 16384
  pub others : (i : ℕ) → i < 4094 → has vids (i + 1) ≡ false → get_or s.numbers.items i 0 ≡ get_or old i 0
  pub later : (i : ℕ) → i < 4094 → vid ≤ i + 1 → get_or s.numbers.items i 0 ≡ get_or old i 0
  pub members : (i : ℕ) → i < 4094 → i + 1 < vid → has vids (i + 1) ≡ true → (start ≤ get_or s.numbers.items i 0) × (get_or s.given.items (get_or old i 0) 0 ≡ get_or s.numbers.items i 0)
  pub given_below : (n : ℕ) → get_or s.given.items n 0 < s.next
  pub apart : (n m : ℕ) → start ≤ get_or s.given.items n 0 → get_or s.given.items n 0 ≡ get_or s.given.items m 0 → n ≡ m

-- none at first
pub none_moved : (vids : List Bool) (s : Splitting) → IsReadyFor vids s → MovedBelow vids s.next s.numbers.items s 1
none_moved vids s r = record {
  as_long = r.as_long;
  room = r.room;
  some = r.some;
  since = omega arith;
  few = omega arith;
  within = r.within;
  others = λ i l e. λ k. get_or s.numbers.items i 0;
  later = λ i l e. λ k. get_or s.numbers.items i 0;
  members = λ i l below e. absurd (omega arith);
  given_below = r.given_below;
  apart = λ n m since e. let below : get_or s.given.items n 0 < s.next = r.given_below n in absurd (omega arith);
}

-- none of the set is among those that are passed
pub passed : (vids : List Bool) (start : ℕ) (old : List ℕ) (s : Splitting) (i j : ℕ) → i ≤ j → ((n : ℕ) → i ≤ n → n < j → n < 4095 → has vids n ≡ false) → MovedBelow vids start old s i → MovedBelow vids start old s j
passed vids start old s i j order none m = record {
  as_long = m.as_long;
  room = m.room;
  some = m.some;
  since = m.since;
  few = let few : s.next + 1 ≤ start + i = m.few in omega arith;
  within = m.within;
  others = m.others;
  later = λ k l e. m.later k l (omega arith);
  members = λ k l below e. by k l below e (cases_lt (k + 1) i);
  given_below = m.given_below;
  apart = m.apart;
}
  where
    by : (k : ℕ) → k < 4094 → k + 1 < j → has vids (k + 1) ≡ true → (k + 1 < i) ⊎ (i ≤ k + 1) → (start ≤ get_or s.numbers.items k 0) × (get_or s.given.items (get_or old k 0) 0 ≡ get_or s.numbers.items k 0)
    by k l below e (inl less) = m.members k l less e
    by k l below e (inr more) = absurd (true≢false (sym e ∙ none (k + 1) more below (omega arith)))

module _ (vids : List Bool) (start : ℕ) (old : List ℕ) (s t : Splitting) (place : ℕ) (l : place < 4094) (member : has vids (place + 1) ≡ true) (m : MovedBelow vids start old s (place + 1)) where
  own : get_or s.numbers.items place 0 ≡ get_or old place 0
  own = m.later place l (omega arith)

  long : place < length s.numbers.items
  long = subst (λ n. place < n) (sym m.as_long) l

  -- its number was met
  module _ (k : IsKnown place start s t) where
    abbrev number : ℕ
    number = get_or s.given.items (get_or s.numbers.items place 0) 0

    here : (i : ℕ) → i ≡ place → get_or t.numbers.items i 0 ≡ number
    here i e = ap (λ xs. get_or xs i 0) k.numbers ∙ ap (λ n. get_or (set s.numbers.items place number) n 0) e ∙ get_or-set_same s.numbers.items place number 0 long

    other : (i : ℕ) → i ≢ place → get_or t.numbers.items i 0 ≡ get_or s.numbers.items i 0
    other i e = ap (λ xs. get_or xs i 0) k.numbers ∙ get_or-set_other s.numbers.items place i number 0 e

    given_same : (n : ℕ) → get_or t.given.items n 0 ≡ get_or s.given.items n 0
    given_same n = ap (λ xs. get_or xs n 0) k.given

    known_members : (i : ℕ) → i < 4094 → i + 1 < place + 2 → has vids (i + 1) ≡ true → (i ≡ place) ⊎ (i ≢ place) → (start ≤ get_or t.numbers.items i 0) × (get_or t.given.items (get_or old i 0) 0 ≡ get_or t.numbers.items i 0)
    known_members i li below e (inl is) = (
      subst (λ n. start ≤ n) (sym (here i is)) k.since,
      given_same (get_or old i 0) ∙ ap (λ j. get_or s.given.items (get_or old j 0) 0) is ∙ ap (λ n. get_or s.given.items n 0) (sym own) ∙ sym (here i is),
    )
    known_members i li below e (inr ne) =
        let before = m.members i li (omega (arith, ne)) e in
        (subst (λ n. start ≤ n) (sym (other i ne)) before.0, given_same (get_or old i 0) ∙ before.1 ∙ sym (other i ne))

    pub known_moved : MovedBelow vids start old t (place + 2)
    known_moved = record {
      as_long = ap length k.numbers ∙ length-set s.numbers.items place number ∙ m.as_long;
      room = ap length k.given ∙ m.room;
      some = m.some;
      since = subst (λ n. start ≤ n) (sym k.next) m.since;
      few = let few : s.next + 1 ≤ start + (place + 1) = m.few in let next : t.next ≡ s.next = k.next in omega arith;
      within = m.within;
      others = λ i li e. other i (λ is. true≢false (sym member ∙ ap (λ j. has vids (j + 1)) (sym is) ∙ e)) ∙ m.others i li e;
      later = λ i li e. other i (λ is. omega (arith, is)) ∙ m.later i li (omega arith);
      members = λ i li below e. known_members i li below e (cases_eq i place);
      given_below = λ n. subst (λ x. get_or t.given.items n 0 < x) (sym k.next) (subst (λ x. x < s.next) (sym (given_same n)) (m.given_below n));
      apart = λ n o since e. m.apart n o (subst (λ x. start ≤ x) (given_same n) since) (sym (given_same n) ∙ e ∙ given_same o);
    }

  -- its number is new
  module _ (k : IsFresh place start s t) where
    abbrev was : ℕ
    was = get_or s.numbers.items place 0

    was_within : was < length s.given.items
    was_within = subst (λ n. n < length s.given.items) (sym own) (subst (λ n. get_or old place 0 < n) (sym m.room) (m.within place))

    fresh_here : (i : ℕ) → i ≡ place → get_or t.numbers.items i 0 ≡ s.next
    fresh_here i e = ap (λ xs. get_or xs i 0) k.numbers ∙ ap (λ n. get_or (set s.numbers.items place s.next) n 0) e ∙ get_or-set_same s.numbers.items place s.next 0 long

    fresh_other : (i : ℕ) → i ≢ place → get_or t.numbers.items i 0 ≡ get_or s.numbers.items i 0
    fresh_other i e = ap (λ xs. get_or xs i 0) k.numbers ∙ get_or-set_other s.numbers.items place i s.next 0 e

    given_here : (n : ℕ) → n ≡ was → get_or t.given.items n 0 ≡ s.next
    given_here n e = ap (λ xs. get_or xs n 0) k.given ∙ ap (λ o. get_or (set s.given.items was s.next) o 0) e ∙ get_or-set_same s.given.items was s.next 0 was_within

    given_other : (n : ℕ) → n ≢ was → get_or t.given.items n 0 ≡ get_or s.given.items n 0
    given_other n e = ap (λ xs. get_or xs n 0) k.given ∙ get_or-set_other s.given.items was n s.next 0 e

    fresh_members : (i : ℕ) → i < 4094 → i + 1 < place + 2 → has vids (i + 1) ≡ true → (i ≡ place) ⊎ (i ≢ place) → (start ≤ get_or t.numbers.items i 0) × (get_or t.given.items (get_or old i 0) 0 ≡ get_or t.numbers.items i 0)
    fresh_members i li below e (inl is) = (
      subst (λ n. start ≤ n) (sym (fresh_here i is)) m.since,
      given_here (get_or old i 0) (ap (λ j. get_or old j 0) is ∙ sym own) ∙ sym (fresh_here i is),
    )
    fresh_members i li below e (inr ne) =
        let before = m.members i li (omega (arith, ne)) e in
        -- the number of one before was given since the start
        let apart : get_or old i 0 ≢ was = λ same. let met : start ≤ get_or s.given.items was 0 = subst (λ n. start ≤ get_or s.given.items n 0) same (subst (λ x. start ≤ x) (sym before.1) before.0) in let not : get_or s.given.items was 0 < start = k.before in omega arith in
        (subst (λ n. start ≤ n) (sym (fresh_other i ne)) before.0, given_other (get_or old i 0) apart ∙ before.1 ∙ sym (fresh_other i ne))

    fresh_below : (n : ℕ) → (n ≡ was) ⊎ (n ≢ was) → get_or t.given.items n 0 < t.next
    fresh_below n (inl is) = let here : get_or t.given.items n 0 ≡ s.next = given_here n is in let next : t.next ≡ s.next + 1 = k.next in omega arith
    fresh_below n (inr ne) = let here : get_or t.given.items n 0 ≡ get_or s.given.items n 0 = given_other n ne in let below : get_or s.given.items n 0 < s.next = m.given_below n in let next : t.next ≡ s.next + 1 = k.next in omega arith

    fresh_apart : (n o : ℕ) → (n ≡ was) ⊎ (n ≢ was) → (o ≡ was) ⊎ (o ≢ was) → start ≤ get_or t.given.items n 0 → get_or t.given.items n 0 ≡ get_or t.given.items o 0 → n ≡ o
    fresh_apart n o (inl e) (inl f) since same = e ∙ sym f
    fresh_apart n o (inl e) (inr f) since same =
        let here : get_or t.given.items n 0 ≡ s.next = given_here n e in
        let there : get_or t.given.items o 0 ≡ get_or s.given.items o 0 = given_other o f in
        let below : get_or s.given.items o 0 < s.next = m.given_below o in
        absurd (omega arith)
    fresh_apart n o (inr e) (inl f) since same =
        let here : get_or t.given.items o 0 ≡ s.next = given_here o f in
        let there : get_or t.given.items n 0 ≡ get_or s.given.items n 0 = given_other n e in
        let below : get_or s.given.items n 0 < s.next = m.given_below n in
        absurd (omega arith)
    fresh_apart n o (inr e) (inr f) since same = m.apart n o (subst (λ x. start ≤ x) (given_other n e) since) (sym (given_other n e) ∙ same ∙ given_other o f)

    pub fresh_moved : MovedBelow vids start old t (place + 2)
    fresh_moved = record {
      as_long = ap length k.numbers ∙ length-set s.numbers.items place s.next ∙ m.as_long;
      room = ap length k.given ∙ length-set s.given.items was s.next ∙ m.room;
      some = m.some;
      since = let since : start ≤ s.next = m.since in let next : t.next ≡ s.next + 1 = k.next in omega arith;
      few = let few : s.next + 1 ≤ start + (place + 1) = m.few in let next : t.next ≡ s.next + 1 = k.next in omega arith;
      within = m.within;
      others = λ i li e. fresh_other i (λ is. true≢false (sym member ∙ ap (λ j. has vids (j + 1)) (sym is) ∙ e)) ∙ m.others i li e;
      later = λ i li e. fresh_other i (λ is. omega (arith, is)) ∙ m.later i li (omega arith);
      members = λ i li below e. fresh_members i li below e (cases_eq i place);
      given_below = λ n. fresh_below n (cases_eq n was);
      apart = λ n o. fresh_apart n o (cases_eq n was) (cases_eq o was);
    }

  pub one_moved : IsKnown place start s t ⊎ IsFresh place start s t → MovedBelow vids start old t (place + 2)
  one_moved (inl k) = known_moved k
  one_moved (inr k) = fresh_moved k

-- and all
module _ (vids : List Bool) (first s : Splitting) (ready : IsReadyFor vids first) (m : MovedBelow vids first.next first.numbers.items s 4095) where
  pub all_few : s.next ≤ first.next + 4094
  all_few = let few : s.next + 1 ≤ first.next + 4095 = m.few in omega arith

  number_below : (i : ℕ) → (i < 4094) ⊎ (4094 ≤ i) → (has vids (i + 1) ≡ true) ⊎ (has vids (i + 1) ≡ false) → get_or s.numbers.items i 0 < s.next
  number_below i (inl l) (inl e) = let is : get_or s.given.items (get_or first.numbers.items i 0) 0 ≡ get_or s.numbers.items i 0 = (m.members i l (omega arith) e).1 in subst (λ n. n < s.next) is (m.given_below (get_or first.numbers.items i 0))
  number_below i (inl l) (inr e) =
      let is : get_or s.numbers.items i 0 ≡ get_or first.numbers.items i 0 = m.others i l e in
      let below : get_or first.numbers.items i 0 < first.next = ready.others_below i l e in
      let since : first.next ≤ s.next = m.since in
      omega arith
  number_below i (inr past) e = let none : get_or s.numbers.items i 0 ≡ 0 = get_or_past s.numbers.items i 0 (subst (λ n. n ≤ i) (sym m.as_long) past) in let since : first.next ≤ s.next = m.since in let some : 0 < first.next = m.some in omega arith

  pub all_ready : IsReady s
  all_ready = record {
    as_long = m.as_long;
    room = m.room;
    some = let since : first.next ≤ s.next = m.since in let some : 0 < first.next = m.some in omega arith;
    few = let few : s.next ≤ first.next + 4094 = all_few in let room : first.next ≤ 12290 = ready.few in omega arith;
    below = λ i. number_below i (cases_lt i 4094) (cases_Bool (has vids (i + 1)));
    given_below = m.given_below;
  }

  together : (i j : ℕ) → i < 4094 → j < 4094 → get_or s.numbers.items i 0 ≡ get_or s.numbers.items j 0
      → (has vids (i + 1) ≡ true) ⊎ (has vids (i + 1) ≡ false) → (has vids (j + 1) ≡ true) ⊎ (has vids (j + 1) ≡ false)
      → (get_or first.numbers.items i 0 ≡ get_or first.numbers.items j 0) × (has vids (i + 1) ≡ has vids (j + 1))
  together i j li lj same (inl e) (inl f) =
      let a = m.members i li (omega arith) e in
      let b = m.members j lj (omega arith) f in
      (m.apart (get_or first.numbers.items i 0) (get_or first.numbers.items j 0) (subst (λ x. first.next ≤ x) (sym a.1) a.0) (a.1 ∙ same ∙ sym b.1), e ∙ sym f)
  together i j li lj same (inl e) (inr f) =
      let since : first.next ≤ get_or s.numbers.items i 0 = (m.members i li (omega arith) e).0 in
      let is : get_or s.numbers.items j 0 ≡ get_or first.numbers.items j 0 = m.others j lj f in
      let below : get_or first.numbers.items j 0 < first.next = ready.others_below j lj f in
      absurd (omega arith)
  together i j li lj same (inr e) (inl f) =
      let since : first.next ≤ get_or s.numbers.items j 0 = (m.members j lj (omega arith) f).0 in
      let is : get_or s.numbers.items i 0 ≡ get_or first.numbers.items i 0 = m.others i li e in
      let below : get_or first.numbers.items i 0 < first.next = ready.others_below i li e in
      absurd (omega arith)
  together i j li lj same (inr e) (inr f) = (sym (m.others i li e) ∙ same ∙ m.others j lj f, e ∙ sym f)

  pub all_split : IsSplit (has vids) first.numbers.items s.numbers.items
  all_split = record { as_long = m.as_long; finer = λ i j li lj same. together i j li lj same (cases_Bool (has vids (i + 1))) (cases_Bool (has vids (j + 1))) }

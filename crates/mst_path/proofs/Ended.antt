-- A search from its begin to its end.
use Rattle.std.proofs.Common.{◌≡◌, ◌≢◌, ◌⊎◌, inl, inr, ℕ, zero, suc, ◌+◌, ◌<◌, ◌≤◌, cond, nat_eq, List, [], ◌∷◌, length, get_or, set, refl, sym, ap, ◌∙◌, subst, arith}
use Rattle.std.specs.Prelude.{replicate}
use Rattle.std.specs.List.{Contains, count_by, fold}
use Rattle.std.proofs.lemmas.List.{length-set, length-replicate, get_or-set_same, get_or-set_other}
use Rattle.std.proofs.lemmas.List.Sums.{sum_by-set}
use Rattle.mst_graph.proofs.Cut.{same_or_not}
use Rattle.mst_path.specs.Places.{Touches, AreTouching, Reaches, IsSearched, IsGrown, IsTree}
use Rattle.mst_path.proofs.Searched.{still_reaches}

abbrev pub zeros : ℕ → List ℕ
zeros n = replicate n 0

zero_at : (n x : ℕ) → get_or (zeros n) x 0 ≡ 0
zero_at zero x = refl
zero_at (suc n) zero = refl
zero_at (suc n) (suc x) = zero_at n x

folded : (n a : ℕ) → fold (λ (a x : ℕ). a + cond {A = ℕ} (nat_eq 0 x) 1 0) a (zeros n) ≡ a + n
folded zero a = omega arith
folded (suc n) a = let rest : fold (λ (a x : ℕ). a + cond {A = ℕ} (nat_eq 0 x) 1 0) (a + 1) (zeros n) ≡ a + 1 + n = folded n (a + 1) in rest ∙ (let e : a + 1 + n ≡ a + suc n = omega arith in e)

all_zeros : (n : ℕ) → count_by (nat_eq 0) (zeros n) ≡ n
all_zeros n = folded n 0 ∙ (let e : 0 + n ≡ n = omega arith in e)

counted : (n z z' f g l : ℕ) → z' + f ≡ z + g → f ≡ 1 → g ≡ 0 → z ≡ n → l ≡ n → 1 + z' ≡ l
counted n z z' f g l moved was is all long = omega arith

module _ (bridges lans : List ℕ) (count root : ℕ) (below : root < count) where
  abbrev first_depths : List ℕ
  first_depths = set (zeros count) root 1

  inside : root < length (zeros count)
  inside = let same : length (zeros count) ≡ count = length-replicate count 0 in subst (λ n. root < n) (sym same) below

  long : length first_depths ≡ count
  long = let same : length (zeros count) ≡ count = length-replicate count 0 in length-set (zeros count) root 1 ∙ same

  own : get_or first_depths root 0 ≡ 1
  own = get_or-set_same (zeros count) root 1 0 inside

  other : (x : ℕ) → x ≢ root → get_or first_depths x 0 ≡ 0
  other x n = get_or-set_other (zeros count) root x 1 0 n ∙ zero_at count x

  only : (x : ℕ) → 0 < get_or first_depths x 0 → x ≡ root
  only x h = elim (same_or_not x root) [ inl e ↦ e | inr n ↦ (let z = other x n in absurd (omega arith)) ]

  low : (x : ℕ) → get_or first_depths x 0 ≤ 1
  low x = elim (same_or_not x root) [
    | inl e ↦ (let a : get_or first_depths x 0 ≡ 1 = ap (λ x. get_or first_depths x 0) e ∙ own in omega arith)
    | inr n ↦ (let z = other x n in omega arith)
  ]

  abbrev one : ℕ → ℕ
  one n = cond (nat_eq 0 n) 1 0

  begun_so : IsSearched bridges lans first_depths (root ∷ [])
  begun_so = record {
    leads = λ x h. inl (only x h);
    some = omega arith;
    first = own;
    nodes = λ i h. (let is : i ≡ 0 = omega arith in subst (λ i. get_or (root ∷ []) i 0 < length first_depths) (sym is) (subst (λ n. root < n) (sym long) below));
    each = λ x h. (0, omega arith, sym (only x h));
    ranked = λ i h. (let is : i ≡ 0 = omega arith in subst (λ i. 0 < get_or first_depths (get_or (root ∷ []) i 0) 0) (sym is) (let a = own in omega arith));
    rising = λ i j h k. (let is : i ≡ 0 = omega arith in let are : j ≡ 0 = omega arith in let a : get_or first_depths (get_or (root ∷ []) i 0) 0 ≡ get_or first_depths (get_or (root ∷ []) j 0) 0 = ap (λ i. get_or first_depths (get_or (root ∷ []) i 0) 0) (is ∙ sym are) in omega arith);
    low = low;
    room = counted count (count_by (nat_eq 0) (zeros count)) (count_by (nat_eq 0) first_depths) (one (get_or (zeros count) root 0)) (one 1) (length first_depths) (sum_by-set one (zeros count) root 1 0 inside)
        (ap one (zero_at count root)) refl (all_zeros count) long;
  }

  -- the search begins at the root
  pub record HasBegun (depths queue : List ℕ) : Type 0 where
    pub searched : IsSearched bridges lans depths queue
    pub as_long : length depths ≡ count
    pub first : get_or queue 0 0 ≡ root
    pub near : (x : ℕ) → get_or depths x 0 ≤ get_or depths (get_or queue 0 0) 0 + 1

  pub begun : (depths queue : List ℕ) → depths ≡ set (zeros count) root 1 → queue ≡ root ∷ [] → HasBegun depths queue
  begun depths queue e f = subst (λ r. HasBegun r queue) (sym e) (subst (HasBegun first_depths) (sym f) (record {
    searched = begun_so;
    as_long = long;
    first = refl;
    near = λ x. (let a = low x in omega arith);
  }))

module _ (bridges lans : List ℕ) where
  -- one node more, from which all ports were looked at
  pub next_reached : (count : ℕ) (lists : List (List ℕ)) → AreTouching bridges lans count (length bridges) lists → (depths queue new_depths new_queue : List ℕ) → IsGrown depths queue new_depths new_queue → (next : ℕ) → next < length queue
      → ((i : ℕ) → i < length queue → 0 < get_or depths (get_or queue i 0) 0)
      → ((i : ℕ) → i < next → (place : ℕ) → Touches bridges lans (get_or queue i 0) place → Reaches bridges lans depths (get_or queue i 0) place)
      → ((place : ℕ) → Contains (get_or lists (get_or queue next 0) []) place → Reaches bridges lans new_depths (get_or queue next 0) place)
      → (i : ℕ) → i < next + 1 → (place : ℕ) → Touches bridges lans (get_or new_queue i 0) place → Reaches bridges lans new_depths (get_or new_queue i 0) place
  next_reached count lists t depths queue new_depths new_queue grown next below ranked before visited i h place touches =
      let is : get_or new_queue i 0 ≡ get_or queue i 0 = grown.front i inside in
      subst (λ x. Reaches bridges lans new_depths x place) (sym is) (go (same_or_not i next) (subst (λ x. Touches bridges lans x place) is touches))
    where
      inside : i < length queue
      inside = omega arith

      there_by : (x : ℕ) → Touches bridges lans x place → Contains (get_or lists x []) place
      there_by x k = elim k.1 [
        | inl e ↦ subst (λ x. Contains (get_or lists x []) place) e (t.all place k.0).0
        | inr e ↦ subst (λ x. Contains (get_or lists x []) place) e (t.all place k.0).1
      ]

      go : (i ≡ next) ⊎ (i ≢ next) → Touches bridges lans (get_or queue i 0) place → Reaches bridges lans new_depths (get_or queue i 0) place
      go (inl e) k =
          subst (λ i. Reaches bridges lans new_depths (get_or queue i 0) place) (sym e) (visited place (there_by (get_or queue next 0) (subst (λ i. Touches bridges lans (get_or queue i 0) place) e k)))
      go (inr n) k = still_reaches bridges lans depths (get_or queue i 0) place queue new_depths new_queue grown (ranked i inside) (before i (omega arith) place k)

  -- no node lies more than one deeper than the next one of the queue
  pub next_near : (depths queue new_depths new_queue : List ℕ) → IsGrown depths queue new_depths new_queue → IsSearched bridges lans new_depths new_queue → (next : ℕ) → next < length queue
      → ((x : ℕ) → get_or new_depths x 0 ≤ get_or new_depths (get_or queue next 0) 0 + 1) → next + 1 < length new_queue → (x : ℕ) → get_or new_depths x 0 ≤ get_or new_depths (get_or new_queue (next + 1) 0) 0 + 1
  next_near depths queue new_depths new_queue grown s next below near h x =
      let same : get_or new_depths (get_or new_queue next 0) 0 ≡ get_or new_depths (get_or queue next 0) 0 = ap (λ n. get_or new_depths n 0) (grown.front next below) in
      let up = s.rising next (next + 1) (omega arith) h in
      let a = near x in
      omega arith

  -- at the end of the queue it is a tree
  pub ended : (root next : ℕ) (depths queue : List ℕ) → IsSearched bridges lans depths queue → get_or queue 0 0 ≡ root → length queue ≤ next
      → ((i : ℕ) → i < next → (place : ℕ) → Touches bridges lans (get_or queue i 0) place → Reaches bridges lans depths (get_or queue i 0) place) → IsTree bridges lans root depths
  ended root next depths queue s first end reaches = record {
    leads = λ x h. elim (s.leads x h) [ inl e ↦ inl (e ∙ first) | inr l ↦ inr l ];
    first = ap (λ x. get_or depths x 0) (sym first) ∙ s.first;
    reaches = λ x place touches h. (let q = s.each x h in
        subst (λ x. Reaches bridges lans depths x place) q.2 (reaches q.0 (let a = q.1 in omega arith) place (subst (λ x. Touches bridges lans x place) (sym q.2) touches)));
  }

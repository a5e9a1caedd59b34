-- One more node is reached.
use Rattle.std.proofs.Common.{◌≡◌, ◌≢◌, ◌⊎◌, inl, inr, ℕ, zero, suc, ◌+◌, ◌<◌, ◌≤◌, Bool, true, false, cond, nat_eq, List, [], ◌∷◌, ◌++◌, length, get_or, set, refl, sym, ap, ◌∙◌, subst, arith}
use Rattle.std.specs.List.{count_by}
use Rattle.std.proofs.lemmas.Bool.{eqb-true}
use Rattle.std.proofs.lemmas.List.{length-set, get_or-set_same, get_or-set_other, get_or_append_left, get_or_push, length_push}
use Rattle.std.proofs.lemmas.List.Sums.{sum_by-set}
use Rattle.mst_graph.proofs.Cut.{same_or_not}
use Rattle.mst_path.specs.Places.{AreNodes, Joins, LeadsOn, Reaches, IsSearched, IsGrown}

-- what is reached is within the list
pub reached_below : (depths : List ℕ) (x : ℕ) → 0 < get_or depths x 0 → x < length depths
reached_below [] x h = absurd (omega arith)
reached_below (d ∷ depths) zero h = omega arith
reached_below (d ∷ depths) (suc x) h = let rest = reached_below depths x h in omega arith

pub not_zero : (n : ℕ) → 0 < n → nat_eq 0 n ≡ false
not_zero n h = go (nat_eq 0 n) refl
  where
    go : (b : Bool) → nat_eq 0 n ≡ b → nat_eq 0 n ≡ false
    go false e = e
    go true e = let zero_is : 0 ≡ n = eqb-true 0 n e in absurd (omega arith)

-- what holds of each number of a list and of one more
pub each_pushed : (P : ℕ → Type 0) (queue : List ℕ) (other : ℕ) → ((i : ℕ) → i < length queue → P (get_or queue i 0)) → P other → (i : ℕ) → i < length (queue ++ other ∷ []) → P (get_or (queue ++ other ∷ []) i 0)
each_pushed P queue other each one i h = elim (same_or_not i (length queue)) [
  | inl e ↦ subst P (sym (get_or_push queue other 0 i (sym e))) one
  | inr n ↦ (let l : i < length queue = (let long = length_push queue other in omega arith) in subst P (sym (get_or_append_left queue (other ∷ []) 0 i l)) (each i l))
]

pub none_grown : (depths queue : List ℕ) → IsGrown depths queue depths queue
none_grown depths queue = record { as_long = refl; reached = λ x h. refl; longer = omega arith; front = λ i h. refl }

pub grown_on : (r q s t u v : List ℕ) → IsGrown r q s t → IsGrown s t u v → IsGrown r q u v
grown_on r q s t u v a b = record {
  as_long = b.as_long ∙ a.as_long;
  reached = λ x h. b.reached x (subst (λ n. 0 < n) (sym (a.reached x h)) h) ∙ a.reached x h;
  longer = let l = a.longer in let m = b.longer in omega arith;
  front = λ i h. b.front i (let l = a.longer in omega arith) ∙ a.front i h;
}

-- as many zeros less as the queue is longer
counted : (q' q n' n z' z f g : ℕ) → q' ≡ q + 1 → n' ≡ n → z' + f ≡ z + g → f ≡ 1 → g ≡ 0 → q + z ≡ n → q' + z' ≡ n'
counted q' q n' n z' z f g long same moved was is old = omega arith

module _ (bridges lans depths queue : List ℕ) (s : IsSearched bridges lans depths queue) (at place other : ℕ) (below : place < length bridges) (joins : Joins bridges lans place other at) (at_reached : 0 < get_or depths at 0)
    (near : (x : ℕ) → get_or depths x 0 ≤ get_or depths at 0 + 1) (inside : other < length depths) (new : get_or depths other 0 ≡ 0) where
  abbrev newer : List ℕ
  newer = set depths other (get_or depths at 0 + 1)

  abbrev longer : List ℕ
  longer = queue ++ other ∷ []

  own_depth : get_or newer other 0 ≡ get_or depths at 0 + 1
  own_depth = get_or-set_same depths other (get_or depths at 0 + 1) 0 inside

  other_depth : (x : ℕ) → x ≢ other → get_or newer x 0 ≡ get_or depths x 0
  other_depth x n = get_or-set_other depths other x (get_or depths at 0 + 1) 0 n

  not_new : (x : ℕ) → 0 < get_or depths x 0 → x ≢ other
  not_new x h e = let zero_is : get_or depths x 0 ≡ 0 = ap (λ x. get_or depths x 0) e ∙ new in absurd (omega arith)

  still : (x : ℕ) → 0 < get_or depths x 0 → get_or newer x 0 ≡ get_or depths x 0
  still x h = other_depth x (not_new x h)

  still_reached : (x : ℕ) → 0 < get_or depths x 0 → 0 < get_or newer x 0
  still_reached x h = subst (λ n. 0 < n) (sym (still x h)) h

  pub near_so : (x : ℕ) → get_or newer x 0 ≤ get_or newer at 0 + 1
  near_so x = elim (same_or_not x other) [
    | inl e ↦ (let a : get_or newer x 0 ≡ get_or depths at 0 + 1 = ap (λ x. get_or newer x 0) e ∙ own_depth in let b = still at at_reached in omega arith)
    | inr n ↦ (let a = other_depth x n in let b = still at at_reached in let c = near x in omega arith)
  ]

  first : get_or longer 0 0 ≡ get_or queue 0 0
  first = get_or_append_left queue (other ∷ []) 0 0 s.some

  own_lead : LeadsOn bridges lans newer other place
  own_lead = record {
    below = below;
    next = at;
    joins = joins;
    reached = still_reached at at_reached;
    less = let a = still at at_reached in let b = own_depth in omega arith;
  }

  other_lead : (x p : ℕ) → x ≢ other → LeadsOn bridges lans depths x p → LeadsOn bridges lans newer x p
  other_lead x p n l = record {
    below = l.below;
    next = l.next;
    joins = l.joins;
    reached = still_reached l.next l.reached;
    less = let a = still l.next l.reached in let b = other_depth x n in let c = l.less in omega arith;
  }

  leads : (x : ℕ) → 0 < get_or newer x 0 → (x ≡ get_or longer 0 0) ⊎ ((p : ℕ) × LeadsOn bridges lans newer x p)
  leads x h = elim (same_or_not x other) [
    | inl e ↦ inr (place, subst (λ x. LeadsOn bridges lans newer x place) (sym e) own_lead)
    | inr n ↦ elim (s.leads x (subst (λ n. 0 < n) (other_depth x n) h)) [
      | inl e ↦ inl (e ∙ sym first)
      | inr l ↦ inr (l.0, other_lead x l.0 n l.1)
    ]
  ]

  each : (x : ℕ) → 0 < get_or newer x 0 → (i : ℕ) × (i < length longer) × (get_or longer i 0 ≡ x)
  each x h = elim (same_or_not x other) [
    | inl e ↦ (length queue, (let long = length_push queue other in omega arith), get_or_push queue other 0 (length queue) refl ∙ sym e)
    | inr n ↦ (let old = s.each x (subst (λ n. 0 < n) (other_depth x n) h) in (old.0, (let long = length_push queue other in let l = old.1 in omega arith), get_or_append_left queue (other ∷ []) 0 old.0 old.1 ∙ old.2))
  ]

  -- what stood in the queue has its depth
  old_at : (i : ℕ) → i < length queue → get_or newer (get_or longer i 0) 0 ≡ get_or depths (get_or queue i 0) 0
  old_at i h = ap (λ n. get_or newer n 0) (get_or_append_left queue (other ∷ []) 0 i h) ∙ still (get_or queue i 0) (s.ranked i h)

  rising : (i j : ℕ) → i ≤ j → j < length longer → get_or newer (get_or longer i 0) 0 ≤ get_or newer (get_or longer j 0) 0
  rising i j h k = elim (same_or_not j (length queue)) [
    | inl e ↦ (let a : get_or newer (get_or longer j 0) 0 ≡ get_or depths at 0 + 1 = ap (λ n. get_or newer n 0) (get_or_push queue other 0 j (sym e)) ∙ own_depth in
        let b = near_so (get_or longer i 0) in let c = still at at_reached in omega arith)
    | inr n ↦ (let l : j < length queue = (let long = length_push queue other in omega arith) in
        let a = old_at i (omega arith) in let b = old_at j l in let c = s.rising i j h l in omega arith)
  ]

  low : (x : ℕ) → get_or newer x 0 ≤ length longer
  low x = let a = near_so x in let b = still at at_reached in let c = s.low at in let long = length_push queue other in omega arith

  -- how many zeros a flag and a number count
  abbrev flag : Bool → ℕ
  flag b = cond b 1 0

  abbrev one : ℕ → ℕ
  one n = flag (nat_eq 0 n)

  room : length longer + count_by (nat_eq 0) newer ≡ length newer
  room =
      let deep : ℕ = get_or depths at 0 + 1 in
      let long : length longer ≡ length queue + 1 = length_push queue other in
      let same : length newer ≡ length depths = length-set depths other deep in
      let moved : count_by (nat_eq 0) newer + one (get_or depths other 0) ≡ count_by (nat_eq 0) depths + one deep = sum_by-set one depths other deep 0 inside in
      let was : one (get_or depths other 0) ≡ 1 = ap one new in
      let is : one deep ≡ 0 = ap flag (not_zero deep (omega arith)) in
      let old : length queue + count_by (nat_eq 0) depths ≡ length depths = s.room in
      counted (length longer) (length queue) (length newer) (length depths) (count_by (nat_eq 0) newer) (count_by (nat_eq 0) depths) (one (get_or depths other 0)) (one deep) long same moved was is old

  pub one_searched : IsSearched bridges lans newer longer
  one_searched = record {
    leads = leads;
    some = let long = length_push queue other in omega arith;
    first = ap (λ n. get_or newer n 0) first ∙ still (get_or queue 0 0) (s.ranked 0 s.some) ∙ s.first;
    nodes = λ i h. subst (λ n. get_or longer i 0 < n) (sym (length-set depths other (get_or depths at 0 + 1))) (each_pushed (λ x. x < length depths) queue other s.nodes inside i h);
    each = each;
    ranked = each_pushed (λ x. 0 < get_or newer x 0) queue other (λ i h. still_reached (get_or queue i 0) (s.ranked i h)) (let a = own_depth in omega arith);
    rising = rising;
    low = low;
    room = room;
  }

  pub one_grown : IsGrown depths queue newer longer
  one_grown = record {
    as_long = length-set depths other (get_or depths at 0 + 1);
    reached = still;
    longer = let long = length_push queue other in omega arith;
    front = λ i h. get_or_append_left queue (other ∷ []) 0 i h;
  }

  pub now_reached : 0 < get_or newer other 0
  now_reached = let a = own_depth in omega arith

-- the other node of a port
pub other_inside : (bridges lans : List ℕ) (count : ℕ) → AreNodes bridges lans count → (place at other : ℕ) → place < length bridges → Joins bridges lans place at other → other < count
other_inside bridges lans count nodes place at other below joins = elim joins [
  | inl h ↦ subst (λ n. n < count) h.1 (nodes.lans_below place below)
  | inr h ↦ subst (λ n. n < count) h.1 (nodes.bridges_below place below)
]

module _ (bridges lans depths : List ℕ) (at place : ℕ) where
  -- what a port joins a node to is reached, if what one look at it says is
  reached_by : (other : ℕ) → Joins bridges lans place at other → 0 < get_or depths at 0 → 0 < get_or depths other 0 → (y : ℕ) → Joins bridges lans place at y → 0 < get_or depths y 0
  reached_by other j at_is is y k = elim j [
    | inl a ↦ elim k [
      | inl b ↦ subst (λ n. 0 < get_or depths n 0) (sym a.1 ∙ b.1) is
      | inr b ↦ subst (λ n. 0 < get_or depths n 0) (sym a.0 ∙ b.1) at_is
    ]
    | inr a ↦ elim k [
      | inl b ↦ subst (λ n. 0 < get_or depths n 0) (sym a.0 ∙ b.1) at_is
      | inr b ↦ subst (λ n. 0 < get_or depths n 0) (sym a.1 ∙ b.1) is
    ]
  ]

  pub reaches_by : (other : ℕ) → Joins bridges lans place at other → 0 < get_or depths at 0 → 0 < get_or depths other 0 → ((x : ℕ) → get_or depths x 0 ≤ get_or depths at 0 + 1) → Reaches bridges lans depths at place
  reaches_by other j at_is is near = λ y k. (reached_by other j at_is is y k, near y)

  -- and it stays so while more is reached
  pub still_reaches : (queue new_depths new_queue : List ℕ) → IsGrown depths queue new_depths new_queue → 0 < get_or depths at 0 → Reaches bridges lans depths at place → Reaches bridges lans new_depths at place
  still_reaches queue new_depths new_queue grown at_is r = λ y j.
      let old = r y j in
      let a = grown.reached y old.0 in
      let b = grown.reached at at_is in (
        subst (λ n. 0 < n) (sym a) old.0,
        let c = old.1 in omega arith,
      )

-- what a visit of a node has reached so far
pub record IsVisited (bridges lans places old_depths old_queue : List ℕ) (index at : ℕ) (depths queue : List ℕ) : Type 0 where
  pub searched : IsSearched bridges lans depths queue
  pub grown : IsGrown old_depths old_queue depths queue
  pub near : (x : ℕ) → get_or depths x 0 ≤ get_or depths at 0 + 1
  pub reaches : (k : ℕ) → k < index → Reaches bridges lans depths at (get_or places k 0)

module _ (bridges lans places old_depths old_queue : List ℕ) (index at other : ℕ) (depths queue : List ℕ) (v : IsVisited bridges lans places old_depths old_queue index at depths queue) (joins : Joins bridges lans (get_or places index 0) at other)
    (at_reached : 0 < get_or depths at 0) where
  reaches_next : (newer longer : List ℕ) → IsGrown depths queue newer longer → ((x : ℕ) → get_or newer x 0 ≤ get_or newer at 0 + 1) → 0 < get_or newer other 0 → (k : ℕ) → k < index + 1 → Reaches bridges lans newer at (get_or places k 0)
  reaches_next newer longer grown near reached k h = elim (same_or_not k index) [
    | inl e ↦ subst (λ k. Reaches bridges lans newer at (get_or places k 0)) (sym e)
        (reaches_by bridges lans newer at (get_or places index 0) other joins (subst (λ n. 0 < n) (sym (grown.reached at at_reached)) at_reached) reached near)
    | inr n ↦ still_reaches bridges lans depths at (get_or places k 0) queue newer longer grown at_reached (v.reaches k (omega arith))
  ]

  -- the node was reached before
  pub known_visited : 0 < get_or depths other 0 → IsVisited bridges lans places old_depths old_queue (index + 1) at depths queue
  known_visited reached = record { searched = v.searched; grown = v.grown; near = v.near; reaches = reaches_next depths queue (none_grown depths queue) v.near reached }

  -- it is reached now
  pub new_visited : get_or places index 0 < length bridges → other < length depths → get_or depths other 0 ≡ 0 → (deeper : ℕ) → deeper ≡ get_or depths at 0 + 1 → (new_depths new_queue : List ℕ) → new_queue ≡ queue ++ other ∷ []
      → new_depths ≡ set depths other deeper → IsVisited bridges lans places old_depths old_queue (index + 1) at new_depths new_queue
  new_visited below inside new deeper deep new_depths new_queue e f =
      let place : ℕ = get_or places index 0 in
      let depths_are : set depths other (get_or depths at 0 + 1) ≡ new_depths = sym (f ∙ ap (set depths other) deep) in
      let grown = one_grown bridges lans depths queue v.searched at place other below (turned place) at_reached v.near inside new in
      let near = near_so bridges lans depths queue v.searched at place other below (turned place) at_reached v.near inside new in
      subst (λ q. IsVisited bridges lans places old_depths old_queue (index + 1) at new_depths q) (sym e)
      (subst (λ r. IsVisited bridges lans places old_depths old_queue (index + 1) at r (queue ++ other ∷ [])) depths_are
      (record {
        searched = one_searched bridges lans depths queue v.searched at place other below (turned place) at_reached v.near inside new;
        grown = grown_on old_depths old_queue depths queue (set depths other (get_or depths at 0 + 1)) (queue ++ other ∷ []) v.grown grown;
        near = near;
        reaches = reaches_next (set depths other (get_or depths at 0 + 1)) (queue ++ other ∷ []) grown near (now_reached bridges lans depths queue v.searched at place other below (turned place) at_reached v.near inside new);
      }))
    where
      turned : (place : ℕ) → Joins bridges lans (get_or places index 0) other at
      turned place = elim joins [ inl j ↦ inr (j.1, j.0) | inr j ↦ inl (j.1, j.0) ]

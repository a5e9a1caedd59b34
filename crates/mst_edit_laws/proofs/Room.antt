-- No line of a table makes a 65th tree: where one would, a tree that isn't wanted is emptied before it.
use Rattle.std.proofs.Common.{◌≡◌, ℕ, zero, suc, ◌+◌, ◌<◌, ◌≤◌, ◌⊎◌, inl, inr, Bool, true, false, cond, not, ◌||◌, ◌&&◌, List, [], ◌∷◌, ◌++◌, map, get_or, nat_eq, nat_lt, None, refl, sym, ap, subst, ◌∙◌, arith, true≢false}
use Rattle.std.specs.Prelude.{◌==◌, nat_le, if◌then◌else◌}
use Rattle.std.specs.List.{list_any, filter, flat_map, range_with_len, count_by, AllByRecursion}
use Rattle.std.proofs.lemmas.Bool.{cases_lt, lt-ltb, le-ltb, and_from, le-leb, eq-eqb, eqb-true, ne_eqb, or_left}
use Rattle.std.proofs.lemmas.List.{map-append}
use Rattle.std.proofs.lemmas.List.Sums.{sum_by-cons}
use Rattle.mst_ids.specs.Vids.{has, is_vid, runs_from, IsVidSet}
use Rattle.mst_ids.specs.VidBits.{has-set_where}
use Rattle.mst_ids.proofs.VidRangeLemmas.{is_vid_set}
use Rattle.mst_lang.specs.declared.line.Edit.TheVariants.{SetByTree}
use Rattle.mst_lang.specs.declared.line.TreeChange.TheVariants.{Table}
use Rattle.mst_net.specs.tables.declared.refusal.Refusal.TheVariants.{E04, E15}
use Rattle.mst_net.specs.tables.Table.{tree_in, has_tree, mapped, mstis_in, tree_count}
use Rattle.mst_net.specs.tables.Tables.{Net}
use Rattle.mst_net.specs.tables.After.{effect, refusal_of, first_of, has_bridge, table_of}
use Rattle.mst_net.proofs.ForeseenLemmas.{foreseen_table}
use Rattle.mst_net.proofs.tables_lemmas.Keys.{names}
use Rattle.mst_net.proofs.tables_lemmas.Changed.{itself}
use Rattle.mst_net.proofs.tables_lemmas.TableFits.{length-mapped}
use Rattle.mst_edits.specs.Making.{made, Accepted}
use Rattle.mst_edits.specs.Runs.{vids_of}
use Rattle.mst_edits.specs.TableLines.{vids_in, fits, cut, move, edit_of, moves_to, moved_to, crowds, unwanted, is_one_line, with_tree, gathered, gathered_first, with_way, with_ways, table_after}
use Rattle.mst_edits.proofs.Lists.{all_map, all_flat_of, all_as, all_filter, holds, into_filter}
use Rattle.mst_edits.proofs.RunLemmas.{covers, set_of_runs}
use Rattle.mst_edits.proofs.Cuts.{some_line, vids_in_is}
use Rattle.mst_edits.proofs.TreesMapped.{IsUnder, tree_in-mapped, tree_of_none, has_place, under_count, mstis_fit}
use Rattle.mst_edit_laws.proofs.Accepting.{Fine, accepted_append}
use Rattle.mst_edit_laws.proofs.Coming.{TableRoom}
use Rattle.mst_edit_laws.proofs.Whose.{numbers, some_within}

at_most : (x y : ℕ) → x ≤ y → y ≤ 64 → x ≤ 64
at_most x y h i = omega (arith, h, i)

below : (u : ℕ) → u ≤ 4094 → u < 1 + 4094
below u h = omega (arith, h)

-- ---- how many trees there are where one more is used and another one no longer
one_at : (u a n : ℕ) → a ≤ u → u < a + n → 1 ≤ count_by (λ k. k == u) (range_with_len a n)
one_at u a zero low high = absurd (omega arith)
one_at u a (suc n) low high = by (a == u) refl (λ other. one_at u (a + 1) n (omega (arith, other)) (omega arith))
  where
    by : (s : Bool) → (a == u) ≡ s → ((a ≡ u → ⊥) → 1 ≤ count_by (λ k. k == u) (range_with_len (a + 1) n)) → 1 ≤ count_by (λ k. k == u) (range_with_len a (suc n))
    by true e rest = let c = ap {B = ℕ} (λ (s : Bool). cond s 1 0) e in omega (arith, c, sum_by-cons (λ k. cond (k == u) 1 0) a (range_with_len (a + 1) n))
    by false e rest = let r = rest (λ same. true≢false (sym (eq-eqb a u same) ∙ e)) in omega (arith, r, sum_by-cons (λ k. cond (k == u) 1 0) a (range_with_len (a + 1) n))

none_at : (t a n : ℕ) → t < a → count_by (λ k. k == t) (range_with_len a n) ≡ 0
none_at t a zero low = refl
none_at t a (suc n) low =
    let rest = none_at t (a + 1) n (omega arith) in
    let c = ap {B = ℕ} (λ (s : Bool). cond s 1 0) (ne_eqb a t (λ e. omega (arith, e, low))) in
    omega (arith, rest, c, sum_by-cons (λ k. cond (k == t) 1 0) a (range_with_len (a + 1) n))

once_at : (t a n : ℕ) → count_by (λ k. k == t) (range_with_len a n) ≤ 1
once_at t a zero = omega arith
once_at t a (suc n) = by (a == t) refl (once_at t (a + 1) n)
  where
    by : (s : Bool) → (a == t) ≡ s → count_by (λ k. k == t) (range_with_len (a + 1) n) ≤ 1 → count_by (λ k. k == t) (range_with_len a (suc n)) ≤ 1
    by true e rest =
        let none = none_at t (a + 1) n (omega (arith, eqb-true a t e)) in
        let c = ap {B = ℕ} (λ (s : Bool). cond s 1 0) e in
        omega (arith, none, c, sum_by-cons (λ k. cond (k == t) 1 0) a (range_with_len (a + 1) n))
    by false e rest =
        let c = ap {B = ℕ} (λ (s : Bool). cond s 1 0) e in
        omega (arith, rest, c, sum_by-cons (λ k. cond (k == t) 1 0) a (range_with_len (a + 1) n))

module _ (p r : ℕ → Bool) (u t : ℕ) (used : r u ≡ true) (within : (k : ℕ) → 1 ≤ k → p k ≡ true → (k ≡ t) ⊎ ((r k ≡ true) × (k ≡ u → ⊥))) where
  here : (a : ℕ) → 1 ≤ a → cond (p a) 1 0 + cond (a == u) 1 0 ≤ cond (r a) 1 0 + cond (a == t) 1 0
  here a some = by (p a) refl (a == u) refl (r a) refl (a == t) refl
    where
      by : (x : Bool) → p a ≡ x → (y : Bool) → (a == u) ≡ y → (z : Bool) → r a ≡ z → (w : Bool) → (a == t) ≡ w → cond x 1 0 + cond y 1 0 ≤ cond z 1 0 + cond w 1 0
      by false e false f z g w h = omega arith
      by false e true f true g w h = omega arith
      by x e true f false g w h = absurd (true≢false (sym (ap r (eqb-true a u f) ∙ used) ∙ g))
      by true e false f true g w h = omega arith
      by true e false f false g true h = omega arith
      by true e true f true g true h = omega arith
      by true e y f z g false h = elim (within a some e) [
        | inl same ↦ absurd (true≢false (sym (eq-eqb a t same) ∙ h))
        | inr both ↦ in_old y f z g both.0 both.1
      ]
        where
          in_old : (y : Bool) → (a == u) ≡ y → (z : Bool) → r a ≡ z → r a ≡ true → (a ≡ u → ⊥) → 1 + cond y 1 0 ≤ cond z 1 0 + 0
          in_old true f z g i j = absurd (j (eqb-true a u f))
          in_old false f true g i j = omega arith
          in_old false f false g i j = absurd (true≢false (sym i ∙ g))

  all_here : (a n : ℕ) → 1 ≤ a → count_by p (range_with_len a n) + count_by (λ k. k == u) (range_with_len a n) ≤ count_by r (range_with_len a n) + count_by (λ k. k == t) (range_with_len a n)
  all_here a zero some = omega arith
  all_here a (suc n) some =
      let rest = all_here (a + 1) n (omega arith) in
      let first = here a some in
      let xs = range_with_len (a + 1) n in
      omega (arith, rest, first, sum_by-cons (λ y. cond (p y) 1 0) a xs, sum_by-cons (λ y. cond (y == u) 1 0) a xs, sum_by-cons (λ y. cond (r y) 1 0) a xs, sum_by-cons (λ y. cond (y == t) 1 0) a xs)

  changed_over : (a n : ℕ) → 1 ≤ a → a ≤ u → u < a + n → count_by p (range_with_len a n) ≤ count_by r (range_with_len a n)
  changed_over a n some low high = let all = all_here a n some in let one = one_at u a n low high in let once = once_at t a n in omega (arith, all, one, once)

count_within : (p q : ℕ → Bool) (a n : ℕ) → ((k : ℕ) → a ≤ k → k < a + n → p k ≡ true → q k ≡ true) → count_by p (range_with_len a n) ≤ count_by q (range_with_len a n)
count_within p q a zero h = omega arith
count_within p q a (suc n) h =
    let rest = count_within p q (a + 1) n (λ k low high. h k (omega arith) (omega arith)) in
    let first : cond (p a) 1 0 ≤ cond (q a) 1 0 = by (p a) refl (q a) refl (h a (omega arith) (omega arith)) in
    omega (arith, rest, first, sum_by-cons (λ y. cond (p y) 1 0) a (range_with_len (a + 1) n), sum_by-cons (λ y. cond (q y) 1 0) a (range_with_len (a + 1) n))
  where
    by : (s : Bool) → p a ≡ s → (t : Bool) → q a ≡ t → (p a ≡ true → q a ≡ true) → cond s 1 0 ≤ cond t 1 0
    by true e true f i = omega arith
    by true e false f i = absurd (true≢false (sym (i e) ∙ f))
    by false e t f i = omega arith

-- ---- the trees of a table
place_of : (xs : List ℕ) (k : ℕ) → list_any (λ t. t == k) xs ≡ true → (i : ℕ) × (get_or xs i 0 ≡ k)
place_of [] k h = absurd (true≢false (sym h))
place_of (x ∷ xs) k h = by (x == k) refl h (λ later. place_of xs k later)
  where
    by : (t : Bool) → (x == k) ≡ t → (t || list_any (λ t. t == k) xs) ≡ true → (list_any (λ t. t == k) xs ≡ true → (i : ℕ) × (get_or xs i 0 ≡ k)) → (i : ℕ) × (get_or (x ∷ xs) i 0 ≡ k)
    by true e h later = (0, eqb-true x k e)
    by false e h later = let found = later h in (suc found.0, found.1)

has_from : (table : List ℕ) (v j : ℕ) → 1 ≤ v → tree_in table v ≡ j → 1 ≤ j → has_tree table j ≡ true
has_from table zero j low is some = absurd (omega arith)
has_from table (suc i) j low is some = has_place table i j is some

-- a tree of a table with a line is the line's, or that of a VID which the line doesn't map
tree_cases : (vids : List Bool) (tree : ℕ) (now : List ℕ) (j : ℕ) → 1 ≤ j → has_tree (mapped vids tree now) j ≡ true → (j ≡ tree) ⊎ ((v : ℕ) × (1 ≤ v) × (v ≤ 4094) × (has vids v ≡ false) × (tree_in now v ≡ j))
tree_cases vids tree now j some h = let place = place_of (mapped vids tree now) j h in at place.0 place.1 (cases_lt place.0 4094)
  where
    here : (i : ℕ) → i < 4094 → (t : Bool) → has vids (suc i) ≡ t → (if t then tree else tree_in now (suc i)) ≡ j → (j ≡ tree) ⊎ ((v : ℕ) × (1 ≤ v) × (v ≤ 4094) × (has vids v ≡ false) × (tree_in now v ≡ j))
    here i low true e is = inl (sym is)
    here i low false e is = inr (suc i, omega arith, omega arith, e, is)

    at : (i : ℕ) → tree_in (mapped vids tree now) (suc i) ≡ j → (i < 4094) ⊎ (4094 ≤ i) → (j ≡ tree) ⊎ ((v : ℕ) × (1 ≤ v) × (v ≤ 4094) × (has vids v ≡ false) × (tree_in now v ≡ j))
    at i is (inl low) = here i low (has vids (suc i)) refl (sym (tree_in-mapped vids tree now (suc i) (omega arith) (omega arith)) ∙ is)
    at i is (inr high) = absurd (omega (arith, some, is, tree_of_none (mapped vids tree now) (suc i) (length-mapped vids tree now) (omega arith)))

no_more : (new old : List ℕ) → ((j : ℕ) → 1 ≤ j → j < 4095 → has_tree new j ≡ true → has_tree old j ≡ true) → tree_count new ≤ tree_count old
unfolding tree_count
no_more new old h = count_within (has_tree new) (has_tree old) 1 4094 h

one_over : (new old : List ℕ) (u tree : ℕ) → has_tree old u ≡ true → 1 ≤ u → u ≤ 4094 → ((j : ℕ) → 1 ≤ j → has_tree new j ≡ true → (j ≡ tree) ⊎ ((has_tree old j ≡ true) × (j ≡ u → ⊥))) → tree_count new ≤ tree_count old
unfolding tree_count
one_over new old u tree used low high h = changed_over (has_tree new) (has_tree old) u tree used h 1 4094 (omega arith) low (below u high)

-- VIDs that are mapped to tree 0
under_zero : (vids : List Bool) (part whole : List ℕ) → IsUnder part whole → IsUnder (mapped vids 0 part) whole
under_zero vids part whole under zero = inl refl
under_zero vids part whole under (suc k) = by (cases_lt k 4094)
  where
    at : (t : Bool) → tree_in (mapped vids 0 part) (suc k) ≡ (if t then 0 else tree_in part (suc k)) → (tree_in (mapped vids 0 part) (suc k) ≡ 0) ⊎ (tree_in (mapped vids 0 part) (suc k) ≡ tree_in whole (suc k))
    at true is = inl is
    at false is = elim (under (suc k)) [
      | inl p ↦ inl (is ∙ p)
      | inr p ↦ inr (is ∙ p)
    ]

    by : (k < 4094) ⊎ (4094 ≤ k) → (tree_in (mapped vids 0 part) (suc k) ≡ 0) ⊎ (tree_in (mapped vids 0 part) (suc k) ≡ tree_in whole (suc k))
    by (inl low) = at (has vids (suc k)) (tree_in-mapped vids 0 part (suc k) (omega arith) (omega arith))
    by (inr high) = inl (tree_of_none (mapped vids 0 part) (suc k) (length-mapped vids 0 part) (omega arith))

itself_under : (table : List ℕ) → IsUnder table table
itself_under table v = inr refl

abbrev zeroed : List ℕ → List (List (ℕ × ℕ)) → List ℕ
zeroed now [] = now
zeroed now (runs ∷ lines) = zeroed (mapped (vids_of runs) 0 now) lines

zeroed_under : (lines : List (List (ℕ × ℕ))) (now whole : List ℕ) → IsUnder now whole → IsUnder (zeroed now lines) whole
zeroed_under [] now whole under = under
zeroed_under (runs ∷ lines) now whole under = zeroed_under lines (mapped (vids_of runs) 0 now) whole (under_zero (vids_of runs) now whole under)

zero_stays : (lines : List (List (ℕ × ℕ))) (now : List ℕ) (v : ℕ) → tree_in now v ≡ 0 → tree_in (zeroed now lines) v ≡ 0
zero_stays lines now v h = elim (zeroed_under lines now now (itself_under now) v) [
  | inl p ↦ p
  | inr p ↦ p ∙ h
]

zeroed_gone : (lines : List (List (ℕ × ℕ))) (now : List ℕ) (v : ℕ) → 1 ≤ v → v ≤ 4094 → list_any (λ runs. has (vids_of runs) v) lines ≡ true → tree_in (zeroed now lines) v ≡ 0
zeroed_gone [] now v low high h = absurd (true≢false (sym h))
zeroed_gone (runs ∷ lines) now v low high h = by (has (vids_of runs) v) refl h (λ later. zeroed_gone lines (mapped (vids_of runs) 0 now) v low high later)
  where
    by : (t : Bool) → has (vids_of runs) v ≡ t → (t || list_any (λ runs. has (vids_of runs) v) lines) ≡ true → (list_any (λ runs. has (vids_of runs) v) lines ≡ true → tree_in (zeroed (mapped (vids_of runs) 0 now) lines) v ≡ 0) → tree_in (zeroed (mapped (vids_of runs) 0 now) lines) v ≡ 0
    by true e h rest = zero_stays lines (mapped (vids_of runs) 0 now) v (tree_in-mapped (vids_of runs) 0 now v low high ∙ ap (λ t. if t then 0 else tree_in now v) e)
    by false e h rest = rest h

-- ---- the VIDs that go by way of tree 0
with_tree_is : (table : List ℕ) (vids : List Bool) (tree : ℕ) → IsVidSet vids → IsVidSet (with_tree table vids tree)
with_tree_is table vids tree is =
    let own = vids_in_is table tree in
    is_vid_set (λ v. has vids v || has (vids_in table tree) v) (ap (λ b. b || has (vids_in table tree) 0) is.1 ∙ own.1) (ap (λ b. b || has (vids_in table tree) 4095) is.2 ∙ own.2)

gathered_is : (name table : List ℕ) (vids : List Bool) (trees : List ℕ) → IsVidSet vids → IsVidSet (gathered name table vids trees)
gathered_is name table vids [] is = is
gathered_is name table vids (tree ∷ trees) is = by (is_one_line name (with_tree table vids tree)) (gathered_is name table (with_tree table vids tree) trees (with_tree_is table vids tree is))
  where
    by : (b : Bool) → IsVidSet (gathered name table (with_tree table vids tree) trees) → IsVidSet (if b then gathered name table (with_tree table vids tree) trees else vids)
    by true rest = rest
    by false rest = is

gathered_has : (name table : List ℕ) (vids : List Bool) (trees : List ℕ) (v : ℕ) → v < 4096 → has vids v ≡ true → has (gathered name table vids trees) v ≡ true
gathered_has name table vids [] v small h = h
gathered_has name table vids (tree ∷ trees) v small h =
    by (is_one_line name (with_tree table vids tree)) (gathered_has name table (with_tree table vids tree) trees v small (has-set_where (λ n. has vids n || has (vids_in table tree) n) v small ∙ or_left (has vids v) (has (vids_in table tree) v) h))
  where
    by : (b : Bool) → has (gathered name table (with_tree table vids tree) trees) v ≡ true → has (if b then gathered name table (with_tree table vids tree) trees else vids) v ≡ true
    by true rest = rest
    by false rest = h

module _ (name table : List ℕ) (tree : ℕ) (trees : List ℕ) where
  pub first_is : IsVidSet (gathered_first name table (tree ∷ trees))
  first_is = by (is_one_line name (vids_in table tree)) (gathered_is name table (vids_in table tree) trees (vids_in_is table tree))
    where
      by : (b : Bool) → IsVidSet (gathered name table (vids_in table tree) trees) → IsVidSet (if b then gathered name table (vids_in table tree) trees else vids_in table tree)
      by true rest = rest
      by false rest = vids_in_is table tree

  first_has : (v : ℕ) → v < 4096 → has (vids_in table tree) v ≡ true → has (gathered_first name table (tree ∷ trees)) v ≡ true
  first_has v small h = by (is_one_line name (vids_in table tree)) (gathered_has name table (vids_in table tree) trees v small h)
    where
      by : (b : Bool) → has (gathered name table (vids_in table tree) trees) v ≡ true → has (if b then gathered name table (vids_in table tree) trees else vids_in table tree) v ≡ true
      by true rest = rest
      by false rest = h

-- the lines of a set map its VIDs
lines_have : (name : List ℕ) (tree : ℕ) (vids : List Bool) → IsVidSet vids → (v : ℕ) → v < 4096 → list_any (λ runs. has (vids_of runs) v) (cut (fits name tree) (runs_from 0 vids)) ≡ has vids v
lines_have name tree vids is v small =
    let lines = cut (fits name tree) (runs_from 0 vids) in
    (λ i. list_any (λ line. has-set_where (covers line) v small i) lines)
    ∙ some_line (fits name tree) (runs_from 0 vids) v
    ∙ sym (has-set_where (covers (runs_from 0 vids)) v small) ∙ ap (λ s. has s v) (set_of_runs vids is)

in_tree : (table : List ℕ) (tree v : ℕ) → 1 ≤ v → v ≤ 4094 → tree_in table v ≡ tree → has (vids_in table tree) v ≡ true
in_tree table tree v low high is =
    has-set_where (λ n. is_vid n && tree_in table n == tree) v (omega arith)
    ∙ and_from (is_vid v) (tree_in table v == tree) (and_from (nat_le 1 v) (nat_le v 4094) (le-leb 1 v low) (le-leb v 4094 high)) (eq-eqb (tree_in table v) tree is)

-- ---- a tree that isn't wanted
all_wanted : (after rest : List ℕ) → unwanted after rest ≡ [] → (j : ℕ) → 1 ≤ j → j < 4095 → has_tree rest j ≡ true → has_tree after j ≡ true
unfolding mstis_in
all_wanted after rest none j low high h = by (has_tree after j) refl
  where
    by : (t : Bool) → has_tree after j ≡ t → t ≡ true
    by true e = refl
    by false e = absurd (true≢false (
        sym (into_filter numbers (λ tree. not (has_tree after tree)) (filter (has_tree rest) (range_with_len 1 4094)) j
        (into_filter numbers (has_tree rest) (range_with_len 1 4094) j (some_within j 1 4094 low high) h) (ap not e))
        ∙ ap (holds nat_eq j) none))

module _ (k after : List ℕ) (few_after : tree_count after ≤ 64) where
  abbrev Wanted : ℕ → Type 0
  Wanted tree = (tree ≡ 0) ⊎ (has_tree after tree ≡ true)

  -- where no tree is to be emptied the line makes no 65th
  roomy : (vids : List Bool) (tree : ℕ) (now : List ℕ) → Wanted tree → unwanted after (mapped vids 0 now) ≡ [] → tree_count (mapped vids tree now) ≤ 64
  roomy vids tree now wanted none =
      let c = no_more (mapped vids tree now) after (λ j low high h. by j low high wanted (tree_cases vids tree now j low h)) in
      at_most (tree_count (mapped vids tree now)) (tree_count after) c few_after
    where
      by : (j : ℕ) → 1 ≤ j → j < 4095 → Wanted tree → (j ≡ tree) ⊎ ((v : ℕ) × (1 ≤ v) × (v ≤ 4094) × (has vids v ≡ false) × (tree_in now v ≡ j)) → has_tree after j ≡ true
      by j low high (inl zero_tree) (inl same) = absurd (omega (arith, low, same, zero_tree))
      by j low high (inr there) (inl same) = ap (has_tree after) same ∙ there
      by j low high w (inr at) = all_wanted after (mapped vids 0 now) none j low high (has_from (mapped vids 0 now) at.0 j at.1 (tree_in-mapped vids 0 now at.0 at.1 at.2 ∙ ap (λ t. if t then 0 else tree_in now at.0) at.3 ∙ at.4) low)

  -- where one is, it makes none behind the lines that do it
  emptied : (vids : List Bool) (tree : ℕ) (now : List ℕ) (u : ℕ) (us : List ℕ) → unwanted after (mapped vids 0 now) ≡ u ∷ us → tree_count now ≤ 64
      → tree_count (mapped vids tree (zeroed now (cut (fits k 0) (runs_from 0 (gathered_first k (mapped vids 0 now) (u ∷ us)))))) ≤ 64
  emptied vids tree now u us is few =
      let c = one_over (mapped vids tree (zeroed now lines)) (mapped vids 0 now) u tree u_is.0.1 u_is.0.0.0 u_is.0.0.1 (λ j some h. by j some (tree_cases vids tree (zeroed now lines) j some h)) in
      let old = under_count (mapped vids 0 now) now (under_zero vids now now (itself_under now)) in
      at_most (tree_count (mapped vids tree (zeroed now lines))) (tree_count (mapped vids 0 now)) c (at_most (tree_count (mapped vids 0 now)) (tree_count now) old few)
    where
      lines : List (List (ℕ × ℕ))
      lines = cut (fits k 0) (runs_from 0 (gathered_first k (mapped vids 0 now) (u ∷ us)))

      u_is : (((1 ≤ u) × (u ≤ 4094)) × (has_tree (mapped vids 0 now) u ≡ true)) × (not (has_tree after u) ≡ true)
      u_is = (subst (AllByRecursion (λ tree. (((1 ≤ tree) × (tree ≤ 4094)) × (has_tree (mapped vids 0 now) tree ≡ true)) × (not (has_tree after tree) ≡ true))) is
          (all_filter (λ tree. not (has_tree after tree)) (mstis_in (mapped vids 0 now)) (λ tree. ((1 ≤ tree) × (tree ≤ 4094)) × (has_tree (mapped vids 0 now) tree ≡ true)) (mstis_fit (mapped vids 0 now)))).0

      by : (j : ℕ) → 1 ≤ j → (j ≡ tree) ⊎ ((v : ℕ) × (1 ≤ v) × (v ≤ 4094) × (has vids v ≡ false) × (tree_in (zeroed now lines) v ≡ j)) → (j ≡ tree) ⊎ ((has_tree (mapped vids 0 now) j ≡ true) × (j ≡ u → ⊥))
      by j some (inl same) = inl same
      by j some (inr at) =
          let v = at.0 in
          let kept : tree_in now v ≡ j = elim (zeroed_under lines now now (itself_under now) v) [
            | inl p ↦ absurd (omega (arith, some, p, at.4))
            | inr p ↦ sym p ∙ at.4
          ] in
          let rest : tree_in (mapped vids 0 now) v ≡ j = tree_in-mapped vids 0 now v at.1 at.2 ∙ ap (λ t. if t then 0 else tree_in now v) at.3 ∙ kept in
          inr (
            has_from (mapped vids 0 now) v j at.1 rest some,
            λ same.
                let small : v < 4096 = omega (arith, at.2) in
                let member = first_has k (mapped vids 0 now) u us v small (in_tree (mapped vids 0 now) u v at.1 at.2 (rest ∙ same)) in
                let gone = zeroed_gone lines now v at.1 at.2 (lines_have k 0 (gathered_first k (mapped vids 0 now) (u ∷ us)) (first_is k (mapped vids 0 now) u us) v small ∙ member) in
                omega (arith, some, gone, at.4),
          )

  -- ---- the lines of a network's bridge
  abbrev Stands : List ℕ → Net → Type 0
  Stands now net = (has_bridge k net ≡ true) × (table_of net k ≡ now) × (tree_count now ≤ 64)

  one_accepted : (tree : ℕ) (vids : List Bool) (now : List ℕ) (net : Net) → Stands now net → tree_count (mapped vids tree now) ≤ 64 → (refusal_of (SetByTree (Table k tree vids)) net ≡ None) × Stands (mapped vids tree now) (effect (SetByTree (Table k tree vids)) net)
  one_accepted tree vids now net s few =
      let there = s.0 in
      let low : nat_lt 64 (tree_count (mapped vids tree (table_of net k))) ≡ false = ap (λ table. nat_lt 64 (tree_count (mapped vids tree table))) s.1 ∙ le-ltb 64 (tree_count (mapped vids tree now)) few in (
        (λ i. first_of ((not (there i), E04) ∷ (low i, E15) ∷ [])),
        (there, foreseen_table (SetByTree (Table k tree vids)) net k ∙ ap (λ b. if b then mapped vids tree (table_of net k) else table_of net k) (itself names k) ∙ ap (mapped vids tree) s.1, few),
      )

  -- a line behind lines to tree 0
  line_fine : (lines : List (List (ℕ × ℕ))) (tree : ℕ) (vids : List Bool) (now : List ℕ) (net : Net) → Stands now net → tree_count (mapped vids tree (zeroed now lines)) ≤ 64
      → Fine (Stands (table_after now (map (λ runs. move 0 (vids_of runs)) lines ++ move tree vids ∷ []))) (map (edit_of k) (map (λ runs. move 0 (vids_of runs)) lines ++ move tree vids ∷ [])) net
  line_fine [] tree vids now net s few = let one = one_accepted tree vids now net s few in record { accepted = (one.0, tt); kept = one.1 }
  line_fine (runs ∷ lines) tree vids now net s few =
      let fewer = under_count (mapped (vids_of runs) 0 now) now (under_zero (vids_of runs) now now (itself_under now)) in
      let few_now = s.2 in
      let one = one_accepted 0 (vids_of runs) now net s (omega (arith, fewer, few_now)) in
      let rest = line_fine lines tree vids (mapped (vids_of runs) 0 now) (effect (SetByTree (Table k 0 (vids_of runs))) net) one.1 few in
      record { accepted = (one.0, rest.accepted); kept = rest.kept }

  way_fine : (tree : ℕ) (vids : List Bool) (now : List ℕ) (net : Net) → Wanted tree → Stands now net → Fine (Stands (table_after now (with_way k after now (move tree vids)))) (map (edit_of k) (with_way k after now (move tree vids))) net
  way_fine tree vids now net wanted s = by (crowds now (move tree vids)) refl (unwanted after (mapped vids 0 now)) refl
    where
      not_more : (n : ℕ) → nat_lt 64 n ≡ false → n ≤ 64
      not_more n e = at (cases_lt 64 n)
        where
          at : (64 < n) ⊎ (n ≤ 64) → n ≤ 64
          at (inl more) = absurd (true≢false (sym (lt-ltb 64 n more) ∙ e))
          at (inr most) = most

      by : (c : Bool) → crowds now (move tree vids) ≡ c → (us : List ℕ) → unwanted after (mapped vids 0 now) ≡ us
          → Fine (Stands (table_after now ((if c then moves_to k 0 (gathered_first k (mapped vids 0 now) us) else []) ++ move tree vids ∷ []))) (map (edit_of k) ((if c then moves_to k 0 (gathered_first k (mapped vids 0 now) us) else []) ++ move tree vids ∷ [])) net
      by false e us f = line_fine [] tree vids now net s (not_more (tree_count (mapped vids tree now)) e)
      by true e [] f = absurd (true≢false (sym e ∙ le-ltb 64 (tree_count (mapped vids tree now)) (roomy vids tree now wanted f)))
      by true e (u ∷ us) f = line_fine (cut (fits k 0) (runs_from 0 (gathered_first k (mapped vids 0 now) (u ∷ us)))) tree vids now net s (emptied vids tree now u us f s.2)

  all_accepted : (pairs : List (ℕ × List (ℕ × ℕ))) → AllByRecursion (λ p. Wanted p.0) pairs → (now : List ℕ) (net : Net) → Stands now net → Accepted (map (edit_of k) (with_ways k after now (map (λ p. move p.0 (vids_of p.1)) pairs))) net
  all_accepted [] h now net s = tt
  all_accepted (p ∷ ps) h now net s =
      let first = way_fine p.0 (vids_of p.1) now net h.0 s in
      let line = move p.0 (vids_of p.1) in
      let next = table_after now (with_way k after now line) in
      let others = with_ways k after next (map (λ p. move p.0 (vids_of p.1)) ps) in
      subst (λ es. Accepted es net) (sym (map-append (edit_of k) (with_way k after now line) others))
      (accepted_append (map (edit_of k) (with_way k after now line)) (map (edit_of k) others) net first.accepted (all_accepted ps h.1 next (made (map (edit_of k) (with_way k after now line)) net) first.kept))

-- ---- lists of lists as lists of pairs
as_pairs : {L M : Type 0} (make : ℕ → L → M) (lists : ℕ → List L) (trees : List ℕ) → flat_map (λ tree. map (make tree) (lists tree)) trees ≡ map (λ (p : ℕ × L). make p.0 p.1) (flat_map (λ tree. map (λ (l : L). (tree, l)) (lists tree)) trees)
as_pairs make lists [] = refl
as_pairs {L = L} {M = M} make lists (tree ∷ trees) =
    let pairs : List (ℕ × L) = map (λ l. (tree, l)) (lists tree) in
    let rest : List (ℕ × L) = flat_map (λ tree. map (λ l. (tree, l)) (lists tree)) trees in
    (let x = one (lists tree) in let y = as_pairs make lists trees in λ i. x i ++ y i) ∙ sym (map-append (λ (p : ℕ × L). make p.0 p.1) pairs rest)
  where
    one : (ls : List L) → map (make tree) ls ≡ map (λ (p : ℕ × L). make p.0 p.1) (map (λ l. (tree, l)) ls)
    one [] = refl
    one (l ∷ ls) = ap (λ (xs : List M). make tree l ∷ xs) (one ls)

pub table_room : TableRoom
table_room k before after net named long few is there same =
    let cuts : ℕ → List (List (ℕ × ℕ)) = λ tree. cut (fits k tree) (runs_from 0 (moved_to before after tree)) in
    subst (λ lines. Accepted (map (edit_of k) (with_ways k after before lines)) net) (sym (as_pairs (λ tree runs. move tree (vids_of runs)) cuts (0 ∷ mstis_in after)))
    (all_accepted k after is.2 (flat_map (λ tree. map (λ runs. (tree, runs)) (cuts tree)) (0 ∷ mstis_in after))
    (all_flat_of (λ (p : ℕ × List (ℕ × ℕ)). Wanted k after is.2 p.0) (Wanted k after is.2) (λ tree. map (λ runs. (tree, runs)) (cuts tree)) (0 ∷ mstis_in after)
    (inl refl, all_as (λ tree. ((1 ≤ tree) × (tree ≤ 4094)) × (has_tree after tree ≡ true)) (Wanted k after is.2) (λ tree p. inr p.1) (mstis_in after) (mstis_fit after))
    (λ tree wanted. all_map (λ (p : ℕ × List (ℕ × ℕ)). Wanted k after is.2 p.0) (λ runs. (tree, runs)) (cuts tree) (λ runs. wanted)))
    before net (there, same, few))

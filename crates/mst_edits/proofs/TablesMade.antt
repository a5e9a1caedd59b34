-- The lines make the table that is wanted.
use Rattle.std.proofs.Common.{◌≡◌, ℕ, zero, suc, ◌<◌, ◌≤◌, ◌⊎◌, inl, inr, Bool, true, false, ◌&&◌, ◌||◌, List, [], ◌∷◌, length, map, get_or, nat_eq, not, refl, sym, ap, ◌∙◌, arith, true≢false}
use Rattle.std.specs.Prelude.{◌==◌, nat_le, if◌then◌else◌}
use Rattle.std.specs.Cmp.{unsigned_Decides}
use Rattle.std.specs.List.{list_any, AllByRecursion}
use Rattle.std.proofs.lemmas.Bool.{cases_lt, leb-true, eqb-true, eq-eqb, and_parts, and_from, le-leb, or_left, or_right}
use Rattle.std.proofs.lemmas.List.{ext_get_or, get_or_past}
use Rattle.mst_ids.specs.Vids.{has, is_vid, runs_from, IsVidSet}
use Rattle.mst_ids.specs.VidBits.{has-set_where, length-set_where}
use Rattle.mst_ids.proofs.VidRangeLemmas.{is_vid_set}
use Rattle.mst_lang.specs.Ranges.{IsName}
use Rattle.mst_net.specs.tables.Table.{tree_in, has_tree, mapped, mstis_in}
use Rattle.mst_edits.specs.EditLine.{no_vids}
use Rattle.mst_edits.specs.Runs.{vids_of}
use Rattle.mst_edits.specs.TableLines.{vids_in, fits, cut, move, moves_to, moved_to, direct_moves, unwanted, is_one_line, with_tree, gathered, gathered_first, ways, with_way, with_ways, crowds, table_after}
use Rattle.mst_edits.proofs.Lists.{all_map_of, all_flat_of, all_as, all_filter, any_flat, any_passing}
use Rattle.mst_edits.proofs.RunLemmas.{covers, runs_of_set, set_of_runs}
use Rattle.mst_edits.proofs.Cuts.{IsLine, lines_are, some_line, one_fits, vids_in_is}
use Rattle.mst_edits.proofs.TreesMapped.{tree_in-mapped, has_place, mstis_fit}
use Rattle.mst_edits.specs.declared.moves.Move.{Move}
use Rattle.mst_edits.proofs.LinesMade.{length-mapped, length-after, after_append}

-- ---- the lines of a set map its VIDs and no others
covered_by : (vids : List Bool) → IsVidSet vids → (v : ℕ) → v < 4096 → covers (runs_from 0 vids) v ≡ has vids v
covered_by vids is v small = sym (has-set_where (covers (runs_from 0 vids)) v small) ∙ ap (λ s. has s v) (set_of_runs vids is)

-- a line of a set's
record IsMove (vids : List Bool) (tree : ℕ) (line : Move) : Type 0 where
  tree_is : line.tree ≡ tree
  within : (v : ℕ) → has line.vids v ≡ true → has vids v ≡ true

module _ (name : List ℕ) (named : IsName name) where
  moves_are : (tree : ℕ) → tree ≤ 4094 → (vids : List Bool) → IsVidSet vids → AllByRecursion (IsMove vids tree) (moves_to name tree vids)
  moves_are tree most vids is =
      let runs = runs_from 0 vids in
      all_map_of (IsMove vids tree) (IsLine (fits name tree) runs) (λ line. move tree (vids_of line)) (cut (fits name tree) runs)
      (lines_are (fits name tree) runs (λ run low order high. one_fits name tree run named most low order high) runs (runs_of_set vids is) (λ v h. h))
      (λ line l. record { tree_is = refl; within = λ v h. by line l v h (cases_lt v 4096) })
    where
      by : (line : List (ℕ × ℕ)) → IsLine (fits name tree) (runs_from 0 vids) line → (v : ℕ) → has (vids_of line) v ≡ true → (v < 4096) ⊎ (4096 ≤ v) → has vids v ≡ true
      by line l v h (inl small) = sym (covered_by vids is v small) ∙ l.covered v (sym (has-set_where (covers line) v small) ∙ h)
      by line l v h (inr large) = absurd (true≢false (sym h ∙ get_or_past (vids_of line) v false (omega (arith, large, length-set_where (covers line)))))

  any_map : {A B : Type 0} (p : B → Bool) (f : A → B) (xs : List A) → list_any p (map f xs) ≡ list_any (λ x. p (f x)) xs
  any_map p f [] = refl
  any_map p f (x ∷ xs) = ap (λ b. p (f x) || b) (any_map p f xs)

  some_move : (tree : ℕ) (vids : List Bool) → IsVidSet vids → (v : ℕ) → v < 4096 → list_any (λ line. has line.vids v) (moves_to name tree vids) ≡ has vids v
  some_move tree vids is v small =
      let lines = cut (fits name tree) (runs_from 0 vids) in
      any_map (λ line. has line.vids v) (λ line. move tree (vids_of line)) lines
      ∙ (λ i. list_any (λ line. has-set_where (covers line) v small i) lines)
      ∙ some_line (fits name tree) (runs_from 0 vids) v ∙ covered_by vids is v small

-- ---- a VID that no line maps
untouched : (lines : List Move) (now : List ℕ) (v : ℕ) → 1 ≤ v → v ≤ 4094 → AllByRecursion (λ line. has line.vids v ≡ false) lines → tree_in (table_after now lines) v ≡ tree_in now v
untouched [] now v low high none = refl
untouched (line ∷ lines) now v low high none =
    untouched lines (mapped line.vids line.tree now) v low high none.1 ∙ tree_in-mapped line.vids line.tree now v low high
    ∙ ap (λ b. if b then line.tree else tree_in now v) none.0

-- ---- the VIDs that go by way of tree 0
gathered_all : (name table : List ℕ) (P : ℕ → Type 0) (vids : List Bool) (trees : List ℕ) → ((v : ℕ) → has vids v ≡ true → P v) → AllByRecursion (λ tree. (v : ℕ) → has (vids_in table tree) v ≡ true → P v) trees → (v : ℕ) → has (gathered name table vids trees) v ≡ true → P v
gathered_all name table P vids [] own each v h = own v h
gathered_all name table P vids (tree ∷ trees) own each v h =
    by (is_one_line name (with_tree table vids tree)) h (λ i. gathered_all name table P (with_tree table vids tree) trees more each.1 v i)
  where
    more : (v : ℕ) → has (with_tree table vids tree) v ≡ true → P v
    more v h = at (cases_lt v 4096)
      where
        or_cases : (a b : Bool) → (a || b) ≡ true → (a ≡ true) ⊎ (b ≡ true)
        or_cases true b e = inl refl
        or_cases false b e = inr e

        at : (v < 4096) ⊎ (4096 ≤ v) → P v
        at (inl small) = elim (or_cases (has vids v) (has (vids_in table tree) v) (sym (has-set_where (λ n. has vids n || has (vids_in table tree) n) v small) ∙ h)) [
          | inl e ↦ own v e
          | inr e ↦ each.0 v e
        ]
        at (inr large) = absurd (true≢false (sym h ∙ get_or_past (with_tree table vids tree) v false (omega (arith, large, length-set_where (λ n. has vids n || has (vids_in table tree) n)))))

    by : (b : Bool) → has (if b then gathered name table (with_tree table vids tree) trees else vids) v ≡ true → (has (gathered name table (with_tree table vids tree) trees) v ≡ true → P v) → P v
    by true h rest = rest h
    by false h rest = own v h

first_all : (name table : List ℕ) (P : ℕ → Type 0) (trees : List ℕ) → AllByRecursion (λ tree. (v : ℕ) → has (vids_in table tree) v ≡ true → P v) trees → (v : ℕ) → has (gathered_first name table trees) v ≡ true → P v
first_all name table P [] each v h = absurd (true≢false (sym h ∙ none v (cases_lt v 4096)))
  where
    none : (v : ℕ) → (v < 4096) ⊎ (4096 ≤ v) → has no_vids v ≡ false
    none v (inl small) = has-set_where (λ _. false) v small
    none v (inr large) = get_or_past no_vids v false (omega (arith, large, length-set_where (λ _. false)))
first_all name table P (tree ∷ trees) each v h =
    by (is_one_line name (vids_in table tree)) h (λ i. gathered_all name table P (vids_in table tree) trees each.0 each.1 v i)
  where
    by : (b : Bool) → has (if b then gathered name table (vids_in table tree) trees else vids_in table tree) v ≡ true → (has (gathered name table (vids_in table tree) trees) v ≡ true → P v) → P v
    by true h rest = rest h
    by false h rest = each.0 v h

-- ---- sets of VIDs stay sets of VIDs
with_tree_is : (table : List ℕ) (vids : List Bool) (tree : ℕ) → IsVidSet vids → IsVidSet (with_tree table vids tree)
with_tree_is table vids tree is =
    let own = vids_in_is table tree in
    is_vid_set (λ v. has vids v || has (vids_in table tree) v) (ap (λ b. b || has (vids_in table tree) 0) is.1 ∙ own.1) (ap (λ b. b || has (vids_in table tree) 4095) is.2 ∙ own.2)

gathered_is : (name table : List ℕ) (vids : List Bool) (trees : List ℕ) → IsVidSet vids → IsVidSet (gathered name table vids trees)
gathered_is name table vids [] is = is
gathered_is name table vids (tree ∷ trees) is = by (is_one_line name (with_tree table vids tree)) (gathered_is name table (with_tree table vids tree) trees (with_tree_is table vids tree is))
  where
    by : (b : Bool) → IsVidSet (gathered name table (with_tree table vids tree) trees) → IsVidSet (if b then gathered name table (with_tree table vids tree) trees else vids)
    by true rest = rest
    by false rest = is

first_is_set : (name table : List ℕ) (trees : List ℕ) → IsVidSet (gathered_first name table trees)
first_is_set name table [] = is_vid_set (λ _. false) refl refl
first_is_set name table (tree ∷ trees) = by (is_one_line name (vids_in table tree)) (gathered_is name table (vids_in table tree) trees (vids_in_is table tree))
  where
    by : (b : Bool) → IsVidSet (gathered name table (vids_in table tree) trees) → IsVidSet (if b then gathered name table (vids_in table tree) trees else vids_in table tree)
    by true rest = rest
    by false rest = vids_in_is table tree

in_tree : (table : List ℕ) (tree v : ℕ) → has (vids_in table tree) v ≡ true → (1 ≤ v) × (v ≤ 4094) × (tree_in table v ≡ tree)
in_tree table tree v h = by (cases_lt v 4096)
  where
    by : (v < 4096) ⊎ (4096 ≤ v) → (1 ≤ v) × (v ≤ 4094) × (tree_in table v ≡ tree)
    by (inl small) =
        let both = and_parts (is_vid v) (tree_in table v == tree) (sym (has-set_where (λ n. is_vid n && tree_in table n == tree) v small) ∙ h) in
        let vid = and_parts (nat_le 1 v) (nat_le v 4094) both.0 in
        (leb-true 1 v vid.0, leb-true v 4094 vid.1, eqb-true (tree_in table v) tree both.1)
    by (inr large) = absurd (true≢false (sym h ∙ get_or_past (vids_in table tree) v false (omega (arith, large, (vids_in_is table tree).0))))

-- ---- a VID that is as wanted doesn't go by way of tree 0
module _ (name : List ℕ) (named : IsName name) (after : List ℕ) (long : length after ≡ 4094) where
  abbrev Unwanted : List ℕ → ℕ → Type 0
  Unwanted rest v = (1 ≤ tree_in rest v) × (has_tree after (tree_in rest v) ≡ false)

  not_true : (b : Bool) → not b ≡ true → b ≡ false
  not_true true e = absurd (true≢false (sym e))
  not_true false e = refl

  each_unwanted : (rest : List ℕ) → length rest ≡ 4094 → AllByRecursion (λ tree. (v : ℕ) → has (vids_in rest tree) v ≡ true → Unwanted rest v) (unwanted after rest)
  each_unwanted rest len =
      all_as (λ tree. (((1 ≤ tree) × (tree ≤ 4094)) × (has_tree rest tree ≡ true)) × (not (has_tree after tree) ≡ true)) (λ tree. (v : ℕ) → has (vids_in rest tree) v ≡ true → Unwanted rest v)
      (λ tree p v h. let i = in_tree rest tree v h in (omega (arith, p.0.0.0, i.2), ap (has_tree after) i.2 ∙ not_true (has_tree after tree) p.1))
      (unwanted after rest)
      (all_filter (λ tree. not (has_tree after tree)) (mstis_in rest) (λ tree. ((1 ≤ tree) × (tree ≤ 4094)) × (has_tree rest tree ≡ true)) (mstis_fit rest))

  Right : List ℕ → ℕ → Type 0
  Right now v = tree_in now v ≡ tree_in after v

  set_free : (now : List ℕ) (line : Move) (v : ℕ) → 1 ≤ v → v ≤ 4094 → tree_in now v ≡ tree_in after v → has (gathered_first name (mapped line.vids 0 now) (unwanted after (mapped line.vids 0 now))) v ≡ false
  set_free now line zero low high right = absurd (omega arith)
  set_free now line (suc j) low high right = by (has (gathered_first name rest (unwanted after rest)) (suc j)) refl
    where
      rest : List ℕ
      rest = mapped line.vids 0 now

      wrong : Unwanted (mapped line.vids 0 now) (suc j) → ⊥
      wrong u = at (has line.vids (suc j)) (tree_in-mapped line.vids 0 now (suc j) low high) u
        where
          at : (b : Bool) → tree_in (mapped line.vids 0 now) (suc j) ≡ (if b then 0 else tree_in now (suc j)) → Unwanted (mapped line.vids 0 now) (suc j) → ⊥
          at true e u = omega (arith, e, u.0)
          at false e u = true≢false (sym (has_place after j (tree_in (mapped line.vids 0 now) (suc j)) (sym (e ∙ right)) u.0) ∙ u.1)

      by : (b : Bool) → has (gathered_first name (mapped line.vids 0 now) (unwanted after (mapped line.vids 0 now))) (suc j) ≡ b → b ≡ false
      by false e = refl
      by true e = absurd (wrong (first_all name (mapped line.vids 0 now) (Unwanted (mapped line.vids 0 now)) (unwanted after (mapped line.vids 0 now)) (each_unwanted (mapped line.vids 0 now) (length-mapped line.vids 0 now)) (suc j) e))

  ways_free : (now : List ℕ) (line : Move) (v : ℕ) → 1 ≤ v → v ≤ 4094 → tree_in now v ≡ tree_in after v → AllByRecursion (λ l. has l.vids v ≡ false) (ways name after now line)
  ways_free now line v low high right =
      all_as (IsMove set 0) (λ l. has l.vids v ≡ false) (λ l m. by l m (has l.vids v) refl) (ways name after now line) (moves_are name named 0 (omega arith) set (first_is_set name (mapped line.vids 0 now) (unwanted after (mapped line.vids 0 now))))
    where
      set : List Bool
      set = gathered_first name (mapped line.vids 0 now) (unwanted after (mapped line.vids 0 now))

      by : (l : Move) → IsMove (gathered_first name (mapped line.vids 0 now) (unwanted after (mapped line.vids 0 now))) 0 l → (b : Bool) → has l.vids v ≡ b → b ≡ false
      by l m false e = refl
      by l m true e = absurd (true≢false (sym (m.within v e) ∙ set_free now line v low high right))

  -- a line leaves a VID right that is right or is one of its own
  way_right : (now : List ℕ) (line : Move) (v : ℕ) → 1 ≤ v → v ≤ 4094 → (has line.vids v ≡ true → tree_in after v ≡ line.tree) → (tree_in now v ≡ tree_in after v) ⊎ (has line.vids v ≡ true)
      → tree_in (table_after now (with_way name after now line)) v ≡ tree_in after v
  way_right now line v low high keeps h =
      ap (λ t. tree_in t v) (after_append before (line ∷ []) now) ∙ tree_in-mapped line.vids line.tree (table_after now before) v low high ∙ by (has line.vids v) refl h
    where
      before : List Move
      before = if crowds now line then ways name after now line else []

      free : tree_in now v ≡ tree_in after v → (b : Bool) → AllByRecursion (λ l. has l.vids v ≡ false) (if b then ways name after now line else [])
      free right true = ways_free now line v low high right
      free right false = tt

      by : (b : Bool) → has line.vids v ≡ b → (tree_in now v ≡ tree_in after v) ⊎ (has line.vids v ≡ true) → (if b then line.tree else tree_in (table_after now (if crowds now line then ways name after now line else [])) v) ≡ tree_in after v
      by true e h = sym (keeps e)
      by false e (inl right) = untouched (if crowds now line then ways name after now line else []) now v low high (free right (crowds now line)) ∙ right
      by false e (inr member) = absurd (true≢false (sym member ∙ e))

  pub all_right : (lines : List Move) (now : List ℕ) (v : ℕ) → 1 ≤ v → v ≤ 4094 → AllByRecursion (λ l. has l.vids v ≡ true → tree_in after v ≡ l.tree) lines → (tree_in now v ≡ tree_in after v) ⊎ (list_any (λ l. has l.vids v) lines ≡ true)
      → tree_in (table_after now (with_ways name after now lines)) v ≡ tree_in after v
  all_right [] now v low high keeps (inl right) = right
  all_right [] now v low high keeps (inr e) = absurd (true≢false (sym e))
  all_right (line ∷ lines) now v low high keeps h =
      ap (λ t. tree_in t v) (after_append (with_way name after now line) (with_ways name after (table_after now (with_way name after now line)) lines) now)
      ∙ all_right lines (table_after now (with_way name after now line)) v low high keeps.1 (by (has line.vids v) refl h)
    where
      by : (b : Bool) → has line.vids v ≡ b → (tree_in now v ≡ tree_in after v) ⊎ ((b || list_any (λ l. has l.vids v) lines) ≡ true)
          → (tree_in (table_after now (with_way name after now line)) v ≡ tree_in after v) ⊎ (list_any (λ l. has l.vids v) lines ≡ true)
      by true e h = inl (way_right now line v low high keeps.0 (inr e))
      by false e (inl right) = inl (way_right now line v low high keeps.0 (inl right))
      by false e (inr later) = inr later

  -- ---- the lines that go straight to their trees
  moved_set : (before : List ℕ) (tree : ℕ) → IsVidSet (moved_to before after tree)
  moved_set before tree = is_vid_set (λ vid. is_vid vid && (tree_in after vid == tree && not (tree_in before vid == tree))) refl refl

  moved_tree : (before : List ℕ) (tree v : ℕ) → has (moved_to before after tree) v ≡ true → tree_in after v ≡ tree
  moved_tree before tree v h = by (cases_lt v 4096)
    where
      by : (v < 4096) ⊎ (4096 ≤ v) → tree_in after v ≡ tree
      by (inl small) =
          let both = and_parts (is_vid v) (tree_in after v == tree && not (tree_in before v == tree)) (sym (has-set_where (λ vid. is_vid vid && (tree_in after vid == tree && not (tree_in before vid == tree))) v small) ∙ h) in
          eqb-true (tree_in after v) tree (and_parts (tree_in after v == tree) (not (tree_in before v == tree)) both.1).0
      by (inr large) = absurd (true≢false (sym h ∙ get_or_past (moved_to before after tree) v false (omega (arith, large, (moved_set before tree).0))))

  direct_keeps : (before : List ℕ) (v : ℕ) → AllByRecursion (λ l. has l.vids v ≡ true → tree_in after v ≡ l.tree) (direct_moves name before after)
  direct_keeps before v =
      all_flat_of (λ l. has l.vids v ≡ true → tree_in after v ≡ l.tree) (λ tree. tree ≤ 4094) (λ tree. moves_to name tree (moved_to before after tree)) (0 ∷ mstis_in after)
      (omega arith, all_as (λ tree. ((1 ≤ tree) × (tree ≤ 4094)) × (has_tree after tree ≡ true)) (λ tree. tree ≤ 4094) (λ tree p. p.0.1) (mstis_in after) (mstis_fit after))
      (λ tree most. all_as (IsMove (moved_to before after tree) tree) (λ l. has l.vids v ≡ true → tree_in after v ≡ l.tree) (λ l m h. moved_tree before tree v (m.within v h) ∙ sym m.tree_is)
      (moves_to name tree (moved_to before after tree)) (moves_are name named tree most (moved_to before after tree) (moved_set before tree)))

  all_at : (P : ℕ → Type 0) (l : List ℕ) (i d : ℕ) → AllByRecursion P l → P d → P (get_or l i d)
  all_at P [] i d h default = default
  all_at P (x ∷ l) zero d h default = h.0
  all_at P (x ∷ l) (suc i) d h default = all_at P l i d h.1 default

  wanted : (j : ℕ) → tree_in after (suc j) ≤ 4094 → list_any (λ tree. nat_eq tree (tree_in after (suc j))) (0 ∷ mstis_in after) ≡ true
  unfolding mstis_in
  wanted j fit = by (cases_lt 0 (tree_in after (suc j)))
    where
      by : (0 < tree_in after (suc j)) ⊎ (tree_in after (suc j) ≤ 0) → list_any (λ tree. nat_eq tree (tree_in after (suc j))) (0 ∷ mstis_in after) ≡ true
      by (inl some) =
          or_right (nat_eq 0 (tree_in after (suc j))) _ (any_passing (λ tree. nat_eq tree (tree_in after (suc j))) (has_tree after) (tree_in after (suc j)) 1 4094 (omega arith) (omega (arith, fit)) (has_place after j (tree_in after (suc j)) refl (omega arith)) ((unsigned_Decides (tree_in after (suc j)) (tree_in after (suc j))).1 refl))
      by (inr none) = or_left (nat_eq 0 (tree_in after (suc j))) _ ((unsigned_Decides 0 (tree_in after (suc j))).1 (omega arith))

  direct_covers : (before : List ℕ) (j : ℕ) → suc j ≤ 4094 → tree_in after (suc j) ≤ 4094 → (tree_in before (suc j) == tree_in after (suc j)) ≡ false → list_any (λ l. has l.vids (suc j)) (direct_moves name before after) ≡ true
  direct_covers before j high fit other =
      any_flat (λ l. has l.vids (suc j)) (λ tree. moves_to name tree (moved_to before after tree)) (λ tree. nat_eq tree (tree_in after (suc j))) (0 ∷ mstis_in after)
      (λ tree e. here tree ((unsigned_Decides tree (tree_in after (suc j))).0 e)) (wanted j fit)
    where
      here : (tree : ℕ) → tree ≡ tree_in after (suc j) → list_any (λ l. has l.vids (suc j)) (moves_to name tree (moved_to before after tree)) ≡ true
      here tree same =
          let small : suc j < 4096 = omega (arith, high) in
          some_move name named tree (moved_to before after tree) (moved_set before tree) (suc j) small
          ∙ has-set_where (λ vid. is_vid vid && (tree_in after vid == tree && not (tree_in before vid == tree))) (suc j) small
          ∙ and_from (is_vid (suc j)) _ (and_from (nat_le 1 (suc j)) (nat_le (suc j) 4094) (le-leb 1 (suc j) (omega arith)) (le-leb (suc j) 4094 high))
          (and_from (tree_in after (suc j) == tree) _ (eq-eqb (tree_in after (suc j)) tree (sym same)) (ap (λ t. not (tree_in before (suc j) == t)) same ∙ ap not other))

  -- all lines make the table
  pub lines_make : (before : List ℕ) → length before ≡ 4094 → AllByRecursion (λ tree. tree ≤ 4094) after → table_after before (with_ways name after before (direct_moves name before after)) ≡ after
  lines_make before len fit =
      let new = table_after before (with_ways name after before (direct_moves name before after)) in
      let long_new : length new ≡ 4094 = length-after (with_ways name after before (direct_moves name before after)) before len in
      ext_get_or 0 new after (long_new ∙ sym long) (λ j h. at j (omega (arith, long_new)) (tree_in before (suc j) == tree_in after (suc j)) refl)
    where
      tree_fits : (j : ℕ) → tree_in after (suc j) ≤ 4094
      tree_fits j = all_at (λ tree. tree ≤ 4094) after j 0 fit (omega arith)

      at : (j : ℕ) → suc j ≤ 4094 → (b : Bool) → (tree_in before (suc j) == tree_in after (suc j)) ≡ b → tree_in (table_after before (with_ways name after before (direct_moves name before after))) (suc j) ≡ tree_in after (suc j)
      at j high true e = all_right (direct_moves name before after) before (suc j) (omega arith) high (direct_keeps before (suc j)) (inl (eqb-true (tree_in before (suc j)) (tree_in after (suc j)) e))
      at j high false e = all_right (direct_moves name before after) before (suc j) (omega arith) high (direct_keeps before (suc j)) (inr (direct_covers before j high (tree_fits j) e))

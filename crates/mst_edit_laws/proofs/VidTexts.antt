-- The text of runs, read again.
use Rattle.std.proofs.Common.{◌≡◌, ℕ, suc, ◌+◌, ◌^◌, ◌<◌, ◌≤◌, Bool, true, false, cond, List, [], ◌∷◌, ◌++◌, map, length, length-append, take, drop, Some, None, refl, sym, ap, ◌∙◌, decimal, arith, true≢false}
use Rattle.std.specs.Prelude.{◌==◌, ◌&&◌, nat_le, nat_lt, not, if◌then◌else◌}
use Rattle.std.specs.List.{list_all, slice_split, onto_first, prefix_len, join_with_byte}
use Rattle.std.specs.Option.{option_map, option_and_then}
use Rattle.std.specs.Char.{is_ascii_digit}
use Rattle.std.proofs.lemmas.Bool.{and_from, and_parts, le-leb, lt-ltb, le-ltb, leb-true, eqb-true, ne_eqb}
use Rattle.std.proofs.lemmas.List.Folds.{list_all-append}
use Rattle.std.proofs.lemmas.List.Splits.{slice_split-cons_no}
use Rattle.mst_ids.specs.Texts.{is_conf_name_byte}
use Rattle.mst_ids.specs.Vids.{is_vid, is_numeral, vid_value, range_between, halves_of, range_of_halves, range_of, ranges_of, items_of, vids_value, run_text, runs_text}
use Rattle.mst_edits.specs.Runs.{vids_of, AreRuns}
use Rattle.mst_edit_laws.proofs.Numbers.{decimal_digits, decimal_value_is, decimal_is_numeral}

-- ---- bytes
all_pass : (p q : ℕ → Bool) → ((b : ℕ) → p b ≡ true → q b ≡ true) → (bs : List ℕ) → list_all p bs ≡ true → list_all q bs ≡ true
all_pass p q h [] all = refl
all_pass p q h (b ∷ bs) all = let both = and_parts (p b) (list_all p bs) all in and_from (q b) (list_all q bs) (h b both.0) (all_pass p q h bs both.1)

abbrev no_dash : ℕ → Bool
no_dash b = not (b == 45)

abbrev no_comma : ℕ → Bool
no_comma b = not (b == 44)

digit_is : (b : ℕ) → is_ascii_digit b ≡ true → (48 ≤ b) × (b ≤ 57)
digit_is b h = let both = and_parts (nat_le 48 b) (nat_le b 57) h in (leb-true 48 b both.0, leb-true b 57 both.1)

digits_no_dash : (n : ℕ) → n < 2 ^ 64 → list_all no_dash (decimal n) ≡ true
digits_no_dash n h = all_pass is_ascii_digit no_dash (λ b d. let k = digit_is b d in ap not (ne_eqb b 45 (λ e. omega (arith, k.0)))) (decimal n) (decimal_digits n h)

digits_no_comma : (n : ℕ) → n < 2 ^ 64 → list_all no_comma (decimal n) ≡ true
digits_no_comma n h = all_pass is_ascii_digit no_comma (λ b d. let k = digit_is b d in ap not (ne_eqb b 44 (λ e. omega (arith, k.0)))) (decimal n) (decimal_digits n h)

pub digits_plain : (n : ℕ) → n < 2 ^ 64 → list_all is_conf_name_byte (decimal n) ≡ true
digits_plain n h = all_pass is_ascii_digit is_conf_name_byte (λ b d. let k = digit_is b d in and_from (nat_le 33 b) (nat_le b 126) (le-leb 33 b (omega (arith, k.0))) (le-leb b 126 (omega (arith, k.1)))) (decimal n) (decimal_digits n h)

-- a test of the bytes of a run's text
run_passes : (p : ℕ → Bool) (run : ℕ × ℕ) → p 45 ≡ true → list_all p (decimal run.0) ≡ true → list_all p (decimal run.1) ≡ true → list_all p (run_text run) ≡ true
run_passes p run dash first last = by (run.0 == run.1)
  where
    by : (b : Bool) → list_all p (if b then decimal run.0 else decimal run.0 ++ 45 ∷ decimal run.1) ≡ true
    by true = first
    by false = list_all-append p (decimal run.0) (45 ∷ decimal run.1) ∙ and_from (list_all p (decimal run.0)) _ first (and_from (p 45) _ dash last)

-- ---- an item
vid_read : (n : ℕ) → 1 ≤ n → n ≤ 4094 → vid_value (decimal n) ≡ Some n
vid_read n low high =
    let value = decimal_value_is n (omega arith) in
    ap (λ v. if is_numeral (decimal n) && is_vid v then Some v else None) value
    ∙ passed (is_numeral (decimal n) && is_vid n) (and_from (is_numeral (decimal n)) (is_vid n) (decimal_is_numeral n (omega arith)) (and_from (nat_le 1 n) (nat_le n 4094) (le-leb 1 n low) (le-leb n 4094 high)))
  where
    passed : (b : Bool) → b ≡ true → (if b then Some n else None) ≡ Some n
    passed true h = refl
    passed false h = absurd (true≢false (sym h))

passing : (p : ℕ → Bool) (bs : List ℕ) → list_all p bs ≡ true → prefix_len p bs ≡ length bs
passing p [] h = refl
passing p (b ∷ bs) h = let both = and_parts (p b) (list_all p bs) h in ap (λ t. cond t (1 + prefix_len p bs) 0) both.0 ∙ (let rest = passing p bs both.1 in omega (arith, rest))

passing_to : (p : ℕ → Bool) (bs : List ℕ) (c : ℕ) (cs : List ℕ) → list_all p bs ≡ true → p c ≡ false → prefix_len p (bs ++ c ∷ cs) ≡ length bs
passing_to p [] c cs h stop = ap (λ t. cond t (1 + prefix_len p cs) 0) stop
passing_to p (b ∷ bs) c cs h stop = let both = and_parts (p b) (list_all p bs) h in ap (λ t. cond t (1 + prefix_len p (bs ++ c ∷ cs)) 0) both.0 ∙ (let rest = passing_to p bs c cs both.1 stop in omega (arith, rest))

front_of : (bs cs : List ℕ) → take (length bs) (bs ++ cs) ≡ bs
front_of [] cs = refl
front_of (b ∷ bs) cs = ap (λ l. b ∷ l) (front_of bs cs)

past_of : (bs : List ℕ) (c : ℕ) (cs : List ℕ) (n : ℕ) → n ≡ length bs + 1 → drop n (bs ++ c ∷ cs) ≡ cs
past_of [] c cs n h = ap (λ k. drop k (c ∷ cs)) h
past_of (b ∷ bs) c cs n h = let next : n ≡ suc (length bs + 1) = omega arith in ap (λ k. drop k (b ∷ bs ++ c ∷ cs)) next ∙ past_of bs c cs (length bs + 1) refl

halves_none : (item : List ℕ) → list_all no_dash item ≡ true → halves_of item ≡ None
halves_none item h =
    let all : prefix_len (λ x. not (x == 45)) item ≡ length item = passing no_dash item h in
    ap (option_map (λ dash. (take dash item, drop (dash + 1) item)))
    (ap (λ t. cond t (Some (prefix_len (λ x. not (x == 45)) item)) None) (le-ltb (prefix_len (λ x. not (x == 45)) item) (length item) (omega arith)))

halves_some : (first last : List ℕ) → list_all no_dash first ≡ true → halves_of (first ++ 45 ∷ last) ≡ Some (first, last)
halves_some first last h =
    let all : prefix_len (λ x. not (x == 45)) (first ++ 45 ∷ last) ≡ length first = passing_to no_dash first 45 last h refl in
    let there : length first < length (first ++ 45 ∷ last) = omega (arith, length-append first (45 ∷ last)) in
    ap (option_map (λ dash. (take dash (first ++ 45 ∷ last), drop (dash + 1) (first ++ 45 ∷ last))))
    (ap (λ n. cond (nat_lt n (length (first ++ 45 ∷ last))) (Some n) None) all
    ∙ ap (λ t. cond t (Some (length first)) None) (lt-ltb (length first) (length (first ++ 45 ∷ last)) there))
    ∙ (let front = front_of first (45 ∷ last) in let past = past_of first 45 last (length first + 1) refl in λ i. Some (front i, past i))

run_read : (run : ℕ × ℕ) → 1 ≤ run.0 → run.0 ≤ run.1 → run.1 ≤ 4094 → range_of (run_text run) ≡ Some run
run_read run low order high = by (run.0 == run.1) refl
  where
    by : (b : Bool) → (run.0 == run.1) ≡ b → range_of (if b then decimal run.0 else decimal run.0 ++ 45 ∷ decimal run.1) ≡ Some run
    by true e =
        let same = eqb-true run.0 run.1 e in
        ap (range_of_halves (decimal run.0)) (halves_none (decimal run.0) (digits_no_dash run.0 (omega arith)))
        ∙ ap (option_map (λ (vid : ℕ). (vid, vid))) (vid_read run.0 low (omega arith)) ∙ ap (λ (last : ℕ). Some (run.0, last)) same
    by false e =
        let first = vid_read run.0 low (omega arith) in
        let last = vid_read run.1 (omega arith) high in
        ap (range_of_halves (decimal run.0 ++ 45 ∷ decimal run.1)) (halves_some (decimal run.0) (decimal run.1) (digits_no_dash run.0 (omega arith)))
        ∙ (λ i. range_between (first i) (last i)) ∙ ap (λ (t : Bool). if t then Some run else None) (le-leb run.0 run.1 order)

-- ---- all items
not_passes : (b : Bool) → not b ≡ true → b ≡ false
not_passes true h = absurd (true≢false (sym h))
not_passes false h = refl

split_none : (bs : List ℕ) → list_all no_comma bs ≡ true → slice_split (λ b. b == 44) bs ≡ bs ∷ []
split_none [] h = refl
split_none (b ∷ bs) h =
    let both = and_parts (no_comma b) (list_all no_comma bs) h in
    slice_split-cons_no (λ b. b == 44) b bs (not_passes (b == 44) both.0) ∙ ap (onto_first b) (split_none bs both.1)

split_at : (bs cs : List ℕ) → list_all no_comma bs ≡ true → slice_split (λ b. b == 44) (bs ++ 44 ∷ cs) ≡ bs ∷ slice_split (λ b. b == 44) cs
split_at [] cs h = refl
split_at (b ∷ bs) cs h =
    let both = and_parts (no_comma b) (list_all no_comma bs) h in
    slice_split-cons_no (λ b. b == 44) b (bs ++ 44 ∷ cs) (not_passes (b == 44) both.0) ∙ ap (onto_first b) (split_at bs cs both.1)

run_no_comma : (run : ℕ × ℕ) → run.0 ≤ 4094 → run.1 ≤ 4094 → list_all no_comma (run_text run) ≡ true
run_no_comma run first last = run_passes no_comma run refl (digits_no_comma run.0 (omega arith)) (digits_no_comma run.1 (omega arith))

items_are : (run : ℕ × ℕ) (runs : List (ℕ × ℕ)) (from : ℕ) → AreRuns from (run ∷ runs) → items_of (join_with_byte 44 (map run_text (run ∷ runs))) ≡ map run_text (run ∷ runs)
items_are run [] from are = split_none (run_text run) (run_no_comma run (omega (arith, are.1, are.2)) are.2)
items_are run (next ∷ runs) from are =
    split_at (run_text run) (join_with_byte 44 (map run_text (next ∷ runs))) (run_no_comma run (omega (arith, are.1, are.2)) are.2)
    ∙ ap (λ l. run_text run ∷ l) (items_are next runs (run.1 + 2) are.3)

ranges_are : (from : ℕ) (runs : List (ℕ × ℕ)) → 1 ≤ from → AreRuns from runs → ranges_of (map run_text runs) ≡ Some runs
ranges_are from [] some are = refl
ranges_are from (run ∷ runs) some are =
    let first = run_read run (omega (arith, are.0)) are.1 are.2 in
    let rest = ranges_are (run.1 + 2) runs (omega arith) are.3 in
    λ i. option_and_then (λ range. option_map (λ ranges. range ∷ ranges) (rest i)) (first i)

pub runs_read : (run : ℕ × ℕ) (runs : List (ℕ × ℕ)) → AreRuns 1 (run ∷ runs) → vids_value (runs_text (run ∷ runs)) ≡ Some (vids_of (run ∷ runs))
runs_read run runs are = ap (option_map vids_of) (ap ranges_of (items_are run runs 1 are) ∙ ranges_are 1 (run ∷ runs) (omega arith) are)

-- the bytes of the text
run_plain : (run : ℕ × ℕ) → run.0 ≤ run.1 → run.1 ≤ 4094 → list_all is_conf_name_byte (run_text run) ≡ true
run_plain run order high = run_passes is_conf_name_byte run refl (digits_plain run.0 (omega arith)) (digits_plain run.1 (omega arith))

pub runs_plain : (run : ℕ × ℕ) (runs : List (ℕ × ℕ)) (from : ℕ) → AreRuns from (run ∷ runs) → list_all is_conf_name_byte (runs_text (run ∷ runs)) ≡ true
runs_plain run [] from are = run_plain run are.1 are.2
runs_plain run (next ∷ runs) from are =
    list_all-append is_conf_name_byte (run_text run) (44 ∷ join_with_byte 44 (map run_text (next ∷ runs)))
    ∙ and_from (list_all is_conf_name_byte (run_text run)) _ (run_plain run are.1 are.2) (runs_plain next runs (run.1 + 2) are.3)

-- Runs that are cut into lines.
use Rattle.std.proofs.Common.{◌≡◌, ◌≢◌, ℕ, ◌+◌, ◌<◌, ◌≤◌, Bool, true, false, ◌||◌, List, [], ◌∷◌, ◌++◌, length, decimal, refl, sym, ap, subst, ◌∙◌, append_assoc, arith, true≢false, length-append}
use Rattle.std.specs.Prelude.{◌==◌, ◌&&◌, nat_le, codes, if◌then◌else◌}
use Rattle.std.specs.List.{list_any, AllByRecursion}
use Rattle.std.proofs.lemmas.Bool.{or_left, or_right, and_from, and_parts, le-leb, leb-true}
use Rattle.std.proofs.lemmas.List.{append-nil}
use Rattle.mst_ids.specs.Vids.{has, is_vid, IsVidSet, is_within, runs_from, run_text, runs_text, vids_text}
use Rattle.mst_ids.specs.VidBits.{length-set_where, has-set_where}
use Rattle.mst_ids.proofs.VidSetLemmas.{or_assoc}
use Rattle.mst_ids.proofs.VidRangeLemmas.{is_vid_set}
use Rattle.mst_lang.specs.Ranges.{IsName}
use Rattle.mst_edits.proofs.Short.{spaced_short, name_short, number_short, run_short}
use Rattle.mst_net.specs.tables.Table.{tree_in}
use Rattle.mst_edits.specs.EditLine.{no_vids, line_of}
use Rattle.mst_edits.specs.Runs.{vids_of, AreRuns}
use Rattle.mst_edits.specs.TableLines.{vids_in, mapping, fits, cut_from, cut}
use Rattle.mst_edits.proofs.RunLemmas.{covers, AreRuns-from, covers_below, runs_of_runs, set_of_runs}

-- ---- parts of runs
pub runs_front : (n : ℕ) (xs ys : List (ℕ × ℕ)) → AreRuns n (xs ++ ys) → AreRuns n xs
runs_front n [] ys are = tt
runs_front n (x ∷ xs) ys are = (are.0, are.1, are.2, runs_front (x.1 + 2) xs ys are.3)

pub runs_end : (n : ℕ) (xs ys : List (ℕ × ℕ)) → AreRuns n (xs ++ ys) → AreRuns n ys
runs_end n [] ys are = are
runs_end n (x ∷ xs) ys are = AreRuns-from n (x.1 + 2) ys (omega (arith, are.0, are.1)) (runs_end (x.1 + 2) xs ys are.3)

pub covers_append : (xs ys : List (ℕ × ℕ)) (v : ℕ) → covers (xs ++ ys) v ≡ (covers xs v || covers ys v)
covers_append [] ys v = refl
covers_append (x ∷ xs) ys v = ap (λ b. is_within x v || b) (covers_append xs ys v) ∙ sym (or_assoc (is_within x v) (covers xs v) (covers ys v))

-- ---- lines
-- a line of some runs, which are those of the whole
pub record IsLine (test : List (ℕ × ℕ) → Bool) (whole line : List (ℕ × ℕ)) : Type 0 where
  pub some : 0 < length line
  pub runs : AreRuns 1 line
  pub fits : test line ≡ true
  pub covered : (v : ℕ) → covers line v ≡ true → covers whole v ≡ true

module _ (test : List (ℕ × ℕ) → Bool) (whole : List (ℕ × ℕ)) (singles : (run : ℕ × ℕ) → 1 ≤ run.0 → run.0 ≤ run.1 → run.1 ≤ 4094 → test (run ∷ []) ≡ true) where
  lines_from : (line runs : List (ℕ × ℕ)) → 0 < length line → test line ≡ true → AreRuns 1 (line ++ runs) → ((v : ℕ) → covers (line ++ runs) v ≡ true → covers whole v ≡ true) → AllByRecursion (IsLine test whole) (cut_from test line runs)
  lines_from line [] some ok are in_whole = (record { some = some; runs = runs_front 1 line [] are; fits = ok; covered = λ v h. in_whole v (ap (λ l. covers l v) (append-nil line) ∙ h) }, tt)
  lines_from line (run ∷ runs) some ok are in_whole =
      let own = runs_end 1 line (run ∷ runs) are in
      by (test (line ++ run ∷ [])) refl
      (λ t. lines_from (line ++ run ∷ []) runs (omega (arith, length-append line (run ∷ []))) t (subst (AreRuns 1) (sym (append_assoc line (run ∷ []) runs)) are) (λ v h. in_whole v (ap (λ l. covers l v) (sym (append_assoc line (run ∷ []) runs)) ∙ h)))
      (lines_from (run ∷ []) runs (omega arith) (singles run own.0 own.1 own.2) own (λ v h. in_whole v (covers_append line (run ∷ runs) v ∙ or_right (covers line v) _ h)))
    where
      by : (t : Bool) → test (line ++ run ∷ []) ≡ t → (test (line ++ run ∷ []) ≡ true → AllByRecursion (IsLine test whole) (cut_from test (line ++ run ∷ []) runs)) → AllByRecursion (IsLine test whole) (cut_from test (run ∷ []) runs)
          → AllByRecursion (IsLine test whole) (if t then cut_from test (line ++ run ∷ []) runs else line ∷ cut_from test (run ∷ []) runs)
      by true e joined next = joined e
      by false e joined next = (record { some = some; runs = runs_front 1 line (run ∷ runs) are; fits = ok; covered = λ v h. in_whole v (covers_append line (run ∷ runs) v ∙ or_left (covers line v) _ h) }, next)

  pub lines_are : (runs : List (ℕ × ℕ)) → AreRuns 1 runs → ((v : ℕ) → covers runs v ≡ true → covers whole v ≡ true) → AllByRecursion (IsLine test whole) (cut test runs)
  lines_are [] are in_whole = tt
  lines_are (run ∷ runs) are in_whole = lines_from (run ∷ []) runs (omega arith) (singles run are.0 are.1 are.2) are in_whole

-- what is covered is covered by some line
some_line_from : (test : List (ℕ × ℕ) → Bool) (line runs : List (ℕ × ℕ)) (v : ℕ) → list_any (λ l. covers l v) (cut_from test line runs) ≡ (covers line v || covers runs v)
some_line_from test line [] v = refl
some_line_from test line (run ∷ runs) v = by (test (line ++ run ∷ [])) (some_line_from test (line ++ run ∷ []) runs v) (some_line_from test (run ∷ []) runs v)
  where
    by : (t : Bool) → list_any (λ l. covers l v) (cut_from test (line ++ run ∷ []) runs) ≡ (covers (line ++ run ∷ []) v || covers runs v) → list_any (λ l. covers l v) (cut_from test (run ∷ []) runs) ≡ (covers (run ∷ []) v || covers runs v)
        → list_any (λ l. covers l v) (if t then cut_from test (line ++ run ∷ []) runs else line ∷ cut_from test (run ∷ []) runs) ≡ (covers line v || covers (run ∷ runs) v)
    by true joined next = joined ∙ ap (λ b. b || covers runs v) (covers_append line (run ∷ []) v) ∙ or_assoc (covers line v) (covers (run ∷ []) v) (covers runs v) ∙ ap (λ b. covers line v || b) (or_assoc (is_within run v) false (covers runs v))
    by false joined next = ap (λ b. covers line v || b) (next ∙ or_assoc (is_within run v) false (covers runs v))

pub some_line : (test : List (ℕ × ℕ) → Bool) (runs : List (ℕ × ℕ)) (v : ℕ) → list_any (λ l. covers l v) (cut test runs) ≡ covers runs v
some_line test [] v = refl
some_line test (run ∷ runs) v = some_line_from test (run ∷ []) runs v ∙ or_assoc (is_within run v) false (covers runs v)

-- ---- the set of a line
pub line_set : (line : List (ℕ × ℕ)) → AreRuns 1 line → IsVidSet (vids_of line)
line_set line are = (length-set_where (covers line), has-set_where (covers line) 0 (omega arith) ∙ covers_below 1 line 0 are (omega arith), has-set_where (covers line) 4095 (omega arith) ∙ last 1 line are)
  where
    past : (run : ℕ × ℕ) → run.1 ≤ 4094 → is_within run 4095 ≡ false
    past run h = at (nat_le run.0 4095) (nat_le 4095 run.1) refl
      where
        at : (a b : Bool) → nat_le 4095 run.1 ≡ b → (a && b) ≡ false
        at a true e = absurd (let k = leb-true 4095 run.1 e in omega arith)
        at true false e = refl
        at false false e = refl

    last : (n : ℕ) (line : List (ℕ × ℕ)) → AreRuns n line → covers line 4095 ≡ false
    last n [] are = refl
    last n (run ∷ runs) are = ap (λ b. b || covers runs 4095) (past run are.2) ∙ last (run.1 + 2) runs are.3

pub line_some : (line : List (ℕ × ℕ)) → 0 < length line → AreRuns 1 line → vids_of line ≢ no_vids
line_some [] some are same = omega arith
line_some (run ∷ runs) some are same =
    let small : run.0 < 4096 = omega (arith, are.1, are.2) in
    let here : is_within run run.0 ≡ true = (λ i. le-leb run.0 run.0 (omega arith) i && le-leb run.0 run.1 are.1 i) in
    true≢false (sym (has-set_where (covers (run ∷ runs)) run.0 small ∙ or_left (is_within run run.0) (covers runs run.0) here) ∙ ap (λ s. has s run.0) same ∙ has-set_where (λ _. false) run.0 small)

-- ---- the VIDs of a tree
pub vids_in_is : (table : List ℕ) (tree : ℕ) → IsVidSet (vids_in table tree)
vids_in_is table tree = is_vid_set (λ v. is_vid v && tree_in table v == tree) refl refl

-- a number is one of them where it is a VID that is mapped to the tree
pub mapped_is : (table : List ℕ) (tree n : ℕ) → n < 4096 → (1 ≤ n) × (n ≤ 4094) → (tree_in table n == tree) ≡ has (vids_in table tree) n
mapped_is table tree n small vid =
    sym (has-set_where (λ v. is_vid v && tree_in table v == tree) n small ∙ ap (λ b. b && tree_in table n == tree) (and_from (nat_le 1 n) (nat_le n 4094) (le-leb 1 n vid.0) (le-leb n 4094 vid.1)))

pub no_vid : (table : List ℕ) (tree n : ℕ) → n < 4096 → ((1 ≤ n) × (n ≤ 4094) → ⊥) → false ≡ has (vids_in table tree) n
no_vid table tree n small none = sym (has-set_where (λ v. is_vid v && tree_in table v == tree) n small ∙ by (is_vid n) refl)
  where
    by : (b : Bool) → is_vid n ≡ b → (b && tree_in table n == tree) ≡ false
    by true e = let both = and_parts (nat_le 1 n) (nat_le n 4094) e in absurd (none (leb-true 1 n both.0, leb-true n 4094 both.1))
    by false e = refl

-- a VID of the tree is covered by its runs, and no other number is
pub covered_is : (table : List ℕ) (tree v : ℕ) → v < 4096 → covers (runs_from 0 (vids_in table tree)) v ≡ (is_vid v && tree_in table v == tree)
covered_is table tree v small =
    sym (has-set_where (covers (runs_from 0 (vids_in table tree))) v small) ∙ ap (λ s. has s v) (set_of_runs (vids_in table tree) (vids_in_is table tree)) ∙ has-set_where (λ v. is_vid v && tree_in table v == tree) v small

-- ---- a line of one run fits
pub one_fits : (bridge : List ℕ) (tree : ℕ) (run : ℕ × ℕ) → IsName bridge → tree ≤ 4094 → 1 ≤ run.0 → run.0 ≤ run.1 → run.1 ≤ 4094 → fits bridge tree (run ∷ []) ≡ true
one_fits bridge tree run named small low order high =
    let text : vids_text (vids_of (run ∷ [])) ≡ run_text run = ap runs_text (runs_of_runs 1 (run ∷ []) (low, order, high, tt)) in
    let short = spaced_short (codes "setvid2mstid" ∷ bridge ∷ decimal tree ∷ vids_text (vids_of (run ∷ [])) ∷ []) (omega arith, (name_short bridge named, (number_short tree (omega arith), (subst (λ (w : List ℕ). length w ≤ 32) (sym text) (run_short run (omega arith) high), tt)))) in
    le-leb (length (line_of (mapping bridge tree (run ∷ [])))) 4096 (omega (arith, short))

-- The lines of a tree's VIDs, cut as they are put.
use Rattle.std.proofs.Common.{◌≡◌, ℕ, ◌+◌, ◌<◌, ◌≤◌, Bool, true, false, List, [], ◌∷◌, ◌++◌, length, drop, codes, decimal, refl, sym, ap, subst, ◌∙◌, append_assoc, append-nil, length-append, arith}
use Rattle.std.specs.Prelude.{if◌then◌else◌}
use Rattle.std.proofs.lemmas.Bool.{le-leb, lt-leb}
use Rattle.mst_ids.specs.Vids.{IsVidSet, runs_from, run_text, runs_text}
use Rattle.mst_edits.specs.EditLine.{spaced, line_of}
use Rattle.mst_edits.specs.Runs.{AreRuns, vids_of}
use Rattle.mst_edits.specs.TableLines.{mapping, fits, cut_from, cut}
use Rattle.mst_edits.proofs.RunLemmas.{runs_of_runs, runs_of_set}
use Rattle.mst_edits.proofs.Cuts.{runs_front, runs_end}

-- the runs of a set from a number on that no run goes across
abbrev pub left : List Bool → ℕ → List (ℕ × ℕ)
left vids next = runs_from next (drop next vids)

-- the text of runs, and of one more
one_more : (first : ℕ × ℕ) (more : List (ℕ × ℕ)) (run : ℕ × ℕ) → runs_text (first ∷ (more ++ run ∷ [])) ≡ runs_text (first ∷ more) ++ 44 ∷ run_text run
one_more first [] run = refl
one_more first (next ∷ more) run = ap (λ t. run_text first ++ 44 ∷ t) (one_more next more run) ∙ sym (append_assoc (run_text first) (44 ∷ runs_text (next ∷ more)) (44 ∷ run_text run))

module _ (bridge : List ℕ) (tree : ℕ) where
  -- a line up to its VIDs
  abbrev pub head : List ℕ
  head = codes "setvid2mstid" ++ 32 ∷ bridge ++ 32 ∷ decimal tree ++ 32 ∷ []

  abbrev start_of : List ℕ → List ℕ
  start_of rest = codes "setvid2mstid" ++ 32 ∷ rest

  abbrev line_with : List ℕ → List ℕ
  line_with text = spaced (codes "setvid2mstid" ∷ bridge ∷ decimal tree ∷ text ∷ [])

  spelled : (text : List ℕ) → line_with text ≡ head ++ text
  spelled text =
      ap (λ t. start_of (bridge ++ (32 ∷ (decimal tree ++ (32 ∷ t))))) (append-nil text)
      ∙ sym (ap start_of (append_assoc (bridge ++ (32 ∷ decimal tree)) (32 ∷ []) text ∙ append_assoc bridge (32 ∷ decimal tree) (32 ∷ text)))

  line_is : (runs : List (ℕ × ℕ)) → AreRuns 1 runs → line_of (mapping bridge tree runs) ≡ head ++ runs_text runs
  line_is runs are = ap line_with (ap runs_text (runs_of_runs 1 runs are)) ∙ spelled (runs_text runs)

  -- how long it is
  long_is : (runs : List (ℕ × ℕ)) → AreRuns 1 runs → length (line_of (mapping bridge tree runs)) ≡ 15 + length bridge + length (decimal tree) + length (runs_text runs)
  long_is runs are =
      let a = length-append (codes "setvid2mstid") (32 ∷ bridge) in
      let b = length-append (codes "setvid2mstid" ++ 32 ∷ bridge) (32 ∷ decimal tree) in
      let c = length-append (codes "setvid2mstid" ++ 32 ∷ bridge ++ 32 ∷ decimal tree) (32 ∷ []) in
      let d = length-append head (runs_text runs) in
      ap length (line_is runs are) ∙ omega (arith, a, b, c, d)

  abbrev pub one_long : ℕ × ℕ → ℕ
  one_long run = 15 + length bridge + length (decimal tree) + length (run_text run)

  -- the lines of a set
  abbrev pub set_lines : List Bool → List (List (ℕ × ℕ))
  set_lines vids = cut (fits bridge tree) (runs_from 0 vids)

  -- the lines before one that has begun, what it has, and what is still to be put
  pub record Putting (before : List (List (ℕ × ℕ))) (vids set : List Bool) (long next : ℕ) : Type 0 where
    pub first : ℕ × ℕ
    pub more : List (ℕ × ℕ)
    pub within : next ≤ 4095
    pub short : long ≤ 4096
    pub is : set ≡ vids_of (first ∷ more)
    pub is_long : long ≡ length (line_of (mapping bridge tree (first ∷ more)))
    pub runs : AreRuns 1 ((first ∷ more) ++ left vids next)
    pub whole : set_lines vids ≡ before ++ cut_from (fits bridge tree) (first ∷ more) (left vids next)

  -- the first run
  pub first_run : (vids : List Bool) (run : ℕ × ℕ) → IsVidSet vids → runs_from 0 (drop 0 vids) ≡ run ∷ left vids (run.1 + 1) → AreRuns 1 (run ∷ left vids (run.1 + 1))
  first_run vids run set here = subst (AreRuns 1) here (runs_of_set vids set)

  pub begin : (vids set : List Bool) (long : ℕ) (run : ℕ × ℕ) → IsVidSet vids → runs_from 0 (drop 0 vids) ≡ run ∷ left vids (run.1 + 1) → set ≡ vids_of (run ∷ []) → long ≡ one_long run → long ≤ 4096 → Putting [] vids set long (run.1 + 1)
  begin vids set long run is here has much short =
      let are = first_run vids run is here in
      record {
        first = run;
        more = [];
        within = omega (arith, are.2);
        short = short;
        is = has;
        is_long = much ∙ sym (long_is (run ∷ []) (runs_front 1 (run ∷ []) (left vids (run.1 + 1)) are));
        runs = are;
        whole = ap (λ rs. cut (fits bridge tree) rs) here;
      }

  module _ (before : List (List (ℕ × ℕ))) (vids set : List Bool) (long next : ℕ) (w : Putting before vids set long next) where
    abbrev line : List (ℕ × ℕ)
    line = w.first ∷ w.more

    -- no further run
    pub done : left vids next ≡ [] → set_lines vids ≡ before ++ line ∷ []
    done none = w.whole ∙ ap (λ rs. before ++ cut_from (fits bridge tree) line rs) none

    module _ (run : ℕ × ℕ) (here : left vids next ≡ run ∷ left vids (run.1 + 1)) where
      abbrev longer : List (ℕ × ℕ)
      longer = line ++ run ∷ []

      abbrev rest : List (ℕ × ℕ)
      rest = left vids (run.1 + 1)

      pub next_run : AreRuns 1 (run ∷ rest)
      next_run = runs_end 1 line (run ∷ rest) (subst (AreRuns 1) (ap (λ rs. line ++ rs) here) w.runs)

      are : AreRuns 1 (longer ++ rest)
      are = subst (AreRuns 1) (ap (λ rs. line ++ rs) here ∙ sym (append_assoc line (run ∷ []) rest)) w.runs

      longer_is : length (line_of (mapping bridge tree longer)) ≡ long + 1 + length (run_text run)
      longer_is =
          let own = long_is line (runs_front 1 line (left vids next) w.runs) in
          let one = ap length (one_more w.first w.more run) in
          let two = length-append (runs_text line) (44 ∷ run_text run) in
          long_is longer (runs_front 1 longer rest are) ∙ omega (arith, own, one, two, w.is_long)

      chosen : (b : Bool) → fits bridge tree longer ≡ b → set_lines vids ≡ before ++ (if b then cut_from (fits bridge tree) longer rest else line ∷ cut_from (fits bridge tree) (run ∷ []) rest)
      chosen b e =
          w.whole ∙ ap (λ rs. before ++ cut_from (fits bridge tree) line rs) here
          ∙ ap (λ t. before ++ (if t then cut_from (fits bridge tree) longer rest else line ∷ cut_from (fits bridge tree) (run ∷ []) rest)) e

      -- the next run is put into the line
      pub put : (new : List Bool) (much : ℕ) → new ≡ vids_of longer → much ≡ long + 1 + length (run_text run) → long + 1 + length (run_text run) ≤ 4096 → Putting before vids new much (run.1 + 1)
      put new much has is small = record {
        first = w.first;
        more = w.more ++ run ∷ [];
        within = omega (arith, next_run.2);
        short = omega (arith, is, small);
        is = has;
        is_long = is ∙ sym longer_is;
        runs = are;
        whole = chosen true (le-leb (length (line_of (mapping bridge tree longer))) 4096 (omega (arith, longer_is, small)));
      }

      -- the next run begins the next line
      pub part : (new : List Bool) (much : ℕ) → new ≡ vids_of (run ∷ []) → much ≡ one_long run → much ≤ 4096 → 4096 < long + 1 + length (run_text run) → Putting (before ++ line ∷ []) vids new much (run.1 + 1)
      part new much has is short large = record {
        first = run;
        more = [];
        within = omega (arith, next_run.2);
        short = short;
        is = has;
        is_long = is ∙ sym (long_is (run ∷ []) (runs_front 1 (run ∷ []) rest next_run));
        runs = next_run;
        whole = chosen false (lt-leb (length (line_of (mapping bridge tree longer))) 4096 (omega (arith, longer_is, large)))
            ∙ sym (append_assoc before (line ∷ []) (cut_from (fits bridge tree) (run ∷ []) rest));
      }

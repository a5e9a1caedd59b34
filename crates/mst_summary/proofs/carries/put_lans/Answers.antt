use Rattle.std.proofs.Common.{◌≡◌, ℕ, ◌+◌, Bool, true, false, cond, List, [], ◌∷◌, ◌++◌, take, filter, sym, ap, subst, ◌∙◌, append-nil}
use Rattle.std.specs.List.{flat_map}
use Rattle.mst_rows.proofs.Loops.{rows_all, rows_more}
use Rattle.mst_vlan.specs.forest.Settled.{outcome_of}
use Rattle.mst_summary.specs.Carries.{are_all, carried, carries_rows}
use Rattle.mst_summary.proofs.Lists.{passed_more}
use Rattle.mst_summary.proofs.carries.put_lans.Goals as goal
use Rattle.mst_summary.proofs.carries.put_lans.Goals.{then-are_all+in_ok-push, else-are_all}

pub loop-lan-preserved : goal.loop-lan-preserved
loop-lan-preserved g c =
    let s = c.args.kept.now.plan.now in
    let lans : List (List ℕ) = c.args.lans.now in
    let i : ℕ = c.loop-lan.lan-index in
    let lan : List ℕ = c.lan-item.result in
    let own : List ℕ → List ℕ = carried s.net (outcome_of s) in
    let below = c.loop-lan-test.true in
    let test : List ℕ → Bool = λ lan. are_all (own lan) in
    let vids : c.as_slice.result.now ≡ own lan = c.as_slice.ensures.value ∙ c.in_ok-vids.ensures in
    let again : c.as_slice-in-loop-lan.result.now ≡ own lan = c.as_slice-in-loop-lan.ensures.value ∙ c.in_ok-vids.ensures in
    let more : filter test (take (i + 1) lans) ≡ filter test (take i lans) ++ cond (test lan) (lan ∷ []) [] = passed_more test lans i lan below c.lan-item.is in
    record {
      rows = λ first rows grew.
          rows_more (g.R.Rows.grew first c.put_some.new.out) (λ lan. carries_rows lan (own lan)) lans i lan rows below c.lan-item.is
          (subst (λ (vids : List ℕ). g.R.Rows.grew first c.put_some.new.out ((rows ++ flat_map (λ lan. carries_rows lan (own lan)) (take i lans)) ++ carries_rows lan vids)) vids
          (c.in_ok-put_some.ensures first _ (c.loop-lan.invariant.rows first rows grew)));
      full = elim c.if-are_all.branch [
        | then-are_all+in_ok-push w ↦
            let passes : test lan ≡ true = ap are_all (sym again) ∙ sym c.are_all.ensures ∙ w.if-are_all.true in
            ap (λ r. r.items) w.full-is ∙ w.in_ok-push.ensures.items ∙ ap (λ (t : List (List ℕ)). t ++ lan ∷ []) c.loop-lan.invariant.full
            ∙ sym (more ∙ ap (λ b. filter test (take i lans) ++ cond b (lan ∷ []) []) passes)
        | else-are_all w ↦
            let fails : test lan ≡ false = ap are_all (sym again) ∙ sym c.are_all.ensures ∙ w.if-are_all.false in
            ap (λ r. r.items) w.full-is ∙ c.loop-lan.invariant.full
            ∙ sym (more ∙ ap (λ b. filter test (take i lans) ++ cond b (lan ∷ []) []) fails ∙ append-nil (filter test (take i lans)))
      ];
    }

pub returns-clause-rows : goal.returns-clause-rows
returns-clause-rows g c first rows grew =
    let s = c.args.kept.now.plan.now in
    rows_all (g.R.Rows.grew first c.loop-lan.out) (λ lan. carries_rows lan (carried s.net (outcome_of s) lan)) c.args.lans.now c.loop-lan.lan-index rows c.loop-lan-test.false (c.loop-lan.invariant.rows first rows grew)

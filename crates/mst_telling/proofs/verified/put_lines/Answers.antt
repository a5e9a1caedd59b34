use Rattle.std.proofs.Common.{◌≡◌, ◌∙◌, ◌∷◌, [], ◌++◌, ℕ, List, ap, map, subst, sym, take}
use Rattle.std.proofs.lemmas.List.{take_all}
use Rattle.mst_policy.specs.declared.policy.PolicyLine.{PolicyLine}
use Rattle.mst_rows.specs.Rows.{Row}
use Rattle.mst_graph.specs.Lists.{has_any}
use Rattle.mst_telling.specs.Judged.{line_found, verdicts_by}
use Rattle.mst_telling.specs.Verified.{joined, rows_of_read}
use Rattle.mst_telling.proofs.GoesOn.{each, flat_each, more, taken, then_mapped, whole}
use Rattle.mst_telling.proofs.verified.put_lines.Goals as goal

pub loop-n-preserved : goal.loop-n-preserved
loop-n-preserved g c =
    let n = c.loop-n.n in
    let lines = c.args.lines.now in
    let line : PolicyLine = c.index-lines-n.result in
    let line_is = c.index-lines-n.is in
    let f : ℕ → PolicyLine → List Row = λ n line. rows_of_read line.number line.read (line_found n c.args.judgement.now.found.items) in
    let said = c.in_ok-put_line.ensures in
    let here : rows_of_read line.number line.read (line_found n c.as_slice-found.result.now) ≡ f n line = ap (λ found. rows_of_read line.number line.read (line_found n found)) c.as_slice-found.ensures.value in
    record {
      is = c.in_ok-push.ensures.items ∙ (λ i. c.loop-n.invariant.is i ++ (said.is ∙ ap has_any here) i ∷ []) ∙ sym (taken (then_mapped has_any (each f)) lines n line c.loop-n-test.true line_is);
      put = λ first rows grew. more (g.R.Rows.grew first c.put_line.new.out) (flat_each (λ (rows : List Row). rows) f) lines n line rows c.loop-n-test.true line_is
          (subst (λ (more : List Row). g.R.Rows.grew first c.put_line.new.out ((rows ++ joined (verdicts_by (take n lines) c.args.judgement.now)) ++ more)) here (said.put first _ (c.loop-n.invariant.put first rows grew)));
    }

pub returns-clause-is : goal.returns-clause-is
returns-clause-is g c = c.loop-n.invariant.is ∙ ap (λ l. map has_any (verdicts_by l c.args.judgement.now)) (take_all c.loop-n.n c.args.lines.now c.loop-n-test.false)

pub returns-clause-put : goal.returns-clause-put
returns-clause-put g c first rows grew =
    whole (g.R.Rows.grew first c.loop-n.out) (flat_each (λ (rows : List Row). rows) (λ n (line : PolicyLine). rows_of_read line.number line.read (line_found n c.args.judgement.now.found.items))) c.args.lines.now c.loop-n.n rows
    c.loop-n-test.false (c.loop-n.invariant.put first rows grew)

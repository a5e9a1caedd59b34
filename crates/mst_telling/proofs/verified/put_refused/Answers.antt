use Rattle.std.proofs.Common.{◌≡◌, ◌∙◌, ◌+◌, ◌++◌, ℕ, List, ap, arith, get_or, length, length-append, subst, sym, take}
use Rattle.std.proofs.lemmas.List.{take_all}
use Rattle.mst_policy.specs.declared.policy.PolicyLine.{PolicyLine}
use Rattle.mst_rows.specs.Rows.{Row}
use Rattle.mst_graph.specs.Lists.{has_any}
use Rattle.mst_telling.specs.Judged.{line_lacks, refused_at, refused_by}
use Rattle.mst_telling.proofs.GoesOn.{flat_each, more, one_few, one_if, taken, whole}
use Rattle.mst_telling.proofs.Lines.{refused_one}
use Rattle.mst_telling.proofs.verified.put_refused.Goals as goal

pub loop-n-preserved : goal.loop-n-preserved
loop-n-preserved g c =
    let n = c.loop-n.n in
    let lines = c.args.lines.now in
    let line : PolicyLine = c.index-lines-n.result in
    let line_is = c.index-lines-n.is in
    let judgement = c.args.judgement.now in
    let f : ℕ → PolicyLine → List Row = λ n line. refused_at line.number line.read (line_lacks n judgement) in
    let is = c.in_ok-is_refused.is_refused in
    let said = c.in_ok-is_refused.ensures in
    let here : refused_at line.number line.read c.lacks-missing.result ≡ f n line = ap (refused_at line.number line.read) c.lacks-missing.ensures in
    let one : length (f n line) ≡ one_if is = refused_one line.number line.read (line_lacks n judgement) ∙ ap one_if (sym (said.is ∙ ap has_any here)) in
    let so_far : length (refused_by (take (n + 1) lines) judgement) ≡ length (refused_by (take n lines) judgement) + length (f n line) =
    ap length (taken (flat_each (λ (rows : List Row). rows) f) lines n line c.loop-n-test.true line_is) ∙ length-append (refused_by (take n lines) judgement) (f n line) in
    record {
      counted = omega (arith, c.loop-n.invariant.counted, so_far, one, c.one_if-count.ensures);
      few = omega (arith, c.loop-n.invariant.few, one_few is, c.one_if-count.ensures);
      put = λ first rows grew.
          more (g.R.Rows.grew first c.put_refused_line.new.out) (flat_each (λ (rows : List Row). rows) f) lines n line rows c.loop-n-test.true line_is
          (subst (λ (more : List Row). g.R.Rows.grew first c.put_refused_line.new.out ((rows ++ refused_by (take n lines) judgement) ++ more)) here (said.put first _ (c.loop-n.invariant.put first rows grew)));
    }

pub returns-clause-count : goal.returns-clause-count
returns-clause-count g c = c.loop-n.invariant.counted ∙ ap (λ l. length (refused_by l c.args.judgement.now)) (take_all c.loop-n.n c.args.lines.now c.loop-n-test.false)

pub returns-clause-put : goal.returns-clause-put
returns-clause-put g c first rows grew =
    whole (g.R.Rows.grew first c.loop-n.out) (flat_each (λ (rows : List Row). rows) (λ n (line : PolicyLine). refused_at line.number line.read (line_lacks n c.args.judgement.now))) c.args.lines.now c.loop-n.n rows c.loop-n-test.false
    (c.loop-n.invariant.put first rows grew)

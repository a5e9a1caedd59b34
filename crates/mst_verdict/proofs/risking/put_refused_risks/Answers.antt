use Rattle.std.proofs.Common.{◌≡◌, ◌∙◌, ◌+◌, ap, arith, length, length-append, sym, take}
use Rattle.std.proofs.lemmas.List.{take_all}
use Rattle.mst_telling.proofs.GoesOn.{flat, more, one_few, one_if, taken, whole}
use Rattle.mst_verdict.specs.Risking.{refused_line, refused_risks}
use Rattle.mst_verdict.proofs.RefusedRisks.{refused_one}
use Rattle.mst_verdict.proofs.risking.put_refused_risks.Goals as goal
use Rattle.mst_verdict.proofs.risking.put_refused_risks.Goals.{then-branch, else-branch}

pub loop-line-preserved : goal.loop-line-preserved
loop-line-preserved g c =
    let l = c.loop-line in
    let net = c.args.plan.now.net in
    let lines = c.args.lines.now in
    let line = c.line-item.result in
    let is = c.in_ok-put_refused_line.field-0 in
    let said = c.in_ok-put_refused_line.ensures in
    let count_is : c.if-branch.count ≡ l.count + one_if is =
    elim c.if-branch.branch [ then-branch w ↦ omega (arith, w.count-is, ap one_if w.if-branch.true) | else-branch w ↦ omega (arith, w.count-is, ap one_if w.if-branch.false) ] in
    let one : length (refused_line net line) ≡ one_if is = refused_one net line.number line.read ∙ ap one_if (sym said.is) in
    let so_far : length (refused_risks net (take (l.line-index + 1) lines)) ≡ length (refused_risks net (take l.line-index lines)) + length (refused_line net line) =
    ap length (taken (flat (refused_line net)) lines l.line-index line c.loop-line-test.true c.line-item.is) ∙ length-append (refused_risks net (take l.line-index lines)) (refused_line net line) in
    record {
      counted = omega (arith, l.invariant.counted, so_far, one, count_is);
      few = omega (arith, l.invariant.few, one_few is, count_is);
      put = λ first rows grew.
          more (g.R.Rows.grew first c.put_refused_line.new.out) (flat (refused_line net)) lines l.line-index line rows c.loop-line-test.true c.line-item.is (said.put first _ (l.invariant.put first rows grew));
    }

pub returns-clause-count : goal.returns-clause-count
returns-clause-count g c = c.loop-line.invariant.counted ∙ ap (λ l. length (refused_risks c.args.plan.now.net l)) (take_all c.loop-line.line-index c.args.lines.now c.loop-line-test.false)

pub returns-clause-few : goal.returns-clause-few
returns-clause-few g c = let few = c.loop-line.invariant.few in let test = c.loop-line-test.false in omega arith

pub returns-clause-put : goal.returns-clause-put
returns-clause-put g c first rows grew =
    whole (g.R.Rows.grew first c.loop-line.out) (flat (refused_line c.args.plan.now.net)) c.args.lines.now c.loop-line.line-index rows c.loop-line-test.false (c.loop-line.invariant.put first rows grew)

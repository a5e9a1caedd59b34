use Rattle.std.proofs.Common.{◌≡◌, ◌∙◌, ◌+◌, ap, arith, length, length-append, sym, take}
use Rattle.std.specs.List.{flat_map}
use Rattle.std.proofs.lemmas.List.{take_all}
use Rattle.mst_telling.specs.Rows.{behind}
use Rattle.mst_telling.specs.Told.{unread_rows}
use Rattle.mst_telling.proofs.GoesOn.{flat, more, one_few, one_if, taken, then_mapped, whole}
use Rattle.mst_telling.proofs.Lines.{unread_one}
use Rattle.mst_telling.proofs.steps.put_all_unread.Goals as goal

pub loop-line-preserved : goal.loop-line-preserved
loop-line-preserved g c =
    let l = c.loop-line in
    let lines = c.args.lines.now in
    let line = c.line-item.result in
    let is = c.in_ok-is_unread.is_unread in
    let said = c.in_ok-is_unread.ensures in
    let one : length (unread_rows line) ≡ one_if is = unread_one line.number line.read ∙ ap one_if (sym said.is) in
    let so_far : length (flat_map unread_rows (take (l.line-index + 1) lines)) ≡ length (flat_map unread_rows (take l.line-index lines)) + length (unread_rows line) =
    ap length (taken (flat unread_rows) lines l.line-index line c.loop-line-test.true c.line-item.is) ∙ length-append (flat_map unread_rows (take l.line-index lines)) (unread_rows line) in
    record {
      counted = omega (arith, l.invariant.counted, so_far, one, c.one_if-count.ensures);
      few = omega (arith, l.invariant.few, one_few is, c.one_if-count.ensures);
      put = λ first rows grew.
          more (g.R.Rows.grew first c.put_unread.new.out) (then_mapped (behind 0) (flat unread_rows)) lines l.line-index line rows c.loop-line-test.true c.line-item.is (said.put first _ (l.invariant.put first rows grew));
    }

pub returns-clause-count : goal.returns-clause-count
returns-clause-count g c = c.loop-line.invariant.counted ∙ ap (λ l. length (flat_map unread_rows l)) (take_all c.loop-line.line-index c.args.lines.now c.loop-line-test.false)

pub returns-clause-put : goal.returns-clause-put
returns-clause-put g c first rows grew =
    whole (g.R.Rows.grew first c.loop-line.out) (then_mapped (behind 0) (flat unread_rows)) c.args.lines.now c.loop-line.line-index rows c.loop-line-test.false (c.loop-line.invariant.put first rows grew)

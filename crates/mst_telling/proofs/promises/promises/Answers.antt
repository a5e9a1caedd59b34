use Rattle.std.proofs.Common.{◌≡◌, ◌∙◌, ◌++◌, ap, arith, false, get_or, sym}
use Rattle.std.proofs.lemmas.List.{take_all}
use Rattle.mst_policy.specs.declared.policy.PolicyLine.{PolicyLine}
use Rattle.mst_telling.specs.Verified.{promise_of, promises_of}
use Rattle.mst_telling.proofs.Lines.{promises_more}
use Rattle.mst_telling.proofs.promises.promises.Goals as goal

pub loop-n-preserved : goal.loop-n-preserved
loop-n-preserved c =
    let n = c.loop-n.n in
    let lines = c.args.lines.now in
    let line : PolicyLine = c.index-lines-n.result in
    let line_is = c.index-lines-n.is in
    let counts = c.args.networks.now in
    let flags = c.args.flags.now in
    c.in_ok-add_promise.ensures ∙ ap (λ so_far. so_far ++ promise_of line (get_or counts n 0) (get_or flags n false)) c.loop-n.invariant
    ∙ sym (promises_more lines counts flags n line c.loop-n-test.true line_is c.requires.counted c.requires.flagged)

pub returns : goal.returns
returns c =
    let lines = take_all c.loop-n.n c.args.lines.now c.loop-n-test.false in
    let counts = take_all c.loop-n.n c.args.networks.now (omega (arith, c.loop-n-test.false, c.requires.counted)) in
    let flags = take_all c.loop-n.n c.args.flags.now (omega (arith, c.loop-n-test.false, c.requires.flagged)) in
    c.loop-n.invariant ∙ (λ i. promises_of (lines i) (counts i) (flags i))

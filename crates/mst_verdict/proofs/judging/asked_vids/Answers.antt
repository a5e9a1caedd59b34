use Rattle.std.proofs.Common.{◌≡◌, true≢false, None, get_or, sym, ap, subst, ◌∙◌}
use Rattle.std.specs.Option.{option_map}
use Rattle.std.specs.List.{AllByRecursion}
use Rattle.std.proofs.lemmas.List.{take_all}
use Rattle.mst_policy.specs.declared.policy.PolicyLine.{PolicyLine}
use Rattle.mst_verdict.specs.Verifying.{expected_in}
use Rattle.mst_verdict.proofs.Judgements.{all_more, expected_so, lacks_at}
use Rattle.mst_verdict.proofs.judging.asked_vids.Goals as goal
use Rattle.mst_verdict.proofs.judging.asked_vids.Goals.{in-Some, in-None}

pub loop-n-preserved : goal.loop-n-preserved
loop-n-preserved c = λ e net are.
    let j = c.args.judging.now in
    let lines = j.lines.now in
    let missing = j.missing.now in
    let place = c.args.place.now in
    let n = c.loop-n.n in
    let line : PolicyLine = get_or lines n c.index-judging-n.result in
    let line_is : line ≡ get_or lines n line = ap (get_or lines n) c.index-judging-n.is in
    elim c.match-expected.branch [
      | in-Some w ↦ absurd (true≢false (sym w.is_any-is ∙ e))
      | in-None w ↦
          all_more (λ (line : PolicyLine). expected_in j net line place ≡ None) lines n line c.loop-n-test.true line_is (c.loop-n.invariant (sym w.is_any-is ∙ e) net are)
          (sym (expected_so j net line (get_or missing n None) place (lacks_at net j.is_last lines missing are n line None c.loop-n-test.true line_is)) ∙ sym c.expected.ensures ∙ ap (option_map (λ e. e.now)) w.in-None.is)
    ]

pub returns-else-is_any : goal.returns-else-is_any
returns-else-is_any c = λ none net are.
    subst (AllByRecursion (λ (line : PolicyLine). expected_in c.args.judging.now net line c.args.place.now ≡ None)) (take_all c.loop-n.n c.args.judging.now.lines.now c.loop-n-test.false) (c.loop-n.invariant c.if-is_any.false net are)

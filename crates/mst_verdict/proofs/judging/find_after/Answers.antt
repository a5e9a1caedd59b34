use Rattle.std.proofs.Common.{◌≡◌, ◌++◌, ◌∷◌, [], ℕ, List, Some, filter, subst, sym}
use Rattle.std.proofs.lemmas.Result.{on_ok_weaker}
use Rattle.mst_view.specs.Viewed.{IsView}
use Rattle.mst_sweeping.specs.sweep.Failures.{Event, failed}
use Rattle.mst_sweeping.specs.sweep.declared.event.Cause.{Cause}
use Rattle.mst_sweeping.specs.sweep.declared.failure.Failure.{Failure}
use Rattle.mst_telling.specs.Judged.{line_found, reasons_in}
use Rattle.mst_telling.specs.Told.{has_reason}
use Rattle.mst_verdict.specs.Verifying.{FindsAt, found_of, sitting_of}
use Rattle.mst_verdict.proofs.Findings.{finds_by, finds_none}
use Rattle.mst_verdict.proofs.Judgements.{as_many, none_of}
use Rattle.mst_verdict.proofs.judging.find_after.Goals as goal

pub asked_vids-requires : goal.asked_vids-requires
asked_vids-requires c = let j = c.args.judging.now in as_many c.args.network.now.net j.is_last j.lines.now j.missing.now c.requires.judging.lacking

pub without_failures-requires : goal.without_failures-requires
without_failures-requires c =
    let t = c.args.network.now in
    subst (λ (fs : List Failure). IsView (failed fs t.net) t.numbers c.reasons_failed.new.seen) (sym c.failures.ensures) c.in_ok-reasons-in-Some.ensures.seen

pub returns-in-None-clause-found : goal.returns-in-None-clause-found
returns-in-None-clause-found c = λ prior is.
    let t = c.args.network.now in
    let j = c.args.judging.now in
    let s = sitting_of t.net t.numbers j prior in
    let place = Some c.copied.result in
    let found = c.args.found.now.items in
    subst (λ (event : Event). FindsAt s j.lines.now (Some event) found found) c.copied.ensures
    (finds_none s j.lines.now place found (none_of j t.net t.numbers prior is place j.lines.now (c.asked_vids.ensures c.in-None.is t.net c.requires.judging.lacking)))

pub returns-in_ok-without_failures-in-Some-clause-found : goal.returns-in_ok-without_failures-in-Some-clause-found
returns-in_ok-without_failures-in-Some-clause-found c =
    let t = c.args.network.now in
    let j = c.args.judging.now in
    let old = c.args.found.now.items in
    let new = c.add_finding.new.found.items in
    let reasons = reasons_in c.in_ok-reasons-in-Some.reasons in
    on_ok_weaker c.add_finding.result
    (λ added prior is. finds_by (sitting_of t.net t.numbers j prior) j.lines.now (Some c.args.event.now) reasons old new (c.in_ok-reasons-in-Some.ensures.reasons prior is)
    (subst (λ (cause : Cause). (n : ℕ) → line_found n new ≡ line_found n old ++ filter has_reason (found_of (Some cause) reasons n ∷ [])) c.cause.ensures added))
    c.add_finding.ensures

pub returns-in_ok-without_failures-in-Some-clause-seen : goal.returns-in_ok-without_failures-in-Some-clause-seen
returns-in_ok-without_failures-in-Some-clause-seen c = on_ok_weaker c.add_finding.result (λ added. c.in_ok-without_failures-in-Some.ensures) c.add_finding.ensures

use Rattle.std.proofs.Common.{[], ◌∷◌, ◌++◌, ◌∙◌, ap, filter, sym}
use Rattle.std.specs.List.{list_any}
use Rattle.mst_graph.specs.Lists.{has_any}
use Rattle.mst_telling.specs.Judged.{line_found, reasons_in}
use Rattle.mst_telling.specs.Told.{has_reason}
use Rattle.mst_verdict.specs.Verifying.{found_of}
use Rattle.mst_verdict.proofs.Findings.{line_found_more, none_at, nothing_more}
use Rattle.mst_verdict.proofs.judging.add_finding.Goals as goal

pub returns-in_ok-push : goal.returns-in_ok-push
returns-in_ok-push c n =
    let old = c.args.found.now.items in
    ap (line_found n) c.in_ok-push.ensures.items ∙ line_found_more n old c.in_ok-finding.finding
    ∙ (λ i. line_found n old ++ filter has_reason (found_of (c.in_ok-finding.ensures.place i) (c.in_ok-finding.ensures.reasons i) n ∷ []))

pub returns-else-has_some : goal.returns-else-has_some
returns-else-has_some c n =
    let none = ap (list_any (λ those. has_any those.items)) (sym c.as_slice.ensures.value) ∙ sym c.has_some.ensures ∙ c.if-has_some.false in
    nothing_more (line_found n c.args.found.now.items) c.args.place (reasons_in c.args.reasons) n (none_at (λ those. those.items) c.args.reasons.items none n)

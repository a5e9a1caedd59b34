use Rattle.std.proofs.Common.{◌≡◌, subst}
use Rattle.mst_summary.specs.SummaryText.{AreSummaryRows}
use Rattle.mst_summary.proofs.OneSummary.{one_list, has_rows}
use Rattle.mst_summary.proofs.laws.one_summary.Goals as goal

pub returns-clause-one_list : goal.returns-clause-one_list
returns-clause-one_list g net o q ok oo oq rows other x y =
    let same : q ≡ o = g.one_outcome.ensures net q o ok oq oo in
    let z : AreSummaryRows net o other = subst (λ q. AreSummaryRows net q other) same y in
    one_list net o (g.islands_of_vid.ensures.one net o) g.group_lists.ensures.one rows other x z

pub returns-clause-some_rows : goal.returns-clause-some_rows
returns-clause-some_rows g net o ok = has_rows net o (λ vid. g.islands_of_vid.ensures.some net o vid ok) g.group_lists.ensures.some

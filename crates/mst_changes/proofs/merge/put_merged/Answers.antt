use Rattle.std.proofs.Common.{◌≡◌, ◌++◌, List, [], Some, refl, sym, ap, subst, ◌∙◌, append_assoc, append-nil}
use Rattle.mst_rows.specs.Rows.{Row}
use Rattle.mst_changes.specs.Merging.{first_subject, value_first}
use Rattle.mst_changes.specs.ChangesText.{change_rows}
use Rattle.mst_changes.specs.PortChanges.{counted}
use Rattle.mst_changes.proofs.Counted.{counted_more}
use Rattle.mst_changes.proofs.Merged.{at_start, one_more, at_end, shorter}
use Rattle.mst_changes.proofs.merge.put_merged.Goals as goal

pub loop-subject-init : goal.loop-subject-init
loop-subject-init g c subjects x y rises e f first rows grew =
    ([], refl, subst (g.R.Rows.grew first c.args.out.now) (sym (append-nil rows)) grew, at_start x y subjects [] c.args.olds.now c.args.news.now rises e f)

pub loop-subject-preserved : goal.loop-subject-preserved
loop-subject-preserved g c subjects x y rises e f first rows grew =
    let l = c.loop-subject in
    let subject = c.in-Some.subject in
    let olds = l.olds_left.now in
    let news = l.news_left.now in
    let there : first_subject olds news ≡ Some subject = sym c.first_subject.ensures ∙ c.in-Some.is in
    let so_far = l.invariant subjects x y rises e f first rows grew in
    let row : List Row = change_rows subject c.split-old.result.0 c.split-new.result.0 in
    let put = c.in_ok-put.ensures first (rows ++ so_far.0) so_far.2 in
    let same : row ≡ change_rows subject (value_first subject olds) (value_first subject news) = λ i. change_rows subject (c.split-old.ensures.value i) (c.split-new.ensures.value i) in (
      so_far.0 ++ row,
      c.saturating_add-count.ensures ∙ counted_more so_far.0 row l.count c.in_ok-put.put so_far.1 put.0,
      subst (g.R.Rows.grew first c.put_change.new.out) (append_assoc rows so_far.0 row) put.1,
      rw (c.split-old.ensures.rest, c.split-new.ensures.rest, same) (one_more x y subjects [] olds news so_far.0 subject so_far.3 there),
    )

pub loop-subject-smaller : goal.loop-subject-smaller
loop-subject-smaller g c =
    let l = c.loop-subject in
    rw (c.split-old.ensures.rest, c.split-new.ensures.rest) (shorter c.in-Some.subject l.olds_left.now l.news_left.now (sym c.first_subject.ensures ∙ c.in-Some.is))

pub returns : goal.returns
returns g c subjects x y rises e f first rows grew =
    let l = c.loop-subject in
    let so_far = l.invariant subjects x y rises e f first rows grew in
    let all = at_end x y subjects [] l.olds_left.now l.news_left.now so_far.0 so_far.3 (sym c.first_subject.ensures ∙ c.in_default.is) in
    (so_far.1 ∙ ap counted all, subst (λ (own : List Row). g.R.Rows.grew first l.out (rows ++ own)) all so_far.2)

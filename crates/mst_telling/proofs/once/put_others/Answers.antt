use Rattle.std.proofs.Common.{◌≡◌, ◌∙◌, [], ◌++◌, cond, List, ap, map, subst, sym}
use Rattle.std.specs.Result.{OnOk}
use Rattle.mst_rows.specs.Rows.{Row}
use Rattle.mst_reasons.specs.declared.reason.Reason.{Reason}
use Rattle.mst_telling.specs.Judged.{found_at}
use Rattle.mst_telling.specs.Once.{kept_rows, others}
use Rattle.mst_telling.specs.Rows.{row_at}
use Rattle.mst_telling.specs.Texts.{news}
use Rattle.mst_telling.specs.Told.{is_now}
use Rattle.mst_telling.proofs.once.put_others.Goals as goal

pub returns-in-Some : goal.returns-in-Some
returns-in-Some g c nows before folds were first rows grew =
    let folding = c.args.folding.now in
    let f = found_at c.args.n c.args.finding.now in
    let kept : List Reason → List Row = kept_rows folding.number folding.scope.now nows f.place in
    subst (λ (more : List Row). OnOk c.put_kept.result (g.R.Rows.grew first c.put_kept.new.out (rows ++ map (row_at folding.step) (news before more))))
    (ap kept c.reasons_of.ensures ∙ ap (λ place. cond (is_now place) [] (kept f.reasons)) (sym c.in-Some.is)) (c.put_kept.ensures nows before folds were first rows grew)

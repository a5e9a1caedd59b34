use Rattle.std.proofs.Common.{◌≡◌, ◌∙◌, ◌∷◌, [], ◌++◌, Bool, cond, List, ap, map, not, subst, sym, take}
use Rattle.mst_rows.specs.Rows.{Row}
use Rattle.mst_reasons.specs.declared.reason.Reason.{Reason}
use Rattle.mst_telling.specs.Once.{is_left_out, kept_rows}
use Rattle.mst_telling.specs.Rows.{reason_row, row_at}
use Rattle.mst_telling.specs.Texts.{is_told, news}
use Rattle.mst_telling.specs.declared.reason.At.{At}
use Rattle.mst_telling.proofs.GoesOn.{filtered, more, one_mapped, then_filtered, then_mapped, whole}
use Rattle.mst_telling.proofs.once.put_kept.Goals as goal

pub loop-reason-preserved : goal.loop-reason-preserved
loop-reason-preserved g c nows before folds were first rows grew =
    let folding = c.args.folding.now in
    let place = c.args.place.now in
    let reason = c.reason-item.result in
    let i = c.loop-reason.reason-index in
    let test : Reason → Bool = λ r. not (is_left_out folding.number folding.scope.now nows place r) in
    let so_far : List Row = map (row_at folding.step) (news before (kept_rows folding.number folding.scope.now nows place (take i c.args.reasons.now))) in
    let one = one_mapped (reason_row folding.number place) reason (not c.in_ok-is_left.is_left) (test reason) (ap not (c.in_ok-is_left.ensures nows folds)) in
    more (g.R.Rows.grew first c.put_if_new.new.out) (then_mapped (row_at folding.step) (then_filtered (λ (row : Row). not (is_told before row)) (then_mapped (reason_row folding.number place) (filtered test)))) c.args.reasons.now i reason rows
    c.loop-reason-test.true c.reason-item.is
    (subst (λ (more : List Row). g.R.Rows.grew first c.put_if_new.new.out ((rows ++ so_far) ++ map (row_at folding.step) (news before more))) one
    (subst (λ (at : At). g.R.Rows.grew first c.put_if_new.new.out ((rows ++ so_far) ++ map (row_at at.step) (news before (cond (not c.in_ok-is_left.is_left) (reason_row at.number place reason ∷ []) [])))) c.at-at.ensures
    (c.in_ok-put_if_new.ensures before were first _ (c.loop-reason.invariant nows before folds were first rows grew))))

pub returns : goal.returns
returns g c nows before folds were first rows grew =
    let folding = c.args.folding.now in
    let place = c.args.place.now in
    whole (g.R.Rows.grew first c.loop-reason.out)
    (then_mapped (row_at folding.step) (then_filtered (λ (row : Row). not (is_told before row)) (then_mapped (reason_row folding.number place) (filtered (λ (r : Reason). not (is_left_out folding.number folding.scope.now nows place r))))))
    c.args.reasons.now c.loop-reason.reason-index rows c.loop-reason-test.false (c.loop-reason.invariant nows before folds were first rows grew)

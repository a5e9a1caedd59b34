use Rattle.std.proofs.Common.{◌≡◌, ◌∙◌, ◌∷◌, [], ◌++◌, Bool, cond, not, List, None, map, subst, sym, take}
use Rattle.std.specs.List.{filter}
use Rattle.mst_rows.specs.Rows.{Row}
use Rattle.mst_telling.specs.Rows.{reason_row, row_at}
use Rattle.mst_telling.specs.Texts.{is_told, news}
use Rattle.mst_telling.specs.Told.{reason_rows}
use Rattle.mst_telling.proofs.GoesOn.{mapped, more, then_filtered, then_mapped, whole}
use Rattle.mst_telling.proofs.once.put_told.Goals as goal

pub loop-reason-preserved : goal.loop-reason-preserved
loop-reason-preserved g c those before are were first rows grew =
    let at = c.args.at in
    let reason = c.reason-item.result in
    let row : Row = reason_row at.number None reason in
    let i = c.loop-reason.reason-index in
    let so_far : List Row = map (row_at at.step) (news before (filter (is_told those) (reason_rows at.number None (take i c.args.reasons.now)))) in
    let is : c.has-is_left.result ≡ is_told those row = c.has-is_left.ensures those row are (c.as_slice.ensures.value ∙ c.in_ok-text.ensures) in
    more (g.R.Rows.grew first c.put_if_new.new.out)
    (then_mapped (row_at at.step) (then_filtered (λ (row : Row). not (is_told before row)) (then_filtered (is_told those) (mapped (reason_row at.number None))))) c.args.reasons.now i reason rows c.loop-reason-test.true c.reason-item.is
    (subst (λ (b : Bool). g.R.Rows.grew first c.put_if_new.new.out ((rows ++ so_far) ++ map (row_at at.step) (news before (cond b (row ∷ []) [])))) is
    (c.in_ok-put_if_new.ensures before were first _ (c.loop-reason.invariant those before are were first rows grew)))

pub returns : goal.returns
returns g c those before are were first rows grew =
    let at = c.args.at in
    whole (g.R.Rows.grew first c.loop-reason.out) (then_mapped (row_at at.step) (then_filtered (λ (row : Row). not (is_told before row)) (then_filtered (is_told those) (mapped (reason_row at.number None))))) c.args.reasons.now
    c.loop-reason.reason-index rows c.loop-reason-test.false (c.loop-reason.invariant those before are were first rows grew)

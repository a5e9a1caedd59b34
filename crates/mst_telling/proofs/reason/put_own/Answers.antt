use Rattle.std.proofs.Common.{◌≡◌, ◌∙◌, ◌∷◌, [], ◌++◌, ℕ, List, Option, Some, None, ap, map, refl, subst}
use Rattle.std.specs.Result.{OnOk}
use Rattle.mst_kinds.specs.declared.kind.Kind.{Kind}
use Rattle.mst_rows.specs.Cells.{Cell}
use Rattle.mst_rows.specs.Rows.{Row, cell, row_of}
use Rattle.mst_reasons.specs.sweep.declared.event.Cause.{Cause}
use Rattle.mst_reasons.specs.declared.reason.Reason.{Reason}
use Rattle.mst_telling.specs.Rows.{front_cells, kind_at, reason_cells, reason_line, reason_row, row_at}
use Rattle.mst_telling.proofs.reason.put_own.Goals as goal

row_is : (step : Option ℕ) (n : ℕ) (cause : Option Cause) (reason : Reason) → row_of (kind_at step (reason_line reason)) (front_cells step n cause ++ reason_cells reason) ≡ row_at step (reason_row n cause reason)
row_is None n cause reason = refl
row_is (Some step) n cause reason = refl

pub returns : goal.returns
returns g c first rows grew =
    let at = c.args.at in
    let cause = c.args.cause.now in
    let reason = c.args.reason.now in
    let kind : c.kind_of.result ≡ kind_at at.step (reason_line reason) = c.kind_of.ensures ∙ ap (kind_at at.step) c.line_of.ensures in
    let cells : map cell c.as_slice.result.now ≡ front_cells at.step at.number cause ++ reason_cells reason =
    ap (map cell) c.as_slice.ensures.value ∙ c.in_ok-push_values.ensures ∙ ap (λ (front : List Cell). front ++ reason_cells reason) c.in_ok-values.ensures in
    subst (λ (row : Row). OnOk c.row.result (g.R.Rows.grew first c.row.new.self (rows ++ row ∷ []))) ((λ i. row_of (kind i) (cells i)) ∙ row_is at.step at.number cause reason) (c.row.ensures first rows grew)

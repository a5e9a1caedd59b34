use Rattle.std.proofs.Common.{◌∙◌, ◌∷◌, [], ◌++◌, subst}
use Rattle.std.specs.Result.{OnOk}
use Rattle.mst_reasons.specs.declared.reason.Reason.{Reason}
use Rattle.mst_telling.specs.Rows.{reason_row, row_at}
use Rattle.mst_telling.proofs.reason.put_reason.Goals as goal

pub returns : goal.returns
returns g c first rows grew =
    let at = c.args.at in
    subst (λ (reason : Reason). OnOk c.put_own.result (g.R.Rows.grew first c.put_own.new.out (rows ++ row_at at.step (reason_row at.number c.args.cause.now reason) ∷ [])))
    (c.reason.ensures ∙ c.in_ok-told.ensures) (c.put_own.ensures first rows grew)

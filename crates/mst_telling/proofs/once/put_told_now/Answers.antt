use Rattle.std.proofs.Common.{◌≡◌, ◌∙◌, ◌++◌, Bool, cond, true, false, List, None, map, subst, sym}
use Rattle.std.specs.List.{filter}
use Rattle.std.specs.Result.{OnOk}
use Rattle.mst_rows.specs.Rows.{Row}
use Rattle.mst_reasons.specs.Judged.{has_now}
use Rattle.mst_telling.specs.Rows.{row_at}
use Rattle.mst_telling.specs.Texts.{is_told, news}
use Rattle.mst_telling.specs.Told.{reason_rows}
use Rattle.mst_telling.specs.declared.reason.At.{At}
use Rattle.mst_telling.proofs.once.put_told_now.Goals as goal

pub returns-in-true : goal.returns-in-true
returns-in-true g c those before are were first rows grew =
    let folding = c.args.folding.now in
    let own : List Row = reason_rows folding.number None c.args.reasons.now in
    let now : has_now folding.scope.now ≡ true = sym c.has_now.ensures ∙ c.in-true.is in
    subst (λ (b : Bool). OnOk c.put_unless.result (g.R.Rows.grew first c.put_unless.new.out (rows ++ map (row_at folding.step) (news before (cond b own (filter (is_told those) own)))))) (sym now)
    (subst (λ (at : At). OnOk c.put_unless.result (g.R.Rows.grew first c.put_unless.new.out (rows ++ map (row_at at.step) (news before (reason_rows at.number None c.args.reasons.now))))) c.at-at.ensures
    (c.put_unless.ensures before were first rows grew))

pub returns-in-false : goal.returns-in-false
returns-in-false g c those before are were first rows grew =
    let folding = c.args.folding.now in
    let own : List Row = reason_rows folding.number None c.args.reasons.now in
    let now : has_now folding.scope.now ≡ false = sym c.has_now.ensures ∙ c.in-false.is in
    subst (λ (b : Bool). OnOk c.put_told.result (g.R.Rows.grew first c.put_told.new.out (rows ++ map (row_at folding.step) (news before (cond b own (filter (is_told those) own)))))) (sym now)
    (subst (λ (at : At). OnOk c.put_told.result (g.R.Rows.grew first c.put_told.new.out (rows ++ map (row_at at.step) (news before (filter (is_told those) (reason_rows at.number None c.args.reasons.now)))))) c.at-at.ensures
    (c.put_told.ensures those before are were first rows grew))

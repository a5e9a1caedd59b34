use Rattle.std.proofs.Common.{◌≡◌, ◌∙◌, ◌++◌, Bor, List, None, Some, ap, subst, sym}
use Rattle.std.specs.Option.{option_map}
use Rattle.std.specs.Result.{IfOk, OnOk}
use Rattle.mst_graph.specs.Lists.{has_any}
use Rattle.mst_policy.specs.Lines.{risk_in}
use Rattle.mst_policy.specs.declared.risk.RiskLine.{RiskLine}
use Rattle.mst_rows.specs.Rows.{Row}
use Rattle.mst_telling.specs.Told.{missing_rows, unread_rows}
use Rattle.mst_telling.proofs.Only.{plain}
use Rattle.mst_verdict.proofs.RefusedRisks.{of_none, of_some}
use Rattle.mst_verdict.proofs.risking.put_refused_line.Goals as goal

pub returns-in-None-clause-is : goal.returns-in-None-clause-is
returns-in-None-clause-is g c =
    let line = c.args.line.now in
    let none : risk_in line.read ≡ None = sym c.risk.ensures ∙ ap (option_map (λ (risk : Bor RiskLine). risk.now)) c.in-None.is in
    subst (λ (rows : List Row). IfOk c.put_unread.result (λ is_any. is_any ≡ has_any rows)) (sym (of_none c.args.plan.now.net line.number line.read none)) c.put_unread.ensures.is

pub returns-in-None-clause-put : goal.returns-in-None-clause-put
returns-in-None-clause-put g c first rows grew =
    let line = c.args.line.now in
    let none : risk_in line.read ≡ None = sym c.risk.ensures ∙ ap (option_map (λ (risk : Bor RiskLine). risk.now)) c.in-None.is in
    subst (λ (more : List Row). OnOk c.put_unread.result (g.R.Rows.grew first c.put_unread.new.out (rows ++ more))) (plain (unread_rows line) ∙ sym (of_none c.args.plan.now.net line.number line.read none))
    (c.put_unread.ensures.put first rows grew)

pub returns-in-Some-clause-is : goal.returns-in-Some-clause-is
returns-in-Some-clause-is g c =
    let line = c.args.line.now in
    let risk : RiskLine = c.in-Some.risk.now in
    let some : risk_in line.read ≡ Some risk = sym c.risk.ensures ∙ ap (option_map (λ (risk : Bor RiskLine). risk.now)) c.in-Some.is in
    subst (λ (rows : List Row). IfOk c.put_lacking_line.result (λ is_any. is_any ≡ has_any rows))
    (ap (missing_rows line.number) c.lacking_items.ensures ∙ sym (of_some c.args.plan.now.net line.number line.read risk some)) c.put_lacking_line.ensures.is

pub returns-in-Some-clause-put : goal.returns-in-Some-clause-put
returns-in-Some-clause-put g c first rows grew =
    let line = c.args.line.now in
    let risk : RiskLine = c.in-Some.risk.now in
    let some : risk_in line.read ≡ Some risk = sym c.risk.ensures ∙ ap (option_map (λ (risk : Bor RiskLine). risk.now)) c.in-Some.is in
    subst (λ (more : List Row). OnOk c.put_lacking_line.result (g.R.Rows.grew first c.put_lacking_line.new.out (rows ++ more)))
    (ap (missing_rows line.number) c.lacking_items.ensures ∙ sym (of_some c.args.plan.now.net line.number line.read risk some)) (c.put_lacking_line.ensures.put first rows grew)

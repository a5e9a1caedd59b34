use Rattle.std.proofs.Common.{◌≡◌, ◌∙◌, [], ◌∷◌, Bor, List, Option, ap, filter, map, refl, subst, sym}
use Rattle.std.specs.Prelude.{IfOk, Vec}
use Rattle.std.specs.Option.{option_copied, option_map_or}
use Rattle.std.specs.declared.alloc.Global.{Global}
use Rattle.mst_policy.specs.declared.risk.RiskLine.{RiskLine}
use Rattle.mst_sweep.specs.declared.failure.Failure.{Failure}
use Rattle.mst_reasons.specs.Risks.{fails_by}
use Rattle.mst_reasons.proofs.risks.named_failures.Goals as goal

-- the lines that were found, or none
abbrev found : Option (Vec (Bor RiskLine) Global) → List RiskLine
found kept = option_map_or (λ lines. map (λ line. line.now) lines.items) kept []

-- without a line nothing fails
none_fail : (failures : List Failure) → filter (fails_by []) failures ≡ []
none_fail [] = refl
none_fail (failure ∷ failures) = none_fail failures

pub returns-in-Some : goal.returns-in-Some
returns-in-Some c =
    subst (λ lines. IfOk c.failures_by.result (λ own. own.items ≡ filter (fails_by lines) c.args.failures.now))
    (ap (map (λ (line : Bor RiskLine). line.now)) c.as_slice.ensures.value ∙ ap found (ap option_copied (sym c.in-Some.is) ∙ c.get.ensures.value)) c.failures_by.ensures

pub returns-in-None : goal.returns-in-None
returns-in-None c =
    c.new.ensures.items
    ∙ sym (ap (λ lines. filter (fails_by lines) c.args.failures.now) (sym (ap found (ap option_copied (sym c.in-None.is) ∙ c.get.ensures.value))) ∙ none_fail c.args.failures.now)

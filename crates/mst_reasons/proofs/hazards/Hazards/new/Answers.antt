use Rattle.std.proofs.Common.{map, ◌∙◌}
use Rattle.mst_sweep.specs.Failures.{alone}
use Rattle.mst_reasons.proofs.hazards.Hazards.new.Goals as goal

pub returns : goal.returns
returns c = λ net numbers view.
    let failures = c.in_ok-failures.ensures net numbers view in
    let risks = c.in_ok-risks.ensures net numbers view (c.as_slice.ensures.value ∙ failures) in
    λ i. record { single = map alone (failures i); risks = risks i }

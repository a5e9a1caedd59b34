use Rattle.std.proofs.Common.{◌≡◌, length, ◌++◌, ap, refl, sym, ◌∙◌}
use Rattle.mst_verify.specs.tree_judges.judged.reasons.Risks.{risks}
use Rattle.mst_verdict.specs.Risking.{refused_risks}
use Rattle.mst_verdict.proofs.laws.one_of_risks.Goals as goal

pub returns-clause-some : goal.returns-clause-some
returns-clause-some c = λ net lines ok.
    let s = c.one_risk_sweep.ensures.some net (risks net lines) ok in
    (record { refused = length (refused_risks net lines); cuts = s.0 }, refused_risks net lines ++ s.1, record { swept = s.1; sweeps = s.2; refused = refl; are = refl })

pub returns-clause-one : goal.returns-clause-one
returns-clause-one c = λ net lines n m rows other ok a b.
    let same = c.one_risk_sweep.ensures.one net (risks net lines) a.swept b.swept n.cuts m.cuts ok a.sweeps b.sweeps in
    let counts : n ≡ m = λ i. record { refused = (a.refused ∙ sym b.refused) i; cuts = same.1 i } in
    (counts, a.are ∙ ap (λ swept. refused_risks net lines ++ swept) same.0 ∙ sym b.are)

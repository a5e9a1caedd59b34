use Rattle.std.proofs.Common.{◌∷◌, [], ◌++◌, refl}
use Rattle.mst_sweep.specs.SweepText.{IsTold, risks_row}
use Rattle.mst_sweeping.proofs.Swept.{put_then, swept}
use Rattle.mst_sweeping.proofs.sweeping.sweep_risks.Goals as goal

pub returns-clause-told : goal.returns-clause-told
returns-clause-told g c =
    let net = c.args.network.now.net in
    let is = c.requires.forest in
    let cuts = c.in_ok-cuts.cuts in
    let risks = c.args.risks.now in
    let told = c.in_ok-cuts.ensures.told is in (
      told.0 ++ risks_row risks cuts ∷ [],
      record { outcome = is.outcome; is_outcome = is.is_outcome; told = swept (IsTold net is.outcome) risks_row risks risks refl cuts told.0 told.1 },
      put_then g.R.Rows.grew c.args.out.now c.sweep_events.new.out c.put_last_risk.new.out told.0 (risks_row risks cuts ∷ []) told.2 (λ first before h. c.in_ok-put_last_risk.ensures first before h),
    )

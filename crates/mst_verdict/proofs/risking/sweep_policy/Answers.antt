use Rattle.std.proofs.Common.{◌≡◌, ◌∙◌, ◌++◌, List, ap, length, refl, subst}
use Rattle.mst_forest.specs.Settled.{SettledNet}
use Rattle.mst_net.specs.tables.Tables.{Net}
use Rattle.mst_rows.specs.Rows.{Row}
use Rattle.mst_sweeping.proofs.Swept.{put_then}
use Rattle.mst_sweeping.specs.Sweeping.{SweepsRisks}
use Rattle.mst_sweeping.specs.sweep.Failures.{Event}
use Rattle.mst_verify.specs.tree_judges.judged.reasons.Risks.{Hazards, risks}
use Rattle.mst_verdict.specs.Risking.{refused_risks}
use Rattle.mst_verdict.proofs.risking.sweep_policy.Goals as goal

pub returns-clause-told : goal.returns-clause-told
returns-clause-told g c =
    let grew = g.R.Rows.grew in
    let net = c.args.network.now.net in
    let lines = c.args.lines.now in
    let refused : List Row = refused_risks net lines in
    let is : c.new-settled.result.net ≡ net = ap (λ (s : SettledNet). s.net) c.new-settled.ensures in
    let told = c.in_ok-cuts.ensures.told in
    let risks_are : c.as_slice.result.now ≡ risks net lines =
    c.as_slice.ensures.value ∙ c.in_ok-risks.ensures ∙ ap (λ (hazards : Hazards). hazards.risks) (c.in_ok-hazards.ensures net c.args.network.now.numbers c.requires.of.view) in (
      refused ++ told.0,
      record {
        swept = told.0;
        sweeps = subst (λ (risks : List Event). SweepsRisks net risks c.in_ok-cuts.cuts told.0) risks_are told.1;
        refused = c.in_ok-refused.ensures.count ∙ ap (λ (net : Net). length (refused_risks net lines)) is;
        are = refl;
      },
      put_then grew c.args.out.now c.put_refused_risks.new.out c.sweep_risks.new.out refused told.0
          (λ first rows h. subst (λ (net : Net). grew first c.put_refused_risks.new.out (rows ++ refused_risks net lines)) is (c.in_ok-refused.ensures.put first rows h)) told.2,
    )

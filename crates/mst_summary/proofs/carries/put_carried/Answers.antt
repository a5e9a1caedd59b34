use Rattle.std.proofs.Common.{◌≡◌, ◌++◌, List, ap, subst, ◌∙◌}
use Rattle.std.specs.List.{flat_map}
use Rattle.std.specs.Prelude.{OnOk}
use Rattle.mst_rows.specs.Rows.{Row}
use Rattle.mst_vlan.specs.forest.Settled.{outcome_of}
use Rattle.mst_summary.specs.Carries.{carried, carries_rows, full_of, full_rows, joining_lans}
use Rattle.mst_summary.proofs.carries.put_carried.Goals as goal

pub returns : goal.returns
returns g c first rows grew =
    let s = c.args.plan.now in
    let o = outcome_of s in
    let lans : c.args.lans.now ≡ joining_lans s.net = c.requires.lans in
    let full : c.as_slice-2.result.now ≡ full_of s.net o (joining_lans s.net) = c.as_slice-2.ensures.value ∙ c.in_ok-full.ensures.full ∙ ap (full_of s.net o) lans in
    subst (λ (all : List Row). OnOk c.put_full.result (g.R.Rows.grew first c.put_full.new.out all))
    (λ i. (rows ++ flat_map (λ lan. carries_rows lan (carried s.net o lan)) (lans i)) ++ full_rows (full i))
    (c.put_full.ensures first _ (c.in_ok-full.ensures.rows first rows grew))

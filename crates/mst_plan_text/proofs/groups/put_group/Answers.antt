use Rattle.std.proofs.Common.{◌≡◌, ◌++◌, ◌∷◌, [], List, append_assoc, ap, subst, ◌∙◌}
use Rattle.std.proofs.lemmas.Result.{on_ok_weaker}
use Rattle.mst_ids.specs.Vids.{runs_from}
use Rattle.mst_rows.specs.Rows.{Row}
use Rattle.mst_vlan.specs.forest.Settled.{outcome_of}
use Rattle.mst_text.specs.VlanRows.{heading}
use Rattle.mst_text.specs.VlanText.{body_rows}
use Rattle.mst_plan_text.specs.PlanText.{group_rows, runs_of_group}
use Rattle.mst_plan_text.proofs.FirstOfGroup.{by_first}
use Rattle.mst_plan_text.proofs.groups.put_group.Goals as goal

pub returns : goal.returns
returns g c islands are first before grew =
    let net = c.args.plan.now.net in
    let o = outcome_of c.args.plan.now in
    let group = c.args.group.now in
    let vid = c.vid-item.result in
    let runs = runs_from 0 c.set_of-vids.result in
    let of_group : runs ≡ runs_of_group group = ap (runs_from 0) c.set_of-vids.ensures in
    on_ok_weaker c.put_body.result
    (λ own.
    let same : own.0 ≡ body_rows net o vid runs (islands vid) = own.1.2 ∙ ap (body_rows net o vid runs) (c.islands_of_vid.ensures.one net o vid own.1.0 (islands vid) own.1.1 (are vid)) in
    let all : heading runs ∷ own.0 ≡ group_rows net o islands group = ap (λ (l : List Row). heading runs ∷ l) same ∙ by_first net o islands group vid runs c.in-len1-up.len_at_least c.vid-item.is of_group in
    subst (g.R.Rows.grew first c.put_body.new.out) (append_assoc before (heading runs ∷ []) own.0 ∙ ap (λ (l : List Row). before ++ l) all) own.2)
    (c.put_body.ensures first (before ++ heading runs ∷ []) (c.in_ok-put_heading.ensures first before grew))

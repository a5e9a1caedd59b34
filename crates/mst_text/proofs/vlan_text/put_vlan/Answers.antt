use Rattle.std.proofs.Common.{◌++◌, ◌∷◌, [], append_assoc, ap, subst}
use Rattle.std.proofs.lemmas.Result.{on_ok_weaker}
use Rattle.mst_ids.specs.Vids.{runs_from}
use Rattle.mst_vlan.specs.forest.Settled.{outcome_of}
use Rattle.mst_text.specs.VlanRows.{heading}
use Rattle.mst_text.specs.VlanText.{AreBodyRows}
use Rattle.mst_text.proofs.vlan_text.put_vlan.Goals as goal

pub returns : goal.returns
returns g c first rows grew =
    let s = c.args.plan.now in
    let head = heading (runs_from 0 c.alone-vids.result) in
    on_ok_weaker c.put_body.result
    (λ own. (
      head ∷ own.0,
      (own.0, subst (λ runs. AreBodyRows s.net (outcome_of s) c.args.vid runs own.0) c.alone-vids.ensures own.1, ap (λ runs. heading runs ∷ own.0) c.alone-vids.ensures),
      subst (g.R.Rows.grew first c.put_body.new.out) (append_assoc rows (head ∷ []) own.0) own.2,
    ))
    (c.put_body.ensures first (rows ++ head ∷ []) (c.in_ok-put_heading.ensures first rows grew))

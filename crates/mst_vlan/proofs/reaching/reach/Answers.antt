use Rattle.std.proofs.Common.{◌∙◌}
use Rattle.std.proofs.lemmas.Result.{IfOk-weaker}
use Rattle.mst_vlan.proofs.Reached.{reached}
use Rattle.mst_vlan.proofs.reaching.reach.Goals as goal

pub returns : goal.returns
returns c =
    IfOk-weaker c.listed.result _ _ (λ islands e net numbers is of. reached net numbers c.args.view.now c.args.forest.now of is c.args.vid c.in_ok-joined.joined.items c.in_ok-joined.ensures islands.items (e ∙ c.as_slice-2.ensures.value)) c.listed.ensures

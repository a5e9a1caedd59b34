use Rattle.std.proofs.Common.{sym, subst, ◌∙◌}
use Rattle.std.proofs.lemmas.Result.{IfOk-weaker}
use Rattle.mst_graph.specs.Islands.{AreIslands}
use Rattle.mst_vlan.proofs.reaching.islands_of.Goals as goal

pub returns : goal.returns
returns c =
    IfOk-weaker c.listed.result _ _ (λ islands e. subst (AreIslands c.args.bridges.now c.args.lans.now c.args.links.now) (sym (e ∙ c.as_slice.ensures.value)) c.in_ok-joined.ensures) c.listed.ensures

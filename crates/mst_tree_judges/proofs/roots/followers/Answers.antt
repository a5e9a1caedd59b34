use Rattle.std.proofs.Common.{ap, ◌∙◌}
use Rattle.std.specs.List.{filter_map}
use Rattle.std.proofs.lemmas.Result.{IfOk-weaker}
use Rattle.mst_view.specs.Viewed.{named_bridge}
use Rattle.mst_roles.specs.forest.Settled.{outcome_of}
use Rattle.mst_tree_judges.specs.Seen.{concerned_follower}
use Rattle.mst_tree_judges.proofs.RootsSeen.{kept_named}
use Rattle.mst_tree_judges.proofs.roots.followers.Goals as goal

pub returns : goal.returns
returns c = IfOk-weaker c.followers_by.result _ _
    (λ all told.
    let s = c.args.plan.now in
    let f = concerned_follower s.net (outcome_of s) c.args.tree c.args.name.now in
    told ∙ kept_named named_bridge f s.view.bridges ∙ ap (filter_map f) c.known.ensures.of.view.bridges) c.followers_by.ensures

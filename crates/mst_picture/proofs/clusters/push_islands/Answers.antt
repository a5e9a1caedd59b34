use Rattle.std.proofs.Common.{◌++◌, ap, ◌∙◌}
use Rattle.std.proofs.lemmas.Result.{on_ok_weaker}
use Rattle.mst_picture.specs.InView.{clusters_of}
use Rattle.mst_picture.proofs.IslandsNamed.{clusters_named}
use Rattle.mst_picture.proofs.clusters.push_islands.Goals as goal

pub returns : goal.returns
returns c =
    let s = c.args.plan.now in
    let vid = c.args.vid in
    let out = c.args.out.now.items in
    let r = c.in_ok-islands.ensures in
    on_ok_weaker c.push_clusters.result
    (λ e. (
      r.named,
      r.are_islands,
      e ∙ ap (λ islands. out ++ clusters_of s vid islands) c.as_slice-2.ensures.value ∙ ap (λ t. out ++ t) (clusters_named s c.known.ensures vid c.in_ok-islands.islands.items r.named r.bridges),
    ))
    c.push_clusters.ensures

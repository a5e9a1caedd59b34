use Rattle.std.proofs.Common.{None, refl}
use Rattle.std.proofs.lemmas.Result.{on_ok_weaker}
use Rattle.mst_advise.specs.explain.Explained.{trees_of_bridge}
use Rattle.mst_view.specs.Viewed.{named_port}
use Rattle.mst_roles.specs.forest.Settled.{outcome_of}
use Rattle.mst_questions.proofs.Explained.{told_had, port_there, told_in_each}
use Rattle.mst_questions.proofs.explaining.put_in_each_tree.Goals as goal

pub returns : goal.returns
returns g c first before grew =
    let s = c.args.plan.now in
    let is = c.known.ensures in
    let port = c.args.port.now in
    let there = port_there s is port c.requires in
    let bridge = port.name.bridge in
    let said = c.some_explained.ensures.all s.net (outcome_of s) is.of.network is.is_outcome (named_port port) there (trees_of_bridge s.net bridge) (told_had s.net bridge None refl) in
    on_ok_weaker c.put_explanations.result (λ grown. (said.0, told_in_each s is port c.requires said.0 said.1, grown)) (c.put_explanations.ensures said.0 said.1 first before grew)

use Rattle.std.proofs.lemmas.Result.{on_ok_weaker}
use Rattle.mst_view.specs.Viewed.{named_port}
use Rattle.mst_roles.specs.forest.Settled.{outcome_of}
use Rattle.mst_questions.proofs.Explained.{tree_there, port_there, told_in}
use Rattle.mst_questions.proofs.explaining.put_in_tree.Goals as goal

pub put_explanation-requires-clause-tree : goal.put_explanation-requires-clause-tree
put_explanation-requires-clause-tree g c = tree_there c.args.plan.now.net c.args.port.now.name.bridge c.args.tree c.requires.tree

pub returns : goal.returns
returns g c first before grew =
    let s = c.args.plan.now in
    let is = c.known.ensures in
    let port = c.args.port.now in
    let there = port_there s is port c.requires.there in
    let said = c.some_explained.ensures.one s.net (outcome_of s) is.of.network is.is_outcome (named_port port) there c.args.tree c.requires.tree in
    on_ok_weaker c.put_explanation.result (λ grown. (said.0, told_in s is port c.requires.there c.args.tree said.0 said.1, grown)) (c.put_explanation.ensures said.0 said.1 first before grew)

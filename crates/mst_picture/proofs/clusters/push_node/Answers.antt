use Rattle.std.proofs.Common.{◌++◌, ap, ◌∙◌}
use Rattle.std.proofs.lemmas.Result.{on_ok_weaker}
use Rattle.mst_picture.specs.VlanPicture.{node_line}
use Rattle.mst_picture.proofs.clusters.push_node.Goals as goal

pub returns : goal.returns
returns c = on_ok_weaker c.push_line.result (λ e. e ∙ ap (λ is_root. c.args.out.now.items ++ node_line c.args.bridge.now.name c.args.tree is_root) c.is_root.ensures) c.push_line.ensures

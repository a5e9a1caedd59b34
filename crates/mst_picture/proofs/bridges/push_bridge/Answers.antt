use Rattle.std.proofs.Common.{◌++◌, ap, ◌∙◌}
use Rattle.std.proofs.lemmas.Result.{on_ok_weaker}
use Rattle.mst_picture.specs.Bridges.{bridge_line}
use Rattle.mst_picture.proofs.bridges.push_bridge.Goals as goal

pub returns : goal.returns
returns c = on_ok_weaker c.push_styled.result (λ e. e ∙ ap (λ style. c.args.out.now.items ++ bridge_line c.args.bridge.now.name style) c.style_of.ensures) c.push_styled.ensures

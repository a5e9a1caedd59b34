use Rattle.std.proofs.Common.{[], ◌∷◌, ◌++◌, codes, ◌∙◌}
use Rattle.std.proofs.lemmas.Result.{on_ok_weaker}
use Rattle.mst_picture.specs.Pieces.{joined}
use Rattle.mst_picture.proofs.lans.push_node.Goals as goal

pub returns : goal.returns
returns c =
    let out = c.args.out.now.items in
    on_ok_weaker c.push_pieces.result
    (λ e. e ∙ (λ i. out ++ joined (codes "  \"lan " ∷ c.as_bytes.ensures.text i ∷ codes "\" [shape=box, fontsize=10, height=0.3, label=\"" ∷ c.as_bytes-2.ensures.text i ∷ codes "\"];\n" ∷ []))) c.push_pieces.ensures

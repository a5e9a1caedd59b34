use Rattle.std.proofs.Common.{[], ◌∷◌, ◌++◌, codes, ◌∙◌}
use Rattle.std.proofs.lemmas.Result.{on_ok_weaker}
use Rattle.mst_picture.specs.Pieces.{joined}
use Rattle.mst_picture.proofs.bridges.push_styled.Goals as goal

pub returns : goal.returns
returns c =
    let out = c.args.out.now.items in
    on_ok_weaker c.push_pieces.result
    (λ e. e ∙ (λ i. out ++ joined (codes "  \"" ∷ c.as_bytes.ensures.text i ∷ codes "\"" ∷ c.as_bytes-2.ensures.value i ∷ codes ";\n" ∷ []))) c.push_pieces.ensures

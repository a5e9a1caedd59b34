use Rattle.std.proofs.Common.{◌≡◌, [], ◌∷◌, ◌++◌, codes, decimal, ◌∙◌}
use Rattle.std.proofs.lemmas.Result.{on_ok_weaker}
use Rattle.mst_picture.specs.Pieces.{joined}
use Rattle.mst_picture.proofs.picture.push_opening.Goals as goal

pub returns : goal.returns
returns c =
    let out = c.args.out.now.items in
    let word = c.args.word.now in
    let number : c.as_bytes-number.result.now ≡ decimal c.args.number = c.as_bytes-number.ensures.value ∙ c.format.ensures.text in
    on_ok_weaker c.push_pieces.result
    (λ e. e ∙ (λ i. out ++ joined (codes "graph \"" ∷ word ∷ number i ∷ codes "\" {\n"
    ∷ codes "  graph [label=\"" ∷ word ∷ number i ∷ codes "\", nodesep=0.6, ranksep=0.8];\n"
    ∷ codes "  edge [fontsize=10, labeldistance=1.8];\n" ∷ []))) c.push_pieces.ensures

use Rattle.std.proofs.Common.{◌≡◌, ℕ, List, [], ◌∷◌, ◌++◌, codes, decimal, ap, ◌∙◌}
use Rattle.std.proofs.lemmas.Result.{on_ok_weaker}
use Rattle.mst_picture.specs.Pieces.{joined}
use Rattle.mst_picture.specs.VlanPicture.{node_end}
use Rattle.mst_picture.proofs.Lines.{and_two}
use Rattle.mst_picture.proofs.clusters.push_line.Goals as goal

pub returns : goal.returns
returns c =
    let out = c.args.out.now.items in
    let name = c.args.name.now in
    let number : List ℕ = decimal c.args.tree in
    let end : List ℕ = node_end c.args.is_root in
    let first : List (List ℕ) = codes "    \"" ∷ name ∷ codes "\" [label=\"" ∷ name ∷ codes "\\ntree " ∷ [] in
    let one : c.push_pieces.new.out.items ≡ out ++ joined first = c.in_ok-push_pieces.ensures {u = tt}
    ∙ (λ i. out ++ joined (codes "    \"" ∷ c.as_bytes.ensures.text i ∷ codes "\" [label=\"" ∷ c.as_bytes-2.ensures.text i ∷ codes "\\ntree " ∷ [])) in
    let two : c.push_text.new.out.items ≡ (out ++ joined first) ++ number = c.in_ok-push_text.ensures.ok ∙ ap (λ t. t ++ number) one in
    on_ok_weaker c.push_bytes.result (λ last. last ∙ (λ i. two i ++ (c.as_bytes-3.ensures.value ∙ c.node_end.ensures) i) ∙ and_two out first number end) c.push_bytes.ensures.ok

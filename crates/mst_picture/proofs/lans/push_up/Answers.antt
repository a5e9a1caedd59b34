use Rattle.std.proofs.Common.{◌≡◌, ℕ, List, [], ◌∷◌, ◌++◌, codes, ap, ◌∙◌}
use Rattle.std.proofs.lemmas.Result.{on_ok_weaker}
use Rattle.mst_picture.specs.Lans.{label, line_end}
use Rattle.mst_picture.specs.Pieces.{joined}
use Rattle.mst_picture.proofs.Lines.{and_two}
use Rattle.mst_picture.proofs.lans.push_up.Goals as goal

pub returns : goal.returns
returns c =
    let out = c.args.out.now.items in
    let end = c.args.end.now in
    let first : List (List ℕ) = codes "  \"lan " ∷ c.args.lan.now ∷ codes "\" -- \"" ∷ end.port.bridge ∷ codes "\" [headlabel=\"" ∷ [] in
    let one : c.push_pieces.new.out.items ≡ out ++ joined first = c.in_ok-push_pieces.ensures {u = tt}
    ∙ (λ i. out ++ joined (codes "  \"lan " ∷ c.as_bytes.ensures.text i ∷ codes "\" -- \"" ∷ c.as_bytes-2.ensures.text i ∷ codes "\" [headlabel=\"" ∷ [])) in
    let two : c.push_label.new.out.items ≡ (out ++ joined first) ++ label end = c.in_ok-push_label.ensures {u = tt} ∙ ap (λ t. t ++ label end) one in
    on_ok_weaker c.push_bytes.result
    (λ last. last ∙ (λ i. two i ++ (c.as_bytes-3.ensures.value ∙ c.line_end.ensures) i) ∙ and_two out first (label end) (line_end end.is_open)) c.push_bytes.ensures.ok

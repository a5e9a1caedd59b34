use Rattle.std.proofs.Common.{◌≡◌, ℕ, List, [], ◌∷◌, ◌++◌, codes, ap, ◌∙◌}
use Rattle.std.specs.Prelude.{◌&&◌}
use Rattle.std.proofs.lemmas.Result.{on_ok_weaker}
use Rattle.mst_picture.specs.Lans.{label, line_end}
use Rattle.mst_picture.specs.Pieces.{joined}
use Rattle.mst_picture.proofs.Lines.{and_four}
use Rattle.mst_picture.proofs.lans.push_line.Goals as goal

pub returns : goal.returns
returns c =
    let out = c.args.out.now.items in
    let tail = c.args.tail.now in
    let head = c.args.head.now in
    let first : List (List ℕ) = codes "  \"" ∷ tail.port.bridge ∷ codes "\" -- \"" ∷ head.port.bridge ∷ codes "\" [label=\"" ∷ c.args.lan.now ∷ codes "\", taillabel=\"" ∷ [] in
    let between : List ℕ = codes "\", headlabel=\"" in
    let end : List ℕ = line_end (tail.is_open && head.is_open) in
    let one : c.push_pieces.new.out.items ≡ out ++ joined first = c.in_ok-push_pieces.ensures {u = tt}
    ∙ (λ i. out ++ joined (codes "  \"" ∷ c.as_bytes.ensures.text i ∷ codes "\" -- \"" ∷ c.as_bytes-2.ensures.text i ∷ codes "\" [label=\"" ∷ c.as_bytes-3.ensures.text i ∷ codes "\", taillabel=\"" ∷ [])) in
    let two : c.push_label.new.out.items ≡ (out ++ joined first) ++ label tail = c.in_ok-push_label.ensures {u = tt} ∙ ap (λ t. t ++ label tail) one in
    let three : c.push_bytes.new.out.items ≡ ((out ++ joined first) ++ label tail) ++ between = c.in_ok-push_bytes.ensures.ok ∙ ap (λ t. t ++ between) two in
    let four : c.push_label-2.new.out.items ≡ (((out ++ joined first) ++ label tail) ++ between) ++ label head = c.in_ok-push_label-2.ensures {u = tt} ∙ ap (λ t. t ++ label head) three in
    on_ok_weaker c.push_bytes-2.result
    (λ last. last ∙ (λ i. four i ++ (c.as_bytes-4.ensures.value ∙ c.line_end.ensures ∙ ap line_end c.are_open.ensures) i) ∙ and_four out first (label tail) between (label head) end) c.push_bytes-2.ensures.ok

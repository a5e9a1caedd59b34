use Rattle.std.proofs.Common.{◌≡◌, ◌∙◌, List, Vec, Global, nat_eq, sym, true}
use Rattle.std.specs.Cmp.{booleans_Decides}
use Rattle.std.specs.Cmp.Lexicographic.{pointwise, pointwise_decides}
use Rattle.mst_reasons.proofs.sweep_lemmas.SameParts.{by_view, parts_decide, same_parts}
use Rattle.mst_telling.proofs.kept.are_same.Goals as goal

pub returns-then-eq : goal.returns-then-eq
returns-then-eq c t =
    let items : Vec (List _) Global → List (List _) = λ part. part.items in
    let those = c.as_slice.result.now in
    let their = c.as_slice-then-eq.result.now in
    let same : same_parts c.args.parts.now c.args.their.now ≡ true =
    (λ i. same_parts (sym c.as_slice.ensures i) (sym c.as_slice-then-eq.ensures i)) ∙ sym (by_view items (pointwise (pointwise nat_eq)) those their) ∙ sym c.eq-then-eq.ensures ∙ t in
    ((pointwise_decides booleans_Decides c.args.vids.now c.args.others.now).0 (sym c.if-eq.ensures), (parts_decide c.args.parts.now c.args.their.now).0 same)

use Rattle.std.proofs.Common.{◌≡◌, ◌∙◌, ◌∷◌, [], ◌++◌, ◌==◌, ℕ, List, Vec, Global, ap, append-nil, cond, false, length, map, refl, sym, take, true≢false}
use Rattle.std.proofs.lemmas.Bool.{eqb-true}
use Rattle.std.proofs.lemmas.List.{map-append, nil_from_length, take_all}
use Rattle.mst_graph.specs.Lists.{has_any}
use Rattle.mst_telling.specs.Kept.{names_but, parts_but}
use Rattle.mst_telling.proofs.GoesOn.{mapped, taken, then_filtered, then_mapped}
use Rattle.mst_telling.proofs.kept.parts_without.Goals as goal
use Rattle.mst_telling.proofs.kept.parts_without.Goals.{then-is_empty, else-is_empty+in_ok-push}

-- a part that has a name stays
stays : (names : List (List ℕ)) → (length names == 0) ≡ false → names ∷ [] ≡ cond (has_any names) (names ∷ []) []
stays [] e = absurd (true≢false e)
stays (name ∷ names) e = refl

pub loop-part-preserved : goal.loop-part-preserved
loop-part-preserved c =
    let l = c.loop-part in
    let items : Vec (List ℕ) Global → List (List ℕ) = λ part. part.items in
    let name = c.args.name.now in
    let own : List (List ℕ) = c.in_ok-names.names.items in
    let are : own ≡ names_but name c.part-item.result.items = c.in_ok-names.ensures ∙ ap (names_but name) c.as_slice.ensures.value in
    let none_is : (length own == 0) ≡ c.is_empty.result = ap (λ n. n == 0) (sym c.in_ok-names.names.ok.0) ∙ sym c.is_empty.ensures in
    let more = taken (then_filtered has_any (then_mapped (names_but name) (mapped items))) c.args.parts.now l.part-index c.part-item.result c.loop-part-test.true c.part-item.is in
    let so_far = parts_but name (map items (take l.part-index c.args.parts.now)) in
    elim c.if-is_empty.branch [
      | then-is_empty w ↦
          ap (λ others. map items others.items) w.others-is ∙ l.invariant
          ∙ sym (more ∙ ap (λ names. so_far ++ cond (has_any names) (names ∷ []) []) (sym are ∙ nil_from_length own (eqb-true (length own) 0 (none_is ∙ w.if-is_empty.true))) ∙ append-nil so_far)
      | else-is_empty+in_ok-push w ↦
          ap (λ others. map items others.items) w.others-is ∙ ap (map items) w.in_ok-push.ensures.items ∙ map-append items l.others.items (c.in_ok-names.names ∷ [])
          ∙ (λ i. l.invariant i ++ stays own (none_is ∙ w.if-is_empty.false) i) ∙ sym (more ∙ ap (λ names. so_far ++ cond (has_any names) (names ∷ []) []) (sym are))
    ]

pub returns : goal.returns
returns c = c.loop-part.invariant ∙ ap (λ (some : List (Vec (List ℕ) Global)). parts_but c.args.name.now (map (λ part. part.items) some)) (take_all c.loop-part.part-index c.args.parts.now c.loop-part-test.false)

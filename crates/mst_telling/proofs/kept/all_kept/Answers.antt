use Rattle.std.proofs.Common.{[], ◌∷◌, ◌++◌, ◌∙◌, List, Vec, Global, ap, append-nil, append_assoc, map, sym}
use Rattle.std.proofs.lemmas.List.{map-append, nil_from_length}
use Rattle.mst_reasons.specs.declared.reason.Reason.{Reason}
use Rattle.mst_telling.proofs.kept.all_kept.Goals as goal

pub loop-reasons-init : goal.loop-reasons-init
loop-reasons-init c = record {
  so_far = ap (map (λ reasons. reasons.items)) c.new-kept.ensures.items;
  whole = c.into_iter-reasons-iterator.ensures.into_iter_gives.0;
}

pub loop-reasons-preserved : goal.loop-reasons-preserved
loop-reasons-preserved c =
    let l = c.loop-reasons in
    let items : Vec Reason Global → List Reason = λ reasons. reasons.items in
    let reasons = c.in-Some.reasons in
    record {
      so_far =
          ap (map items) c.in_ok-push.ensures.items ∙ map-append items l.kept.items (c.in_ok-line_kept.field-0 ∷ [])
          ∙ (λ i. l.invariant.so_far i ++ c.in_ok-line_kept.ensures i ∷ []) ∙ sym (map-append items l.yielded (reasons ∷ []));
      whole = append_assoc l.yielded (reasons ∷ []) c.next.new.self.rest.items ∙ ap (λ rest. l.yielded ++ rest) (sym c.in-Some.ensures.steps.0) ∙ l.invariant.whole;
    }

pub returns : goal.returns
returns c =
    let l = c.loop-reasons in
    let items : Vec Reason Global → List Reason = λ reasons. reasons.items in
    let no_rest = nil_from_length l.reasons-iterator.rest.items (sym l.reasons-iterator.rest.ok.0 ∙ c.in-None.ensures.steps.0) in
    l.invariant.so_far ∙ ap (map items) (sym (append-nil l.yielded) ∙ ap (λ rest. l.yielded ++ rest) (sym no_rest) ∙ l.invariant.whole)

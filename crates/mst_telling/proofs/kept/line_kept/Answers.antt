use Rattle.std.proofs.Common.{[], ◌∷◌, ◌++◌, ◌∙◌, ap, append-nil, append_assoc, sym}
use Rattle.std.proofs.lemmas.List.{nil_from_length}
use Rattle.mst_telling.proofs.kept.line_kept.Goals as goal

pub loop-reason-init : goal.loop-reason-init
loop-reason-init c = record { so_far = c.new-kept.ensures.items; whole = c.into_iter-reason-iterator.ensures.into_iter_gives.0 }

pub loop-reason-preserved : goal.loop-reason-preserved
loop-reason-preserved c =
    let l = c.loop-reason in
    let reason = c.in-Some.reason in
    record {
      so_far = c.in_ok-push.ensures.items ∙ (λ i. l.invariant.so_far i ++ c.in_ok-kept_by.ensures i ∷ []);
      whole = append_assoc l.yielded (reason ∷ []) c.next.new.self.rest.items ∙ ap (λ rest. l.yielded ++ rest) (sym c.in-Some.ensures.steps.0) ∙ l.invariant.whole;
    }

pub returns : goal.returns
returns c =
    let l = c.loop-reason in
    let no_rest = nil_from_length l.reason-iterator.rest.items (sym l.reason-iterator.rest.ok.0 ∙ c.in-None.ensures.steps.0) in
    l.invariant.so_far ∙ sym (append-nil l.yielded) ∙ ap (λ rest. l.yielded ++ rest) (sym no_rest) ∙ l.invariant.whole

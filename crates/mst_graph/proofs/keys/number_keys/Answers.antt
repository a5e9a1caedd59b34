use Rattle.std.proofs.Common.{[], ◌∷◌, ◌++◌, sym, ap, subst, ◌∙◌}
use Rattle.std.specs.List.{list_any}
use Rattle.std.proofs.lemmas.List.{append-nil, append_assoc, nil_from_length}
use Rattle.mst_graph.specs.Numbers.{AreNumbers}
use Rattle.mst_graph.proofs.NumberedKeys.{new_numbered, known_numbered, all_numbered}
use Rattle.mst_graph.proofs.KeyPlaces.{is_new, is_known}
use Rattle.mst_graph.proofs.keys.number_keys.Goals as goal
use Rattle.mst_graph.proofs.keys.number_keys.Goals.{then-is_new+in_ok-push, else-is_new}

pub loop-key-preserved : goal.loop-key-preserved
loop-key-preserved g c =
    let before = c.loop-key.yielded in
    let key = c.in-Some.key in
    let met = c.loop-key.met.keys in
    let same = g.K.PartialEq.eq in
    let old = c.loop-key.numbers.items in
    let firsts = c.loop-key.firsts.items in
    let inv = c.loop-key.invariant in
    let numbers_are = c.in_ok-push-2.ensures.items ∙ ap (λ n. old ++ n ∷ []) c.in_ok-number.ensures.index in
    record {
      whole = append_assoc before (key ∷ []) c.next.new.self.rest.items ∙ ap (λ r. before ++ r) (sym c.in-Some.ensures.steps.0) ∙ inv.whole;
      numbered = elim c.if-is_new.branch [
        | then-is_new+in_ok-push w ↦
            let firsts_are = ap (λ v. v.items) w.firsts-is ∙ w.in_ok-push.ensures.items ∙ ap (λ n. firsts ++ n ∷ []) (w.len.ensures ∙ c.loop-key.numbers.ok.0) in
            rw (c.in_ok-number.ensures.keys, numbers_are, firsts_are)
            (new_numbered same g.met.K.Eq.laws before met old firsts key inv.numbered (is_new (list_any (same key) met) c.in_ok-number.is_new c.in_ok-number.ensures.added w.if-is_new.true))
        | else-is_new w ↦
            let firsts_are = ap (λ v. v.items) w.firsts-is in
            rw (c.in_ok-number.ensures.keys, numbers_are, firsts_are)
            (known_numbered same g.met.K.Eq.laws before met old firsts key inv.numbered (is_known (list_any (same key) met) c.in_ok-number.is_new c.in_ok-number.ensures.added w.if-is_new.false))
      ];
    }

pub returns : goal.returns
returns g c =
    let inv = c.loop-key.invariant in
    let no_rest = nil_from_length c.loop-key.key-iterator.rest.items (sym c.loop-key.key-iterator.rest.ok.0 ∙ c.in-None.ensures.steps.0) in
    let all = sym (append-nil c.loop-key.yielded) ∙ ap (λ r. c.loop-key.yielded ++ r) (sym no_rest) ∙ inv.whole in
    subst (λ ks. AreNumbers g.K.PartialEq.eq ks c.loop-key.numbers.items c.loop-key.firsts.items) all
    (all_numbered g.K.PartialEq.eq g.met.K.Eq.laws c.loop-key.yielded c.loop-key.met.keys c.loop-key.numbers.items c.loop-key.firsts.items inv.numbered)

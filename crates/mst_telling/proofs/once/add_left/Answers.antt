use Rattle.std.proofs.Common.{◌≡◌, ◌∙◌, ◌||◌, Bool, ◌∷◌, [], ◌++◌, cond, List, Option, None, ap, subst, sym, take}
use Rattle.std.specs.List.{filter}
use Rattle.std.proofs.lemmas.List.{take_all}
use Rattle.mst_rows.specs.Rows.{Row}
use Rattle.mst_graph.specs.Lists.{has_any}
use Rattle.mst_reasons.specs.sweep.declared.event.Cause.{Cause}
use Rattle.mst_reasons.specs.declared.reason.Reason.{Reason}
use Rattle.mst_telling.specs.declared.once.Folding.{Folding}
use Rattle.mst_telling.specs.Judged.{AreTexts}
use Rattle.mst_telling.specs.Once.{is_left_out}
use Rattle.mst_telling.specs.Rows.{reason_row}
use Rattle.mst_telling.specs.Told.{reason_rows}
use Rattle.mst_telling.proofs.GoesOn.{filtered, more, one_mapped, taken, then_mapped}
use Rattle.mst_telling.proofs.Only.{any_joined, any_one}
use Rattle.mst_telling.proofs.once.add_left.Goals as goal

pub loop-reason-preserved : goal.loop-reason-preserved
loop-reason-preserved c =
    let folding = c.args.folding.now in
    let n = folding.number in
    let place = c.args.finding.now.place in
    let l = c.loop-reason in
    let reasons = c.reasons_of-reasons.result.now in
    let reason = c.reason-item.result in
    let is = c.in_ok-is_left.is_left in
    let said = c.in_ok-is_left.ensures in
    record {
      is = λ nows folds.
          let test : Reason → Bool = is_left_out n folding.scope.now nows place in
          (λ i. l.invariant.is nows folds i || (said.is nows folds ∙ any_one (reason_row n None) test reason) i)
          ∙ sym (any_joined (reason_rows n None (filter test (take l.reason-index reasons))) (reason_rows n None (cond (test reason) (reason ∷ []) [])))
          ∙ ap has_any (sym (taken (then_mapped (reason_row n None) (filtered test)) reasons l.reason-index reason c.loop-reason-test.true c.reason-item.is));
      added = λ nows rows folds are.
          let test : Reason → Bool = is_left_out n folding.scope.now nows place in
          let so_far : List Row = reason_rows n None (filter test (take l.reason-index reasons)) in
          more (λ (all : List Row). AreTexts all c.add_if_left.new.texts) (then_mapped (reason_row n None) (filtered test)) reasons l.reason-index reason rows c.loop-reason-test.true c.reason-item.is
          (subst (λ (more : List Row). AreTexts ((rows ++ so_far) ++ more) c.add_if_left.new.texts) (one_mapped (reason_row n None) reason is (test reason) (said.is nows folds)) (said.added (rows ++ so_far) (l.invariant.added nows rows folds are)));
    }

abbrev all_left : Folding → Option Cause → List Row → List Reason → List Row
all_left folding place nows reasons = reason_rows folding.number None (filter (is_left_out folding.number folding.scope.now nows place) reasons)

pub returns-clause-is : goal.returns-clause-is
returns-clause-is c nows folds =
    let folding = c.args.folding.now in
    let place = c.args.finding.now.place in
    c.loop-reason.invariant.is nows folds ∙ ap (λ l. has_any (all_left folding place nows l)) (take_all c.loop-reason.reason-index c.reasons_of-reasons.result.now c.loop-reason-test.false ∙ c.reasons_of-reasons.ensures)

pub returns-clause-added : goal.returns-clause-added
returns-clause-added c nows rows folds are =
    let folding = c.args.folding.now in
    let place = c.args.finding.now.place in
    subst (λ l. AreTexts (rows ++ all_left folding place nows l) c.loop-reason.texts) (take_all c.loop-reason.reason-index c.reasons_of-reasons.result.now c.loop-reason-test.false ∙ c.reasons_of-reasons.ensures)
    (c.loop-reason.invariant.added nows rows folds are)

use Rattle.std.proofs.Common.{List, map, Some, subst, sym, ap, ◌∙◌}
use Rattle.std.specs.List.{AllZip}
use Rattle.std.proofs.lemmas.Result.{IfOk-weaker}
use Rattle.mst_sweeping.specs.sweep.vlan.Carried.{ViewWithTrees}
use Rattle.mst_policy.specs.Leaving.{sets_of}
use Rattle.mst_sweeping.specs.sweep.vlan.classes.Classes.{AreClasses, AreInSame}
use Rattle.mst_net.specs.tables.Contents.{Tables}
use Rattle.mst_forest.specs.Agrees.{AreOf}
use Rattle.mst_forest.specs.Forest.{IsForest}
use Rattle.mst_forest.specs.Outcome.{IsOutcome}
use Rattle.mst_forest.specs.Settled.{SettledNet, outcome_of, settled_net}
use Rattle.mst_sweeping.specs.sweep.Failures.{Event, edit_of, failed}
use Rattle.mst_sweeping.specs.sweep.declared.failure.Failure.{Failure}
use Rattle.mst_telling.specs.Judged.{reasons_in}
use Rattle.mst_view.specs.Viewed.{IsView}
use Rattle.mst_verify.specs.tree_judges.judged.Islands.{HasIslandsOf, IsOneOf}
use Rattle.mst_verify.specs.tree_judges.judged.reasons.Named.{with_before}
use Rattle.mst_verdict.specs.Verifying.{AreReasonsIf, HaveLans, expected_in, plan_outcome}
use Rattle.mst_verdict.proofs.Judgements.{as_many, classes_stay, failed_plan, have_lans_failed, lines_after, prior_of, tables_failed, tables_made}
use Rattle.mst_verdict.proofs.judging.reasons_failed.Goals as goal

pub ahead-plan-requires-clause-of : goal.ahead-plan-requires-clause-of
ahead-plan-requires-clause-of c =
    let trees = c.in_ok-trees.trees in
    subst (λ (t : Tables). AreOf t.net t.numbers c.trees_failed.new.seen trees.regions) (sym (tables_made c.args.event.now.failures c.as_slice.result.now c.args.network.now (c.as_slice.ensures.value ∙ c.in_ok-edits.ensures ∙ ap (map edit_of) c.failures-failures.ensures)))
    (subst (λ (fs : List Failure). AreOf (failed fs c.args.network.now.net) c.args.network.now.numbers c.trees_failed.new.seen trees.regions) c.failures-failures.ensures c.in_ok-trees.ensures.trees.of)

pub ahead-plan-requires-clause-forest : goal.ahead-plan-requires-clause-forest
ahead-plan-requires-clause-forest c =
    let trees = c.in_ok-trees.trees in
    subst (λ (t : Tables). IsForest t.net t.numbers trees) (sym (tables_made c.args.event.now.failures c.as_slice.result.now c.args.network.now (c.as_slice.ensures.value ∙ c.in_ok-edits.ensures ∙ ap (map edit_of) c.failures-failures.ensures)))
    (subst (λ (fs : List Failure). IsForest (failed fs c.args.network.now.net) c.args.network.now.numbers trees) c.failures-failures.ensures c.in_ok-trees.ensures.trees.forest)

pub beside-requires-clause-classes : goal.beside-requires-clause-classes
beside-requires-clause-classes c =
    let old = c.args.network.now in
    let j = c.args.judging.now in
    subst (λ (s : SettledNet). AreClasses s.view j.before.now.classes) (sym c.ahead-plan.ensures)
    (classes_stay c.args.event.now.failures old.net old.numbers old.numbers j.plan.now.view c.trees_failed.new.seen c.requires.of.of.view
    (subst (λ (fs : List Failure). IsView (failed fs old.net) old.numbers c.trees_failed.new.seen) c.failures-failures.ensures c.in_ok-trees.ensures.seen) j.before.now.classes c.requires.judging.classes)

pub beside-requires-clause-islands : goal.beside-requires-clause-islands
beside-requires-clause-islands c =
    let j = c.args.judging.now in
    subst (λ (s : SettledNet). HasIslandsOf j.carriage.now s.numbers j.before.now)
    (sym (failed_plan c.args.event.now.failures c.as_slice.result.now c.args.network.now (c.as_slice.ensures.value ∙ c.in_ok-edits.ensures ∙ ap (map edit_of) c.failures-failures.ensures) c.trees_failed.new.seen c.in_ok-trees.trees c.ahead-plan.result c.ahead-plan.ensures)) c.requires.judging.islands

pub failed-prior-requires-clause-classes : goal.failed-prior-requires-clause-classes
failed-prior-requires-clause-classes c =
    let j = c.args.judging.now in
    subst (λ (v : ViewWithTrees). AreClasses v.view j.before.now.classes) (sym c.requires.judging.carriage) c.requires.judging.classes

pub failed-prior-requires-clause-islands : goal.failed-prior-requires-clause-islands
failed-prior-requires-clause-islands c =
    let j = c.args.judging.now in
    subst (λ (s : SettledNet). HasIslandsOf j.carriage.now s.numbers j.before.now)
    (sym (failed_plan c.args.event.now.failures c.as_slice.result.now c.args.network.now (c.as_slice.ensures.value ∙ c.in_ok-edits.ensures ∙ ap (map edit_of) c.failures-failures.ensures) c.trees_failed.new.seen c.in_ok-trees.trees c.ahead-plan.result c.ahead-plan.ensures)) c.requires.judging.islands

pub judge_place-requires-clause-missing : goal.judge_place-requires-clause-missing
judge_place-requires-clause-missing c = let j = c.args.judging.now in as_many c.args.network.now.net j.is_last j.lines.now j.missing.now c.requires.judging.lacking

pub judge_place-requires-clause-lans : goal.judge_place-requires-clause-lans
judge_place-requires-clause-lans c =
    let net = c.args.network.now.net in
    let event = c.args.event.now in
    let j = c.args.judging.now in (
      net,
      c.requires.judging.lacking,
      subst (λ (s : SettledNet). HaveLans j net s.net (Some c.copied.result))
          (sym (failed_plan event.failures c.as_slice.result.now c.args.network.now (c.as_slice.ensures.value ∙ c.in_ok-edits.ensures ∙ ap (map edit_of) c.failures-failures.ensures) c.trees_failed.new.seen c.in_ok-trees.trees c.ahead-plan.result c.ahead-plan.ensures))
          (have_lans_failed j net event.failures (Some c.copied.result)),
    )

pub judge_place-requires-clause-same : goal.judge_place-requires-clause-same
judge_place-requires-clause-same c = subst (AreInSame (sets_of c.args.judging.now.leaving.now)) (sym c.failed-prior.ensures.classes) c.requires.judging.same

pub returns-clause-reasons : goal.returns-clause-reasons
returns-clause-reasons c =
    let old = c.args.network.now in
    let event = c.args.event.now in
    let j = c.args.judging.now in
    let o = plan_outcome old.net old.numbers j.plan.now in
    let s = c.ahead-plan.result in
    let one : IsOneOf old.net o c.failed-prior.result.old.now =
    subst (λ (v : ViewWithTrees). IsOneOf old.net o v) (sym c.failed-prior.ensures.old) (prior_of old.net old.numbers j.plan.now j.carriage.now c.requires.of c.requires.judging.carriage) in
    let is = failed_plan event.failures c.as_slice.result.now old (c.as_slice.ensures.value ∙ c.in_ok-edits.ensures ∙ ap (map edit_of) c.failures-failures.ensures) c.trees_failed.new.seen c.in_ok-trees.trees c.ahead-plan.result c.ahead-plan.ensures in
    let p = outcome_of (settled_net (tables_failed event.failures old) c.trees_failed.new.seen c.in_ok-trees.trees) in
    IfOk-weaker c.judge_place.result _ _
    (λ all said prior of. lines_after j old.net old.numbers prior of event p
    (subst (λ (s : SettledNet). IsOutcome s.net (outcome_of s)) is c.known.ensures.is_outcome) j.lines.now (reasons_in all)
    (subst (λ (s : SettledNet). AllZip (λ line those. AreReasonsIf s.net (outcome_of s) old.net event.failures (with_before old.net o prior) (expected_in j old.net line (Some event)) those) j.lines.now (reasons_in all)) is
    (subst (λ (fs : List Failure). AllZip (λ line those. AreReasonsIf s.net (outcome_of s) old.net fs (with_before old.net o prior) (expected_in j old.net line (Some event)) those) j.lines.now (reasons_in all)) c.failures-failures.ensures
    (subst (λ (e : Event). AllZip (λ line those. AreReasonsIf s.net (outcome_of s) old.net c.failures-failures.result.now (with_before old.net o prior) (expected_in j old.net line (Some e)) those) j.lines.now (reasons_in all)) c.copied.ensures
    (said old.net old.net (with_before old.net o prior) c.requires.judging.lacking c.requires.judging.before (one, of.1))))))
    c.judge_place.ensures

use Rattle.std.proofs.Common.{◌≡◌, ◌+◌, ◌∷◌, [], ◌++◌, take, sym, ap, subst, ◌∙◌, arith}
use Rattle.std.proofs.lemmas.List.{take_all, take_more}
use Rattle.mst_sweep.specs.SweepText.{IsTold}
use Rattle.mst_sweeping.specs.Sweeping.{AreTold}
use Rattle.mst_sweeping.proofs.Swept.{counts, counts_few, none_told, more_told, none_put, put_then}
use Rattle.mst_sweeping.proofs.sweeping.sweep_events.Goals as goal
use Rattle.mst_sweeping.proofs.sweeping.sweep_events.Goals.{then-branch, else-branch}

pub loop-event-init : goal.loop-event-init
loop-event-init g c = record {
  told = λ is. ([], none_told (IsTold c.args.network.now.net is.outcome), none_put g.R.Rows.grew c.args.out.now);
  few = omega arith;
  seen = c.requires.seen;
}

pub loop-event-preserved : goal.loop-event-preserved
loop-event-preserved g c =
    let before = c.loop-event.invariant in
    let made = c.in_ok-put_failed.ensures in
    let i = c.loop-event.event-index in
    let fs = c.args.events.now in
    let f = c.event-item.result in
    let cut = c.in_ok-put_failed.field-0 in
    let cuts_are : c.if-branch.cuts ≡ c.loop-event.cuts + counts cut =
    elim c.if-branch.branch [ then-branch w ↦ omega (arith, w.cuts-is, ap counts w.if-branch.true) | else-branch w ↦ omega (arith, w.cuts-is, ap counts w.if-branch.false) ] in
    record {
      told = λ is.
          let so_far = before.told is in
          let told = made.told is in (
            so_far.0 ++ told.0,
            more_told (IsTold c.args.network.now.net is.outcome) (take i fs) f c.loop-event.cuts so_far.0 told.0 cut so_far.1 told.1
                (take (i + 1) fs) (take_more fs i f c.loop-event-test.true ∙ ap (λ x. take i fs ++ x ∷ []) (sym c.event-item.is)) c.if-branch.cuts cuts_are,
            put_then g.R.Rows.grew c.args.out.now c.loop-event.out c.put_failed.new.out so_far.0 told.0 so_far.2 told.2,
          );
      few = omega (arith, cuts_are, before.few, counts_few cut);
      seen = made.seen;
    }

pub returns-clause-told : goal.returns-clause-told
returns-clause-told g c = λ is.
    let fs = c.args.events.now in
    let told = c.loop-event.invariant.told is in (
      told.0,
      subst (λ l. AreTold c.args.network.now.net is.outcome l c.loop-event.cuts told.0) (take_all c.loop-event.event-index fs c.loop-event-test.false) told.1,
      told.2,
    )

pub returns-clause-few : goal.returns-clause-few
returns-clause-few g c = let few = c.loop-event.invariant.few in let test = c.loop-event-test.false in omega arith

pub returns-clause-seen : goal.returns-clause-seen
returns-clause-seen g c = c.loop-event.invariant.seen

use Rattle.std.proofs.Common.{◌+◌, ◌∷◌, [], ◌++◌, List, length, take, sym, ap, subst, ◌∙◌, arith}
use Rattle.std.proofs.lemmas.List.{take_all, take_more}
use Rattle.mst_path.specs.Places.{named_path}
use Rattle.mst_sweeping.specs.sweep.declared.failure.Failure.{Failure}
use Rattle.mst_sweeping.proofs.Swept.{none_put, put_then}
use Rattle.mst_tracing.specs.Fates.{counts_row, looked_at}
use Rattle.mst_tracing.specs.declared.always.Fates.{Fates}
use Rattle.mst_tracing.proofs.Fated.{AreFew, AreSoFar, all_fates, none_few, none_so_far, one_few, one_more}
use Rattle.mst_tracing.proofs.always.put_fates.Goals as goal

pub loop-failure-init : goal.loop-failure-init
loop-failure-init g c =
    let net = c.args.network.now.net in
    let t = c.args.trace.now in
    let before = named_path c.args.before.now in
    record {
      told = ([], subst (λ (f : Fates). AreSoFar net t before [] f []) (sym c.none-fates.ensures) (none_so_far net t before), none_put g.R.Rows.grew c.args.out.now);
      few = subst (λ (f : Fates). AreFew f 0) (sym c.none-fates.ensures) none_few;
      seen = c.in_ok-seen.ensures;
    }

pub loop-failure-preserved : goal.loop-failure-preserved
loop-failure-preserved g c =
    let net = c.args.network.now.net in
    let t = c.args.trace.now in
    let before = named_path c.args.before.now in
    let inv = c.loop-failure.invariant in
    let i = c.loop-failure.failure-index in
    let fs : List Failure = c.as_slice-failure-items.result.now in
    let f : Failure = c.failure-item.result in
    let fate = c.in_ok-fate.fate in
    let so = inv.told in
    let one = c.in_ok-fate.ensures.told in
    record {
      told = (
        so.0 ++ one.0,
        one_more net t before (take i fs) f c.loop-failure.fates so.0 one.0 fate so.1 one.1 (take (i + 1) fs) (take_more fs i f c.loop-failure-test.true ∙ ap (λ (x : Failure). take i fs ++ x ∷ []) (sym c.failure-item.is)) c.count.new.self c.count.ensures,
        put_then g.R.Rows.grew c.args.out.now c.loop-failure.out c.put_failed.new.out so.0 one.0 so.2 one.2,
      );
      few = subst (λ (f : Fates). AreFew f (i + 1)) (sym c.count.ensures) (one_few c.loop-failure.fates i fate inv.few);
      seen = c.in_ok-fate.ensures.seen;
    }

pub count-requires-clause-failures : goal.count-requires-clause-failures
count-requires-clause-failures g c =
    let few = c.loop-failure.invariant.few.failures in
    let below = c.loop-failure-test.true in
    let long = ap (λ (l : List Failure). length l) c.as_slice-failure-items.ensures.value in
    omega (arith, c.in_ok-failures.failures.ok.0, c.in_ok-failures.failures.small, few, below, long)

pub count-requires-clause-others : goal.count-requires-clause-others
count-requires-clause-others g c = c.loop-failure.invariant.few.others

pub count-requires-clause-nones : goal.count-requires-clause-nones
count-requires-clause-nones g c = c.loop-failure.invariant.few.nones

pub returns : goal.returns
returns g c =
    let net = c.args.network.now.net in
    let t = c.args.trace.now in
    let before = named_path c.args.before.now in
    let fates : Fates = c.loop-failure.fates in
    let fs : List Failure = c.as_slice-failure-items.result.now in
    let so = c.loop-failure.invariant.told in
    let all_are = c.as_slice.ensures.value ∙ c.in_ok-all.ensures net c.args.network.now.numbers c.requires.of.view in
    let are = c.as_slice-failure-items.ensures.value ∙ c.in_ok-failures.ensures ∙ ap (looked_at t) all_are in (
      so.0 ++ counts_row t fates ∷ [],
      all_fates net t before fs fates so.0 are (subst (λ (those : List Failure). AreSoFar net t before those fates so.0) (take_all c.loop-failure.failure-index fs c.loop-failure-test.false) so.1),
      put_then g.R.Rows.grew c.args.out.now c.loop-failure.out c.put_counts.new.out so.0 (counts_row t fates ∷ []) so.2 (λ first rows h. c.in_ok-put_counts.ensures first rows h),
    )

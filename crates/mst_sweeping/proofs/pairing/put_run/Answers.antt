use Rattle.std.proofs.Common.{◌≡◌, ◌+◌, ◌==◌, true, ◌∷◌, [], ◌++◌, List, length, map, take, refl, sym, ap, subst, ◌∙◌, arith}
use Rattle.std.proofs.lemmas.Bool.{eqb-true}
use Rattle.std.proofs.lemmas.List.{take_all, take_more, map-append}
use Rattle.mst_view.specs.Viewed.{IsView}
use Rattle.mst_sweep.specs.Failures.{failed}
use Rattle.mst_sweep.specs.declared.single.Single.{Single}
use Rattle.mst_sweep.specs.declared.failure.Failure.{Failure}
use Rattle.mst_sweep.specs.Pairs.{IsPairTold, with_each}
use Rattle.mst_sweeping.specs.Pairing.{ArePairsTold, IsSingle}
use Rattle.mst_sweeping.proofs.Paired.{at_place}
use Rattle.mst_sweeping.proofs.Swept.{counts, counts_few, none_told, more_told, none_put, put_then}
use Rattle.mst_sweeping.proofs.pairing.put_run.Goals as goal
use Rattle.mst_sweeping.proofs.pairing.put_run.Goals.{then-branch, else-branch}

no_elements : {A : Type 0} (xs : List A) → (length xs == 0) ≡ true → xs ≡ []
no_elements [] e = refl
no_elements (x ∷ xs) e = absurd (omega (arith, eqb-true (length (x ∷ xs)) 0 e))

pub loop-other-init : goal.loop-other-init
loop-other-init g c = record {
  told = λ is one others. ([], none_told (IsPairTold c.args.pairing.now.network.now.net is.plan.forest.outcome), none_put g.R.Rows.grew c.args.out.now);
  few = omega arith;
  seen =
      subst (λ (fs : List Failure). IsView (failed fs c.args.pairing.now.network.now.net) c.args.pairing.now.network.now.numbers c.trees_failed.new.seen)
      c.from_ref.ensures.value c.in_ok-forest.ensures.seen;
}

pub loop-other-preserved : goal.loop-other-preserved
loop-other-preserved g c =
    let network = c.args.pairing.now.network.now in
    let before = c.loop-other.invariant in
    let made = c.in_ok-put_second.ensures in
    let i = c.loop-other.other-index in
    let ss = c.args.others.now in
    let s = c.other-item.result in
    let one = c.args.one.now in
    let cut = c.in_ok-put_second.field-0 in
    let cuts_are : c.if-branch.cuts ≡ c.loop-other.cuts + counts cut =
    elim c.if-branch.branch [ then-branch w ↦ omega (arith, w.cuts-is, ap counts w.if-branch.true) | else-branch w ↦ omega (arith, w.cuts-is, ap counts w.if-branch.false) ] in
    let more : take (i + 1) ss ≡ take i ss ++ s ∷ [] = take_more ss i s c.loop-other-test.true ∙ ap (λ x. take i ss ++ x ∷ []) (sym c.other-item.is) in
    record {
      told = λ is single singles.
          let net = network.net in
          let o = is.plan.forest.outcome in
          let so_far = before.told is single singles in
          let now = made.told is single (at_place (IsSingle net network.numbers o c.args.pairing.now.baseline.now) ss i s c.other-item.is c.loop-other-test.true singles) in
          let pairs : with_each one.failure (map (λ s. s.failure) (take (i + 1) ss)) ≡ with_each one.failure (map (λ s. s.failure) (take i ss)) ++ record { first = one.failure; second = s.failure } ∷ [] =
          ap (λ l. with_each one.failure (map (λ s. s.failure) l)) more
          ∙ ap (with_each one.failure) (map-append (λ (s : Single). s.failure) (take i ss) (s ∷ []))
          ∙ map-append (λ (second : Failure). record { first = one.failure; second = second }) (map (λ s. s.failure) (take i ss)) (s.failure ∷ []) in (
            so_far.0 ++ now.0,
            more_told (IsPairTold net o) (with_each one.failure (map (λ s. s.failure) (take i ss))) (record { first = one.failure; second = s.failure }) c.loop-other.cuts so_far.0 now.0 cut so_far.1 now.1
                (with_each one.failure (map (λ s. s.failure) (take (i + 1) ss))) pairs c.if-branch.cuts cuts_are,
            put_then g.R.Rows.grew c.args.out.now c.loop-other.out c.put_second.new.out so_far.0 now.0 so_far.2 now.2,
          );
      few = omega (arith, cuts_are, before.few, counts_few cut);
      seen = made.seen;
    }

pub returns-then-is_empty-clause-told : goal.returns-then-is_empty-clause-told
returns-then-is_empty-clause-told g c = λ is one others.
    let net = c.args.pairing.now.network.now.net in
    let o = is.plan.forest.outcome in
    let f = c.args.one.now.failure in
    let none : c.args.others.now ≡ [] = no_elements c.args.others.now (sym c.is_empty.ensures ∙ c.if-is_empty.true) in
    ([], subst (λ l. ArePairsTold net o (with_each f (map (λ s. s.failure) l)) 0 []) (sym none) (none_told (IsPairTold net o)), none_put g.R.Rows.grew c.args.out.now)

pub returns-clause-told : goal.returns-clause-told
returns-clause-told g c = λ is one others.
    let ss = c.args.others.now in
    let told = c.loop-other.invariant.told is one others in
    let net = c.args.pairing.now.network.now.net in
    let f = c.args.one.now.failure in (
      told.0,
      subst (λ l. ArePairsTold net is.plan.forest.outcome (with_each f (map (λ s. s.failure) l)) c.loop-other.cuts told.0) (take_all c.loop-other.other-index ss c.loop-other-test.false) told.1,
      told.2,
    )

use Rattle.std.proofs.Common.{◌≡◌, ◌≤◌, ◌<◌, ◌+◌, ◌-◌, zero, suc, [], ◌∷◌, ◌++◌, ℕ, List, length, map, take, drop, min, get_or, refl, sym, ap, subst, ◌∙◌, append_assoc, append-nil, arith}
use Rattle.std.proofs.lemmas.List.{drop_all, length-take, length-drop, length-map}
use Rattle.mst_sweep.specs.declared.single.Single.{Single}
use Rattle.mst_sweep.specs.Failures.{failures}
use Rattle.mst_sweep.specs.Pairs.{IsPairTold, Pair, last_of_pairs, pairs_row, pairs_of, with_each}
use Rattle.mst_sweep.specs.SweepParts.{part_of, end_of}
use Rattle.mst_sweep.proofs.PartsJoined.{ends_rise, length_part}
use Rattle.mst_sweep.proofs.Windows.{piece, take_none}
use Rattle.mst_sweeping.specs.Pairing.{IsSingle, HasHomes}
use Rattle.mst_sweeping.proofs.Paired.{all_homes, at_index, pairs_many, run_next}
use Rattle.mst_sweeping.proofs.Swept.{none_told, told_then, swept, none_put, put_then}
use Rattle.mst_sweeping.proofs.SweepThere.{all_dropped, all_taken}
use Rattle.mst_sweeping.proofs.pairing.put_pairs_of.Goals as goal

drop_none : {A : Type 0} (n : ℕ) → drop {A = A} n [] ≡ []
drop_none zero = refl
drop_none (suc n) = refl

pub loop-first-init : goal.loop-first-init
loop-first-init g c =
    let part = c.args.part in
    let ss = c.args.pairing.now.singles.now in
    let is_part = c.end-end.ensures.part in
    let order = ends_rise part c.pairs_among-all.result is_part.0 is_part.1 in
    record {
      seen = c.requires.seen;
      order = omega (arith, c.begin-begin.ensures, c.end-end.ensures.end, order);
      few = omega arith;
      told = λ is.
          let net = c.args.pairing.now.network.now.net in
          let o = is.plan.forest.outcome in
          let fs = failures net in
          let many : length ss ≡ length fs = sym (length-map ss (λ (s : Single). s.failure)) ∙ ap length is.singles.failures in
          let all : c.pairs_among-all.result ≡ length (pairs_of fs) = c.pairs_among-all.ensures ∙ pairs_many fs (length ss) many in
          let begin : c.begin-begin.result ≡ end_of (part.number - 1) part.count (length (pairs_of fs)) = c.begin-begin.ensures ∙ ap (end_of (part.number - 1) part.count) all in
          let end : c.end-end.result ≡ end_of part.number part.count (length (pairs_of fs)) = c.end-end.ensures.end ∙ ap (end_of part.number part.count) all in (
            [],
            [],
            none_told (IsPairTold net o),
            none_put g.R.Rows.grew c.args.out.now,
            λ i. piece (sym begin i) (sym end i) (pairs_of fs),
          );
    }

pub put_run-requires-clause-others : goal.put_run-requires-clause-others
put_run-requires-clause-others g c =
    let is = c.requires.pairing in
    let net = c.args.pairing.now.network.now.net in
    let o = is.plan.forest.outcome in
    let numbers = c.args.pairing.now.network.now.numbers in
    let firsts = c.args.pairing.now.baseline.now in
    let ss = c.args.pairing.now.singles.now in
    all_taken (HasHomes firsts) _ _ (all_dropped (HasHomes firsts) _ ss (all_homes net numbers o firsts ss is.singles.each))

pub loop-first-preserved : goal.loop-first-preserved
loop-first-preserved g c =
    let numbers = c.args.pairing.now.network.now.numbers in
    let firsts = c.args.pairing.now.baseline.now in
    let ss = c.args.pairing.now.singles.now in
    let before = c.loop-first.invariant in
    let i = c.loop-first.first in
    let s : Single = get_or ss i c.index-pairing-first.result in
    let s_is : s ≡ get_or ss i s = ap (get_or ss i) c.index-pairing-first.is in
    let begin = c.loop-first.begin in
    let end = c.loop-first.end in
    let from = c.min-from.result in
    let to = c.min-to.result in
    let here : i < length ss = c.loop-first-test.true in
    let others : List Single = piece (i + 1 + from) (i + 1 + to) ss in
    let long : length others ≡ min ((i + 1 + to) - (i + 1 + from)) (length ss - (i + 1 + from)) = length-take ((i + 1 + to) - (i + 1 + from)) (drop (i + 1 + from) ss) ∙ ap (min ((i + 1 + to) - (i + 1 + from))) (length-drop (i + 1 + from) ss) in
    let few : c.in_ok-cuts.field-0 ≤ length others = c.in_ok-cuts.ensures.few in
    record {
      seen = c.in_ok-cuts.ensures.seen;
      order = omega (arith, before.order, c.min-from.ensures, c.min-to.ensures);
      few = omega (arith, before.few, before.order, c.min-from.ensures, c.min-to.ensures, few, long);
      told = λ is.
          let net = c.args.pairing.now.network.now.net in
          let o = is.plan.forest.outcome in
          let fs = failures net in
          let was = before.told is in
          let run = c.in_ok-cuts.ensures.told is (at_index (IsSingle net numbers o firsts) ss i c.index-pairing-first.result here is.singles.each) (all_taken (IsSingle net numbers o firsts) _ _ (all_dropped (IsSingle net numbers o firsts) _ ss is.singles.each)) in
          let pairs : List Pair = with_each s.failure (map (λ (s : Single). s.failure) others) in
          let next = run_next ss fs is.singles.failures i s s_is here begin end before.order from to c.min-from.ensures c.min-to.ensures in (
            was.0 ++ pairs,
            was.1 ++ run.0,
            told_then (IsPairTold net o) was.0 pairs c.loop-first.cuts c.in_ok-cuts.field-0 was.1 run.0 was.2 run.1,
            put_then g.R.Rows.grew c.args.out.now c.loop-first.out c.put_run.new.out was.1 run.0 was.3 run.2,
            was.4 ∙ ap (λ l. was.0 ++ l) next ∙ sym (append_assoc was.0 pairs (piece (begin - from) (end - to) (pairs_of (drop (i + 1) fs)))),
          );
    }

pub returns : goal.returns
returns g c =
    let is = c.requires.pairing in
    let net = c.args.pairing.now.network.now.net in
    let o = is.plan.forest.outcome in
    let fs = failures net in
    let part = c.args.part in
    let ss = c.args.pairing.now.singles.now in
    let was = c.loop-first.invariant.told is in
    let is_part = c.end-end.ensures.part in
    let many : length ss ≡ length fs = sym (length-map ss (λ (s : Single). s.failure)) ∙ ap length is.singles.failures in
    let past : length fs ≤ c.loop-first.first = subst (λ n. n ≤ c.loop-first.first) many c.loop-first-test.false in
    let begin = c.loop-first.begin in
    let end = c.loop-first.end in
    let none : piece begin end (pairs_of (drop c.loop-first.first fs)) ≡ [] = ap (λ l. piece begin end (pairs_of l)) (drop_all c.loop-first.first fs past) ∙ ap (take (end - begin)) (drop_none begin) ∙ take_none (end - begin) in
    let whole : part_of part (pairs_of fs) ≡ was.0 = was.4 ∙ ap (λ l. was.0 ++ l) none ∙ append-nil was.0 in
    let all : c.pairs_among-all.result ≡ length (pairs_of fs) = c.pairs_among-all.ensures ∙ pairs_many fs (length ss) many in
    let first : c.begin-begin.result ≡ end_of (part.number - 1) part.count (length (pairs_of fs)) = c.begin-begin.ensures ∙ ap (end_of (part.number - 1) part.count) all in
    let last : c.end-end.result ≡ end_of part.number part.count (length (pairs_of fs)) = c.end-end.ensures.end ∙ ap (end_of part.number part.count) all in
    let long : c.end-end.result - c.begin-begin.result ≡ length was.0 = (λ i. last i - first i) ∙ sym (length_part (pairs_of fs) part is_part.0 is_part.1) ∙ ap length whole in
    let row : pairs_row (c.end-end.result - c.begin-begin.result) c.loop-first.cuts ≡ last_of_pairs was.0 c.loop-first.cuts = ap (λ n. pairs_row n c.loop-first.cuts) long in
    let grew = g.R.Rows.grew in (
      was.1 ++ last_of_pairs was.0 c.loop-first.cuts ∷ [],
      record {
        outcome = o;
        is_outcome = is.plan.forest.is_outcome;
        told = swept (IsPairTold net o) last_of_pairs was.0 (part_of part (pairs_of fs)) (sym whole) c.loop-first.cuts was.1 was.2;
      },
      put_then grew c.args.out.now c.loop-first.out c.put_last_of_pairs.new.out was.1 (last_of_pairs was.0 c.loop-first.cuts ∷ []) was.3
          (λ first before h. subst (λ r. grew first c.put_last_of_pairs.new.out (before ++ r ∷ [])) row (c.in_ok-put_last_of_pairs.ensures first before h)),
    )

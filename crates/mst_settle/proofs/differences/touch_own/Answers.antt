use Rattle.std.proofs.Common.{◌≡◌, ◌⊎◌, refl, inl, inr, arith}
use Rattle.mst_topology.specs.Places.{in_map}
use Rattle.mst_settle.proofs.Roomy.{keeps_trans}
use Rattle.mst_settle.proofs.Scratch.{space_kept}
use Rattle.mst_settle.specs.Differences.{NumberIsDone}
use Rattle.mst_settle.proofs.Kept.{number_kept}
use Rattle.mst_settle.proofs.Marked.{below_next}
use Rattle.mst_settle.proofs.Rewired.{below_both}
use Rattle.mst_settle.proofs.differences.touch_own.Goals as goal
use Rattle.mst_settle.proofs.differences.touch_own.Goals.{then-not-same_own, else-not-same_own}

pub touch_number-requires-clause-from : goal.touch_number-requires-clause-from
touch_number-requires-clause-from g c = space_kept c.args.from.now c.args.settler.now c.loop-number.settler c.requires.from c.loop-number.invariant.keeps.space

pub touch_number-requires-clause-to : goal.touch_number-requires-clause-to
touch_number-requires-clause-to g c = space_kept c.args.to.now c.args.settler.now c.loop-number.settler c.requires.to c.loop-number.invariant.keeps.space

pub loop-number-preserved : goal.loop-number-preserved
loop-number-preserved g c =
    let l = c.loop-number in
    let before = l.invariant in
    elim c.if-not-same_own.branch [
      | then-not-same_own w ↦ rw w.settler-is (record {
        keeps = keeps_trans c.args.settler.now l.settler w.touch_number.new.settler before.keeps w.touch_number.ensures.keeps;
        done = below_next (λ n. (in_map c.args.own_from.now n ≡ in_map c.args.own_to.now n) ⊎ NumberIsDone c.args.from.now c.args.to.now l.settler n)
            (λ n. (in_map c.args.own_from.now n ≡ in_map c.args.own_to.now n) ⊎ NumberIsDone c.args.from.now c.args.to.now w.touch_number.new.settler n) l.number
            (λ n h. elim h [ inl same ↦ inl same | inr done ↦ inr (number_kept c.args.from.now c.args.to.now l.settler w.touch_number.new.settler w.touch_number.ensures.keeps n done) ])
            before.done (inr w.touch_number.ensures.done);
      })
      | else-not-same_own w ↦ rw w.settler-is (record {
        keeps = before.keeps;
        done = below_next (λ n. (in_map c.args.own_from.now n ≡ in_map c.args.own_to.now n) ⊎ NumberIsDone c.args.from.now c.args.to.now l.settler n)
            (λ n. (in_map c.args.own_from.now n ≡ in_map c.args.own_to.now n) ⊎ NumberIsDone c.args.from.now c.args.to.now l.settler n) l.number
            (λ n h. h) before.done (inl (c.same_own.ensures w.if-not-same_own.false));
      })
    ]

pub returns-clause-done : goal.returns-clause-done
returns-clause-done g c = λ p h.
    let bound = c.max-bound.ensures in
    elim (below_both {Q = NumberIsDone c.args.from.now c.args.to.now c.loop-number.settler} c.args.own_from.now c.args.own_to.now c.bound.result c.bound-2.result c.loop-number.number
    c.bound.ensures c.bound-2.ensures (omega arith) c.loop-number.invariant.done p.number) [
      | inl same ↦ inl same
      | inr done ↦ inr (done p h refl)
    ]

use Rattle.std.proofs.Common.{◌≡◌, ◌⊎◌, refl, inl, inr, arith}
use Rattle.mst_topology.specs.Places.{in_map}
use Rattle.mst_settle.proofs.Marked.{below_next}
use Rattle.mst_settle.proofs.Rewired.{AreSameAt, below_both}
use Rattle.mst_settle.proofs.differences.same_at_own.Goals as goal
use Rattle.mst_settle.proofs.differences.same_at_own.Goals.{else-not-same_own-via-then-not-same_own+else-not-same_at, else-not-same_own-via-else-not-same_own}

pub loop-number-preserved : goal.loop-number-preserved
loop-number-preserved g c =
    let l = c.loop-number in
    let here : (in_map c.args.own_from.now l.number ≡ in_map c.args.own_to.now l.number) ⊎ AreSameAt c.args.from.now c.args.to.now l.number =
    elim c.else-not-same_own.branch [
      | else-not-same_own-via-then-not-same_own+else-not-same_at w ↦ inr (w.same_at.ensures w.if-not-same_at.false)
      | else-not-same_own-via-else-not-same_own w ↦ inl (c.same_own.ensures w.if-not-same_own.false)
    ] in
    below_next (λ n. (in_map c.args.own_from.now n ≡ in_map c.args.own_to.now n) ⊎ AreSameAt c.args.from.now c.args.to.now n)
    (λ n. (in_map c.args.own_from.now n ≡ in_map c.args.own_to.now n) ⊎ AreSameAt c.args.from.now c.args.to.now n) l.number (λ n h. h) l.invariant here

pub returns : goal.returns
returns g c = λ yes p.
    let bound = c.max-bound.ensures in
    let end = c.loop-number-test.false in
    elim (below_both {Q = AreSameAt c.args.from.now c.args.to.now} c.args.own_from.now c.args.own_to.now c.bound.result c.bound-2.result c.loop-number.number
    c.bound.ensures c.bound-2.ensures (omega arith) c.loop-number.invariant p.number) [
      | inl same ↦ inl same
      | inr same ↦ inr (same p refl)
    ]

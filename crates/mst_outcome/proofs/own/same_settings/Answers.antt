use Rattle.std.proofs.Common.{◌≡◌, Bool, true, false, Option, Some, None, MatchOption, IsTrue, is_some, not}
use Rattle.mst_outcome.proofs.Tables.{another_same, all_same}
use Rattle.mst_outcome.proofs.own.same_settings.Goals as goal

-- nothing came
none_came : {X N : Type 0} (M : Type 0) (Q : X → Type 0) (o : Option X) (b : Bool) → is_some o ≡ not b → IsTrue b → MatchOption o (N × M) Q → N
none_came M Q None b e none h = h.0
none_came M Q (Some x) true e none h = cc
none_came M Q (Some x) false e none h = cc

pub loop-place-init : goal.loop-place-init
loop-place-init g c = c.iter-rest.ensures.rest

pub loop-place-preserved : goal.loop-place-preserved
loop-place-preserved g c =
    let l = c.loop-place in
    another_same c.args.here.now c.args.there.now.entries l.rest c.next.new.self l.place c.index-here-place.result c.loop-place-test.true c.index-here-place.is c.in-Some.number.now c.in-Some.port.now
    c.in-Some.ensures.steps c.if-own-number.false (c.same_port.ensures.yes c.if-not-same_port.false) l.invariant

pub returns : goal.returns
returns g c = λ yes.
    all_same c.args.here.now c.args.there.now.entries c.loop-place.rest c.loop-place.place c.loop-place-test.false
    (none_came _ _ c.next-2.result c.is_none.result c.is_none.ensures yes c.next-2.ensures.steps) c.loop-place.invariant

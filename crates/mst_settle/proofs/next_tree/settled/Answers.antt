use Rattle.std.proofs.Common.{◌≡◌, Some, None}
use Rattle.mst_topology.specs.Wiring.{topology_of}
use Rattle.mst_settle.proofs.Scratch.{space_kept}
use Rattle.mst_outcome.specs.Held.{topology_on}
use Rattle.mst_outcome.specs.Shared.{outcome_of}
use Rattle.mst_outcome.specs.Assignment.{vector_of}
use Rattle.mst_settle.proofs.Spaced.{space_then, on_kept, on_ports}
use Rattle.mst_settle.proofs.Standing.{stands, is_settled_on}
use Rattle.mst_settle.proofs.next_tree.settled.Goals as goal

pub returns-in-None-clause-settled : goal.returns-in-None-clause-settled
returns-in-None-clause-settled g c =
    let from : c.new-from.result ≡ topology_on c.args.rewiring.now.from c.args.standing.now = rw (← c.requires.before, ← c.bridges.ensures, ← c.from.ensures) c.new-from.ensures in
    let to : c.new-to.result ≡ topology_of c.args.rewiring.now.to c.args.bridges.now c.args.own.now = rw (← c.to.ensures) c.new-to.ensures in
    let outcome : outcome_of None c.args.standing.now.outcome.settlings ≡ c.args.standing.now.outcome = rw c.in-None.is at c.outcome.ensures in
    stands g.M.Metric.rules c.args.rewiring.now.from c.args.standing.now c.requires.held c.new-from.result from c.new-to.result (topology_of c.args.rewiring.now.to c.args.bridges.now c.args.own.now) to
    (c.is_same.ensures.bridges c.if-is_same.true) (c.is_same.ensures.ports c.if-is_same.true) None c.args.standing.now.outcome.settlings outcome

pub returns-in_ok-clone-in-Some-clause-settled : goal.returns-in_ok-clone-in-Some-clause-settled
returns-in_ok-clone-in-Some-clause-settled g c =
    let from : c.new-from.result ≡ topology_on c.args.rewiring.now.from c.args.standing.now = rw (← c.requires.before, ← c.bridges.ensures, ← c.from.ensures) c.new-from.ensures in
    let to : c.new-to.result ≡ topology_of c.args.rewiring.now.to c.args.bridges.now c.args.own.now = rw (← c.to.ensures) c.new-to.ensures in
    let outcome : outcome_of (Some c.in-Some.outcome.value) c.args.standing.now.outcome.settlings ≡ c.args.standing.now.outcome = rw c.in-Some.is at c.outcome.ensures in
    rw c.in_ok-clone-in-Some.ensures.cases (stands g.M.Metric.rules c.args.rewiring.now.from c.args.standing.now c.requires.held c.new-from.result from c.new-to.result (topology_of c.args.rewiring.now.to c.args.bridges.now c.args.own.now) to
    (c.is_same.ensures.bridges c.if-is_same.true) (c.is_same.ensures.ports c.if-is_same.true) (Some c.in-Some.outcome.value) c.args.standing.now.outcome.settlings outcome)

pub reserve_bridges-requires : goal.reserve_bridges-requires
reserve_bridges-requires g c =
    let from : c.new-from.result ≡ topology_on c.args.rewiring.now.from c.args.standing.now = rw (← c.requires.before, ← c.bridges.ensures, ← c.from.ensures) c.new-from.ensures in
    on_ports c.args.rewiring.now.from c.args.standing.now.bridges c.args.standing.now.own c.new-from.result from c.args.settler.now c.requires.space.from

pub reserve_bridges-requires-2 : goal.reserve_bridges-requires-2
reserve_bridges-requires-2 g c =
    let to : c.new-to.result ≡ topology_of c.args.rewiring.now.to c.args.bridges.now c.args.own.now = rw (← c.to.ensures) c.new-to.ensures in
    on_kept c.args.settler.now c.reserve_bridges.new.settler c.new-to.result.ports c.in_ok-reserve_bridges.ensures.keeps.space
    (on_ports c.args.rewiring.now.to c.args.bridges.now c.args.own.now c.new-to.result to c.args.settler.now c.requires.space.to)

pub settle_next-requires-clause-from : goal.settle_next-requires-clause-from
settle_next-requires-clause-from g c = rw (← c.requires.before, ← c.bridges.ensures, ← c.from.ensures) c.new-from.ensures

pub settle_next-requires-clause-size : goal.settle_next-requires-clause-size
settle_next-requires-clause-size g c = rw c.new-to.ensures c.requires.size

pub settle_next-requires-clause-space_from : goal.settle_next-requires-clause-space_from
settle_next-requires-clause-space_from g c = space_kept c.new-from.result c.reserve_bridges.new.settler c.reserve_bridges-2.new.settler c.in_ok-reserve_bridges.ensures.ok c.in_ok-reserve_bridges-2.ensures.keeps.space

pub settle_next-requires-clause-space_to : goal.settle_next-requires-clause-space_to
settle_next-requires-clause-space_to g c = c.in_ok-reserve_bridges-2.ensures.ok

pub returns-clause-settled : goal.returns-clause-settled
returns-clause-settled g c =
    let to : c.new-to.result ≡ topology_of c.args.rewiring.now.to c.args.bridges.now c.args.own.now = rw (← c.to.ensures) c.new-to.ensures in
    is_settled_on g.M.Metric.rules c.new-to.result (topology_of c.args.rewiring.now.to c.args.bridges.now c.args.own.now) to (vector_of c.args.standing.now.outcome)
    c.settle_next.new.settler c.settle_next.ensures.settled c.settle_next.ensures.bounds c.in_ok-settled.settled c.in_ok-settled.ensures.vectors c.in_ok-settled.ensures.designated
    c.in_ok-outcome.outcome.value c.settlings-settlings.result c.in_ok-outcome.ensures.ok c.settlings-settlings.ensures

pub returns-in_err-settled-clause-space : goal.returns-in_err-settled-clause-space
returns-in_err-settled-clause-space g c = space_then c.args.settler.now c.reserve_bridges-2.new.settler c.settle_next.new.settler (space_then c.args.settler.now c.reserve_bridges.new.settler c.reserve_bridges-2.new.settler c.in_ok-reserve_bridges.ensures.keeps.space c.in_ok-reserve_bridges-2.ensures.keeps.space) c.settle_next.ensures.space

pub returns-in_err-outcome-clause-space : goal.returns-in_err-outcome-clause-space
returns-in_err-outcome-clause-space g c = space_then c.args.settler.now c.reserve_bridges-2.new.settler c.settle_next.new.settler (space_then c.args.settler.now c.reserve_bridges.new.settler c.reserve_bridges-2.new.settler c.in_ok-reserve_bridges.ensures.keeps.space c.in_ok-reserve_bridges-2.ensures.keeps.space) c.settle_next.ensures.space

pub returns-clause-space : goal.returns-clause-space
returns-clause-space g c = space_then c.args.settler.now c.reserve_bridges-2.new.settler c.settle_next.new.settler (space_then c.args.settler.now c.reserve_bridges.new.settler c.reserve_bridges-2.new.settler c.in_ok-reserve_bridges.ensures.keeps.space c.in_ok-reserve_bridges-2.ensures.keeps.space) c.settle_next.ensures.space

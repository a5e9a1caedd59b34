use Rattle.std.proofs.Common.{refl, None, sym, ◌∙◌, inl, inr, ◌≡◌, ◌+◌, ◌<◌, length}
use Rattle.mst_topology.specs.Chains.{IsLast, upto_place}
use Rattle.mst_topology.specs.Topology.{HasPort}
use Rattle.mst_topology.proofs.Lowest.{next_step, walk_falls, walk_port}
use Rattle.mst_topology.proofs.Effects.{Passed, passed_none, passed_more, passed_all}
use Rattle.mst_topology.specs.Places.{in_map}
use Rattle.mst_progress.specs.Progress.{vector_of, vectors_with}
use Rattle.mst_settle.proofs.Taken.{takes_none, takes_then, takes_fewer, taking_on}
use Rattle.mst_settle.proofs.queue.Queue.take_in_on.Goals as goal

pub loop-next-init : goal.loop-next-init
loop-next-init g c = record {
  next = next_step c.topology-topology.result.now.ports (λ p. p.lan ≡ c.args.lan) (length c.topology-topology.result.now.ports) c.last_on-next.result c.last_on-next.ensures;
  taken = takes_none g.M.Metric.rules c.args.progress.now.topology (vectors_with (vector_of c.args.progress.now) c.args.written c.args.stored) (vector_of c.args.progress.now) c.args.written c.args.self.now.looked_on c.args.self.now.keys (Passed c.topology-topology.result.now.ports (λ p q. (p.lan ≡ c.args.lan) × (p ≡ q)) c.last_on-next.result)
      (λ n p ne hp on h. passed_none c.topology-topology.result.now.ports (λ p. p.lan ≡ c.args.lan) (λ p q. (p.lan ≡ c.args.lan) × (p ≡ q)) (λ p q h. h.0) c.last_on-next.result c.last_on-next.ensures p h);
  seen = c.requires.seen;
  former = refl;
  looked_on = refl;
}

pub at-port-requires : goal.at-port-requires
at-port-requires g c = (c.loop-next.invariant.next c.in-Some.place c.in-Some.is).1.0

pub before_on-next-requires : goal.before_on-next-requires
before_on-next-requires g c = (c.loop-next.invariant.next c.in-Some.place c.in-Some.is).1.0

pub loop-next-smaller : goal.loop-next-smaller
loop-next-smaller g c =
    let falls : upto_place c.before_on-next.result < c.in-Some.place + 1 = walk_falls c.topology-topology.result.now.ports (λ q. q.lan ≡ c.at-port.result.lan) c.in-Some.place c.before_on-next.result (c.before_on-next.ensures c.at-port.result c.at-port.ensures) in
    rw c.in-Some.is falls

pub take_in-requires-clause-port : goal.take_in-requires-clause-port
take_in-requires-clause-port g c =
    let there : HasPort c.topology-topology.result.now c.at-port.result = (c.in-Some.place, c.at-port.ensures.0, c.at-port.ensures.1) in
    rw c.topology-topology.ensures at there

pub take_in-requires-clause-lan : goal.take_in-requires-clause-lan
take_in-requires-clause-lan g c =
    let there = walk_port c.topology-topology.result.now.ports (λ p. p.lan ≡ c.args.lan) c.loop-next.next c.loop-next.invariant.next c.in-Some.place c.in-Some.is c.at-port.result c.at-port.ensures in
    rw (sym there) at c.requires.lan

pub take_in-requires-clause-taking : goal.take_in-requires-clause-taking
take_in-requires-clause-taking g c = rw c.loop-next.invariant.former (taking_on g.M.Metric.rules c.args.progress.now.topology (vector_of c.args.progress.now) c.args.written c.args.stored (in_map c.args.self.now.former) c.args.self.now.keys c.loop-next.self.keys c.requires.taking c.loop-next.invariant.taken.rooms)

pub loop-next-preserved : goal.loop-next-preserved
loop-next-preserved g c =
    let there = walk_port c.topology-topology.result.now.ports (λ p. p.lan ≡ c.args.lan) c.loop-next.next c.loop-next.invariant.next c.in-Some.place c.in-Some.is c.at-port.result c.at-port.ensures in
    let last : IsLast c.topology-topology.result.now.ports (λ q. q.lan ≡ c.args.lan) c.in-Some.place c.before_on-next.result = rw there at (c.before_on-next.ensures c.at-port.result c.at-port.ensures) in
    let before = c.loop-next.invariant in
    record {
      next = next_step c.topology-topology.result.now.ports (λ p. p.lan ≡ c.args.lan) c.in-Some.place c.before_on-next.result last;
      taken = takes_then g.M.Metric.rules c.args.progress.now.topology (vectors_with (vector_of c.args.progress.now) c.args.written c.args.stored) (vector_of c.args.progress.now) c.args.written c.args.self.now.looked_on c.loop-next.self.looked_on c.take_in.new.self.looked_on c.args.self.now.keys c.loop-next.self.keys c.take_in.new.self.keys
          (Passed c.topology-topology.result.now.ports (λ p q. (p.lan ≡ c.args.lan) × (p ≡ q)) c.loop-next.next) (λ p. p ≡ c.at-port.result) (Passed c.topology-topology.result.now.ports (λ p q. (p.lan ≡ c.args.lan) × (p ≡ q)) c.before_on-next.result)
          before.taken c.take_in.ensures.taken
          (λ q hq h. elim (passed_more c.topology-topology.result.now.ports (λ p. p.lan ≡ c.args.lan) (λ p q. (p.lan ≡ c.args.lan) × (p ≡ q)) (λ p l i. i.0) c.in-Some.place c.at-port.result c.at-port.ensures c.before_on-next.result last q h) [ inl i ↦ inl (rw c.in-Some.is i) | inr i ↦ inr (sym i.1) ]);
      seen = c.take_in.ensures.seen;
      former = c.take_in.ensures.former ∙ before.former;
      looked_on = c.take_in.ensures.looked_on ∙ before.looked_on;
    }

pub returns-clause-taken : goal.returns-clause-taken
returns-clause-taken g c =
    let taken = rw c.in_default.is at c.loop-next.invariant.taken in
    takes_fewer g.M.Metric.rules c.args.progress.now.topology (vectors_with (vector_of c.args.progress.now) c.args.written c.args.stored) (vector_of c.args.progress.now) c.args.written c.args.self.now.looked_on c.loop-next.self.looked_on c.args.self.now.keys c.loop-next.self.keys (Passed c.topology-topology.result.now.ports (λ p q. (p.lan ≡ c.args.lan) × (p ≡ q)) None) (λ p. p.lan ≡ c.args.lan) taken
    (λ p hp on. passed_all c.topology-topology.result.now.ports (λ p q. (p.lan ≡ c.args.lan) × (p ≡ q)) p p (rw c.topology-topology.ensures hp) (on, refl))

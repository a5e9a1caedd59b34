use Rattle.std.proofs.Common.{sym, ap, inl, inr, ◌≡◌, ◌+◌, ◌<◌, length}
use Rattle.mst_topology.specs.Chains.{IsLast, upto_place}
use Rattle.mst_progress.specs.Progress.{vector_of}
use Rattle.mst_topology.specs.Effects.{LooksAnew}
use Rattle.mst_topology.proofs.Lowest.{next_step, walk_falls, walk_port}
use Rattle.mst_topology.proofs.Effects.{Passed, passed_none, passed_more, passed_all, looks_none, looks_more}
use Rattle.mst_topology.specs.Topology.{HasPort}
use Rattle.mst_settle.proofs.looking.look_on_once.Goals as goal

pub loop-next-init : goal.loop-next-init
loop-next-init g c = record {
  next = next_step c.topology-topology.result.now.ports (λ p. p.lan ≡ c.args.lan) (length c.topology-topology.result.now.ports) c.last_on-next.result c.last_on-next.ensures;
  looked = looks_none g.M.Metric.rules c.args.progress.now.topology (vector_of c.args.progress.now) c.args.keys.now (Passed c.topology-topology.result.now.ports (λ p n. (p.lan ≡ c.args.lan) × (p.bridge ≡ n)) c.last_on-next.result)
      (passed_none c.topology-topology.result.now.ports (λ p. p.lan ≡ c.args.lan) (λ p n. (p.lan ≡ c.args.lan) × (p.bridge ≡ n)) (λ p n h. h.0) c.last_on-next.result c.last_on-next.ensures);
  seen = c.requires.seen;
}

pub at-port-requires : goal.at-port-requires
at-port-requires g c = (c.loop-next.invariant.next c.in-Some.place c.in-Some.is).1.0

pub before_on-next-requires : goal.before_on-next-requires
before_on-next-requires g c = (c.loop-next.invariant.next c.in-Some.place c.in-Some.is).1.0

pub loop-next-smaller : goal.loop-next-smaller
loop-next-smaller g c =
    let falls : upto_place c.before_on-next.result < c.in-Some.place + 1 = walk_falls c.topology-topology.result.now.ports (λ q. q.lan ≡ c.at-port.result.lan) c.in-Some.place c.before_on-next.result (c.before_on-next.ensures c.at-port.result c.at-port.ensures) in
    rw c.in-Some.is falls

pub look_once-requires-clause-room : goal.look_once-requires-clause-room
look_once-requires-clause-room g c =
    let there : HasPort c.topology-topology.result.now c.at-port.result = (c.in-Some.place, c.at-port.ensures.0, c.at-port.ensures.1) in
    let has : HasPort c.args.progress.now.topology c.at-port.result = rw c.topology-topology.ensures at there in
    c.loop-next.invariant.looked.rooms c.port.inside.bridge (rw (← ap (λ q. q.bridge) c.port.view_is) at (c.requires.rooms c.at-port.result has))

pub loop-next-preserved : goal.loop-next-preserved
loop-next-preserved g c =
    let there = walk_port c.topology-topology.result.now.ports (λ p. p.lan ≡ c.args.lan) c.loop-next.next c.loop-next.invariant.next c.in-Some.place c.in-Some.is c.at-port.result c.at-port.ensures in
    let last : IsLast c.topology-topology.result.now.ports (λ q. q.lan ≡ c.args.lan) c.in-Some.place c.before_on-next.result = rw there at (c.before_on-next.ensures c.at-port.result c.at-port.ensures) in
    let before = c.loop-next.invariant in
    let looked : LooksAnew g.M.Metric.rules c.args.progress.now.topology (vector_of c.args.progress.now) c.loop-next.keys c.look_once.new.keys (λ k. k ≡ c.at-port.result.bridge) = rw (ap (λ q. q.bridge) c.port.view_is) at c.look_once.ensures.looked in
    record {
      next = next_step c.topology-topology.result.now.ports (λ p. p.lan ≡ c.args.lan) c.in-Some.place c.before_on-next.result last;
      looked = looks_more g.M.Metric.rules c.args.progress.now.topology (vector_of c.args.progress.now) c.args.keys.now c.loop-next.keys c.look_once.new.keys
          (Passed c.topology-topology.result.now.ports (λ p n. (p.lan ≡ c.args.lan) × (p.bridge ≡ n)) c.loop-next.next) (λ k. k ≡ c.at-port.result.bridge) (Passed c.topology-topology.result.now.ports (λ p n. (p.lan ≡ c.args.lan) × (p.bridge ≡ n)) c.before_on-next.result)
          before.looked looked
          (λ k h. elim (passed_more c.topology-topology.result.now.ports (λ p. p.lan ≡ c.args.lan) (λ p n. (p.lan ≡ c.args.lan) × (p.bridge ≡ n)) (λ p l i. i.0) c.in-Some.place c.at-port.result c.at-port.ensures c.before_on-next.result last k h) [ inl i ↦ inl (rw c.in-Some.is i) | inr i ↦ inr (sym i.1) ]);
      seen = c.look_once.ensures.seen;
    }

pub returns-clause-looked : goal.returns-clause-looked
returns-clause-looked g c =
    let looked = rw c.in_default.is at c.loop-next.invariant.looked in
    record {
      right = looked.right;
      found = λ n h. looked.found n (passed_all c.topology-topology.result.now.ports (λ p n. (p.lan ≡ c.args.lan) × (p.bridge ≡ n)) n h.0 (rw c.topology-topology.ensures h.1) (h.2, h.3));
      rooms = looked.rooms;
    }

use Rattle.std.proofs.Common.{ap, ◌≡◌, ◌+◌, ◌<◌, length}
use Rattle.mst_topology.specs.Places.{option_at}
use Rattle.mst_topology.specs.Topology.{TreePort}
use Rattle.mst_topology.specs.Chains.{IsLast, upto_place}
use Rattle.mst_topology.specs.Settling.{Speaks}
use Rattle.mst_topology.proofs.Below.{one_message}
use Rattle.mst_topology.proofs.Lowest.{next_at, lowest_none_yet, lowest_all, lowest_next, walk_falls, walk_port}
use Rattle.mst_topology.proofs.designations.least_heard.Goals as goal

pub loop-next-init : goal.loop-next-init
loop-next-init g c = record {
  next = next_at g.M.Metric.rules.order g.met.M.Metric.lawful.total c.args.topology.now.ports (λ p. p.lan ≡ c.args.lan) (λ p x. Speaks g.M.Metric.rules c.args.topology.now (option_at c.args.vectors.now) c.args.lan p x) (λ p x h. h.0) (length c.args.topology.now.ports) c.last_on-next.result c.last_on-next.ensures;
  lowest = lowest_none_yet g.M.Metric.rules.order g.met.M.Metric.lawful.total c.args.topology.now.ports (λ p. p.lan ≡ c.args.lan) (λ p x. Speaks g.M.Metric.rules c.args.topology.now (option_at c.args.vectors.now) c.args.lan p x) (λ p x h. h.0) c.last_on-next.result c.last_on-next.ensures;
}

pub at-port-requires : goal.at-port-requires
at-port-requires g c = (c.loop-next.invariant.next c.in-Some.place c.in-Some.is).1.0

pub before_on-next-requires : goal.before_on-next-requires
before_on-next-requires g c = (c.loop-next.invariant.next c.in-Some.place c.in-Some.is).1.0

pub loop-next-smaller : goal.loop-next-smaller
loop-next-smaller g c =
    let falls : upto_place c.before_on-next.result < c.in-Some.place + 1 = walk_falls c.args.topology.now.ports (λ q. q.lan ≡ c.at-port.result.lan) c.in-Some.place c.before_on-next.result (c.before_on-next.ensures c.at-port.result c.at-port.ensures) in
    rw c.in-Some.is falls

pub loop-next-preserved : goal.loop-next-preserved
loop-next-preserved g c =
    let there = walk_port c.args.topology.now.ports (λ p. p.lan ≡ c.args.lan) c.loop-next.next c.loop-next.invariant.next c.in-Some.place c.in-Some.is c.at-port.result c.at-port.ensures in
    let last : IsLast c.args.topology.now.ports (λ q. q.lan ≡ c.args.lan) c.in-Some.place c.before_on-next.result = rw there at (c.before_on-next.ensures c.at-port.result c.at-port.ensures) in
    let number = ap (λ (q : TreePort _ _ _ _). q.number) c.port.view_is in
    record {
      next = next_at g.M.Metric.rules.order g.met.M.Metric.lawful.total c.args.topology.now.ports (λ p. p.lan ≡ c.args.lan) (λ p x. Speaks g.M.Metric.rules c.args.topology.now (option_at c.args.vectors.now) c.args.lan p x) (λ p x h. h.0) c.in-Some.place c.before_on-next.result last;
      lowest = rw c.lower-best.ensures (rw number
          (lowest_next g.M.Metric.rules.order g.met.M.Metric.lawful.total c.args.topology.now.ports (λ p. p.lan ≡ c.args.lan) (λ p x. Speaks g.M.Metric.rules c.args.topology.now (option_at c.args.vectors.now) c.args.lan p x) (λ p x h. h.0)
          c.in-Some.place c.at-port.result c.at-port.ensures c.before_on-next.result last
          c.designated_vector-message.result (λ x e. (there, c.designated_vector-message.ensures.some x e)) (λ e x h. c.designated_vector-message.ensures.none e x h.1)
          (λ x y h i. one_message g.M.Metric.rules g.met.M.Metric.lawful c.args.topology.now c.known.ensures (option_at c.args.vectors.now) c.at-port.result x y h.1 i.1)
          c.loop-next.best (rw c.in-Some.is at c.loop-next.invariant.lowest)));
    }

pub returns : goal.returns
returns g c =
    lowest_all g.M.Metric.rules.order g.met.M.Metric.lawful.total c.args.topology.now.ports (λ p. p.lan ≡ c.args.lan) (λ p x. Speaks g.M.Metric.rules c.args.topology.now (option_at c.args.vectors.now) c.args.lan p x) (λ p x h. h.0)
    c.loop-next.best (λ p x h. h.1.has_port) (rw c.in_default.is at c.loop-next.invariant.lowest)

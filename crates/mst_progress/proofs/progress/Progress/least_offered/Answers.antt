use Rattle.std.proofs.Common.{ap, subst, ◌≡◌, ◌+◌, ◌<◌, length}
use Rattle.std.specs.List.{Contains}
use Rattle.mst_progress.specs.Progress.{vector_of}
use Rattle.mst_topology.specs.Topology.{TreePort}
use Rattle.mst_topology.specs.Chains.{IsLast, upto_place}
use Rattle.mst_topology.specs.Settling.{OffersOf}
use Rattle.mst_topology.proofs.Parts.{one_offer}
use Rattle.mst_topology.proofs.Lowest.{next_at, lowest_none_yet, lowest_all, lowest_next, walk_falls, walk_port}
use Rattle.mst_progress.proofs.progress.Progress.least_offered.Goals as goal

pub loop-next-init : goal.loop-next-init
loop-next-init g c = record {
  next = next_at g.M.Metric.rules.order g.met.M.Metric.lawful.total c.self.inside.topology.now.ports (λ p. p.bridge ≡ c.args.number) (λ p x. OffersOf g.M.Metric.rules c.args.self.now.topology (vector_of c.args.self.now) c.args.number p x) (λ p x h. h.0) (length c.self.inside.topology.now.ports) c.last_of-next.result c.last_of-next.ensures;
  lowest = lowest_none_yet g.M.Metric.rules.order g.met.M.Metric.lawful.total c.self.inside.topology.now.ports (λ p. p.bridge ≡ c.args.number) (λ p x. OffersOf g.M.Metric.rules c.args.self.now.topology (vector_of c.args.self.now) c.args.number p x) (λ p x h. h.0) c.last_of-next.result c.last_of-next.ensures;
}

pub at-port-requires : goal.at-port-requires
at-port-requires g c = (c.loop-next.invariant.next c.in-Some.place c.in-Some.is).1.0

pub before_of-next-requires : goal.before_of-next-requires
before_of-next-requires g c = (c.loop-next.invariant.next c.in-Some.place c.in-Some.is).1.0

pub loop-next-smaller : goal.loop-next-smaller
loop-next-smaller g c =
    let falls : upto_place c.before_of-next.result < c.in-Some.place + 1 = walk_falls c.self.inside.topology.now.ports (λ q. q.bridge ≡ c.at-port.result.bridge) c.in-Some.place c.before_of-next.result (c.before_of-next.ensures c.at-port.result c.at-port.ensures) in
    rw c.in-Some.is falls

pub loop-next-preserved : goal.loop-next-preserved
loop-next-preserved g c =
    let there = walk_port c.self.inside.topology.now.ports (λ p. p.bridge ≡ c.args.number) c.loop-next.next c.loop-next.invariant.next c.in-Some.place c.in-Some.is c.at-port.result c.at-port.ensures in
    let last : IsLast c.self.inside.topology.now.ports (λ q. q.bridge ≡ c.args.number) c.in-Some.place c.before_of-next.result = rw there at (c.before_of-next.ensures c.at-port.result c.at-port.ensures) in
    let number = ap (λ (q : TreePort _ _ _ _). q.number) c.port.view_is in
    record {
      next = next_at g.M.Metric.rules.order g.met.M.Metric.lawful.total c.self.inside.topology.now.ports (λ p. p.bridge ≡ c.args.number) (λ p x. OffersOf g.M.Metric.rules c.args.self.now.topology (vector_of c.args.self.now) c.args.number p x) (λ p x h. h.0) c.in-Some.place c.before_of-next.result last;
      lowest = rw c.lower-best.ensures (rw number
          (lowest_next g.M.Metric.rules.order g.met.M.Metric.lawful.total c.self.inside.topology.now.ports (λ p. p.bridge ≡ c.args.number) (λ p x. OffersOf g.M.Metric.rules c.args.self.now.topology (vector_of c.args.self.now) c.args.number p x) (λ p x h. h.0)
          c.in-Some.place c.at-port.result c.at-port.ensures c.before_of-next.result last
          c.offered.result (λ x e. (there, c.offered.ensures.some x e)) (λ e x h. c.offered.ensures.none e x h.1)
          (λ x y h i. one_offer g.M.Metric.rules g.met.M.Metric.lawful c.args.self.now.topology (rw (ap (λ s. s.topology) c.self.view_is) at c.self.invariant.topology) (vector_of c.args.self.now) c.at-port.result x y h.1 i.1)
          c.loop-next.best (rw c.in-Some.is at c.loop-next.invariant.lowest)));
    }

pub returns : goal.returns
returns g c =
    lowest_all g.M.Metric.rules.order g.met.M.Metric.lawful.total c.self.inside.topology.now.ports (λ p. p.bridge ≡ c.args.number) (λ p x. OffersOf g.M.Metric.rules c.args.self.now.topology (vector_of c.args.self.now) c.args.number p x) (λ p x h. h.0)
    c.loop-next.best (λ p x h. subst (λ (q : TreePort _ _ _ _). Contains c.self.inside.topology.now.ports q) h.1.along.1 (rw (← c.self.view_is) at h.1.along.0.has_port)) (rw c.in_default.is at c.loop-next.invariant.lowest)

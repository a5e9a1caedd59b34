use Rattle.std.proofs.Common.{refl, sym, ◌∙◌, ap, inl, inr, ◌≡◌, ◌+◌, ◌<◌, length}
use Rattle.mst_topology.specs.Places.{option_at}
use Rattle.mst_topology.specs.Chains.{IsLast, upto_place}
use Rattle.mst_topology.specs.Effects.{HearsAnew}
use Rattle.mst_topology.proofs.Lowest.{next_step, walk_falls, walk_port}
use Rattle.mst_topology.proofs.Places.{keys_room}
use Rattle.mst_topology.proofs.Effects.{Passed, passed_none, passed_more, passed_all, hears_none, hears_more}
use Rattle.mst_topology.specs.Topology.{HasPort}
use Rattle.mst_topology.proofs.designations.Designations.hear_around_once.Goals as goal

pub loop-next-init : goal.loop-next-init
loop-next-init g c = record {
  next = next_step c.args.topology.now.ports (λ p. p.bridge ≡ c.args.bridge) (length c.args.topology.now.ports) c.last_of-next.result c.last_of-next.ensures;
  heard = hears_none g.M.Metric.rules c.args.topology.now (option_at c.args.vectors.now) (option_at c.args.self.now.ports) (Passed c.args.topology.now.ports (λ p lan. (p.bridge ≡ c.args.bridge) × (p.lan ≡ lan)) c.last_of-next.result)
      (passed_none c.args.topology.now.ports (λ p. p.bridge ≡ c.args.bridge) (λ p lan. (p.bridge ≡ c.args.bridge) × (p.lan ≡ lan)) (λ p lan h. h.0) c.last_of-next.result c.last_of-next.ensures);
  keys_same = refl;
  seen = c.requires.seen;
}

pub at-port-requires : goal.at-port-requires
at-port-requires g c = (c.loop-next.invariant.next c.in-Some.place c.in-Some.is).1.0

pub before_of-next-requires : goal.before_of-next-requires
before_of-next-requires g c = (c.loop-next.invariant.next c.in-Some.place c.in-Some.is).1.0

pub loop-next-smaller : goal.loop-next-smaller
loop-next-smaller g c =
    let falls : upto_place c.before_of-next.result < c.in-Some.place + 1 = walk_falls c.args.topology.now.ports (λ q. q.bridge ≡ c.at-port.result.bridge) c.in-Some.place c.before_of-next.result (c.before_of-next.ensures c.at-port.result c.at-port.ensures) in
    rw c.in-Some.is falls

pub hear_once-requires-clause-room : goal.hear_once-requires-clause-room
hear_once-requires-clause-room g c =
    let has : HasPort c.args.topology.now c.at-port.result = (c.in-Some.place, c.at-port.ensures.0, c.at-port.ensures.1) in
    keys_room c.args.self.now.ports c.loop-next.self.ports (sym c.loop-next.invariant.keys_same) c.port.inside.lan (rw (← ap (λ q. q.lan) c.port.view_is) at (c.requires.rooms c.at-port.result has))

pub loop-next-preserved : goal.loop-next-preserved
loop-next-preserved g c =
    let there = walk_port c.args.topology.now.ports (λ p. p.bridge ≡ c.args.bridge) c.loop-next.next c.loop-next.invariant.next c.in-Some.place c.in-Some.is c.at-port.result c.at-port.ensures in
    let last : IsLast c.args.topology.now.ports (λ q. q.bridge ≡ c.args.bridge) c.in-Some.place c.before_of-next.result = rw there at (c.before_of-next.ensures c.at-port.result c.at-port.ensures) in
    let lan = ap (λ q. q.lan) c.port.view_is in
    let before = c.loop-next.invariant in
    let heard : HearsAnew g.M.Metric.rules c.args.topology.now (option_at c.args.vectors.now) (option_at c.loop-next.self.ports) (option_at c.hear_once.new.self.ports) (λ k. k ≡ c.at-port.result.lan) = rw lan at c.hear_once.ensures.heard in
    record {
      next = next_step c.args.topology.now.ports (λ p. p.bridge ≡ c.args.bridge) c.in-Some.place c.before_of-next.result last;
      heard = hears_more g.M.Metric.rules c.args.topology.now (option_at c.args.vectors.now) (option_at c.args.self.now.ports) (option_at c.loop-next.self.ports) (option_at c.hear_once.new.self.ports)
          (Passed c.args.topology.now.ports (λ p lan. (p.bridge ≡ c.args.bridge) × (p.lan ≡ lan)) c.loop-next.next) (λ k. k ≡ c.at-port.result.lan) (Passed c.args.topology.now.ports (λ p lan. (p.bridge ≡ c.args.bridge) × (p.lan ≡ lan)) c.before_of-next.result)
          before.heard heard
          (λ k h. elim (passed_more c.args.topology.now.ports (λ p. p.bridge ≡ c.args.bridge) (λ p lan. (p.bridge ≡ c.args.bridge) × (p.lan ≡ lan)) (λ p l i. i.0) c.in-Some.place c.at-port.result c.at-port.ensures c.before_of-next.result last k h) [ inl i ↦ inl (rw c.in-Some.is i) | inr i ↦ inr (sym i.1) ]);
      keys_same = c.hear_once.ensures.keys ∙ before.keys_same;
      seen = c.hear_once.ensures.seen;
    }

pub returns-clause-heard : goal.returns-clause-heard
returns-clause-heard g c =
    let heard = rw c.in_default.is at c.loop-next.invariant.heard in
    record {
      right = heard.right;
      found = λ lan h. heard.found lan (passed_all c.args.topology.now.ports (λ p lan. (p.bridge ≡ c.args.bridge) × (p.lan ≡ lan)) lan h.0 h.1 (h.2, h.3));
    }

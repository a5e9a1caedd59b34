use Rattle.std.proofs.Common.{refl, sym, ◌∙◌, ◌≡◌, ◌+◌, ◌<◌, length}
use Rattle.mst_topology.specs.Places.{option_at}
use Rattle.mst_topology.specs.Topology.{HasPort}
use Rattle.mst_topology.specs.Chains.{IsLast, upto_place}
use Rattle.mst_topology.proofs.Lowest.{next_step, walk_falls, walk_port}
use Rattle.mst_topology.proofs.Places.{keys_room}
use Rattle.mst_topology.proofs.Standing.{walked_none, walked_more, walked_all}
use Rattle.mst_topology.proofs.designations.Designations.hear_around.Goals as goal

pub loop-next-init : goal.loop-next-init
loop-next-init g c = record {
  next = next_step c.args.topology.now.ports (λ p. p.bridge ≡ c.args.bridge) (length c.args.topology.now.ports) c.last_of-next.result c.last_of-next.ensures;
  right = λ lan d. d;
  walked = λ lan. walked_none g.M.Metric.rules g.met.M.Metric.lawful c.args.topology.now c.known.ensures (option_at c.args.vectors.now) c.args.bridge c.last_of-next.result c.last_of-next.ensures lan (option_at c.args.self.now.ports lan) (c.requires.left lan);
  keys_same = refl;
  seen = λ lan s. absurd (c.clear.ensures lan s);
}

pub at-port-requires : goal.at-port-requires
at-port-requires g c = (c.loop-next.invariant.next c.in-Some.place c.in-Some.is).1.0

pub before_of-next-requires : goal.before_of-next-requires
before_of-next-requires g c = (c.loop-next.invariant.next c.in-Some.place c.in-Some.is).1.0

pub loop-next-smaller : goal.loop-next-smaller
loop-next-smaller g c =
    let falls : upto_place c.before_of-next.result < c.in-Some.place + 1 = walk_falls c.args.topology.now.ports (λ q. q.bridge ≡ c.at-port.result.bridge) c.in-Some.place c.before_of-next.result (c.before_of-next.ensures c.at-port.result c.at-port.ensures) in
    rw c.in-Some.is falls

pub hear_port-requires-clause-room : goal.hear_port-requires-clause-room
hear_port-requires-clause-room g c =
    let has : HasPort c.args.topology.now c.at-port.result = (c.in-Some.place, c.at-port.ensures.0, c.at-port.ensures.1) in
    keys_room c.args.self.now.ports c.loop-next.self.ports (sym c.loop-next.invariant.keys_same) c.at-port.result.lan (c.requires.rooms c.at-port.result has)

pub loop-next-preserved : goal.loop-next-preserved
loop-next-preserved g c =
    let there = walk_port c.args.topology.now.ports (λ p. p.bridge ≡ c.args.bridge) c.loop-next.next c.loop-next.invariant.next c.in-Some.place c.in-Some.is c.at-port.result c.at-port.ensures in
    let last : IsLast c.args.topology.now.ports (λ q. q.bridge ≡ c.args.bridge) c.in-Some.place c.before_of-next.result = rw there at (c.before_of-next.ensures c.at-port.result c.at-port.ensures) in
    let before = c.loop-next.invariant in
    let heard = c.hear_port.ensures.heard in
    record {
      next = next_step c.args.topology.now.ports (λ p. p.bridge ≡ c.args.bridge) c.in-Some.place c.before_of-next.result last;
      right = λ lan d. heard.right lan (before.right lan d);
      walked = walked_more g.M.Metric.rules g.met.M.Metric.lawful c.args.topology.now c.known.ensures (option_at c.args.vectors.now) c.args.bridge c.in-Some.place c.at-port.result c.at-port.ensures there c.before_of-next.result last
          (option_at c.loop-next.self.ports) (option_at c.hear_port.new.self.ports) heard (rw c.in-Some.is at before.walked);
      keys_same = c.hear_port.ensures.keys ∙ before.keys_same;
      seen = c.hear_port.ensures.seen;
    }

pub returns-clause-heard : goal.returns-clause-heard
returns-clause-heard g c =
    let walked = rw c.in_default.is at c.loop-next.invariant.walked in
    record {
      right = c.loop-next.invariant.right;
      found = λ lan on. walked_all g.M.Metric.rules g.met.M.Metric.lawful c.args.topology.now c.known.ensures (option_at c.args.vectors.now) c.args.bridge lan (option_at c.loop-next.self.ports lan) (walked lan) on;
    }

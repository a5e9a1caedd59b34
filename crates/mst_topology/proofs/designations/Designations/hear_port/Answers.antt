use Rattle.std.proofs.Common.{rules, ◌≡◌, ◌∙◌, ap}
use Rattle.mst_topology.specs.Places.{option_at}
use Rattle.mst_topology.specs.Topology.{TreePort}
use Rattle.mst_topology.specs.Effects.{IsPortOf}
use Rattle.mst_topology.proofs.Standing.{hears_lower, seen_lower}
use Rattle.mst_topology.proofs.designations.Designations.hear_port.Goals as goal

pub returns-else-is_port_of-clause-heard : goal.returns-else-is_port_of-clause-heard
returns-else-is_port_of-clause-heard g c =
    let lan = ap (λ q. q.lan) c.port-inside.view_is ∙ ap (λ (q : TreePort _ _ _ _). q.lan) c.port.view_is in
    let bridge = ap (λ q. q.bridge) c.port-inside.view_is ∙ ap (λ (q : TreePort _ _ _ _). q.bridge) c.port.view_is in
    let standing : c.flatten-standing.result ≡ option_at c.args.self.now.ports c.args.port.now.lan = rw (← lan) (search rules) in
    let other : IsPortOf c.args.topology.now c.args.port.now.bridge (option_at c.args.self.now.ports c.args.port.now.lan) → ⊥ = rw (standing, bridge) at (c.is_port_of.ensures.no c.if-is_port_of.false) in
    let lower = c.take_lower.ensures.lower in
    hears_lower g.M.Metric.rules g.met.M.Metric.lawful c.args.topology.now c.known.ensures (option_at c.args.vectors.now) c.args.port.now (option_at c.args.self.now.ports) (option_at c.take_lower.new.ports) lower.0 other lower.1 lower.2

pub returns-else-is_port_of-clause-seen : goal.returns-else-is_port_of-clause-seen
returns-else-is_port_of-clause-seen g c = seen_lower g.M.Metric.rules g.met.M.Metric.lawful c.args.topology.now c.known.ensures (option_at c.args.vectors.now) c.args.self.now.heard c.args.port.now (option_at c.args.self.now.ports) (option_at c.take_lower.new.ports) c.requires.seen (returns-else-is_port_of-clause-heard g c)

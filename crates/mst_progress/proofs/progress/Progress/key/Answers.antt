use Rattle.std.proofs.Common.{rules, ◌∙◌, ap, ◌≡◌}
use Rattle.mst_topology.specs.Places.{option_at}
use Rattle.mst_topology.specs.Topology.{IsTopology}
use Rattle.mst_progress.specs.Progress.{vector_of}
use Rattle.mst_topology.specs.Repair.{key_of}
use Rattle.mst_topology.proofs.Due.{one_due}
use Rattle.mst_progress.proofs.progress.Progress.key.Goals as goal

pub returns : goal.returns
returns g c = λ o d.
    let stored : c.flatten-stored.result ≡ option_at c.self.inside.vectors.now c.args.bridge = search rules in
    let same : option_at c.self.inside.vectors.now c.args.bridge ≡ vector_of c.args.self.now c.args.bridge = ap (λ s. vector_of s c.args.bridge) c.self.view_is in
    let valid : IsTopology g.M.Metric.rules c.args.self.now.topology = rw (ap (λ s. s.topology) c.self.view_is) at c.self.invariant.topology in
    c.key.ensures ∙ ap (λ z. key_of g.M.Metric.rules.order z c.due-due.result) (stored ∙ same) ∙ ap (key_of g.M.Metric.rules.order (vector_of c.args.self.now c.args.bridge))
    (one_due g.M.Metric.rules g.met.M.Metric.lawful c.args.self.now.topology valid (vector_of c.args.self.now) c.args.bridge c.due-due.result o c.due-due.ensures d)

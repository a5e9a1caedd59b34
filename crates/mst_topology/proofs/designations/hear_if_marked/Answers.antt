use Rattle.std.proofs.Common.{sym, ◌∙◌, ◌≡◌}
use Rattle.mst_topology.specs.Places.{option_at}
use Rattle.mst_topology.specs.Effects.{IsMarked}
use Rattle.mst_topology.proofs.Effects.{hears_none, hears_fewer}
use Rattle.mst_topology.proofs.designations.hear_if_marked.Goals as goal

pub returns-then-entry-clause-heard : goal.returns-then-entry-clause-heard
returns-then-entry-clause-heard g c = hears_fewer g.M.Metric.rules c.args.topology.now (option_at c.args.vectors.now) (option_at c.args.ports.now) (option_at c.hear.new.ports) (λ k. k ≡ c.args.entry.0) (IsMarked c.args.entry) c.hear.ensures.heard (λ k h. h.1)

pub returns-else-entry-clause-heard : goal.returns-else-entry-clause-heard
returns-else-entry-clause-heard g c = hears_none g.M.Metric.rules c.args.topology.now (option_at c.args.vectors.now) (option_at c.args.ports.now) (IsMarked c.args.entry) (λ k h. let mark = sym c.if-entry.false ∙ h.0 in cc)

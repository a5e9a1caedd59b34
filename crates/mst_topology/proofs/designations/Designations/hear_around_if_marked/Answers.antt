use Rattle.std.proofs.Common.{sym, ◌∙◌}
use Rattle.mst_topology.specs.Places.{option_at}
use Rattle.mst_topology.specs.Effects.{IsLanOf, IsLanOfMarked}
use Rattle.mst_topology.proofs.Effects.{hears_none, hears_fewer}
use Rattle.mst_topology.proofs.designations.Designations.hear_around_if_marked.Goals as goal

pub returns-then-entry-clause-heard : goal.returns-then-entry-clause-heard
returns-then-entry-clause-heard g c = hears_fewer g.M.Metric.rules c.args.topology.now (option_at c.args.vectors.now) (option_at c.args.self.now.ports) (option_at c.hear_around_once.new.self.ports) (IsLanOf c.args.topology.now c.args.entry.0) (IsLanOfMarked c.args.topology.now c.args.entry) c.hear_around_once.ensures.heard (λ k h. h.1)

pub returns-else-entry-clause-heard : goal.returns-else-entry-clause-heard
returns-else-entry-clause-heard g c = hears_none g.M.Metric.rules c.args.topology.now (option_at c.args.vectors.now) (option_at c.args.self.now.ports) (IsLanOfMarked c.args.topology.now c.args.entry) (λ k h. let mark = sym c.if-entry.false ∙ h.0 in cc)

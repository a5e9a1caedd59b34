use Rattle.std.proofs.Common.{ap, refl, sym, ◌∙◌}
use Rattle.mst_changes.specs.Kept.{entries_of}
use Rattle.mst_report.proofs.laws.entries_of_network.Goals as goal

pub returns-clause-some : goal.returns-clause-some
returns-clause-some c net ok = let o = c.has_outcome.ensures net ok in (entries_of net o.0, (o.0, o.1, refl))

pub returns-clause-one : goal.returns-clause-one
returns-clause-one c net entries others ok x y = x.2 ∙ ap (entries_of net) (c.one_outcome.ensures net x.0 y.0 ok x.1 y.1) ∙ sym y.2

pub returns-clause-mark : goal.returns-clause-mark
returns-clause-mark c net entries ok h = record { net = net; outcome = h.0; network = ok; is_outcome = h.1; are_entries = h.2 }

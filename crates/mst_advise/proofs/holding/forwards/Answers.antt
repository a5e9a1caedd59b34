use Rattle.std.proofs.Common.{sym, ap, ◌∙◌}
use Rattle.mst_verify.specs.tree_judges.judged.reasons.Holds.{is_wanted}
use Rattle.mst_advise.specs.Goals.{forwarding}
use Rattle.mst_advise.proofs.ForwardingPort.{wanted_forwards}
use Rattle.mst_advise.proofs.holding.forwards.Goals as goal

pub returns-in-None : goal.returns-in-None
returns-in-None c = ap (is_wanted forwarding) (sym c.in-None.is ∙ c.role_of.ensures)

pub returns-in-Some : goal.returns-in-Some
returns-in-Some c = c.forwards.ensures ∙ wanted_forwards c.in-Some.role ∙ ap (is_wanted forwarding) (sym c.in-Some.is ∙ c.role_of.ensures)

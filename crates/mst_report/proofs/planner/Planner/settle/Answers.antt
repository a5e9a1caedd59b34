use Rattle.std.proofs.Common.{◌≡◌, false, OnOk, subst}
use Rattle.mst_plan.specs.Kept.{standing_in}
use Rattle.mst_plan.specs.Standing.{msti_settlings}
use Rattle.mst_report.specs.Planned.{Planned}
use Rattle.mst_plan.specs.trees.Bound.{SettlesNoUnused}
use Rattle.mst_report.proofs.planner.Planner.settle.Goals as goal

pub returns-clause-unused : goal.returns-clause-unused
returns-clause-unused c =
    subst (λ (p : Planned). OnOk c.settle.result (p.is_settled ≡ false → SettlesNoUnused p.contents.net (msti_settlings (standing_in c.settle.new.self)))) c.self.view_is c.settle.ensures.unused

use Rattle.std.proofs.Common.{List, ◌++◌, sym, subst}
use Rattle.std.specs.Prelude.{Ok, OnOk}
use Rattle.mst_lang.specs.declared.line.Query.{Query}
use Rattle.mst_rows.specs.Rows.{Row}
use Rattle.mst_report.specs.Answers.{Answers}
use Rattle.mst_report.specs.Planned.{planned_state}
use Rattle.mst_report.proofs.planner.Planner.put.Goals as goal

pub returns-in-ShowPlan : goal.returns-in-ShowPlan
returns-in-ShowPlan g c first before grew =
    subst (λ (query : Query). OnOk c.whole_plan.result ((rows : List Row) × Answers query (planned_state c.args.self.now) (Ok rows) × g.R.Rows.grew first c.whole_plan.new.out (before ++ rows))) (sym c.in-ShowPlan.is)
    (c.whole_plan.ensures first before grew)

pub returns-in-ShowTree : goal.returns-in-ShowTree
returns-in-ShowTree g c first before grew =
    subst (λ (query : Query). OnOk c.tree.result ((rows : List Row) × Answers query (planned_state c.args.self.now) (Ok rows) × g.R.Rows.grew first c.tree.new.out (before ++ rows))) (sym c.in-ShowTree.is)
    (c.tree.ensures first before grew)

pub returns-in-ShowVlan : goal.returns-in-ShowVlan
returns-in-ShowVlan g c first before grew =
    subst (λ (query : Query). OnOk c.vlan.result ((rows : List Row) × Answers query (planned_state c.args.self.now) (Ok rows) × g.R.Rows.grew first c.vlan.new.out (before ++ rows))) (sym c.in-ShowVlan.is)
    (c.vlan.ensures first before grew)

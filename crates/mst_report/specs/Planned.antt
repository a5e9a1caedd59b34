-- What is seen of a planner.
use Rattle.std.specs.Prelude.{Bool, List, Option}
use Rattle.mst_net.specs.tables.Contents.{Contents}
use Rattle.mst_changes.specs.declared.subject.Entry.{Entry}
use Rattle.mst_report.specs.State.{State}
use Rattle.mst_plan.specs.Standing.{Standing}

-- its network, whether the plan is that of the network as it is now, the trees that stand, and the entries of the mark,
-- if there is one
pub record Planned : Type 0 where
  pub contents : Contents
  pub is_settled : Bool
  pub standing : Standing
  pub mark : Option (List Entry)

-- the state of the plan
abbrev pub planned_state : Planned → State
planned_state p = record { net = p.contents.net; mark = p.mark }

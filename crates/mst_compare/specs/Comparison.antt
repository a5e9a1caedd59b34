-- What a comparison of a BPDU with the plan gives.
use Rattle.std.specs.Prelude.{◌≡◌, List, Option, Some, None}
use Rattle.mst_ids.specs.declared.name.PortName.{PortName}
use Rattle.mst_tables.specs.Tables.{Net}
use Rattle.mst_roles.specs.forest.Outcome.{Outcome, IsOutcome}
use Rattle.mst_bpdu.specs.Differences.{differences_of}
use Rattle.mst_bpdu.specs.declared.bpdu.Bpdu.{Bpdu}
use Rattle.mst_bpdu.specs.declared.difference.Difference.{Difference}
use Rattle.mst_bpdu.specs.declared.fault.BpduFault.{BpduFault}
use Rattle.mst_bpdu.specs.declared.fault.BpduFault.TheVariants.{B07, B99}
use Rattle.mst_bpdu.specs.declared.planned.Planned.{Planned}
use Rattle.mst_compare.specs.Sender.{sender_of}
use Rattle.mst_compare.specs.Plan.{planned_of}

-- these are the differences of the BPDU: it has a sender, and they are those from what the network's settled outcome
-- has for the sender
pub record AreDifferences (net : Net) (bpdu : Bpdu) (found : List Difference) : Type 0 where
  pub port : PortName
  pub is_sender : sender_of net bpdu ≡ Some port
  pub outcome : Outcome
  pub is_outcome : IsOutcome net outcome
  pub plan : Planned
  pub is_plan : planned_of net outcome port ≡ Some plan
  pub are : found ≡ differences_of plan bpdu

-- the fault of a BPDU: where it has a sender there is none but want of memory
abbrev pub fault_of : Option PortName → BpduFault
fault_of None = B07
fault_of (Some port) = B99

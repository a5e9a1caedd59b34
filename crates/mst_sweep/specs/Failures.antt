-- What fails in a network, alone and at once, and what is left of it then.
use Rattle.std.specs.Prelude.{◌≡◌, List, [], ◌∷◌, ◌++◌, map, filter, Result, Ok, Err}
use Rattle.std.specs.FinMap as fin
use Rattle.mst_ids.specs.Names.{name_cmp}
use Rattle.mst_lang.specs.declared.line.Edit.{Edit}
use Rattle.mst_lang.specs.declared.line.Edit.TheVariants.{SetBridge, SetLan}
use Rattle.mst_lang.specs.declared.line.BridgeChange.TheVariants.{Power}
use Rattle.mst_lang.specs.declared.line.LanChange.TheVariants.{State}
use Rattle.mst_lang.specs.declared.line.Power.TheVariants.{Off}
use Rattle.mst_lang.specs.declared.line.LanState.TheVariants.{Down}
use Rattle.mst_net.specs.tables.After.{after, change, bridge_with, lan_with}
use Rattle.mst_net.specs.tables.Tables.{Net, BridgeRow, LanRow}
use Rattle.mst_net.specs.tables.declared.refusal.Refusal.{Refusal}
use Rattle.mst_vlan.specs.Reach.{bridges_on}
use Rattle.mst_sweep.specs.declared.failure.Failure.{Failure}
use Rattle.mst_sweep.specs.declared.failure.Failure.TheVariants.{Lan, Bridge}
use Rattle.mst_sweep.specs.declared.event.Cause.{Cause}
use Rattle.mst_sweep.specs.declared.event.Cause.TheVariants.{One}

-- ---- single failures
-- what fails goes down or off: `setlan L down`, `bridge B off`
abbrev pub edit_of : Failure → Edit
edit_of (Lan lan) = SetLan lan (State Down)
edit_of (Bridge bridge) = SetBridge bridge (Power Off)

-- each LAN that is up, in use or not, and then each bridge that is on, by name
abbrev pub failures : Net → List Failure
failures net = map (λ e. Lan e.0) (filter (λ e. e.1.is_up) (fin.entries net.lans)) ++ map Bridge (bridges_on net)

-- ---- failures at once
-- LANs of which those that fail are down, and bridges of which those that fail are off
abbrev pub lans_failed : List Failure → fin.FinMap name_cmp LanRow → fin.FinMap name_cmp LanRow
lans_failed [] lans = lans
lans_failed (Lan lan ∷ others) lans = lans_failed others (change lans lan (lan_with (State Down)))
lans_failed (Bridge bridge ∷ others) lans = lans_failed others lans

abbrev pub bridges_failed : List Failure → fin.FinMap name_cmp BridgeRow → fin.FinMap name_cmp BridgeRow
bridges_failed [] bridges = bridges
bridges_failed (Lan lan ∷ others) bridges = bridges_failed others bridges
bridges_failed (Bridge bridge ∷ others) bridges = bridges_failed others (change bridges bridge (bridge_with (Power Off)))

-- a network with these failures, be it one, two or some
abbrev pub failed : List Failure → Net → Net
failed all net = record net { lans = lans_failed all net.lans; bridges = bridges_failed all net.bridges }

-- ---- events
-- what fails at once, and what it is told by
pub record Event : Type 0 where
  pub cause : Cause
  pub failures : List Failure

-- a failure alone
abbrev pub alone : Failure → Event
alone failure = record { cause = One failure; failures = failure ∷ [] }

-- each failure of a network alone
abbrev pub single_events : Net → List Event
single_events net = map alone (failures net)

-- ---- by edits
-- what edits make of a network, one after another, where none is refused
abbrev pub then_made : List Edit → Result Net Refusal → Result Net Refusal
then_made [] made = made
then_made (edit ∷ edits) (Err refusal) = Err refusal
then_made (edit ∷ edits) (Ok net) = then_made edits (after edit net)

-- those of failures make the network with all of them
abbrev pub AreMade : Net → List Failure → Type 0
AreMade net all = then_made (map edit_of all) (Ok net) ≡ Ok (failed all net)

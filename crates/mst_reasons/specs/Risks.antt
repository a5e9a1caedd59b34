-- The risks of a policy in a network, and the events after which promises can be judged.
use Rattle.std.specs.Prelude.{ℕ, Bool, false, List, ◌++◌, Option, None, Some, is_none, filter, filter_map, map, if◌then◌else◌}
use Rattle.std.specs.List.{list_all, list_any}
use Rattle.std.specs.FinMap as fin
use Rattle.mst_graph.specs.Lists.{each_once, has_any}
use Rattle.mst_tables.specs.Tables.{Net}
use Rattle.mst_view.specs.Aggregation.{same_name}
use Rattle.mst_sweep.specs.Failures.{Event, failures, single_events}
use Rattle.mst_sweep.specs.declared.event.Cause.TheVariants as cause
use Rattle.mst_sweep.specs.declared.failure.Failure.{Failure}
use Rattle.mst_sweep.specs.declared.failure.Failure.TheVariants as failing
use Rattle.mst_policy.specs.Items.{has, item_has}
use Rattle.mst_policy.specs.Lines.{risk_in}
use Rattle.mst_policy.specs.declared.item.NameItem.{NameItem}
use Rattle.mst_policy.specs.declared.policy.PolicyLine.{PolicyLine}
use Rattle.mst_policy.specs.declared.risk.RiskItems.{RiskItems}
use Rattle.mst_policy.specs.declared.risk.RiskItems.TheVariants.{Lans, Bridges}
use Rattle.mst_policy.specs.declared.risk.RiskLine.{RiskLine}
use Rattle.mst_reasons.specs.declared.missing.Missing.{Missing}
use Rattle.mst_reasons.specs.declared.missing.Missing.TheVariants as lacking

-- ---- lines of risks
-- an item has one of these names
abbrev pub has_one : List (List ℕ) → NameItem → Bool
has_one names item = list_any (item_has item) names

-- a line of a risk says that this fails
abbrev pub items_have : RiskItems → Failure → Bool
items_have (Lans names) (failing.Lan lan) = has names lan
items_have (Bridges names) (failing.Bridge bridge) = has names bridge
items_have _ failure = false

-- what it names and the network hasn't: each of its items has some LAN, up or down, or some bridge, on or off
abbrev pub items_lack : Net → RiskItems → Option Missing
items_lack net (Lans names) = if list_all (has_one (fin.keys net.lans)) names then None else Some lacking.Lan
items_lack net (Bridges names) = if list_all (has_one (fin.keys net.bridges)) names then None else Some lacking.Bridge

-- the lines of risks that aren't refused in a network
abbrev pub is_whole : Net → RiskLine → Bool
is_whole net line = is_none (items_lack net line.items)

abbrev pub risk_lines : Net → List PolicyLine → List RiskLine
risk_lines net lines = filter (is_whole net) (filter_map (λ line. risk_in line.read) lines)

-- ---- risks
-- the lines of the risk of this name
abbrev pub lines_of : List ℕ → List RiskLine → List RiskLine
lines_of name lines = filter (λ line. same_name line.name name) lines

-- one of these lines says that this fails
abbrev pub fails_by : List RiskLine → Failure → Bool
fails_by lines failure = list_any (λ line. items_have line.items failure) lines

-- the failures of a risk: those of the network that some line of it names, in their order
abbrev pub risk_failures : Net → List RiskLine → List ℕ → List Failure
risk_failures net lines name = filter (fails_by (lines_of name lines)) (failures net)

-- a risk as an event, with its failures at once
abbrev pub risk_of : Net → List RiskLine → List ℕ → Event
risk_of net lines name = record { cause = cause.Risk name; failures = risk_failures net lines name }

-- all of them, in the order of the first lines that have their names
abbrev pub named_risks : Net → List RiskLine → List Event
named_risks net lines = map (risk_of net lines) (each_once same_name (map (λ line. line.name) lines))

-- those that have a failure
abbrev pub risks : Net → List PolicyLine → List Event
risks net lines = filter (λ event. has_any event.failures) (named_risks net (risk_lines net lines))

-- ---- events
-- each failure of a network alone, and each risk of a policy
pub record Hazards : Type 0 where
  pub single : List Event
  pub risks : List Event

abbrev pub hazards_in : Net → List PolicyLine → Hazards
hazards_in net lines = record { single = single_events net; risks = risks net lines }

-- after what promises can be judged: the ones, and then the others
abbrev pub all_events : Hazards → List Event
all_events hazards = hazards.single ++ hazards.risks

abbrev pub events : Net → List PolicyLine → List Event
events net lines = all_events (hazards_in net lines)

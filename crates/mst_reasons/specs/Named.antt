-- Which bridges and logical ports the lists of an expectation have in a network.
use Rattle.std.specs.Prelude.{ℕ, ◌&&◌, not, Bool, List, [], Option, Some, None, MatchOption, filter, ⊤}
use Rattle.std.specs.List.{list_any}
use Rattle.std.specs.FinMap as fin
use Rattle.mst_ids.specs.Vids.{has}
use Rattle.mst_ids.specs.declared.name.PortName.{PortName}
use Rattle.mst_tables.specs.Tables.{IsNetwork, Net, port_eq}
use Rattle.mst_roles.specs.forest.Outcome.{Outcome}
use Rattle.mst_view.specs.View.{LogicalPort, view_ports}
use Rattle.mst_sweep.specs.vlan.classes.AllVids.{all_vids}
use Rattle.mst_sweep.specs.Failing.{fails_bridge}
use Rattle.mst_sweep.specs.declared.failure.Failure.{Failure}
use Rattle.mst_policy.specs.Items as policy
use Rattle.mst_policy.specs.Leaving.{Leaving, leaves}
use Rattle.mst_policy.specs.declared.item.NameItem.{NameItem}
use Rattle.mst_policy.specs.declared.item.PortItem.{PortItem}

-- what a network that is judged is compared with: the one before it, with a settled outcome of that, if there is one, and which bridges are
-- meant to leave which VIDs
pub record Prior : Type 0 where
  pub before : Option (Net × Outcome)
  pub leaving : Leaving

-- nothing is before, and nothing is meant to leave
abbrev pub nothing_before : Prior
nothing_before = record { before = None; leaving = [] }

-- after a failure the network itself is before
abbrev pub with_before : Net → Outcome → Prior → Prior
with_before net o prior = record prior { before = Some (net, o) }

-- what is before is a network
abbrev pub OfNetwork : Prior → Type 0
OfNetwork prior = MatchOption prior.before ⊤ (λ p. IsNetwork p.0)

-- ---- bridges
-- a bridge is one that failed
abbrev pub is_gone : List Failure → List ℕ → Bool
is_gone failures name = list_any (fails_bridge name) failures

-- it is one of NAMES: some item has it, and it isn't one that failed
abbrev pub is_named : List Failure → List NameItem → List ℕ → Bool
is_named failures names bridge = policy.has names bridge && not (is_gone failures bridge)

-- these bridges, on or off, in byte order of names
abbrev pub named : Net → List Failure → List NameItem → List (List ℕ)
named net failures names = filter (is_named failures names) (fin.keys net.bridges)

-- the bridges that aren't of NAMES
abbrev pub unnamed : Net → List NameItem → List (List ℕ)
unnamed net names = filter (λ bridge. not (policy.has names bridge)) (fin.keys net.bridges)

-- the bridges of NAMES that aren't meant to leave a VID
abbrev pub remaining : Leaving → ℕ → Net → List Failure → List NameItem → List (List ℕ)
remaining leaving vid net failures names = filter (λ bridge. not (leaves leaving vid bridge)) (named net failures names)

-- ---- logical ports
-- a logical port of this name is enabled
abbrev pub is_enabled : Net → PortName → Bool
is_enabled net port = list_any (λ p. p.is_enabled && port_eq p.name port) (view_ports net)

-- a port isn't enabled that was so before the failures
abbrev pub stopped : Net → LogicalPort → Bool
stopped before p = not p.is_enabled && is_enabled before p.name

-- a logical port is one of PORTS: some item has it, and it didn't stop
abbrev pub is_port_named : Net → List PortItem → LogicalPort → Bool
is_port_named before ports p = policy.has_port ports p.name && not (stopped before p)

-- these ports, by bridge and number
abbrev pub ports_named : Net → Net → List PortItem → List LogicalPort
ports_named net before ports = filter (is_port_named before ports) (view_ports net)

-- ---- VIDs
-- the VIDs of a set, rising
abbrev pub vids_in : List Bool → List ℕ
vids_in vids = filter (has vids) all_vids

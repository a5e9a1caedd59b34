-- The wirings that the trees of a view share.
use Rattle.std.specs.Prelude.{◌≡◌, ◌≢◌, ℕ, List, [], map, max, filter_map, nat_eq, Option, Some, None, unwrap_or, if◌then◌else◌}
use Rattle.std.specs.Option.{option_map_or}
use Rattle.std.specs.List.{AllByRecursion}
use Rattle.std.specs.Map.{lookup}
use Rattle.std.specs.BTreeMap.{BTreeMap}
use Rattle.mst_ids.specs.Identifiers.{port_id}
use Rattle.mst_ids.specs.Costs.{automatic_cost}
use Rattle.mst_vector.specs.declared.cist.CistBridge.{CistBridge}
use Rattle.mst_vector.specs.declared.cist.CistPort.{CistPort}
use Rattle.mst_vector.specs.declared.msti.MstiBridge.{MstiBridge}
use Rattle.mst_vector.specs.declared.msti.MstiPort.{MstiPort}
use Rattle.mst_forest.specs.topology.Topology.{TreePort}
use Rattle.mst_forest.specs.topology.Wiring.{settings_in}
use Rattle.mst_view.specs.Viewed.{Viewed, named_port}
use Rattle.mst_view.specs.declared.in_view.PortInView.{PortInView}
use Rattle.mst_forest.specs.Apart.{Apart}
use Rattle.mst_forest.specs.Msti.{msti_port}
use Rattle.mst_forest.specs.Seen.{seen_tree_port, seen_cist_bridge, seen_cist_port, seen_msti_bridge}

-- no two ports have one number
abbrev pub HaveNumbers : {P : Type 0} → List (TreePort ℕ ℕ ℕ P) → Type 0
HaveNumbers ports = Apart (λ p q. p.number ≢ q.number) ports

-- that of the CIST: the enabled ports
abbrev pub cist_wires : Viewed → List (TreePort ℕ ℕ ℕ CistPort)
cist_wires v = filter_map (seen_cist_port v.settings) v.ports

abbrev pub cist_bridges_seen : Viewed → List (ℕ × ℕ) → List (ℕ × CistBridge)
cist_bridges_seen v region_ids = filter_map (seen_cist_bridge v.settings region_ids) v.bridges

-- that of the MSTIs: the internal ports, with the settings that they have in a tree for which none were set
abbrev pub base_settings : PortInView → MstiPort
base_settings p = record { id = port_id 8 p.name.number; internal = automatic_cost (max 1 p.speed) }

abbrev pub base_port : PortInView → TreePort ℕ ℕ ℕ MstiPort
base_port p = seen_tree_port p (base_settings p)

abbrev pub msti_wires : List PortInView → List (TreePort ℕ ℕ ℕ MstiPort)
msti_wires internal = map base_port internal

abbrev pub msti_bridges_seen : Viewed → ℕ → List (ℕ × MstiBridge)
msti_bridges_seen v tree = filter_map (seen_msti_bridge v tree) v.bridges

-- with these settings of its own in a tree each of these ports has the settings that it has there
abbrev pub AreOwn : Viewed → List PortInView → ℕ → List (ℕ × MstiPort) → Type 0
AreOwn v ports tree own = AllByRecursion (λ p. settings_in own (base_port p) ≡ msti_port v.settings tree (named_port p)) ports

-- those of a tree, of those of all trees
abbrev pub own_in : List (ℕ × BTreeMap ℕ MstiPort) → ℕ → List (ℕ × MstiPort)
own_in own tree = option_map_or (λ m. m.entries) (lookup (nat_eq tree) own) []

-- ---- the CIST by these
-- what it has to know of a port with these settings of its own in it: an identifier and an internal cost, as an MSTI, and the external cost
abbrev pub own_cist_settings : List (ℕ × MstiPort) → PortInView → CistPort
own_cist_settings own p =
    let set = settings_in own (base_port p) in
    record { id = set.id; external = unwrap_or p.settings.external (automatic_cost (max 1 p.speed)); internal = set.internal }

abbrev pub own_cist_port : List (ℕ × MstiPort) → PortInView → Option (TreePort ℕ ℕ ℕ CistPort)
own_cist_port own p = if p.is_enabled then Some (seen_tree_port p (own_cist_settings own p)) else None

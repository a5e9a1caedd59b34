-- What is seen of a view in each tree, under the numbers of records.
use Rattle.std.specs.Prelude.{ℕ, ◌==◌, ◌&&◌, true, false, Bool, List, [], Option, Some, None, unwrap_or, filter, filter_map, nat_eq, if◌then◌else◌}
use Rattle.std.specs.List.{find}
use Rattle.std.specs.Option.{option_map, option_map_or, option_and_then}
use Rattle.std.specs.Map.{lookup}
use Rattle.mst_vector.specs.declared.cist.CistBridge.{CistBridge}
use Rattle.mst_vector.specs.declared.cist.CistPort.{CistPort}
use Rattle.mst_vector.specs.declared.msti.MstiBridge.{MstiBridge}
use Rattle.mst_vector.specs.declared.msti.MstiPort.{MstiPort}
use Rattle.mst_topology.specs.Topology.{TreePort, Topology}
use Rattle.mst_net.specs.tables.ByTree.{ByTree}
use Rattle.mst_net.specs.tables.Seen.{bridge_row}
use Rattle.mst_view.specs.Trees.{is_among}
use Rattle.mst_view.specs.Viewed.{Viewed, named_port}
use Rattle.mst_view.specs.declared.in_view.BridgeInView.{BridgeInView}
use Rattle.mst_view.specs.declared.in_view.PortInView.{PortInView}
use Rattle.mst_config.specs.Shared.{same_in}
use Rattle.mst_forest.specs.Cist.{cist_bridge, cist_port}
use Rattle.mst_forest.specs.Msti.{msti_bridge, msti_port}
use Rattle.mst_forest.specs.Numbered.{topology_by_number}

-- a logical port under its number
abbrev pub seen_tree_port : {P : Type 0} → PortInView → P → TreePort ℕ ℕ ℕ P
seen_tree_port p settings = record { number = p.number; bridge = p.bridge; lan = p.lan_number; settings = settings; is_part = true; is_restricted = p.settings.is_restricted }

-- ---- the CIST
abbrev pub seen_cist_bridge : ByTree → List (ℕ × ℕ) → BridgeInView → Option (ℕ × CistBridge)
seen_cist_bridge set region_ids b =
    let row = bridge_row b.bridge in
    if row.is_on then option_map (λ region. (b.bridge.number, cist_bridge set region b.name row)) (lookup (nat_eq b.bridge.number) region_ids) else None

abbrev pub seen_cist_port : ByTree → PortInView → Option (TreePort ℕ ℕ ℕ CistPort)
seen_cist_port set p = if p.is_enabled then Some (seen_tree_port p (cist_port set (named_port p))) else None

abbrev pub cist_seen : Viewed → List (ℕ × ℕ) → Topology ℕ ℕ ℕ CistBridge CistPort
cist_seen v region_ids = topology_by_number (filter_map (seen_cist_bridge v.settings region_ids) v.bridges) (filter_map (seen_cist_port v.settings) v.ports)

-- ---- the MSTIs
-- the trees of a bridge
abbrev pub trees_at : Viewed → ℕ → List ℕ
trees_at v bridge = unwrap_or (lookup (nat_eq bridge) v.trees) []

-- an enabled port whose LAN's designated port in the CIST is on a bridge of the port's region
abbrev pub seen_internal : Viewed → List (ℕ × ℕ) → (ℕ → Option ℕ) → PortInView → Bool
seen_internal v region_ids designated p =
    p.is_enabled && option_map_or (λ q. same_in region_ids q.bridge p.bridge) (option_and_then (λ n. find (λ q. n == q.number) v.ports) (designated p.lan_number)) false

abbrev pub seen_msti_bridge : Viewed → ℕ → BridgeInView → Option (ℕ × MstiBridge)
seen_msti_bridge v tree b =
    let row = bridge_row b.bridge in
    if row.is_on && is_among (trees_at v b.bridge.number) tree then Some (b.bridge.number, msti_bridge v.settings tree b.name row) else None

abbrev pub seen_msti_port : Viewed → ℕ → PortInView → Option (TreePort ℕ ℕ ℕ MstiPort)
seen_msti_port v tree p = if is_among (trees_at v p.bridge) tree then Some (seen_tree_port p (msti_port v.settings tree (named_port p))) else None

abbrev pub msti_seen : Viewed → List PortInView → ℕ → Topology ℕ ℕ ℕ MstiBridge MstiPort
msti_seen v internal tree = topology_by_number (filter_map (seen_msti_bridge v tree) v.bridges) (filter_map (seen_msti_port v tree) internal)

abbrev pub internal_seen : Viewed → List (ℕ × ℕ) → (ℕ → Option ℕ) → List PortInView
internal_seen v region_ids designated = filter (seen_internal v region_ids designated) v.ports

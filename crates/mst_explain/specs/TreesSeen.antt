-- What is seen of the CIST and of an MSTI of a settled network, under the numbers of records.
use Rattle.std.specs.Prelude.{ℕ, ◌==◌, ◌&&◌, Option, Some, None, nat_eq, if◌then◌else◌}
use Rattle.std.specs.List.{find}
use Rattle.std.specs.Option.{option_map, option_and_then}
use Rattle.std.specs.Map.{lookup}
use Rattle.mst_vector.specs.declared.cist.CistBridge.{CistBridge}
use Rattle.mst_vector.specs.declared.cist.CistPort.{CistPort}
use Rattle.mst_vector.specs.declared.cist.CistVector.{CistVector}
use Rattle.mst_vector.specs.declared.msti.MstiBridge.{MstiBridge}
use Rattle.mst_vector.specs.declared.msti.MstiPort.{MstiPort}
use Rattle.mst_vector.specs.declared.msti.MstiVector.{MstiVector}
use Rattle.mst_roles.specs.forest.outcome.Assignment.{vector_of, designated_of}
use Rattle.mst_tables.specs.ByTree.{by_tree}
use Rattle.mst_tables.specs.Seen.{bridge_row}
use Rattle.mst_view.specs.Trees.{is_among}
use Rattle.mst_view.specs.Viewed.{Viewed, named_port}
use Rattle.mst_view.specs.declared.in_view.BridgeInView.{BridgeInView}
use Rattle.mst_view.specs.declared.in_view.PortInView.{PortInView}
use Rattle.mst_roles.specs.forest.Cist.{cist_bridge, cist_port}
use Rattle.mst_roles.specs.forest.Msti.{msti_bridge, msti_port}
use Rattle.mst_roles.specs.forest.Seen.{trees_at, seen_internal}
use Rattle.mst_roles.specs.forest.Forest.{msti_vector, designated_in}
use Rattle.mst_roles.specs.forest.Settled.{SettledNet}
use Rattle.mst_explain.specs.Seen.{TreeSeen}

abbrev pub bridge_found : Viewed → ℕ → Option BridgeInView
bridge_found v n = find (λ b. n == b.bridge.number) v.bridges

-- ---- the CIST
abbrev pub cist_bridge_in : SettledNet → BridgeInView → Option CistBridge
cist_bridge_in s b =
    if (bridge_row b.bridge).is_on then option_map (λ region. cist_bridge (by_tree s.net) region b.name (bridge_row b.bridge)) (lookup (nat_eq b.bridge.number) s.forest.regions) else None

abbrev pub cist_port_in : SettledNet → PortInView → Option CistPort
cist_port_in s p = if p.is_enabled then Some (cist_port (by_tree s.net) (named_port p)) else None

abbrev pub cist_seen : SettledNet → ℕ → TreeSeen CistBridge CistPort CistVector
cist_seen s tree = record {
  bridge = λ n. option_and_then (cist_bridge_in s) (bridge_found s.view n);
  vector = vector_of s.forest.cist;
  port = cist_port_in s;
  designated = designated_in s.forest tree;
}

-- ---- an MSTI
abbrev pub msti_bridge_in : SettledNet → ℕ → BridgeInView → Option MstiBridge
msti_bridge_in s tree b =
    if (bridge_row b.bridge).is_on && is_among (trees_at s.view b.bridge.number) tree then Some (msti_bridge s.view.settings tree b.name (bridge_row b.bridge)) else None

abbrev pub msti_port_in : SettledNet → ℕ → PortInView → Option MstiPort
msti_port_in s tree p =
    if seen_internal s.view s.forest.regions (designated_of s.forest.cist) p && is_among (trees_at s.view p.bridge) tree then Some (msti_port (by_tree s.net) tree (named_port p)) else None

abbrev pub msti_seen : SettledNet → ℕ → TreeSeen MstiBridge MstiPort MstiVector
msti_seen s tree = record {
  bridge = λ n. option_and_then (msti_bridge_in s tree) (bridge_found s.view n);
  vector = msti_vector s.forest tree;
  port = msti_port_in s tree;
  designated = designated_in s.forest tree;
}

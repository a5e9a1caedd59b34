-- A sender and what a plan has for it, by a view and a forest.
use Rattle.std.specs.Prelude.{ℕ, ◌==◌, Option, None, filter_map, if◌then◌else◌}
use Rattle.std.specs.List.{find}
use Rattle.std.specs.Option.{option_map, option_and_then}
use Rattle.mst_ids.specs.Identifiers.{mac_of, port_number_of}
use Rattle.mst_roles.specs.forest.outcome.Assignment.{vector_of}
use Rattle.mst_tables.specs.Tables.{BridgeRow}
use Rattle.mst_tables.specs.ByTree.{table_in}
use Rattle.mst_tables.specs.Seen.{bridge_row}
use Rattle.mst_view.specs.Viewed.{Viewed, named_port}
use Rattle.mst_view.specs.declared.in_view.BridgeInView.{BridgeInView}
use Rattle.mst_view.specs.declared.in_view.PortInView.{PortInView}
use Rattle.mst_roles.specs.forest.Seen.{trees_at}
use Rattle.mst_roles.specs.forest.Forest.{msti_vector, Forest}
use Rattle.mst_roles.specs.SeenRoles.{seen_role}
use Rattle.mst_bpdu.specs.Sender.{bridge_of, port_of}
use Rattle.mst_bpdu.specs.declared.bpdu.Bpdu.{Bpdu}
use Rattle.mst_bpdu.specs.declared.planned.Planned.{Planned}
use Rattle.mst_bpdu.specs.declared.planned.PlannedCist.{PlannedCist}
use Rattle.mst_bpdu.specs.declared.planned.PlannedMsti.{PlannedMsti}
use Rattle.mst_compare.specs.Sender.{sends, is_port}
use Rattle.mst_compare.specs.Plan.{planned_cist, planned_msti, with_both, plan_with}
use Rattle.mst_compare.specs.declared.senders.Origin.{Origin}

-- ---- the sender
abbrev pub sender_with : BridgeInView → PortInView → Origin
sender_with b p = record { bridge = b; port = p }

abbrev pub seen_sender_at : Viewed → Bpdu → BridgeInView → Option Origin
seen_sender_at v bpdu b =
    if sends bpdu (bridge_row b.bridge).is_rstp then option_map (sender_with b) (find (λ p. is_port b.name (port_number_of (port_of bpdu)) (named_port p)) v.ports) else None

abbrev pub seen_sender : Viewed → Bpdu → Option Origin
seen_sender v bpdu = option_and_then (seen_sender_at v bpdu) (find (λ b. b.bridge.mac == mac_of (bridge_of bpdu)) v.bridges)

-- ---- the plan
abbrev pub seen_cist : Viewed → Forest → BridgeRow → PortInView → Option PlannedCist
seen_cist v f row p = with_both (planned_cist v.settings p.name row) (vector_of f.cist p.bridge) (seen_role v f 0 p)

abbrev pub seen_msti : Viewed → Forest → PortInView → ℕ → Option PlannedMsti
seen_msti v f p tree = with_both (planned_msti v.settings p.name tree) (msti_vector f tree p.bridge) (seen_role v f tree p)

abbrev pub seen_planned : Viewed → Forest → Origin → Option Planned
seen_planned v f s =
    let row = bridge_row s.bridge.bridge in
    option_map (plan_with row (table_in v.settings.tables s.port.name.bridge) (filter_map (seen_msti v f s.port) (trees_at v s.port.bridge))) (seen_cist v f row s.port)

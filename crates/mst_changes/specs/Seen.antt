-- The entries of a view, under the numbers of records.
use Rattle.std.specs.Prelude.{ℕ, ◌==◌, Option, None, if◌then◌else◌}
use Rattle.std.specs.Option.{option_map}
use Rattle.mst_roles.specs.forest.outcome.Assignment.{vector_of}
use Rattle.mst_view.specs.Trees.{is_among}
use Rattle.mst_view.specs.Viewed.{Viewed}
use Rattle.mst_view.specs.declared.in_view.BridgeInView.{BridgeInView}
use Rattle.mst_view.specs.declared.in_view.PortInView.{PortInView}
use Rattle.mst_roles.specs.forest.Seen.{trees_at}
use Rattle.mst_roles.specs.forest.Forest.{Forest, msti_vector}
use Rattle.mst_roles.specs.SeenRoles.{seen_role}
use Rattle.mst_changes.specs.declared.subject.Item.TheVariants.{Bridge, Port}
use Rattle.mst_changes.specs.declared.value.VectorOrRole.{VectorOrRole}
use Rattle.mst_changes.specs.declared.value.VectorOrRole.TheVariants.{InCist, InMsti, HasRole}
use Rattle.mst_changes.specs.declared.subject.Entry.{Entry}

abbrev pub seen_vector : Viewed → Forest → ℕ → ℕ → Option VectorOrRole
seen_vector v f tree bridge =
    if tree == 0 then option_map InCist (vector_of f.cist bridge) else (if is_among (trees_at v bridge) tree then option_map InMsti (msti_vector f tree bridge) else None)

abbrev pub seen_bridge_entry : Viewed → Forest → ℕ → BridgeInView → Option Entry
seen_bridge_entry v f tree b = option_map (λ value. record { tree = tree; item = Bridge b.name; value = value }) (seen_vector v f tree b.bridge.number)

abbrev pub seen_port_entry : Viewed → Forest → ℕ → PortInView → Option Entry
seen_port_entry v f tree p = option_map (λ role. record { tree = tree; item = Port p.name; value = HasRole role }) (seen_role v f tree p)

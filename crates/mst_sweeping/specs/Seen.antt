-- What is seen of a step in two views with their forests, and how it is kept.
use Rattle.std.specs.Prelude.{◌≡◌, ℕ, ◌==◌, ◌&&◌, ◌||◌, not, Bool, false, List, Option, Some, map, filter, filter_map, nat_eq}
use Rattle.std.specs.Cmp.Lexicographic.{pointwise}
use Rattle.std.specs.List.{Contains, find, list_any}
use Rattle.std.specs.Map.{lookup}
use Rattle.std.specs.Option.{option_map, option_map_or}
use Rattle.mst_ids.specs.declared.name.PortName.{PortName}
use Rattle.mst_net.specs.tables.ByTree.{table_in}
use Rattle.mst_net.specs.tables.Seen.{bridge_row}
use Rattle.mst_net.specs.tables.Tables.{Net, port_eq}
use Rattle.mst_view.specs.Aggregation.{same_name}
use Rattle.mst_view.specs.Viewed.{Viewed}
use Rattle.mst_view.specs.declared.in_view.BridgeInView.{BridgeInView}
use Rattle.mst_view.specs.declared.in_view.PortInView.{PortInView}
use Rattle.mst_roles.specs.SeenActive.{seen_active}
use Rattle.mst_roles.specs.SeenRoles.{seen_role}
use Rattle.mst_sweep.specs.vlan.Seen.{seen_member}
use Rattle.mst_plan.specs.forest.Forest.{Forest}
use Rattle.mst_plan.specs.forest.InUse.{seen_has}
use Rattle.mst_plan.specs.forest.Outcome.{Outcome}
use Rattle.mst_sweep.specs.facts.declared.both.Both.{Both}
use Rattle.mst_sweep.specs.facts.declared.planned.Planned.{Planned}
use Rattle.mst_sweep.specs.facts.Told.{same_told}
use Rattle.mst_sweep.specs.Baseline.{AreHomes}
use Rattle.mst_sweep.specs.Between.{OfNumbered}
use Rattle.mst_sweep.specs.Seen.{seen_port_moved}
use Rattle.mst_sweeping.specs.Links.{shared, staying, same_links}
use Rattle.mst_sweeping.specs.Restarts.{is_replugged}
use Rattle.mst_sweeping.specs.Turns.{has_other_way, leads_out}
use Rattle.mst_sweeping.specs.declared.links.Link.{Link}
use Rattle.mst_sweeping.specs.declared.ports.BothPorts.{BothPorts}
use Rattle.mst_sweeping.specs.declared.turns.TreeTurns.{TreeTurns}

-- ---- islands
-- it is so of all networks of two plans in which the islands of a VID have these places
abbrev pub OfHomes : Planned → Planned → ℕ → List (ℕ × ℕ) → List (ℕ × ℕ) → (Net → Outcome → Net → Outcome → Type 0) → Type 0
OfHomes old new vid olds news IsSo = OfNumbered old new (λ a n o b k p. AreHomes a n o vid olds → AreHomes b k p vid news → IsSo a o b p)

-- ---- links
-- what carries a VID
abbrev pub seen_link_of : PortInView → Link
seen_link_of p = record { port = p.name; lan = p.lan }

-- of a port and its logical LAN, by name
abbrev pub link_by : PortName × List ℕ → Link
link_by names = record { port = names.0; lan = names.1 }

abbrev pub seen_carried : Viewed → Forest → ℕ → List Link
seen_carried v f vid = map seen_link_of (filter (seen_member v vid) (seen_active v f vid))

-- a bridge of this name is on, and is so in both
abbrev pub seen_on : Viewed → List ℕ → Bool
seen_on v name = list_any (λ b. (bridge_row b.bridge).is_on && same_name b.name name) v.bridges

abbrev pub seen_stays : Viewed → Viewed → List ℕ → Bool
seen_stays v w name = seen_on v name && seen_on w name

-- the links between bridges that stay aren't the same, of these before and afterwards
abbrev pub seen_differ : Viewed → Viewed → List Link → List Link → Bool
seen_differ v w before afterwards = not (same_links (shared (staying (seen_stays v w) before)) (shared (staying (seen_stays v w) afterwards)))

-- under the LAN of each link the bridge of one of them is kept
abbrev pub AreUsers : List Link → List (List ℕ × List ℕ) → Type 0
AreUsers links users = (k : Link) → Contains links k → (j : Link) × Contains links j × (j.lan ≡ k.lan) × (lookup (same_name k.lan) users ≡ Some j.port.bridge)

-- it is another one than that of the link
abbrev pub is_other : List (List ℕ × List ℕ) → Link → Bool
is_other users k = option_map_or (λ bridge. not (same_name k.port.bridge bridge)) (lookup (same_name k.lan) users) false

-- ---- logical ports
-- under each name the first of these ports that has it
abbrev pub ArePortsByName : List PortInView → List (PortName × PortInView) → Type 0
ArePortsByName ports entries = (name : PortName) → lookup (port_eq name) entries ≡ find (λ y. port_eq y.name name) ports

-- a port of one view, if one of that name is in the other, too
abbrev pub seen_port_in_both : List PortInView → PortInView → Option BothPorts
seen_port_in_both news x = option_map (λ y. record { old = x; new = y }) (find (λ y. port_eq y.name x.name) news)

abbrev pub seen_both_ports : Viewed → Viewed → List BothPorts
seen_both_ports v w = filter_map (seen_port_in_both w.ports) v.ports

-- it has another role in a tree afterwards, and neither is Disabled
abbrev pub seen_moved : Viewed → Forest → Viewed → Forest → ℕ → BothPorts → Bool
seen_moved v f w g tree both = seen_port_moved v f w g tree both.old both.new

-- ---- what turns
-- a port is a way out of its bridge in a tree
abbrev pub seen_way_out : Viewed → Forest → ℕ → PortInView → Bool
seen_way_out v f tree p = option_map_or leads_out (seen_role v f tree p) false

abbrev pub seen_ways_out : Viewed → Forest → ℕ → List Link
seen_ways_out v f tree = map seen_link_of (filter (seen_way_out v f tree) v.ports)

-- a bridge takes part in a tree: it is on, and has the tree
abbrev pub seen_takes_part : Viewed → ℕ → BridgeInView → Bool
seen_takes_part v tree b = (bridge_row b.bridge).is_on && seen_has v tree b.bridge.number

-- a bridge of both takes part in both, and is one of these
abbrev pub seen_turns : (List ℕ → Bool) → Viewed → Viewed → ℕ → Both → Bool
seen_turns has_other v w tree both = seen_takes_part v tree both.old && seen_takes_part w tree both.new && has_other both.old.name

-- the bridges of a set are those that have another way
abbrev pub HaveOtherWays : List Link → List Link → (List ℕ → Bool) → Type 0
HaveOtherWays before afterwards has_other = (bridge : List ℕ) → has_other bridge ≡ has_other_way before afterwards bridge

-- a tree with the bridges that turn in it, as it is kept
abbrev pub turning_of : TreeTurns → ℕ × List (List ℕ)
turning_of t = (t.tree, t.bridges.items)

-- ---- what starts anew
-- a bridge stays what it was, or doesn't
abbrev pub seen_as_it_was : Viewed → Viewed → Both → Bool
seen_as_it_was v w both =
    let old = bridge_row both.old.bridge in
    let new = bridge_row both.new.bridge in
    old.mac == new.mac && same_told old new && (old.is_rstp || pointwise nat_eq (table_in v.settings.tables both.old.name) (table_in w.settings.tables both.old.name))

abbrev pub seen_anew : Viewed → Viewed → Both → Bool
seen_anew v w both = not (seen_as_it_was v w both)

-- a port that is enabled in both: its bridge is one of these, or it is one of these
abbrev pub seen_restarts : (List ℕ → Bool) → (PortName → Bool) → BothPorts → Bool
seen_restarts is_anew is_over p = p.old.is_enabled && p.new.is_enabled && (is_anew p.old.name.bridge || is_over p.old.name)

-- the ports of a set are those that are plugged into LANs of different names
abbrev pub AreReplugged : Net → Net → (PortName → Bool) → Type 0
AreReplugged a b is_over = (port : PortName) → is_over port ≡ is_replugged a b port

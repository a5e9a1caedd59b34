-- The links of a VID in a network, between bridges that are on before a change and after it.
use Rattle.std.specs.Prelude.{ℕ, ◌&&◌, not, Bool, List, map, filter}
use Rattle.std.specs.Cmp.Lexicographic.{pointwise}
use Rattle.std.specs.List.{list_any}
use Rattle.mst_net.specs.tables.Tables.{Net, port_eq}
use Rattle.mst_view.specs.Aggregation.{same_name}
use Rattle.mst_view.specs.View.{LogicalPort}
use Rattle.mst_plan.specs.forest.Outcome.{Outcome}
use Rattle.mst_roles.specs.Active.{active_ports}
use Rattle.mst_sweep.specs.vlan.Reach.{bridges_on, is_member}
use Rattle.mst_sweeping.specs.declared.links.Link.{Link}

-- a logical port and its logical LAN
abbrev pub link_of : LogicalPort → Link
link_of p = record { port = p.name; lan = p.lan }

-- what carries a VID: its active ports that are members of the VLAN
abbrev pub carried : Net → Outcome → ℕ → List Link
carried net o vid = map link_of (filter (is_member net vid) (active_ports net o vid))

-- a bridge of this name is on
abbrev pub is_on : Net → List ℕ → Bool
is_on net name = list_any (λ on. same_name on name) (bridges_on net)

-- it is on in both networks
abbrev pub stays : Net → Net → List ℕ → Bool
stays a b name = is_on a name && is_on b name

-- those of such bridges
abbrev pub staying : (List ℕ → Bool) → List Link → List Link
staying stays links = filter (λ k. stays k.port.bridge) links

-- another bridge has a link to the LAN of a link
abbrev pub is_beside : Link → Link → Bool
is_beside k j = same_name j.lan k.lan && not (same_name j.port.bridge k.port.bridge)

-- those that are between bridges: another bridge has one to the LAN, too
abbrev pub shared : List Link → List Link
shared links = filter (λ k. list_any (is_beside k) links) links

-- the links of a VID between bridges that stay
abbrev pub links_between : (List ℕ → Bool) → Net → Outcome → ℕ → List Link
links_between stays net o vid = shared (staying stays (carried net o vid))

-- two links, and two lists of links, are the same
abbrev pub same_link : Link → Link → Bool
same_link k j = port_eq k.port j.port && same_name k.lan j.lan

abbrev pub same_links : List Link → List Link → Bool
same_links = pointwise same_link

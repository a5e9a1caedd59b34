-- Which bridges and LANs frames of a VID reach, by name.
use Rattle.std.specs.Prelude.{◌≡◌, ℕ, Bool, List, map, filter, Some}
use Rattle.std.specs.FinMap as fin
use Rattle.mst_ids.specs.Vids.{has}
use Rattle.mst_graph.specs.Islands.{Link, Island, AreIslands}
use Rattle.mst_tables.specs.Tables.{Net, Numbers}
use Rattle.mst_tables.specs.ByTree.{by_tree, vlans_in}
use Rattle.mst_view.specs.View.{LogicalPort, view_lans}
use Rattle.mst_roles.specs.forest.Outcome.{Outcome}
use Rattle.mst_roles.specs.Active.{active_ports}
use Rattle.mst_vlan.specs.declared.island.Island.{Island as IslandNos}

-- the bridges that are on and the logical LANs that are up, in byte order of names
abbrev pub bridges_on : Net → List (List ℕ)
bridges_on net = map (λ e. e.0) (filter (λ e. e.1.is_on) (fin.entries net.bridges))

abbrev pub lans_up : Net → List (List ℕ)
lans_up net = map (λ l. l.name) (filter (λ l. l.is_up) (view_lans net))

-- the logical port is a member of the VLAN
abbrev pub is_member : Net → ℕ → LogicalPort → Bool
is_member net vid p = has (vlans_in (by_tree net).vlans p.name) vid

-- each active port that is a member links its bridge and its logical LAN
abbrev pub link_of : LogicalPort → Link (List ℕ) (List ℕ)
link_of p = record { bridge = p.name.bridge; lan = p.lan }

abbrev pub vid_links : Net → Outcome → ℕ → List (Link (List ℕ) (List ℕ))
vid_links net o vid = map link_of (filter (is_member net vid) (active_ports net o vid))

-- the islands of a VID: two of these bridges and LANs are in one just where a walk of such links joins them. Each
-- is in just one. Those with a bridge come first, by their first bridges, and then the others by their LANs
abbrev pub AreIslandsOf : Net → Outcome → ℕ → List (Island (List ℕ) (List ℕ)) → Type 0
AreIslandsOf net o vid islands = AreIslands (bridges_on net) (lans_up net) (vid_links net o vid) islands

-- these are the islands of a VID under the numbers of records
pub record AreReached (net : Net) (numbers : Numbers) (o : Outcome) (vid : ℕ) (islands : List IslandNos) : Type 0 where
  pub named : List (Island (List ℕ) (List ℕ))
  pub are_islands : AreIslandsOf net o vid named
  pub bridges : map (λ i. map Some i.bridges) islands ≡ map (λ i. map (fin.get numbers.bridges) i.bridges) named
  pub lans : map (λ i. map Some i.lans) islands ≡ map (λ i. map (fin.get numbers.lans) i.lans) named

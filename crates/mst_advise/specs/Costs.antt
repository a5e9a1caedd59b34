-- Costs with which a port may forward in a tree, by the explanation of its role there.
use Rattle.std.specs.Prelude.{ℕ, ◌==◌, ◌+◌, ◌-◌, ◌&&◌, Bool, List, [], ◌∷◌, ◌++◌, Option, if◌then◌else◌}
use Rattle.std.specs.List.{find}
use Rattle.std.specs.Option.{option_map_or}
use Rattle.mst_ids.specs.declared.name.PortName.{PortName}
use Rattle.mst_view.specs.View.{LogicalPort, view_ports}
use Rattle.mst_vector.specs.Rules.{is_cost}
use Rattle.mst_net.specs.tables.ByTree.{by_tree}
use Rattle.mst_net.specs.tables.Tables.{Net, port_eq}
use Rattle.mst_roles.specs.forest.Cist.{cist_port}
use Rattle.mst_roles.specs.forest.Msti.{is_internal, msti_port}
use Rattle.mst_roles.specs.forest.Outcome.{Outcome}
use Rattle.mst_advise.specs.declared.contests.RootContest.{RootContest}
use Rattle.mst_advise.specs.declared.setting.Setting.{Setting}
use Rattle.mst_advise.specs.declared.setting.Setting.TheVariants.{ExternalCost, InternalCost}

-- the logical port of this name
abbrev pub port_named : Net → PortName → Option LogicalPort
port_named net name = find (λ p. port_eq p.name name) (view_ports net)

-- the LAN of an enabled port belongs to the region of its bridge: the LAN's designated port in the CIST is of that region
abbrev pub is_inner : Net → Outcome → LogicalPort → Bool
is_inner net o q = q.is_enabled && is_internal net o.cist.designated q

-- the tree in which it is settled whether the port forwards: the CIST, where the port has received external information
abbrev pub contested : Net → Outcome → ℕ → LogicalPort → ℕ
contested net o tree p = if is_inner net o p then tree else 0

-- the cost of a port that counts on its LAN in a tree, internal or external
abbrev pub cost_of : Net → Outcome → ℕ → LogicalPort → ℕ
cost_of net o tree q = if is_inner net o q then (msti_port (by_tree net) tree q).internal else (cist_port (by_tree net) q).external

-- the setting of it
abbrev pub cost_setting : Net → Outcome → ℕ → LogicalPort → ℕ → Setting
cost_setting net o tree q cost = if is_inner net o q then InternalCost q.name tree cost else ExternalCost q.name cost

-- this cost for a port, if it is one, from 1 to 200,000,000, and another than it has
abbrev pub with_cost : Net → Outcome → ℕ → LogicalPort → ℕ → List Setting
with_cost net o tree q n = if n == cost_of net o tree q then [] else (if is_cost n then cost_setting net o tree q n ∷ [] else [])

-- its cost less by so much, and by one more; and greater by so much, and by one more
abbrev pub lower_costs : Net → Outcome → ℕ → LogicalPort → ℕ → List Setting
lower_costs net o tree q by = with_cost net o tree q (cost_of net o tree q - by) ++ with_cost net o tree q (cost_of net o tree q - by - 1)

abbrev pub higher_costs : Net → Outcome → ℕ → LogicalPort → ℕ → List Setting
higher_costs net o tree q by = with_cost net o tree q (cost_of net o tree q + by) ++ with_cost net o tree q (cost_of net o tree q + by + 1)

-- lower costs of P, and then higher ones of W
abbrev pub costs_against : Net → Outcome → ℕ → LogicalPort → ℕ → LogicalPort → List Setting
costs_against net o tree p excess w = lower_costs net o tree p excess ++ higher_costs net o tree w excess

-- where the port W gives the bridge its root priority vector, and P doesn't
abbrev pub against : Net → Outcome → ℕ → LogicalPort → RootContest → List Setting
against net o tree p c = option_map_or (costs_against net o tree p c.excess) (port_named net c.winner) []

-- the greatest cost of W
abbrev pub greatest_cost : Net → Outcome → ℕ → RootContest → List Setting
greatest_cost net o tree c = option_map_or (λ w. with_cost net o tree w 200_000_000) (port_named net c.winner) []

-- the least cost of P, unless its role is restricted
abbrev pub least_cost : Net → Outcome → ℕ → LogicalPort → List Setting
least_cost net o tree p = if p.settings.is_restricted then [] else with_cost net o tree p 1

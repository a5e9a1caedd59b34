-- Why nothing brings a goal about.
use Rattle.std.specs.Prelude.{ℕ, ◌==◌, not, Bool, false, List, [], Option, None, Some, filter, if◌then◌else◌}
use Rattle.std.specs.Option.{option_and_then, option_map_or}
use Rattle.std.specs.FinMap as fin
use Rattle.mst_view.specs.View.{LogicalPort, is_on}
use Rattle.mst_net.specs.tables.ByTree.{by_tree}
use Rattle.mst_net.specs.tables.Tables.{Net}
use Rattle.mst_roles.specs.forest.InUse.{id_in}
use Rattle.mst_roles.specs.forest.Outcome.{Outcome}
use Rattle.mst_sweeping.specs.sweep.facts.Roots.{root_of}
use Rattle.mst_verify.specs.tree_judges.judged.reasons.Roots.{concerned}
use Rattle.mst_advise.specs.Costs.{port_named}
use Rattle.mst_advise.specs.declared.goal.Goal.{Goal}
use Rattle.mst_advise.specs.declared.goal.Goal.TheVariants.{Root, Forward}
use Rattle.mst_advise.specs.declared.hindrance.Hindrance.{Hindrance}
use Rattle.mst_advise.specs.declared.hindrance.Hindrance.TheVariants.{Off, Down, Restricted}

-- ---- what is in the way before anything is set
-- the bridge is off
abbrev pub off : Net → List ℕ → Option Hindrance → Option Hindrance
off net bridge other = if is_on net bridge then other else Some (Off bridge)

-- of a port of a bridge that is on: its LAN is down, since it isn't enabled, or its role is restricted
abbrev pub of_port : LogicalPort → Option Hindrance
of_port p = if p.is_enabled then (if p.settings.is_restricted then Some Restricted else None) else Some (Down p.lan)

abbrev pub hindrance_of : Net → Goal → Option Hindrance
hindrance_of net (Root tree bridge) = off net bridge None
hindrance_of net (Forward tree port) = option_and_then (λ p. off net p.name.bridge (of_port p)) (port_named net port)

-- ---- what is in the way of a root still
-- the root that a bridge names in a tree has this identifier
abbrev pub names_root : Net → Outcome → ℕ → ℕ → List ℕ → Bool
names_root net o tree id bridge = option_map_or (λ root. root == id) (root_of net o tree bridge) false

-- of the bridges in question those that have another root, by name
abbrev pub apart_by : Net → Outcome → ℕ → List ℕ → ℕ → List (List ℕ)
apart_by net o tree b id = filter (λ c. not (names_root net o tree id c)) (concerned net o tree b)

-- another one than B, if B is there
abbrev pub apart_from : Net → Outcome → ℕ → List ℕ → List (List ℕ)
apart_from net o tree b = option_map_or (λ row. apart_by net o tree b (id_in (by_tree net) tree b row)) (fin.get net.bridges b) []

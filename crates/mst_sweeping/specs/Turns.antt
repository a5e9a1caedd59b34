-- Bridges that turn in a step: their way out of a tree is another one.
use Rattle.std.specs.Prelude.{◌≡◌, ℕ, ◌&&◌, ◌||◌, not, Bool, true, false, List, map, filter}
use Rattle.std.specs.Cmp.Lexicographic.{pointwise}
use Rattle.std.specs.FinMap as fin
use Rattle.std.specs.List.{Contains, list_any}
use Rattle.std.specs.Option.{option_map_or}
use Rattle.mst_graph.specs.Lists.{each_once, has_any}
use Rattle.mst_net.specs.tables.Tables.{Net}
use Rattle.mst_view.specs.Aggregation.{same_name}
use Rattle.mst_view.specs.View.{LogicalPort, view_ports, bridge_names}
use Rattle.mst_roles.specs.Roles.{role_in}
use Rattle.mst_roles.specs.declared.kind.Role.{Role}
use Rattle.mst_roles.specs.declared.kind.Role.TheVariants.{Root, Master}
use Rattle.mst_plan.specs.forest.AllTrees.{all_trees}
use Rattle.mst_plan.specs.forest.Msti.{has_tree}
use Rattle.mst_plan.specs.forest.Outcome.{Outcome}
use Rattle.mst_sweeping.specs.Links.{link_of, same_link}
use Rattle.mst_sweeping.specs.declared.links.Link.{Link}

-- ---- ways out
-- a port of this role leads out: to the root of the tree, or out of the region
abbrev pub leads_out : Role → Bool
leads_out Root = true
leads_out Master = true
leads_out _ = false

-- a logical port is a way out of its bridge in a tree: it has such a role there
abbrev pub is_way_out : Net → Outcome → ℕ → LogicalPort → Bool
is_way_out net o tree p = option_map_or leads_out (role_in net o tree p) false

-- the ways out in a tree, of all bridges: these ports, each with its logical LAN
abbrev pub ways_out : Net → Outcome → ℕ → List Link
ways_out net o tree = map link_of (filter (is_way_out net o tree) (view_ports net))

-- ---- bridges that turn
-- a bridge has one of these ways that isn't one of the others
abbrev pub has_own_way : List Link → List Link → List ℕ → Bool
has_own_way ways others bridge =
    list_any (λ k. same_name k.port.bridge bridge && not (list_any (λ j. same_link j k) others)) ways

-- it has a way in one of two networks that isn't one in the other
abbrev pub has_other_way : List Link → List Link → List ℕ → Bool
has_other_way before afterwards bridge = has_own_way before afterwards bridge || has_own_way afterwards before bridge

-- it takes part in a tree: it is on, and has the tree
abbrev pub takes_part : Net → ℕ → List ℕ → Bool
takes_part net tree bridge = option_map_or (λ row. row.is_on) (fin.get net.bridges bridge) false && has_tree net tree bridge

-- a bridge turns in a tree: it takes part in both networks, and its way out is another one
abbrev pub turns : Net → Outcome → Net → Outcome → ℕ → List ℕ → Bool
turns a o b p tree bridge =
    takes_part a tree bridge && takes_part b tree bridge
    && has_other_way (ways_out a o tree) (ways_out b p tree) bridge

-- the bridges that turn in a tree, by name
abbrev pub turned : Net → Outcome → Net → Outcome → ℕ → List (List ℕ)
turned a o b p tree = filter (turns a o b p tree) (bridge_names a)

-- ---- trees in which the same ones turn
-- the trees, rising, in which some bridge turns, each with those that do
abbrev pub turning : Net → Outcome → Net → Outcome → List (ℕ × List (List ℕ))
turning a o b p = filter (λ t. has_any t.1) (map (λ tree. (tree, turned a o b p tree)) all_trees)

-- two lists have the same bridges
abbrev pub same_bridges : List (List ℕ) → List (List ℕ) → Bool
same_bridges = pointwise same_name

-- the lists of bridges, each once, by the least tree that has it
abbrev pub lists_of : List (ℕ × List (List ℕ)) → List (List (List ℕ))
lists_of turning = each_once same_bridges (map (λ t. t.1) turning)

-- the trees, rising, in which just these turn
abbrev pub trees_with : List (ℕ × List (List ℕ)) → List (List ℕ) → List ℕ
trees_with turning bridges = map (λ t. t.0) (filter (λ t. same_bridges t.1 bridges) turning)

-- ---- what follows
-- a bridge has the same ways out in a tree of two networks: each of the one is one of the other
pub record KeepsWays (before afterwards : List Link) (bridge : List ℕ) : Type 0 where
  pub kept : (k : Link) → Contains before k → k.port.bridge ≡ bridge → Contains afterwards k
  pub known : (k : Link) → Contains afterwards k → k.port.bridge ≡ bridge → Contains before k

-- a bridge takes part in a tree of both networks, and doesn't keep its ways out there
pub record TakesOtherWay (a : Net) (o : Outcome) (b : Net) (p : Outcome) (tree : ℕ) (bridge : List ℕ) : Type 0 where
  pub there : Contains (bridge_names a) bridge
  pub was : takes_part a tree bridge ≡ true
  pub is : takes_part b tree bridge ≡ true
  pub differ : KeepsWays (ways_out a o tree) (ways_out b p tree) bridge → ⊥

-- some bridges turn in a tree, and these are all that do
pub record TurnIn (a : Net) (o : Outcome) (b : Net) (p : Outcome) (bridges : List (List ℕ)) (tree : ℕ) : Type 0 where
  pub is_tree : Contains all_trees tree
  pub are : turned a o b p tree ≡ bridges
  pub some : has_any bridges ≡ true

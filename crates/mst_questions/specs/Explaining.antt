-- Why a port has its role: what explains it, and why one isn't explained.
use Rattle.std.specs.Prelude.{◌≡◌, ℕ, ◌==◌, ◌||◌, Bool, true, not, List, [], ◌∷◌, is_some, Option, None, Some, if◌then◌else◌, codes}
use Rattle.std.specs.List.{find}
use Rattle.std.specs.Option.{option_map_or}
use Rattle.mst_ids.specs.declared.name.PortName.{PortName}
use Rattle.mst_net.specs.tables.After.{has_bridge}
use Rattle.mst_net.specs.tables.Tables.{Net, port_eq}
use Rattle.mst_rows.specs.Rows.{Row}
use Rattle.mst_view.specs.View.{LogicalPort, view_ports}
use Rattle.mst_roles.specs.forest.Msti.{has_msti}
use Rattle.mst_roles.specs.forest.Outcome.{Outcome, IsOutcome}
use Rattle.mst_advise.specs.explain.Explained.{AreExplained, trees_of_bridge}
use Rattle.mst_questions.specs.declared.explaining.Unexplained.{Unexplained}
use Rattle.mst_questions.specs.declared.explaining.Unexplained.TheVariants.{NoBridge, NoPort, NoTree}

-- the logical port of this name, if there is one. There is none where the port isn't there or is in no LAN, nor where
-- it is a member that a lower one stands for
abbrev pub logical_port_of : Net → PortName → Option LogicalPort
logical_port_of net name = find (λ p. port_eq p.name name) (view_ports net)

-- the trees to tell of: the one that is asked, or where none is each that the bridge has, rising
abbrev pub asked_trees : Net → List ℕ → Option ℕ → List ℕ
asked_trees net bridge None = trees_of_bridge net bridge
asked_trees net bridge (Some tree) = tree ∷ []

-- a bridge that is there has tree 0, and its MSTIs
abbrev pub has_tree : Net → List ℕ → ℕ → Bool
has_tree net bridge tree = tree == 0 || has_msti net tree bridge

abbrev pub has_asked : Net → List ℕ → Option ℕ → Bool
has_asked net bridge tree = option_map_or (has_tree net bridge) tree true

-- why a port isn't explained, by the first that applies: there is no bridge of the name, no logical port of the name, or
-- a tree is asked that the bridge doesn't have
abbrev pub unexplained_of : Net → PortName → Option ℕ → Option Unexplained
unexplained_of net name tree =
    if not (has_bridge name.bridge net) then Some NoBridge
    else (if not (is_some (logical_port_of net name)) then Some NoPort else (if not (has_asked net name.bridge tree) then Some NoTree else None))

-- these rows explain the port, in the trees to tell of, by a settled outcome of the network
pub record Explains (net : Net) (name : PortName) (tree : Option ℕ) (rows : List Row) : Type 0 where
  pub port : LogicalPort
  pub is_port : logical_port_of net name ≡ Some port
  pub outcome : Outcome
  pub is_outcome : IsOutcome net outcome
  pub told : AreExplained net outcome port (asked_trees net name.bridge tree) rows

-- the number and the text of why a port isn't explained
abbrev pub code_of : Unexplained → List ℕ
code_of NoBridge = codes "E04"
code_of NoPort = codes "E05"
code_of NoTree = codes "E03"

abbrev pub text_of : Unexplained → List ℕ
text_of NoBridge = codes "no such bridge"
text_of NoPort = codes "no such port"
text_of NoTree = codes "bad VID or tree"

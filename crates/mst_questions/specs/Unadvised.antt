-- Why there is no advice.
use Rattle.std.specs.Prelude.{ℕ, not, List, Option, None, Some, if◌then◌else◌}
use Rattle.mst_net.specs.tables.After.{has_bridge}
use Rattle.mst_net.specs.tables.Tables.{Net}
use Rattle.mst_advise.specs.declared.goal.Goal.{Goal}
use Rattle.mst_advise.specs.declared.goal.Goal.TheVariants as goal
use Rattle.mst_questions.specs.Explaining.{has_tree, unexplained_of}
use Rattle.mst_questions.specs.declared.explaining.Unexplained.{Unexplained}
use Rattle.mst_questions.specs.declared.explaining.Unexplained.TheVariants.{NoBridge, NoTree}

-- there is no bridge of the name, or it doesn't have the tree
abbrev pub unrooted_of : Net → ℕ → List ℕ → Option Unexplained
unrooted_of net tree bridge = if not (has_bridge bridge net) then Some NoBridge else (if not (has_tree net bridge tree) then Some NoTree else None)

-- of a port as where it is explained
abbrev pub unadvised_of : Net → Goal → Option Unexplained
unadvised_of net (goal.Root tree bridge) = unrooted_of net tree bridge
unadvised_of net (goal.Forward tree port) = unexplained_of net port (Some tree)

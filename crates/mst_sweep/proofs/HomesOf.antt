-- What is so of the places of islands by what carries each VID is so by the plan that it is of.
use Rattle.std.proofs.Common.{ℕ, List, subst}
use Rattle.mst_net.specs.tables.Tables.{Net, Numbers}
use Rattle.mst_vlan.specs.Carried.{ViewWithTrees}
use Rattle.mst_facts.specs.declared.planned.Planned.{Planned}
use Rattle.mst_vlan.specs.forest.Agrees.{AreOf}
use Rattle.mst_vlan.specs.forest.Forest.{IsForest}
use Rattle.mst_sweep.specs.Baseline.{AreHomes}
use Rattle.mst_sweep.specs.Breaking.{IsCarriageOf}

module _ (vid : ℕ) (homes : List (ℕ × ℕ)) where
  -- they are the places in each network that a view with its trees is of
  abbrev pub AreHomesIn : ViewWithTrees → Type 0
  AreHomesIn s = (net : Net) (numbers : Numbers) (is : IsForest net numbers s.forest) → AreOf net numbers s.view s.forest.regions → AreHomes net numbers is.outcome vid homes

  pub homes_of_plan : (plan : Planned) (s : ViewWithTrees) → IsCarriageOf plan s → AreHomesIn s → AreHomesIn (record { view = plan.view.now; forest = plan.forest.now })
  homes_of_plan plan s is are = subst AreHomesIn is are

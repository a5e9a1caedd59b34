-- What is kept of a plan, and of what network it is.
use Rattle.std.specs.Prelude.{◌≡◌, ℕ, Bool, true, false, List}
use Rattle.mst_config.specs.Shared.{AreRegions}
use Rattle.mst_view.specs.Viewed.{IsView}
use Rattle.mst_lang.specs.declared.line.Edit.{Edit}
use Rattle.mst_net.specs.tables.Contents.{Contents, Commits, IsNumbered}
use Rattle.mst_net.specs.tables.Tables.{Net, Numbers, IsNetwork}
use Rattle.mst_trees.specs.forest.Forest.{Forest}
use Rattle.mst_plan.specs.Plan.{IsPlan}
use Rattle.mst_plan.specs.Standing.{Standing, nothing, standing_of}
use Rattle.mst_plan.specs.declared.kept.KeptPlan.{KeptPlan}
use Rattle.mst_plan.specs.declared.kept.KeptPlan.TheVariants.{Nothing, Settled, Earlier}

-- a settled plan is that of the network, and what stands of an earlier one is the network's
abbrev pub IsKept : Net → Numbers → KeptPlan → Type 0
IsKept net numbers Nothing = Unit {0}
IsKept net numbers (Settled p) = IsPlan net numbers p
IsKept net numbers (Earlier p regions_stand view_stands) = (regions_stand ≡ true → AreRegions net numbers p.regions) × (view_stands ≡ true → IsView net numbers p.view)

-- whether the plan is that of the network as it is now
abbrev pub is_settled_of : KeptPlan → Bool
is_settled_of Nothing = false
is_settled_of (Settled p) = true
is_settled_of (Earlier p regions_stand view_stands) = false

-- the trees that stand
abbrev pub standing_in : KeptPlan → Standing
standing_in Nothing = nothing
standing_in (Settled p) = standing_of p.forest
standing_in (Earlier p regions_stand view_stands) = standing_of p.forest

-- whether its regions are known to be the network's
abbrev pub regions_stand_in : KeptPlan → Bool
regions_stand_in Nothing = false
regions_stand_in (Settled p) = true
regions_stand_in (Earlier p regions_stand view_stands) = regions_stand

-- its regions, if it has a plan, are the network's
abbrev pub HasRegions : Net → Numbers → KeptPlan → Type 0
HasRegions net numbers Nothing = Unit {0}
HasRegions net numbers (Settled p) = AreRegions net numbers p.regions
HasRegions net numbers (Earlier p regions_stand view_stands) = AreRegions net numbers p.regions

-- its plan is settled by these regions and trees, which take the place of its own
abbrev pub settled_by : KeptPlan → List (ℕ × ℕ) → Forest → KeptPlan
settled_by Nothing regions forest = Nothing
settled_by (Settled p) regions forest = Settled (record { view = p.view; regions = regions; forest = forest })
settled_by (Earlier p regions_stand view_stands) regions forest = Settled (record { view = p.view; regions = regions; forest = forest })

-- it is kept of the contents of which the edit made these
pub record WasKept (edit : Edit) (now : Contents) (kept : KeptPlan) : Type 0 where
  pub old : Contents
  pub network : IsNetwork old.net
  pub numbered : IsNumbered old.net old.numbers
  pub made : Commits edit old now
  pub stood : IsKept old.net old.numbers kept

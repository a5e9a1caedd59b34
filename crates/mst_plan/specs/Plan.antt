-- What a plan is of a network.
use Rattle.std.specs.Prelude.{ℕ, List}
use Rattle.mst_net.specs.tables.Tables.{Net, Numbers, IsNetwork}
use Rattle.mst_net.specs.tables.Contents.{Contents, Commits, IsNumbered}
use Rattle.mst_lang.specs.declared.line.Edit.{Edit}
use Rattle.mst_view.specs.Viewed.{Viewed, IsView}
use Rattle.mst_config.specs.Shared.{AreRegions}
use Rattle.mst_trees.specs.forest.Agrees.{AreOf}
use Rattle.mst_trees.specs.forest.Forest.{Forest, IsForest}
use Rattle.mst_plan.specs.declared.plan.Plan.{Plan}

-- the view, the regions and the settled trees are those of the network
pub record IsPlan (net : Net) (numbers : Numbers) (p : Plan) : Type 0 where
  pub of : AreOf net numbers p.view p.forest.regions
  pub regions : AreRegions net numbers p.regions
  pub forest : IsForest net numbers p.forest

-- these regions, and these settled trees by a view, are those of the network
pub record AreTrees (net : Net) (numbers : Numbers) (v : Viewed) (region_ids : List (ℕ × ℕ)) (f : Forest) : Type 0 where
  pub of : AreOf net numbers v f.regions
  pub regions : AreRegions net numbers region_ids
  pub forest : IsForest net numbers f

-- it is the view of the contents of which the edit made these
pub record WasViewed (edit : Edit) (now : Contents) (v : Viewed) : Type 0 where
  pub old : Contents
  pub network : IsNetwork old.net
  pub numbered : IsNumbered old.net old.numbers
  pub made : Commits edit old now
  pub view : IsView old.net old.numbers v

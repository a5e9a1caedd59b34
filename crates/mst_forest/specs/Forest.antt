-- What a forest answers, under the numbers of records.
use Rattle.std.specs.Prelude.{ℕ, ◌==◌, List, Option, nat_eq, if◌then◌else◌}
use Rattle.std.specs.Option.{option_and_then, option_map_or}
use Rattle.std.specs.Map.{lookup}
use Rattle.mst_vector.specs.declared.msti.MstiVector.{MstiVector}
use Rattle.mst_outcome.specs.Assignment.{Assignment, vector_of, designated_of}
use Rattle.mst_net.specs.tables.Tables.{Net, Numbers}
use Rattle.mst_view.specs.Viewed.{Viewed}
use Rattle.mst_config.specs.Shared.{AreRegions}
use Rattle.mst_forest.specs.Outcome.{Outcome, IsOutcome}
use Rattle.mst_forest.specs.Agrees.{Agrees}
use Rattle.mst_forest.specs.Seen.{cist_seen, internal_seen, msti_seen}
use Rattle.mst_nested.specs.Trees.{Trees}
use Rattle.mst_vector.specs.declared.cist.CistVector.{CistVector}

-- what is seen of a forest: the region of each bridge, and the outcomes of the CIST and of the MSTIs that some bridge has
pub record Forest : Type 0 where
  pub regions : List (ℕ × ℕ)
  pub cist : Assignment CistVector
  pub mstis : List (ℕ × Assignment MstiVector)

-- an MSTI, if some bridge has it
abbrev pub msti_in : Forest → ℕ → Option (Assignment MstiVector)
msti_in f tree = lookup (nat_eq tree) f.mstis

-- the vector of a bridge in it, and the designated port of a LAN in it
abbrev pub msti_vector : Forest → ℕ → ℕ → Option MstiVector
msti_vector f tree bridge = option_and_then (λ a. vector_of a bridge) (msti_in f tree)

abbrev pub msti_designated : Forest → ℕ → ℕ → Option ℕ
msti_designated f tree lan = option_and_then (λ a. designated_of a lan) (msti_in f tree)

-- of any tree
abbrev pub designated_in : Forest → ℕ → ℕ → Option ℕ
designated_in f tree lan = if tree == 0 then designated_of f.cist lan else msti_designated f tree lan

-- how often a bridge was settled in an MSTI, and in any tree
abbrev pub msti_settlings : Forest → ℕ → ℕ
msti_settlings f tree = option_map_or (λ a. a.settlings) (msti_in f tree) 0

abbrev pub settlings_in : Forest → ℕ → ℕ
settlings_in f tree = if tree == 0 then f.cist.settlings else msti_settlings f tree

-- it answers by a settled outcome of the network, and by the network's regions
pub record IsForest (net : Net) (numbers : Numbers) (f : Forest) : Type 0 where
  pub outcome : Outcome
  pub is_outcome : IsOutcome net outcome
  pub cist : Agrees numbers outcome.cist (vector_of f.cist) (designated_of f.cist)
  pub mstis : (tree : ℕ) → Agrees numbers (outcome.msti tree) (msti_vector f tree) (msti_designated f tree)
  pub regions : AreRegions net numbers f.regions

-- the trees of a view under the numbers of records, with the vectors of a forest
abbrev pub trees_seen : Viewed → Forest → Trees ℕ ℕ ℕ
trees_seen v f = record {
  cist = cist_seen v f.regions;
  cist_vector = vector_of f.cist;
  msti = msti_seen v (internal_seen v f.regions (designated_of f.cist));
  msti_vector = msti_vector f;
}

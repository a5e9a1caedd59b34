-- Classes of VIDs, what is kept of a failure alone for each, and the parts that a pair makes of each.
use Rattle.std.specs.Prelude.{◌≡◌, ℕ, ◌-◌, true, List, [], Option, None, Some, length, map, nat_eq, slice_index, slice_index_or}
use Rattle.std.specs.Option.{option_map}
use Rattle.mst_ids.specs.Vids.{is_vid}
use Rattle.mst_graph.specs.Numbers.{AreNumbers}
use Rattle.mst_graph.specs.declared.keys.Numbering.{Numbering}
use Rattle.mst_net.specs.tables.Tables.{Net, Numbers}
use Rattle.mst_vlan.specs.forest.Outcome.{Outcome}
use Rattle.mst_sweep.specs.Baseline.{AreHomes}
use Rattle.mst_sweep.specs.Pairs.{Outcomes, Pair, ArePairParts}
use Rattle.mst_sweep.specs.Parts.{AreParts}
use Rattle.mst_sweep.specs.declared.single.Single.{Single}

-- these are classes of VIDs
pub record AreClasses (classes : Numbering) : Type 0 where
  pub numbers : List ℕ
  pub as_long : length numbers ≡ 4094
  pub are : AreNumbers nat_eq numbers classes.numbers.items classes.firsts.items

-- the class of a VID
abbrev pub class_of : Numbering → ℕ → ℕ
class_of classes vid = slice_index classes.numbers.items (vid - 1)

-- of a failure alone nothing is kept for a VID that has no parts by it, and else the places of bridges' islands
abbrev pub IsKeptAlone : Net → Outcome → Net → Numbers → Outcome → ℕ → Option (List (ℕ × ℕ)) → Type 0
IsKeptAlone a o b n p vid None = AreParts a o b p vid []
IsKeptAlone a o b n p vid (Some homes) = AreHomes b n p vid homes

-- for each class, and so for each VID
pub record AreKeptAlone (a : Net) (o : Outcome) (b : Net) (n : Numbers) (p : Outcome) (classes : Numbering) (kept : List (Option (List (ℕ × ℕ)))) : Type 0 where
  pub as_long : length kept ≡ length classes.firsts.items
  pub each : (vid : ℕ) → is_vid vid ≡ true → IsKeptAlone a o b n p vid (slice_index_or kept (class_of classes vid) None)

-- as a failure has them
abbrev pub kept_of : Single → List (Option (List (ℕ × ℕ)))
kept_of single = map (option_map (λ homes. homes.entries)) single.homes.items

-- both failures of a pair make these parts of each VID of a class
abbrev pub IsPartsOfClass : Net → Pair → Outcomes → Numbering → ℕ → List (List (List ℕ)) → Type 0
IsPartsOfClass net pair of classes class parts = (vid : ℕ) → is_vid vid ≡ true → class_of classes vid ≡ class → ArePairParts net pair of vid parts

-- The bridges of each region of a view, by the identifiers of regions.
use Rattle.std.specs.Prelude.{ℕ, ◌==◌, Bool, false, List, [], ◌∷◌, map, filter, nat_eq, Vec, if◌then◌else◌}
use Rattle.std.specs.Option.{option_map_or}
use Rattle.std.specs.Ordering.{nat_cmp}
use Rattle.std.specs.Map.{lookup}
use Rattle.std.specs.BTreeMap.{BTreeMap, get}
use Rattle.std.specs.declared.alloc.Global.{Global}
use Rattle.mst_ids.specs.Identifiers.{bridge_id}
use Rattle.mst_tables.specs.ByTree.{table_in}
use Rattle.mst_tables.specs.Seen.{bridge_row}
use Rattle.mst_view.specs.Viewed.{Viewed}
use Rattle.mst_view.specs.declared.in_view.BridgeInView.{BridgeInView}
use Rattle.mst_rows.specs.Rows.{Row}
use Rattle.mst_text.specs.RegionsText.{region_row}

-- the bridge is in the region of this identifier
abbrev pub is_in : List (ℕ × ℕ) → ℕ → BridgeInView → Bool
is_in region_ids region b = option_map_or (λ of_bridge. of_bridge == region) (lookup (nat_eq b.bridge.number) region_ids) false

-- the names of the bridges that are in it
abbrev pub names_in : List (ℕ × ℕ) → ℕ → List BridgeInView → List (List ℕ)
names_in region_ids region bridges = map (λ b. b.name) (filter (is_in region_ids region) bridges)

-- the names that are kept for it, none where nothing is kept
abbrev pub kept_for : BTreeMap ℕ (Vec (List ℕ) Global) → ℕ → List (List ℕ)
kept_for members region = option_map_or (λ names. names.items) (get nat_cmp members region) []

-- the row of a bridge that is the first of its region, whose identifier has its MAC
abbrev pub seen_region : Viewed → List (ℕ × ℕ) → BridgeInView → List Row
seen_region v region_ids b =
    if is_in region_ids (bridge_id 0 0 b.bridge.mac) b
    then region_row b.name (bridge_row b.bridge) (table_in v.settings.tables b.name) (names_in region_ids (bridge_id 0 0 b.bridge.mac) v.bridges) ∷ []
    else []

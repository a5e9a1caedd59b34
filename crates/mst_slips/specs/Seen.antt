-- What is seen of regions in a view.
use Rattle.std.specs.Prelude.{ℕ, ◌==◌, ◌&&◌, ◌++◌, not, Bool, false, List, [], ◌∷◌, length, map, filter, nat_eq, if◌then◌else◌}
use Rattle.std.specs.List.{flat_map}
use Rattle.std.specs.Map.{lookup}
use Rattle.std.specs.Option.{option_map_or}
use Rattle.mst_ids.specs.Identifiers.{bridge_id}
use Rattle.mst_rows.specs.Rows.{Row}
use Rattle.mst_tables.specs.ByTree.{table_in}
use Rattle.mst_tables.specs.Seen.{bridge_row}
use Rattle.mst_view.specs.Aggregation.{same_name}
use Rattle.mst_view.specs.Viewed.{Viewed, named_bridge}
use Rattle.mst_view.specs.declared.in_view.BridgeInView.{BridgeInView}
use Rattle.mst_config.specs.Shared.{same_in}
use Rattle.mst_slips.specs.Near.{are_near}
use Rattle.mst_slips.specs.Regions.{is_named, region_row}
use Rattle.mst_slips.specs.Tables.{is_namesake, table_row, vids_apart}

-- a bridge is the first of its region, whose identifier has its MAC then
abbrev pub seen_first : List (ℕ × ℕ) → BridgeInView → Bool
seen_first classes b = option_map_or (λ region. region == bridge_id 0 0 b.bridge.mac) (lookup (nat_eq b.bridge.number) classes) false

abbrev pub seen_named_first : List (ℕ × ℕ) → BridgeInView → Bool
seen_named_first classes b = seen_first classes b && is_named (bridge_row b.bridge)

-- two are nearly one
abbrev pub seen_nearly_one : Viewed → BridgeInView → BridgeInView → Bool
seen_nearly_one v a b =
    are_near a.bridge.conf_name b.bridge.conf_name && a.bridge.revision == b.bridge.revision && same_name (table_in v.settings.tables a.name) (table_in v.settings.tables b.name)

-- the bridges of a bridge's region
abbrev pub seen_with : Viewed → List (ℕ × ℕ) → BridgeInView → List (List ℕ)
seen_with v classes a = map (λ b. b.name) (filter (λ b. same_in classes a.bridge.number b.bridge.number) v.bridges)

-- the row of two regions
abbrev pub seen_row : Viewed → List (ℕ × ℕ) → BridgeInView → BridgeInView → Row
seen_row v classes a b = region_row a.bridge.conf_name (seen_with v classes a) b.bridge.conf_name (seen_with v classes b)

abbrev pub seen_two : Viewed → List (ℕ × ℕ) → BridgeInView → BridgeInView → List Row
seen_two v classes a b = if seen_nearly_one v a b then seen_row v classes a b ∷ [] else []

-- the rows of each two
abbrev pub seen_each_two : Viewed → List (ℕ × ℕ) → List BridgeInView → List Row
seen_each_two v classes [] = []
seen_each_two v classes (a ∷ behind) = flat_map (seen_two v classes a) behind ++ seen_each_two v classes behind

-- a bridge is the only one of its region
abbrev pub seen_alone : Viewed → List (ℕ × ℕ) → BridgeInView → Bool
seen_alone v classes a = length (seen_with v classes a) == 1

abbrev pub seen_odd : Viewed → List (ℕ × ℕ) → BridgeInView → BridgeInView → Bool
seen_odd v classes a b = seen_alone v classes a && not (seen_alone v classes b)

-- the row of a bridge whose table differs from another one's
abbrev pub seen_odd_row : Viewed → BridgeInView → BridgeInView → Row
seen_odd_row v a b = table_row a.bridge.conf_name a.bridge.revision a.name (vids_apart (table_in v.settings.tables a.name) (table_in v.settings.tables b.name))

abbrev pub seen_odd_rows : Viewed → List (ℕ × ℕ) → BridgeInView → BridgeInView → List Row
seen_odd_rows v classes a b = if seen_odd v classes a b then seen_odd_row v a b ∷ [] else []

-- the rows of a first bridge beside the other regions of its name and revision
abbrev pub seen_beside : Viewed → List (ℕ × ℕ) → BridgeInView → List BridgeInView → List Row
seen_beside v classes a [] = []
seen_beside v classes a (b ∷ []) = seen_odd_rows v classes a b
seen_beside v classes a (b ∷ c ∷ others) = []

abbrev pub seen_among : Viewed → List (ℕ × ℕ) → List BridgeInView → BridgeInView → List Row
seen_among v classes firsts a = seen_beside v classes a (filter (λ b. is_namesake (named_bridge a) (named_bridge b)) firsts)

-- The parts of the islands of a VID that came apart.
use Rattle.std.specs.Prelude.{◌≡◌, ℕ, ◌==◌, ◌&&◌, not, Bool, false, List, [], ◌∷◌, Option, map, filter, filter_map, if◌then◌else◌}
use Rattle.std.specs.List.{find, flat_map, list_any, position_from}
use Rattle.std.specs.Option.{option_map, option_map_or, option_and_then}
use Rattle.mst_graph.specs.Islands.{Island}
use Rattle.mst_net.specs.tables.Tables.{Net}
use Rattle.mst_view.specs.Aggregation.{same_name}
use Rattle.mst_vlan.specs.forest.Outcome.{Outcome}
use Rattle.mst_vlan.specs.Reach.{AreIslandsOf}
use Rattle.mst_view.specs.View.{bridge_names}
use Rattle.mst_sweep.specs.declared.parts.Stays.{Stays}

-- the place of a bridge's island among the islands: none where the bridge is in none, as it is off
abbrev pub home : List (Island (List ℕ) (List ℕ)) → List ℕ → Option ℕ
home islands bridge = position_from (λ i. list_any (same_name bridge) i.bridges) 0 islands

-- a bridge that stays, as it is on before and afterwards, with the places of its islands
abbrev pub stays_at : List (Island (List ℕ) (List ℕ)) → List (Island (List ℕ) (List ℕ)) → List ℕ → Option Stays
stays_at olds news bridge = option_and_then (λ before. option_map (λ after. record { name = bridge; before = before; after = after }) (home news bridge)) (home olds bridge)

abbrev pub staying : List (Island (List ℕ) (List ℕ)) → List (Island (List ℕ) (List ℕ)) → List (List ℕ) → List Stays
staying olds news bridges = filter_map (stays_at olds news) bridges

-- two are in one island before, and in one or in two afterwards
abbrev pub are_together : Stays → Stays → Bool
are_together x y = y.before == x.before && y.after == x.after

abbrev pub came_apart : Stays → Stays → Bool
came_apart x y = y.before == x.before && not (y.after == x.after)

-- the part of a bridge: the names of those that are together with it
abbrev pub part : List Stays → Stays → List (List ℕ)
part all x = map (λ y. y.name) (filter (are_together x) all)

-- its first, and whether the bridge is that one
abbrev pub first_of : List Stays → Stays → Option (List ℕ)
first_of all x = option_map (λ y. y.name) (find (are_together x) all)

abbrev pub leads : List Stays → Stays → Bool
leads all x = option_map_or (λ first. same_name first x.name) (first_of all x) false

-- the part of a bridge that is its first, where the island came apart: some bridge was in it and is in another
abbrev pub part_led : List Stays → Stays → List (List (List ℕ))
part_led all x = if list_any (came_apart x) all && leads all x then part all x ∷ [] else []

-- all parts, by their first bridges
abbrev pub all_parts : List Stays → List (List (List ℕ))
all_parts all = flat_map (part_led all) all

-- these are the parts that a VID has of these bridges: none where no two of them came apart
abbrev pub ArePartsOf : List (List ℕ) → Net → Outcome → Net → Outcome → ℕ → List (List (List ℕ)) → Type 0
ArePartsOf bridges a o b p vid parts =
    (olds news : List (Island (List ℕ) (List ℕ))) × AreIslandsOf a o vid olds × AreIslandsOf b p vid news × (parts ≡ all_parts (staying olds news bridges))

-- and of all bridges
abbrev pub AreParts : Net → Outcome → Net → Outcome → ℕ → List (List (List ℕ)) → Type 0
AreParts a o b p vid parts = ArePartsOf (bridge_names a) a o b p vid parts

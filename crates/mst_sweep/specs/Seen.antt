-- What is seen of a failure in two views with their forests, under the numbers of records.
use Rattle.std.specs.Prelude.{ℕ, ◌==◌, ◌&&◌, Bool, false, List, Option, None, Some, nat_eq}
use Rattle.std.specs.List.{list_any, position_from}
use Rattle.std.specs.Map.{lookup}
use Rattle.std.specs.Option.{option_map, option_map_or, option_and_then}
use Rattle.mst_view.specs.Viewed.{Viewed}
use Rattle.mst_view.specs.declared.in_view.PortInView.{PortInView}
use Rattle.mst_vlan.specs.forest.Forest.{Forest}
use Rattle.mst_vlan.specs.roles.SeenRoles.{seen_role}
use Rattle.mst_vlan.specs.declared.island.Island.{Island}
use Rattle.mst_facts.specs.declared.both.Both.{Both}
use Rattle.mst_facts.specs.Named.{seen_root}
use Rattle.mst_sweep.specs.declared.with_both.Homes.{Homes}
use Rattle.mst_sweep.specs.declared.with_both.Places.{Places}
use Rattle.mst_sweep.specs.declared.parts.Stays.{Stays}
use Rattle.mst_sweep.specs.Moved.{is_other_root, is_other_role}

-- ---- roots and roles
abbrev pub seen_root_moved : Viewed → Forest → Viewed → Forest → ℕ → Both → Bool
seen_root_moved v f w g tree both = is_other_root (seen_root v f tree both.old.bridge.number) (seen_root w g tree both.new.bridge.number)

abbrev pub seen_port_moved : Viewed → Forest → Viewed → Forest → ℕ → PortInView → PortInView → Bool
seen_port_moved v f w g tree old new = is_other_role (seen_role v f tree old) (seen_role w g tree new)

-- ---- islands
-- the place of the island of the bridge of this number
abbrev pub seen_home : List Island → ℕ → Option ℕ
seen_home islands bridge = position_from (λ i. list_any (nat_eq bridge) i.bridges) 0 islands

-- a bridge that stays, by the places that are kept under the numbers of bridges
abbrev pub seen_stays : List (ℕ × ℕ) → List (ℕ × ℕ) → Both → Option Stays
seen_stays olds news both =
    option_and_then (λ before. option_map (λ after. record { name = both.old.name; before = before; after = after }) (lookup (nat_eq both.new.bridge.number) news)) (lookup (nat_eq both.old.bridge.number) olds)

-- ---- pairs of failures
-- the place of the island of a bridge after a failure alone: one for all where nothing is kept, as it parts no bridges
abbrev pub place_alone : Option (List (ℕ × ℕ)) → ℕ → Option ℕ
place_alone None bridge = Some 0
place_alone (Some homes) bridge = lookup (nat_eq bridge) homes

-- the places of a bridge before, and after either failure alone
abbrev pub places_before : List (ℕ × ℕ) → Option (List (ℕ × ℕ)) → Option (List (ℕ × ℕ)) → ℕ → Option Places
places_before olds first second bridge =
    option_and_then (λ none. option_and_then (λ one. option_map (λ other. record { none = none; first = one; second = other }) (place_alone second bridge)) (place_alone first bridge)) (lookup (nat_eq bridge) olds)

abbrev pub seen_places : Homes → ℕ → Option Places
seen_places homes = places_before homes.none.now.entries (option_map (λ h. h.entries) homes.first.now) (option_map (λ h. h.entries) homes.second.now)

-- two bridges have the same places
abbrev pub same_places : Places → Places → Bool
same_places x y = x.none == y.none && (x.first == y.first && x.second == y.second)

abbrev pub has_places : (ℕ → Option Places) → Places → Both → Bool
has_places places_of wanted both = option_map_or (same_places wanted) (places_of both.old.bridge.number) false

-- a bridge that stays with both failures, by what stands for its places before and by the place of its island afterwards
abbrev pub with_both : (ℕ → Option Places) → List (ℕ × ℕ) → (Places → Option ℕ) → Both → Option Stays
with_both places_of news first_of both =
    option_and_then (λ first. option_map (λ after. record { name = both.old.name; before = first; after = after }) (lookup (nat_eq both.new.bridge.number) news)) (option_and_then first_of (places_of both.old.bridge.number))

-- for them stands where the first of these bridges is that has them
abbrev pub first_at : (ℕ → Option Places) → List Both → Places → Option ℕ
first_at places_of all places = position_from (has_places places_of places) 0 all

abbrev pub seen_with_both : (ℕ → Option Places) → List (ℕ × ℕ) → List Both → Both → Option Stays
seen_with_both places_of news all = with_both places_of news (first_at places_of all)

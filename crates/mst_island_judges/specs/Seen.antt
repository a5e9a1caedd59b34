-- Bridges that are to be apart, as they are seen in a view: those of a list, and others.
use Rattle.std.specs.Prelude.{ℕ, ◌&&◌, ◌||◌, not, Bool, List, Option, Some, None, filter}
use Rattle.std.specs.FinMap as fin
use Rattle.std.specs.List.{list_any}
use Rattle.mst_tables.specs.Seen.{bridge_row}
use Rattle.mst_tables.specs.Tables.{Net}
use Rattle.mst_view.specs.declared.in_view.BridgeInView.{BridgeInView}
use Rattle.mst_policy.specs.Items as policy
use Rattle.mst_policy.specs.declared.item.NameItem.{NameItem}
use Rattle.mst_judged.specs.reasons.sweep.declared.failure.Failure.{Failure}
use Rattle.mst_judged.specs.reasons.Named.{is_named}

-- a bridge is one of the others: those of another list, or where there is none all that aren't of the first
abbrev pub is_other : List Failure → List NameItem → Option (List NameItem) → List ℕ → Bool
is_other lost names None bridge = not (policy.has names bridge)
is_other lost names (Some others) bridge = is_named lost others bridge

-- the others of a network
abbrev pub others_in : Net → List Failure → List NameItem → Option (List NameItem) → List (List ℕ)
others_in net lost names others = filter (is_other lost names others) (fin.keys net.bridges)

-- a bridge is on, and one of the list or of the others
abbrev pub seen_either : List Failure → List NameItem → Option (List NameItem) → BridgeInView → Bool
seen_either lost names others b = (bridge_row b.bridge).is_on && (is_named lost names b.name || is_other lost names others b.name)

-- a part has bridges of both
abbrev pub are_of_both : List Failure → List NameItem → Option (List NameItem) → List (List ℕ) → Bool
are_of_both lost names others part = list_any (is_named lost names) part && list_any (is_other lost names others) part

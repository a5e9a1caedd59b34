-- Bridges of a view by names and identifiers.
use Rattle.std.specs.Prelude.{ℕ, ◌==◌, List, Option, None, map, if◌then◌else◌}
use Rattle.std.specs.List.{find}
use Rattle.std.specs.Option.{option_map, unwrap_or}
use Rattle.mst_tables.specs.Seen.{bridge_row}
use Rattle.mst_forest.specs.outcome.Assignment.{vector_of}
use Rattle.mst_view.specs.Trees.{is_among}
use Rattle.mst_view.specs.Viewed.{Viewed}
use Rattle.mst_view.specs.declared.in_view.BridgeInView.{BridgeInView}
use Rattle.mst_forest.specs.config.Shared.{same_in}
use Rattle.mst_forest.specs.Forest.{Forest, msti_vector}
use Rattle.mst_forest.specs.InUse.{id_in}
use Rattle.mst_forest.specs.Seen.{trees_at}
use Rattle.mst_facts.specs.declared.roots.Identified.{Identified}

-- the first bridge of a bridge's region
abbrev pub seen_found : Viewed → List (ℕ × ℕ) → BridgeInView → Option (List ℕ)
seen_found v classes b = option_map (λ c. c.name) (find (λ c. same_in classes b.bridge.number c.bridge.number) v.bridges)

abbrev pub seen_first : Viewed → List (ℕ × ℕ) → BridgeInView → List ℕ
seen_first v classes b = unwrap_or (seen_found v classes b) b.name

abbrev pub seen_root : Viewed → Forest → ℕ → ℕ → Option ℕ
seen_root v f tree bridge =
    if tree == 0 then option_map (λ v. v.root) (vector_of f.cist bridge) else (if is_among (trees_at v bridge) tree then option_map (λ v. v.regional) (msti_vector f tree bridge) else None)

-- the bridges with their identifiers in a tree, and the name of one by its identifier
abbrev pub seen_named : Viewed → ℕ → List Identified
seen_named v tree = map (λ b. record { id = id_in v.settings tree b.name (bridge_row b.bridge); name = b.name }) v.bridges

abbrev pub name_by : List Identified → ℕ → Option (List ℕ)
name_by named id = option_map (λ n. n.name) (find (λ n. n.id == id) named)

-- The notes on a bridge by what is seen of it.
use Rattle.std.specs.Prelude.{ℕ, ◌==◌, ◌||◌, Bool, List, [], ◌++◌, length, Option, nat_eq, slice_get}
use Rattle.std.specs.List.{flat_map, range_with_len}
use Rattle.std.specs.Option.{option_map_or, option_and_then}
use Rattle.std.specs.Map.{lookup}
use Rattle.mst_ids.specs.Identifiers.{mac_of}
use Rattle.mst_view.specs.Viewed.{Viewed}
use Rattle.mst_view.specs.declared.in_view.BridgeInView.{BridgeInView}
use Rattle.mst_roles.specs.forest.InUse.{is_in_use}
use Rattle.mst_rows.specs.Rows.{Row}
use Rattle.mst_note_text.specs.Places.{depths_at}
use Rattle.mst_note_text.specs.declared.parent.Depths.{Depths}
use Rattle.mst_note_text.specs.NotesText.{hops_note, age_note, external_note, internal_note}
use Rattle.mst_note_text.specs.declared.member.Member.{Member}
use Rattle.mst_note_text.specs.declared.member.RootPath.{RootPath}

-- the bridge that an identifier names, by the places of MACs
abbrev pub bridge_of : List BridgeInView → List (ℕ × ℕ) → ℕ → Option BridgeInView
bridge_of bridges macs id = option_and_then (slice_get bridges) (lookup (nat_eq (mac_of id)) macs)

-- where hops and age bind
abbrev pub seen_hops : List BridgeInView → List (ℕ × ℕ) → ℕ → Member → ℕ → List Row
seen_hops bridges macs tree m depth = option_map_or (λ b. hops_note tree m.name depth b.bridge.max_hops) (bridge_of bridges macs m.regional) []

abbrev pub seen_age : List BridgeInView → List (ℕ × ℕ) → Member → RootPath → ℕ → List Row
seen_age bridges macs m path depth = option_map_or (λ b. age_note m.name depth b.bridge.max_age) (bridge_of bridges macs path.root) []

-- and what is noted in the CIST alone
abbrev pub seen_path : List BridgeInView → List (ℕ × ℕ) → ℕ → Member → ℕ → RootPath → List Row
seen_path bridges macs tree m depth path = seen_age bridges macs m path depth ++ external_note tree m.name path.external

abbrev pub seen_notes : List BridgeInView → List (ℕ × ℕ) → ℕ → Member → Depths → List Row
seen_notes bridges macs tree m d =
    seen_hops bridges macs tree m d.internal ++ option_map_or (seen_path bridges macs tree m d.external) m.root_path [] ++ internal_note tree m.name m.internal

-- of the bridge at a place, and of all
abbrev pub notes_at : List BridgeInView → List (ℕ × ℕ) → ℕ → List Member → List Depths → ℕ → List Row
notes_at bridges macs tree members depths place = option_map_or (λ m. seen_notes bridges macs tree m (depths_at depths place)) (slice_get members place) []

abbrev pub members_notes : List BridgeInView → List (ℕ × ℕ) → ℕ → List Member → List Depths → List Row
members_notes bridges macs tree members depths = flat_map (notes_at bridges macs tree members depths) (range_with_len 0 (length members))

-- the tree is the CIST, or some bridge has it
abbrev pub is_had : Viewed → ℕ → Bool
is_had v tree = tree == 0 || is_in_use v tree

-- The holders of MAC addresses, by those of a view.
use Rattle.std.specs.Prelude.{◌≡◌, ℕ, ◌==◌, List, Option, nat_eq}
use Rattle.std.specs.List.{find}
use Rattle.std.specs.Option.{option_map}
use Rattle.indexmap.specs.IndexMap.{get}
use Rattle.mst_ids.specs.Identifiers.{mac_of}
use Rattle.mst_tables.specs.Tables.{Net}
use Rattle.mst_view.specs.declared.in_view.BridgeInView.{BridgeInView}
use Rattle.mst_text.specs.Holders.{holder}
use Rattle.mst_text.specs.declared.holders.Holders.{Holders}

-- the name of the first of these bridges that has a MAC address
abbrev pub name_with : List BridgeInView → ℕ → Option (List ℕ)
name_with bridges mac = option_map (λ b. b.name) (find (λ b. b.bridge.mac == mac) bridges)

-- what is kept are the holders of a network
abbrev pub AreHolders : Net → Holders → Type 0
AreHolders net holders = (id : ℕ) → get nat_eq holders.names (mac_of id) ≡ holder net id

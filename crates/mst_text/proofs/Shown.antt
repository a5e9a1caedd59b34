-- The rows of a bridge's configuration.
use Rattle.std.proofs.Common.{◌≡◌, ◌∙◌, ℕ, Some, List, [], ◌∷◌, ◌++◌, ap, append_assoc}
use Rattle.std.specs.Option.{option_map, unwrap_or}
use Rattle.std.specs.FinMap as fin
use Rattle.hex.specs.Hex.{encode_lower}
use Rattle.mst_vlan.specs.forest.config.Digest.{digest_of}
use Rattle.mst_tables.specs.After.{table_of}
use Rattle.mst_tables.specs.Tables.{Net, BridgeRow}
use Rattle.mst_rows.specs.Rows.{Row}
use Rattle.mst_text.specs.ConfigurationText.{configuration_row, configuration_rows, mstis_rows, rows_of_bridge}

-- a bridge's row and those of its trees are the rows of its configuration
pub shown : (net : Net) (bridge : List ℕ) (row : BridgeRow) (table : List ℕ) (rows : List Row) → Some row ≡ fin.get net.bridges bridge → table ≡ table_of net bridge
    → (rows ++ configuration_row bridge row (encode_lower (digest_of table)) ∷ []) ++ mstis_rows bridge table ≡ rows ++ unwrap_or (configuration_rows net bridge) []
shown net bridge row table rows is_row is_table =
    append_assoc rows (configuration_row bridge row (encode_lower (digest_of table)) ∷ []) (mstis_rows bridge table)
    ∙ ap (λ t. rows ++ rows_of_bridge bridge row t) is_table
    ∙ ap (λ o. rows ++ unwrap_or (option_map (λ row. rows_of_bridge bridge row (table_of net bridge)) o) []) is_row

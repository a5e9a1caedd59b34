-- The digest of a network, by which one is told from another in one word.
use Rattle.std.specs.Prelude.{ℕ, List, [], ◌∷◌}
use Rattle.hex.specs.Hex.{encode_lower}
use Rattle.md5.specs.Md5.{md5}
use Rattle.mst_kinds.specs.declared.kind.Kind.TheVariants as kind
use Rattle.mst_kinds.specs.declared.summary_line.SummaryLine.TheVariants as line
use Rattle.mst_net.specs.tables.Tables.{Net}
use Rattle.mst_rows.specs.Cells.{word}
use Rattle.mst_rows.specs.Rows.{Row, row_of}
use Rattle.mst_edits.specs.SaveText.{save_text}

-- the MD5 of the text that saves a network, in lower case hexadecimal digits
abbrev pub digest_of : Net → List ℕ
digest_of net = encode_lower (md5 (save_text net))

-- `digest D`, of these digits, and of a network
abbrev pub digits_row : List ℕ → Row
digits_row digits = row_of (kind.Summary line.Digest) (word digits ∷ [])

abbrev pub digest_row : Net → Row
digest_row net = digits_row (digest_of net)

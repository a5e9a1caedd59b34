-- The line that a digest is told in.
use Rattle.std.specs.Prelude.{ℕ, List, [], ◌∷◌, codes}
use Rattle.hex.specs.Hex.{encode_lower}
use Rattle.md5.specs.Md5.{md5}
use Rattle.mst_ids.specs.Words.{line}

-- `digest D`, with the MD5 of a text (RFC 1321) in lower case hexadecimal digits
abbrev pub digest_line : List ℕ → List ℕ
digest_line text = line (codes "digest" ∷ encode_lower (md5 text) ∷ [])

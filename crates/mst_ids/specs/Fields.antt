-- How names are kept: in a place of fixed size, with their length.
use Rattle.std.specs.Prelude.{◌≡◌, ℕ, ◌-◌, ◌≤◌, List, ◌++◌, length, take, replicate, IsTrue}
use Rattle.std.proofs.Common.{ap, sym, ◌∙◌}
use Rattle.mst_ids.specs.declared.name.Name.TheInside.{Inside as NameInside}
use Rattle.mst_ids.specs.declared.conf_name.ConfName.TheInside.{Inside as ConfNameInside}
use Rattle.mst_ids.specs.Texts.{is_name, is_conf_name}

-- a text at the front of a place of this size, and zeros behind it
abbrev pub padded : ℕ → List ℕ → List ℕ
padded size text = text ++ replicate (size - length text) 0

-- the first bytes of a place of this size are a text, and zeros stand behind it
abbrev pub IsPadded : ℕ → List ℕ → ℕ → Type 0
IsPadded size bytes len = (len ≤ size) × (length (take len bytes) ≡ len) × (bytes ≡ take len bytes ++ replicate (size - len) 0)

-- the text in the place, padded again, is the place
padded-take : (size : ℕ) (bytes : List ℕ) (len : ℕ) → IsPadded size bytes len → padded size (take len bytes) ≡ bytes
padded-take size bytes len h = ap (λ n. take len bytes ++ replicate (size - n) 0) h.1 ∙ sym h.2

-- ---- the name of a bridge or a LAN
abbrev pub name_of : NameInside → List ℕ
name_of a = take a.len a.bytes

abbrev pub IsKeptName : NameInside → Type 0
IsKeptName a = IsTrue (is_name (name_of a)) × IsPadded 16 a.bytes a.len

abbrev pub kept_name : List ℕ → NameInside
kept_name text = record { bytes = padded 16 text; len = length text }

pub kept_name-name_of : (a : NameInside) → IsKeptName a → kept_name (name_of a) ≡ a
kept_name-name_of a h i = record { bytes = padded-take 16 a.bytes a.len h.1 i; len = h.1.1 i }

-- ---- the name of a configuration
abbrev pub conf_name_of : ConfNameInside → List ℕ
conf_name_of a = take a.len a.bytes

abbrev pub IsKeptConfName : ConfNameInside → Type 0
IsKeptConfName a = IsTrue (is_conf_name (conf_name_of a)) × IsPadded 32 a.bytes a.len

abbrev pub kept_conf_name : List ℕ → ConfNameInside
kept_conf_name text = record { bytes = padded 32 text; len = length text }

pub kept_conf_name-conf_name_of : (a : ConfNameInside) → IsKeptConfName a → kept_conf_name (conf_name_of a) ≡ a
kept_conf_name-conf_name_of a h i = record { bytes = padded-take 32 a.bytes a.len h.1 i; len = h.1.1 i }

-- How a set of VIDs is kept.
use Rattle.std.specs.Prelude.{◌≡◌, refl, ℕ, ◌^◌, ◌<◌, Bool, true, false, List, length, slice_index}
use Rattle.std.specs.Bool.{beq}
use Rattle.std.specs.Cmp.{booleans_Decides}
use Rattle.std.specs.Cmp.Lexicographic.{pointwise}
use Rattle.std.specs.Hash as fed
use Rattle.std.proofs.Common.{ap}
use Rattle.std.proofs.lemmas.Slice.Eq.{slice_eq-Decides}
use Rattle.mst_ids.specs.declared.vid_set.VidSet.TheInside.{Inside}
use Rattle.mst_ids.specs.Vids.{set_where}
use Rattle.mst_ids.specs.VidBits.{bit_of, words_of, words_of-set_where}

-- the numbers whose bits are set
abbrev pub set_of : Inside → List Bool
set_of a = set_where (bit_of a.words)

-- 64 words, with no bit at the two numbers that are no VIDs
pub record IsKeptSet (a : Inside) : Type 0 where
  pub long : length a.words ≡ 64
  pub fits : (i : ℕ) → slice_index a.words i < 2 ^ 64
  pub first : bit_of a.words 0 ≡ false
  pub last : bit_of a.words 4095 ≡ false

abbrev pub kept_set : List Bool → Inside
kept_set set = record { words = words_of set }

pub kept_set-set_of : (a : Inside) → IsKeptSet a → kept_set (set_of a) ≡ a
kept_set-set_of a h i = record { words = words_of-set_where a.words h.long h.fits i }

-- what a hash is fed of a set: its words
abbrev pub fed_words : List Bool → List (List ℕ)
fed_words set = fed.slice fed.u64 (words_of set)

-- equal sets have the same words
pub same_fed_words : (a b : List Bool) → pointwise beq a b ≡ true → fed_words a ≡ fed_words b
same_fed_words a b e = let same : a ≡ b = (slice_eq-Decides booleans_Decides a b (pointwise beq a b) refl).0 e in ap fed_words same

-- Numbers of pairs of numbers.
use Rattle.std.specs.Prelude.{◌≡◌, ℕ, ◌+◌, ◌*◌, ◌<◌, List, length, slice_index}

-- a number for each pair of a number and one that is below the width
pub record ArePairs (numbers others : List ℕ) (width : ℕ) (keys : List ℕ) : Type 0 where
  pub as_long : length keys ≡ 4094
  pub each : (i : ℕ) → i < 4094 → slice_index keys i ≡ slice_index numbers i * width + slice_index others i
  pub within : (i : ℕ) → slice_index keys i < 16384

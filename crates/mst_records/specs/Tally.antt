-- How many records there are for each key.
use Rattle.std.specs.Prelude.{◌≡◌, ℕ, ◌<◌, Bool, List, Some, refl}
use Rattle.std.specs.Option.{unwrap_or}
use Rattle.std.specs.Map.{lookup}
use Rattle.std.specs.Coded.{Coded, code_by, coded×, coded_ℕ, coded_list}

-- the count by key, where it isn't 0, and for how many more keys there is room
pub record Tallies (K : Type 0) : Type 0 where
  pub counts : List (K × ℕ)
  pub room : ℕ

abbrev pub tallies_code : {K : Type 0} → Coded K → Coded (Tallies K)
tallies_code {K} key = code_by (List (K × ℕ) × ℕ) (coded× (coded_list (coded× key coded_ℕ)) coded_ℕ) (λ t. (t.counts, t.room)) (λ p. record { counts = p.0; room = p.1 }) (λ _. refl)

-- how many there are for a key, 0 where no count is kept
abbrev pub count_in : {K : Type 0} → (K → K → Bool) → Tallies K → K → ℕ
count_in eq tally key = unwrap_or (lookup (eq key) tally.counts) 0

-- no count is kept at 0
abbrev pub AreCounts : {K : Type 0} → (K → K → Bool) → List (K × ℕ) → Type 0
AreCounts {K} eq counts = (key : K) (count : ℕ) → lookup (eq key) counts ≡ Some count → 0 < count

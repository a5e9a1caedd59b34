-- Rows by key, each with a number.
use Rattle.std.specs.Prelude.{◌≡◌, ℕ, Bool, true, List, Some, is_some, refl}
use Rattle.std.specs.Map.{lookup}
use Rattle.std.specs.Coded.{Coded, code_by, coded×, coded_ℕ, coded_list}

-- the rows and their numbers by key, the number that the next row gets, and for how many more there is room
pub record Rows (K R : Type 0) : Type 0 where
  pub rows : List (K × R)
  pub numbers : List (K × ℕ)
  pub next : ℕ
  pub room : ℕ

abbrev pub rows_code : {K R : Type 0} → Coded K → Coded R → Coded (Rows K R)
rows_code {K} {R} key row =
    code_by (List (K × R) × (List (K × ℕ) × (ℕ × ℕ)))
    (coded× (coded_list (coded× key row)) (coded× (coded_list (coded× key coded_ℕ)) (coded× coded_ℕ coded_ℕ)))
    (λ r. (r.rows, (r.numbers, (r.next, r.room)))) (λ p. record { rows = p.0; numbers = p.1.0; next = p.1.1.0; room = p.1.1.1 }) (λ _. refl)

-- each row has a number, and no two rows have the same
pub record IsNumberedBy {K R : Type 0} (eq : K → K → Bool) (r : Rows K R) : Type 0 where
  pub numbered : (k : K) → is_some (lookup (eq k) r.numbers) ≡ is_some (lookup (eq k) r.rows)
  pub differ : (k l : K) (n : ℕ) → lookup (eq k) r.numbers ≡ Some n → lookup (eq l) r.numbers ≡ Some n → eq k l ≡ true

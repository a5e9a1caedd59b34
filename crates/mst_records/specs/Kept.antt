-- How rows are kept.
use Rattle.std.specs.Prelude.{◌≡◌, ℕ, Bool, true, false, List, map, Some}
use Rattle.std.specs.Option.{option_map_or}
use Rattle.std.specs.List.{IsDistinct}
use Rattle.std.specs.Map.{lookup, keys_of}
use Rattle.slab.specs.Slab.{Slab, get}
use Rattle.mst_records.specs.declared.records.Record.{Record}

abbrev pub rows_of : {K R : Type 0} → List (K × Record R) → List (K × R)
rows_of records = map (λ e. (e.0, e.1.row)) records

abbrev pub numbers_of : {K R : Type 0} → List (K × Record R) → List (K × ℕ)
numbers_of records = map (λ e. (e.0, e.1.number)) records

-- under each record's number there is its key, and no key stands twice
pub record IsKept {K R : Type 0} (eq : K → K → Bool) (records : List (K × Record R)) (keys : Slab K) : Type 0 where
  pub numbered : (k : K) (r : Record R) → lookup (eq k) records ≡ Some r → option_map_or (eq k) (get keys r.number) false ≡ true
  pub unique : IsDistinct eq (keys_of records)

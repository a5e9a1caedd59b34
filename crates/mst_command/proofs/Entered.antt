-- The command that was entered, by its name and what was found for it.
use Rattle.std.proofs.Common.{◌≡◌, ℕ, List, Option, Some, None, ap₂, sym, option_map}
use Rattle.std.proofs.lemmas.Option.{none-some, same_Some}
use Rattle.clap.specs.Words.{Row}

abbrev pub entered : List ℕ → List Row → Option (List ℕ × List Row)
entered name rows = Some (name, rows)

abbrev pub both : {A : Type 0} → (A → List ℕ) → (A → List Row) → A → List ℕ × List Row
both name_of rows_of a = (name_of a, rows_of a)

-- what both parts of an optional pair are, the pair is
pub both_parts : {A : Type 0} (name_of : A → List ℕ) (rows_of : A → List Row) (x : Option A) (name : List ℕ) (rows : List Row) → Some name ≡ option_map name_of x
    → Some rows ≡ option_map (λ (p : List ℕ × List Row). p.1) (option_map (both name_of rows_of) x) → option_map (both name_of rows_of) x ≡ entered name rows
both_parts name_of rows_of None name rows named found = absurd (none-some name (sym named))
both_parts name_of rows_of (Some a) name rows named found = ap₂ entered (sym (same_Some name (name_of a) named)) (sym (same_Some rows (rows_of a) found))

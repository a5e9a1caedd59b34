-- A table of options that another is written over, number by number.
use Rattle.std.proofs.Common.{◌≡◌, ℕ, ◌+◌, ◌<◌, List, Option, Some, None, is_some, true, false, refl, sym, ◌∙◌, ap, inl, inr}
use Rattle.std.specs.Map.{keys_of}
use Rattle.mst_topology.specs.Places.{in_map, option_at, flat, HasRoomAt}
use Rattle.mst_topology.specs.Settling.{IsPut}
use Rattle.mst_topology.proofs.Places.{keys_room, write_written}
use Rattle.mst_topology.proofs.Entries.{same_or_other}
use Rattle.mst_topology.proofs.Reserved.{below_other}

-- the numbers below the next have what the other table has
abbrev pub IsOverwritten : {V : Type 0} → (old now other : List (ℕ × Option V)) → ℕ → Type 0
IsOverwritten old now other next = (n : ℕ) → n < next → HasRoomAt old n → option_at now n ≡ option_at other n

module _ {V : Type 0} (old now other : List (ℕ × Option V)) (next : ℕ) (before : IsOverwritten old now other next) where
  pub one_written : (new : List (ℕ × Option V)) (o : Option V) → IsPut (in_map now) next o (in_map new) → o ≡ option_at other next → IsOverwritten old new other (next + 1)
  one_written new o put is n low room = elim (write_written now new next o put n) [
    | inl e ↦ e.1 ∙ is ∙ ap (option_at other) (sym e.0)
    | inr e ↦ e.1 ∙ before n (below_other n next low e.0) room
  ]

  pub one_skipped : keys_of now ≡ keys_of old → is_some (in_map now next) ≡ false → IsOverwritten old now other (next + 1)
  one_skipped keys none n low room = elim (same_or_other n next) [
    | inl e ↦ (let there : HasRoomAt now n = keys_room old now (sym keys) n room in let here : is_some (in_map now n) ≡ false = ap (λ k. is_some (in_map now k)) e ∙ none in let no : true ≡ false = sym there ∙ here in absurd (let f : ⊥ = cc in f))
    | inr e ↦ before n (below_other n next low e) room
  ]

-- where the other has a value there was room: so the table has all that the other has
pub overwritten : {V : Type 0} (old new other : List (ℕ × Option V)) → keys_of new ≡ keys_of old → ((n : ℕ) → HasRoomAt old n → option_at new n ≡ option_at other n)
    → ((n : ℕ) (x : V) → option_at other n ≡ Some x → HasRoomAt old n) → (n : ℕ) → option_at new n ≡ option_at other n
overwritten {V} old new other keys values rooms n = go (in_map new n) refl (option_at other n) refl
  where
    go : (o : Option (Option V)) → in_map new n ≡ o → (u : Option V) → option_at other n ≡ u → option_at new n ≡ option_at other n
    go (Some y) e u f = values n (keys_room new old keys n (ap is_some e))
    go None e None f = ap flat e ∙ sym f
    go None e (Some x) f = values n (rooms n x f)

-- Values that are there, and flags.
use Rattle.std.proofs.Common.{◌≡◌, Bool, true, false, not, Option, Some, None, is_some, refl, sym, true≢false}
use Rattle.std.specs.Bool.{beq}
use Rattle.std.specs.Cmp.{booleans_Decides}

pub found : {X : Type 0} (o : Option X) → is_some o ≡ true → (x : X) × (o ≡ Some x)
found None h = absurd (true≢false (sym h))
found (Some x) h = (x, refl)

pub not_found : {X : Type 0} (o : Option X) → is_some o ≡ false → o ≡ None
not_found None h = refl
not_found (Some x) h = absurd (true≢false h)

pub not_not : (b : Bool) → not b ≡ false → b ≡ true
not_not true h = refl
not_not false h = absurd (true≢false h)

pub same_flag : (a b : Bool) → beq a b ≡ true → a ≡ b
same_flag a b e = (booleans_Decides a b).0 e

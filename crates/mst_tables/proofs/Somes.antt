-- Values that are there, or aren't.
use Rattle.std.proofs.Common.{◌≡◌, Option, Some, None, is_some, sym, ap, true≢false}
use Rattle.std.specs.Option.{unwrap_or}

pub some_is : {X : Type 0} (x y : X) → Some x ≡ Some y → x ≡ y
some_is x y e = ap (λ o. unwrap_or o x) e

pub no_some : {X : Type 0} (x : X) → None ≡ Some x → ⊥
no_some x e = true≢false (ap is_some (sym e))

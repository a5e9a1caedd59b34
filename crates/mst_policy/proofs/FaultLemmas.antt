-- The lesser of the faults of two arguments.
use Rattle.std.proofs.Common.{◌≡◌, Ok, Err, Option, Some, None, refl}
use Rattle.std.specs.Prelude.{Result}
use Rattle.std.specs.Option.{ok_or}
use Rattle.mst_policy.specs.Arguments.{with}
use Rattle.mst_lang.specs.declared.line.Fault.{Fault}
use Rattle.mst_lang.specs.declared.line.Fault.TheVariants.{E01, E02, E03}

-- nothing goes before E02
pub with-bad : {A B : Type 0} (r : Result (A → B) Fault) → with r (Err E02) ≡ Err E02
with-bad (Ok make) = refl
with-bad (Err E01) = refl
with-bad (Err E02) = refl
with-bad (Err E03) = refl

pub bad-with : {A B : Type 0} (r : Result A Fault) → with {A = A} {B = B} (Err E02) r ≡ Err E02
bad-with (Ok a) = refl
bad-with (Err fault) = refl

pub worse-with : {A B : Type 0} (o : Option A) → with {A = A} {B = B} (Err E03) (ok_or o E03) ≡ Err E03
worse-with (Some a) = refl
worse-with None = refl

pub ruleset faults = (with-bad, bad-with, worse-with)

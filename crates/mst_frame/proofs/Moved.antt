-- What holds of two values holds of others that equal them.
use Rattle.std.proofs.Common.{◌≡◌, subst}

pub moved_both : {A B : Type 0} (P : A → B → Type 0) {a c : A} {b d : B} → a ≡ c → b ≡ d → P a b → P c d
moved_both P {a} {c} {b} {d} first second holds = subst (λ x. P x d) first (subst (λ y. P a y) second holds)

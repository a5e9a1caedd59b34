-- The greatest number that passes a test, from one down, and the least, from one up.
use Rattle.std.proofs.Common.{◌≡◌, ◌≢◌, ℕ, zero, suc, ◌+◌, ◌-◌, Bool, true, false, Option, Some, None, refl, ap, ◌∙◌, arith}
use Rattle.std.specs.Prelude.{if◌then◌else◌}
use Rattle.mst_advise.specs.PortPriorities.{least_from}
use Rattle.mst_advise.specs.Priorities.{greatest_upto}

pub greatest_here : (passes : ℕ → Bool) (n : ℕ) → passes n ≡ true → greatest_upto passes n ≡ Some n
unfolding greatest_upto
greatest_here passes zero e = ap (λ b. if b then Some 0 else None) e
greatest_here passes (suc n) e = ap (λ b. if b then Some (suc n) else greatest_upto passes n) e

pub greatest_none : (passes : ℕ → Bool) (n : ℕ) → n ≡ 0 → passes n ≡ false → greatest_upto passes n ≡ None
unfolding greatest_upto
greatest_none passes zero z e = ap (λ b. if◌then◌else◌ {A = Option ℕ} b (Some 0) None) e
greatest_none passes (suc n) z e = absurd (omega arith)

pub greatest_below : (passes : ℕ → Bool) (n : ℕ) → n ≢ 0 → passes n ≡ false → greatest_upto passes n ≡ greatest_upto passes (n - 1)
unfolding greatest_upto
greatest_below passes zero h e = absurd (h refl)
greatest_below passes (suc n) h e =
    let same : n ≡ suc n - 1 = omega arith in ap (λ b. if b then Some (suc n) else greatest_upto passes n) e ∙ ap (greatest_upto passes) same

-- where none passes there is none
pub never_greatest : (passes : ℕ → Bool) → ((n : ℕ) → passes n ≡ false) → (n : ℕ) → greatest_upto passes n ≡ None
unfolding greatest_upto
never_greatest passes never zero = ap (λ b. if◌then◌else◌ {A = Option ℕ} b (Some 0) None) (never 0)
never_greatest passes never (suc n) = ap (λ b. if b then Some (suc n) else greatest_upto passes n) (never (suc n)) ∙ never_greatest passes never n

-- ---- the least
pub least_here : (passes : ℕ → Bool) (n more : ℕ) → passes n ≡ true → least_from passes n more ≡ Some n
unfolding least_from
least_here passes n zero e = ap (λ b. if b then Some n else None) e
least_here passes n (suc more) e = ap (λ b. if b then Some n else least_from passes (suc n) more) e

pub least_none : (passes : ℕ → Bool) (n more : ℕ) → more ≡ 0 → passes n ≡ false → least_from passes n more ≡ None
unfolding least_from
least_none passes n zero z e = ap (λ b. if◌then◌else◌ {A = Option ℕ} b (Some n) None) e
least_none passes n (suc more) z e = absurd (omega arith)

pub least_above : (passes : ℕ → Bool) (n more next fewer : ℕ) → more ≡ fewer + 1 → next ≡ n + 1 → passes n ≡ false → least_from passes n more ≡ least_from passes next fewer
unfolding least_from
least_above passes n zero next fewer z same e = absurd (omega arith)
least_above passes n (suc more) next fewer z same e =
    let up : suc n ≡ next = omega arith in
    let less : more ≡ fewer = omega arith in
    ap (λ b. if b then Some n else least_from passes (suc n) more) e ∙ (λ i. least_from passes (up i) (less i))

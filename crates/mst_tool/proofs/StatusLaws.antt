-- What an exit status says, by cases on what was counted.
use Rattle.std.proofs.Common.{◌≡◌, ◌⊎◌, inl, inr, ℕ, ◌&&◌, Bool, true, false, true≢false, cond, Ok, Err, refl, sym, ap, ◌∙◌, arith, nat_eq}
use Rattle.std.specs.Prelude.{◌↔◌, Result}
use Rattle.std.proofs.lemmas.Bool.{eqb-true}
use Rattle.mst_io.specs.declared.outcome.Outcome.{Outcome}
use Rattle.mst_io.specs.declared.outcome.RunFault.{RunFault}
use Rattle.mst_tool.specs.Run.{status_of}
use Rattle.mst_tool.specs.Status.{IsGood, IsServed}

not_none : (n : ℕ) → nat_eq n 0 ≡ false → n ≡ 0 → ⊥
not_none n some none = true≢false (sym (ap (λ m. nat_eq m 0) none) ∙ some)

-- the status where memory was lacking for no line, none was refused, and nothing differs, or not
abbrev by : Bool → Bool → Bool → ℕ
by none_lacks none_refused none_differs = cond none_lacks (cond (none_refused && none_differs) 0 1) 3

module _ (o : Outcome) where
  good_by : (m r d : Bool) → nat_eq o.memory 0 ≡ m → nat_eq o.refused 0 ≡ r → nat_eq o.differing 0 ≡ d → (by m r d ≡ 0) ↔ ((o.refused ≡ 0) × (o.memory ≡ 0) × (o.differing ≡ 0))
  good_by true true true m r d = (λ e. (eqb-true o.refused 0 r, eqb-true o.memory 0 m, eqb-true o.differing 0 d), λ all. refl)
  good_by true true false m r d = (λ e. omega (arith, e), λ all. absurd (not_none o.differing d all.2))
  good_by true false other m r d = (λ e. omega (arith, e), λ all. absurd (not_none o.refused r all.0))
  good_by false other more m r d = (λ e. omega (arith, e), λ all. absurd (not_none o.memory m all.1))

  unserved_by : (m r d : Bool) → nat_eq o.memory 0 ≡ m → (by m r d ≡ 3) ↔ (o.memory ≡ 0 → ⊥)
  unserved_by true true true m = (λ e. omega (arith, e), λ none. absurd (none (eqb-true o.memory 0 m)))
  unserved_by true true false m = (λ e. omega (arith, e), λ none. absurd (none (eqb-true o.memory 0 m)))
  unserved_by true false other m = (λ e. omega (arith, e), λ none. absurd (none (eqb-true o.memory 0 m)))
  unserved_by false other more m = (λ e. not_none o.memory m, λ none. refl)

others_by : (m r d : Bool) → (by m r d ≡ 0) ⊎ (by m r d ≡ 1) ⊎ (by m r d ≡ 3)
others_by true true true = inl refl
others_by true true false = inr (inl refl)
others_by true false other = inr (inl refl)
others_by false other more = inr (inr refl)

pub good : (ran : Result Outcome RunFault) → (status_of ran ≡ 0) ↔ IsGood ran
good (Err fault) = (λ e. omega (arith, e), λ none. absurd none)
good (Ok o) = good_by o (nat_eq o.memory 0) (nat_eq o.refused 0) (nat_eq o.differing 0) refl refl refl

pub unserved : (ran : Result Outcome RunFault) → (status_of ran ≡ 3) ↔ (IsServed ran → ⊥)
unserved (Err fault) = (λ e none. none, λ none. refl)
unserved (Ok o) = unserved_by o (nat_eq o.memory 0) (nat_eq o.refused 0) (nat_eq o.differing 0) refl

pub others : (ran : Result Outcome RunFault) → (status_of ran ≡ 0) ⊎ (status_of ran ≡ 1) ⊎ (status_of ran ≡ 3)
others (Err fault) = inr (inr refl)
others (Ok o) = others_by (nat_eq o.memory 0) (nat_eq o.refused 0) (nat_eq o.differing 0)

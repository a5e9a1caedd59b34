-- The values of classes of VIDs, one class at a time, and what is told of a group of VIDs by the value of its first.
use Rattle.std.proofs.Common.{◌≡◌, ◌⊎◌, inl, inr, ℕ, zero, suc, ◌+◌, ◌-◌, ◌<◌, ◌≤◌, Bool, true, false, List, [], ◌∷◌, ◌++◌, length, get_or, take, map, Some, refl, sym, ap, subst, ◌∙◌, arith}
use Rattle.std.specs.Prelude.{slice_get}
use Rattle.std.proofs.lemmas.List.{get_or-map, get_or-take, get_or_append_left, get_or-append_right, length-take-le, take_all}
use Rattle.mst_roles.proofs.forest_lemmas.Lists.{no_some, some_is}
use Rattle.mst_judged.specs.Valued.{AreValuesOf, value_at}
use Rattle.mst_reasons.specs.Reasons.{group_reasons}
use Rattle.mst_reasons.specs.declared.reason.Reason.{Reason}

-- ---- a group of VIDs
-- what is told of one that begins with a VID
pub begins : {B : Type 0} (tell : List ℕ → B → List Reason) (value : ℕ → B) (group : List ℕ) (vid : ℕ) → Some vid ≡ slice_get group 0 → group_reasons tell value group ≡ tell group (value vid)
begins tell value [] vid e = absurd (no_some vid (sym e))
begins tell value (v ∷ vs) vid e = ap (λ u. tell (v ∷ vs) (value u)) (some_is v vid (sym e))

-- the value of a VID's class, as it is kept
pub value_read : {B K : Type 0} (none : B) (view : K → B) (numbers : List ℕ) (kept : List K) (vid n : ℕ) (k : K) → n ≡ get_or numbers (vid - 1) 0 → n < length kept → k ≡ get_or kept n k → value_at none numbers (map view kept) vid ≡ view k
value_read none view numbers kept vid n k e l is = ap (λ i. get_or (map view kept) i none) (sym e) ∙ get_or-map view kept n k none l ∙ ap view (sym is)

-- ---- one more class
below_or_last : (k i : ℕ) → k < i + 1 → (k < i) ⊎ (k ≡ i)
below_or_last zero zero l = inr refl
below_or_last zero (suc i) l = inl (omega arith)
below_or_last (suc k) zero l = absurd (omega arith)
below_or_last (suc k) (suc i) l = elim (below_or_last k i (omega arith)) [ inl m ↦ inl (omega arith) | inr e ↦ inr (ap suc e) ]

module _ {B : Type 0} (none : B) (Has : ℕ → B → Type 0) (firsts : List ℕ) (flags : List Bool) where
  pub values_more : (i : ℕ) (values : List B) (value : B) → i < length firsts → length values ≡ i → (get_or flags i false ≡ true → Has (get_or firsts i 0 + 1) value)
      → AreValuesOf none Has (take i firsts) flags values → AreValuesOf none Has (take (i + 1) firsts) flags (values ++ value ∷ [])
  values_more i values value l long has are class below flag =
      let taken : length (take (i + 1) firsts) ≡ i + 1 = length-take-le (i + 1) firsts (omega arith) in
      let low : class < i + 1 = omega arith in
      let first : get_or (take (i + 1) firsts) class 0 ≡ get_or firsts class 0 = get_or-take (i + 1) firsts class 0 low in
      let all : List B = values ++ value ∷ [] in
      elim (below_or_last class i low) [
        | inl m ↦
            let own : get_or (take i firsts) class 0 ≡ get_or firsts class 0 = get_or-take i firsts class 0 m in
            let long_before : length (take i firsts) ≡ i = length-take-le i firsts (omega arith) in
            let kept : get_or all class none ≡ get_or values class none = get_or_append_left values (value ∷ []) none class (omega arith) in
            subst (λ p. Has (p + 1) (get_or all class none)) (own ∙ sym first) (subst (Has (get_or (take i firsts) class 0 + 1)) (sym kept) (are class (omega arith) flag))
        | inr e ↦
            let past : class - i ≡ 0 = omega arith in
            let last : get_or all class none ≡ value = get_or-append_right values (value ∷ []) i class none long (omega arith) ∙ ap (λ k. get_or (value ∷ []) k none) past in
            subst (λ p. Has (p + 1) (get_or all class none)) (ap (λ k. get_or firsts k 0) (sym e) ∙ sym first) (subst (Has (get_or firsts i 0 + 1)) (sym last) (has (subst (λ k. get_or flags k false ≡ true) e flag)))
      ]

  pub values_all : (i : ℕ) (values : List B) → length firsts ≤ i → AreValuesOf none Has (take i firsts) flags values → AreValuesOf none Has firsts flags values
  values_all i values l are = subst (λ fs. AreValuesOf none Has fs flags values) (take_all i firsts l) are

-- What edits one after another make of one record or setting.
use Rattle.std.proofs.Common.{◌≡◌, Bool, true, false, ◌||◌, List, [], ◌∷◌, ◌++◌, refl, sym, ap, ◌∙◌, true≢false}
use Rattle.std.specs.List.{flat_map, AllByRecursion}
use Rattle.std.specs.declared.cmp.Ordering.{Ordering}
use Rattle.std.proofs.lemmas.Bool.{or_parts}
use Rattle.mst_lang.specs.declared.line.Edit.{Edit}
use Rattle.mst_net.proofs.tables_lemmas.Keyed.{IsKeyed, same_keys}
use Rattle.mst_edits.specs.Edits.{when, joined}
use Rattle.mst_edits.proofs.Lists.{holds, Distinct}

module _ {S : Type 0} (step : Edit → S → S) where
  -- the edits in their order
  abbrev pub steps : List Edit → S → S
  steps [] s = s
  steps (e ∷ es) s = steps es (step e s)

  -- edits that leave what there is
  abbrev pub Stays : Edit → Type 0
  Stays e = (s : S) → step e s ≡ s

module _ {S : Type 0} (step : Edit → S → S) where
  pub steps-append : (es fs : List Edit) (s : S) → steps step (es ++ fs) s ≡ steps step fs (steps step es s)
  steps-append [] fs s = refl
  steps-append (e ∷ es) fs s = steps-append es fs (step e s)

  pub stays : (es : List Edit) (s : S) → AllByRecursion (Stays step) es → steps step es s ≡ s
  stays [] s h = refl
  stays (e ∷ es) s h = ap (steps step es) (h.0 s) ∙ stays es s h.1

  pub steps-when : (b : Bool) (e : Edit) (s new : S) → (b ≡ true → step e s ≡ new) → (b ≡ false → s ≡ new) → steps step (when b e) s ≡ new
  steps-when true e s new h i = h refl
  steps-when false e s new h i = i refl

  -- one list after another, with what each leaves
  abbrev pub Through : List (List Edit) → S → S → Type 0
  Through [] s new = s ≡ new
  Through (es ∷ ess) s new = (mid : S) × (steps step es s ≡ mid) × Through ess mid new

  pub steps-joined : (ess : List (List Edit)) (s new : S) → Through ess s new → steps step (joined ess) s ≡ new
  steps-joined [] s new h = h
  steps-joined (es ∷ ess) s new h = steps-append es (joined ess) s ∙ ap (steps step (joined ess)) h.1 ∙ steps-joined ess h.0 new h.2

  -- of the edits of names, those of one name alone count
  module _ {K : Type 0} {E : K → K → Bool} {R : K → K → Ordering} (keyed : IsKeyed E R) (f : K → List Edit) (q : K) (others : (k : K) → E k q ≡ false → AllByRecursion (Stays step) (f k)) where
    pub steps_none : (ks : List K) (s : S) → holds E q ks ≡ false → steps step (flat_map f ks) s ≡ s
    steps_none [] s h = refl
    steps_none (k ∷ ks) s h =
        let both = or_parts (E k q) (holds E q ks) h in
        steps-append (f k) (flat_map f ks) s ∙ ap (steps step (flat_map f ks)) (stays (f k) s (others k both.0)) ∙ steps_none ks s both.1

    pub steps_one : (ks : List K) (s : S) → Distinct E ks → holds E q ks ≡ true → steps step (flat_map f ks) s ≡ steps step (f q) s
    steps_one [] s d h = absurd (true≢false (sym h))
    steps_one (k ∷ ks) s d h = steps-append (f k) (flat_map f ks) s ∙ by (E k q) refl h (λ i t. steps_one ks t d.1 i)
      where
        by : (t : Bool) → E k q ≡ t → (t || holds E q ks) ≡ true → (holds E q ks ≡ true → (u : S) → steps step (flat_map f ks) u ≡ steps step (f q) u) → steps step (flat_map f ks) (steps step (f k) s) ≡ steps step (f q) s
        by true e h rest =
            let same : k ≡ q = same_keys keyed k q e in
            steps_none ks (steps step (f k) s) (ap (λ x. holds E x ks) (sym same) ∙ d.0) ∙ ap (λ x. steps step (f x) s) same
        by false e h rest = ap (steps step (flat_map f ks)) (stays (f k) s (others k e)) ∙ rest h s

-- The names of the bridges of each region, one more name after another.
use Rattle.std.proofs.Common.{◌≡◌, ◌≢◌, ℕ, ◌==◌, Bool, true, false, cond, List, [], ◌∷◌, ◌++◌, Option, Some, None, refl, sym, ap, ◌∙◌, append-nil, eq-eqb, Less, Equal, Greater, ⊎_elim}
use Rattle.std.specs.Prelude.{Vec}
use Rattle.std.specs.declared.cmp.Ordering.{Ordering}
use Rattle.std.specs.Option.{option_map_or}
use Rattle.std.specs.Ordering.{nat_cmp, is_eq}
use Rattle.std.specs.BTreeMap.{BTreeMap, get, is_at}
use Rattle.std.specs.Cmp.{tied_itself}
use Rattle.std.specs.FinMap.{nat_cmp-IsAntisymmetric}
use Rattle.std.specs.declared.alloc.Global.{Global}
use Rattle.std.proofs.lemmas.Bool.{cases_eq, ne_eqb, eqb-true}
use Rattle.std.proofs.lemmas.Cmp.{nat_cmp_total}
use Rattle.mst_text.specs.Members.{kept_for}

-- two numbers compare as equal where they are
compares_equal : (k q : ℕ) → is_eq (nat_cmp k q) ≡ (k == q)
compares_equal k q = ⊎_elim (λ e. ap (λ n. is_eq (nat_cmp n q)) e ∙ ap is_eq (tied_itself nat_cmp_total q) ∙ sym (eq-eqb k q e)) (λ other. apart other (nat_cmp k q) refl ∙ sym (ne_eqb k q other)) (cases_eq k q)
  where
    apart : k ≢ q → (o : Ordering) → nat_cmp k q ≡ o → is_eq o ≡ false
    apart other Less e = refl
    apart other Equal e = absurd (other (nat_cmp-IsAntisymmetric k q e))
    apart other Greater e = refl

-- a region's first name
pub first_kept : (old mid new : BTreeMap ℕ (Vec (List ℕ) Global)) (region : ℕ) (name : List ℕ) (names : Vec (List ℕ) Global)
    → get nat_cmp old region ≡ None → mid ≡ old → ((q : ℕ) → get nat_cmp new q ≡ cond (is_at (nat_cmp region) q) (Some names) (get nat_cmp mid q)) → names.items ≡ name ∷ []
    → (q : ℕ) → kept_for new q ≡ kept_for old q ++ cond (region == q) (name ∷ []) []
first_kept old mid new region name names none same put is q = go (region == q) refl
  where
    items : Option (Vec (List ℕ) Global) → List (List ℕ)
    items o = option_map_or (λ n. n.items) o []

    at : (b : Bool) → (region == q) ≡ b → kept_for new q ≡ items (cond b (Some names) (get nat_cmp old q))
    at b e = ap items (put q ∙ ap (λ t. cond t (Some names) (get nat_cmp mid q)) (compares_equal region q ∙ e) ∙ ap (λ m. cond b (Some names) (get nat_cmp m q)) same)

    go : (b : Bool) → (region == q) ≡ b → kept_for new q ≡ kept_for old q ++ cond b (name ∷ []) []
    go true e = at true e ∙ is ∙ ap (λ o. items o ++ name ∷ []) (sym (ap (get nat_cmp old) (sym (eqb-true region q e)) ∙ none))
    go false e = at false e ∙ sym (append-nil (kept_for old q))

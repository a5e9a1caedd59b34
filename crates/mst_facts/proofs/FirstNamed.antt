-- Bridges by their names, one more at a time.
use Rattle.std.proofs.Common.{◌≡◌, ℕ, ◌+◌, ◌<◌, Bool, true, false, cond, List, [], ◌∷◌, ◌++◌, length, take, get_or, Option, Some, None, is_some, refl, sym, ap, ◌∙◌, true≢false}
use Rattle.std.specs.Cmp.Lexicographic.{bytes_decides}
use Rattle.std.specs.List.{find}
use Rattle.std.specs.Map.{lookup}
use Rattle.std.specs.Option.{option_or}
use Rattle.std.proofs.lemmas.List.{take_more}
use Rattle.std.proofs.lemmas.List.Folds.{find-append}
use Rattle.mst_view.specs.Aggregation.{same_name}
use Rattle.mst_view.specs.declared.in_view.BridgeInView.{BridgeInView}
use Rattle.mst_facts.specs.Both.{AreByName}

-- what stands first, and then what may stand there
abbrev with_one : Option BridgeInView → BridgeInView → Bool → Option BridgeInView
with_one first x b = option_or first (cond b (Some x) None)

module _ (bridges : List BridgeInView) (i : ℕ) (x : BridgeInView) (l : i < length bridges) (is : x ≡ get_or bridges i x) (entries : List (List ℕ × BridgeInView)) (before : AreByName (take i bridges) entries) (q : List ℕ) where
  abbrev first : Option BridgeInView
  first = find (λ y. same_name y.name q) (take i bridges)

  more : find (λ y. same_name y.name q) (take (i + 1) bridges) ≡ with_one first x (same_name x.name q)
  more = ap (find (λ y. same_name y.name q)) (take_more bridges i x l ∙ ap (λ y. take i bridges ++ y ∷ []) (sym is)) ∙ find-append (λ y. same_name y.name q) (take i bridges) (x ∷ [])

  no_other : (old : Option BridgeInView) → old ≡ with_one old x false
  no_other None = refl
  no_other (Some y) = refl

  was_none : (old : Option BridgeInView) → is_some old ≡ false → Some x ≡ with_one old x true
  was_none None e = refl
  was_none (Some y) e = absurd (true≢false e)

  was_some : (old : Option BridgeInView) → is_some old ≡ true → old ≡ with_one old x true
  was_some (Some y) e = refl
  was_some None e = absurd (true≢false (sym e))

  -- no bridge had its name
  pub put : is_some (lookup (same_name x.name) entries) ≡ false → cond (same_name x.name q) (Some x) (lookup (same_name q) entries) ≡ find (λ y. same_name y.name q) (take (i + 1) bridges)
  put none = go (same_name x.name q) refl ∙ sym more
    where
      go : (b : Bool) → same_name x.name q ≡ b → cond b (Some x) (lookup (same_name q) entries) ≡ with_one first x (same_name x.name q)
      go true e =
          let one : x.name ≡ q = (bytes_decides x.name q).0 e in
          was_none first (ap is_some (sym (before q)) ∙ ap (λ n. is_some (lookup (same_name n) entries)) (sym one) ∙ none) ∙ ap (with_one first x) (sym e)
      go false e = before q ∙ no_other first ∙ ap (with_one first x) (sym e)

  -- one had it
  pub kept : is_some (lookup (same_name x.name) entries) ≡ true → lookup (same_name q) entries ≡ find (λ y. same_name y.name q) (take (i + 1) bridges)
  kept some = go (same_name x.name q) refl ∙ sym more
    where
      go : (b : Bool) → same_name x.name q ≡ b → lookup (same_name q) entries ≡ with_one first x (same_name x.name q)
      go true e =
          let one : x.name ≡ q = (bytes_decides x.name q).0 e in
          before q ∙ was_some first (ap is_some (sym (before q)) ∙ ap (λ n. is_some (lookup (same_name n) entries)) (sym one) ∙ some) ∙ ap (with_one first x) (sym e)
      go false e = before q ∙ no_other first ∙ ap (with_one first x) (sym e)

-- Logical ports by their names, one more at a time.
use Rattle.std.proofs.Common.{◌≡◌, ℕ, ◌+◌, ◌<◌, Bool, true, false, cond, List, [], ◌∷◌, ◌++◌, length, take, get_or, Option, Some, None, is_some, refl, sym, ap, ◌∙◌, true≢false}
use Rattle.std.specs.List.{find}
use Rattle.std.specs.Map.{lookup}
use Rattle.std.specs.Option.{option_or}
use Rattle.std.proofs.lemmas.List.{take_more}
use Rattle.std.proofs.lemmas.List.Folds.{find-append}
use Rattle.mst_ids.specs.declared.name.PortName.{PortName}
use Rattle.mst_net.specs.tables.Tables.{port_eq}
use Rattle.mst_view.specs.declared.in_view.PortInView.{PortInView}
use Rattle.mst_roles.proofs.Named.{port_is}
use Rattle.mst_sweeping.specs.Seen.{ArePortsByName}

module _ (ports : List PortInView) (i : ℕ) (x : PortInView) (l : i < length ports) (is : x ≡ get_or ports i x) (entries : List (PortName × PortInView)) (before : ArePortsByName (take i ports) entries) (q : PortName) where
  abbrev first : Option PortInView
  first = find (λ y. port_eq y.name q) (take i ports)

  abbrev with_one : Option PortInView → Bool → Option PortInView
  with_one old b = option_or old (cond b (Some x) None)

  more : find (λ y. port_eq y.name q) (take (i + 1) ports) ≡ with_one first (port_eq x.name q)
  more = ap (find (λ y. port_eq y.name q)) (take_more ports i x l ∙ ap (λ y. take i ports ++ y ∷ []) (sym is)) ∙ find-append (λ y. port_eq y.name q) (take i ports) (x ∷ [])

  no_other : (old : Option PortInView) → old ≡ with_one old false
  no_other None = refl
  no_other (Some y) = refl

  was_none : (old : Option PortInView) → is_some old ≡ false → Some x ≡ with_one old true
  was_none None e = refl
  was_none (Some y) e = absurd (true≢false e)

  was_some : (old : Option PortInView) → is_some old ≡ true → old ≡ with_one old true
  was_some (Some y) e = refl
  was_some None e = absurd (true≢false (sym e))

  -- no port had its name
  pub put : is_some (lookup (port_eq x.name) entries) ≡ false → cond (port_eq x.name q) (Some x) (lookup (port_eq q) entries) ≡ find (λ y. port_eq y.name q) (take (i + 1) ports)
  put none = go (port_eq x.name q) refl ∙ sym more
    where
      go : (b : Bool) → port_eq x.name q ≡ b → cond b (Some x) (lookup (port_eq q) entries) ≡ with_one first (port_eq x.name q)
      go true e =
          let one : x.name ≡ q = port_is x.name q e in
          was_none first (ap is_some (sym (before q)) ∙ ap (λ n. is_some (lookup (port_eq n) entries)) (sym one) ∙ none) ∙ ap (with_one first) (sym e)
      go false e = before q ∙ no_other first ∙ ap (with_one first) (sym e)

  -- one had it
  pub kept : is_some (lookup (port_eq x.name) entries) ≡ true → lookup (port_eq q) entries ≡ find (λ y. port_eq y.name q) (take (i + 1) ports)
  kept some = go (port_eq x.name q) refl ∙ sym more
    where
      go : (b : Bool) → port_eq x.name q ≡ b → lookup (port_eq q) entries ≡ with_one first (port_eq x.name q)
      go true e =
          let one : x.name ≡ q = port_is x.name q e in
          before q ∙ was_some first (ap is_some (sym (before q)) ∙ ap (λ n. is_some (lookup (port_eq n) entries)) (sym one) ∙ some) ∙ ap (with_one first) (sym e)
      go false e = before q ∙ no_other first ∙ ap (with_one first) (sym e)

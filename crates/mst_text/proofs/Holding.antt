-- The holders of MAC addresses, one bridge more at a time, and those of a view by name.
use Rattle.std.proofs.Common.{◌≡◌, ℕ, ◌+◌, ◌<◌, ◌==◌, Bool, true, false, cond, nat_eq, List, [], ◌∷◌, ◌++◌, length, map, take, get_or, Option, Some, None, is_some, refl, sym, ap, ◌∙◌, true≢false}
use Rattle.std.specs.List.{find}
use Rattle.std.specs.Option.{option_map, option_or}
use Rattle.std.specs.FinMap as fin
use Rattle.std.proofs.lemmas.Bool.{eqb-true}
use Rattle.std.proofs.lemmas.List.{take_more}
use Rattle.std.proofs.lemmas.List.Folds.{find-append}
use Rattle.mst_ids.specs.Identifiers.{mac_of}
use Rattle.mst_tables.specs.Tables.{Net, Numbers, BridgeRow}
use Rattle.mst_view.specs.Viewed.{Viewed, IsView, named_bridge}
use Rattle.mst_view.specs.declared.in_view.BridgeInView.{BridgeInView}
use Rattle.mst_text.specs.Held.{name_with}
use Rattle.mst_text.specs.Holders.{holder}

abbrev named : Option BridgeInView → Option (List ℕ)
named = option_map (λ (b : BridgeInView). b.name)

-- what stands first, and then what may stand there
abbrev with_one : Option BridgeInView → BridgeInView → Bool → Option BridgeInView
with_one first x b = option_or first (cond b (Some x) None)

-- ---- one bridge more
module _ (bridges : List BridgeInView) (i : ℕ) (x : BridgeInView) (l : i < length bridges) (is : x ≡ get_or bridges i x) (kept : ℕ → Option (List ℕ)) (before : (mac : ℕ) → kept mac ≡ name_with (take i bridges) mac) (q : ℕ) where
  abbrev first : Option BridgeInView
  first = find (λ y. y.bridge.mac == q) (take i bridges)

  more : name_with (take (i + 1) bridges) q ≡ named (with_one first x (x.bridge.mac == q))
  more = ap named (ap (find (λ (y : BridgeInView). y.bridge.mac == q)) (take_more bridges i x l ∙ ap (λ y. take i bridges ++ y ∷ []) (sym is)) ∙ find-append (λ y. y.bridge.mac == q) (take i bridges) (x ∷ []))

  no_other : (old : Option BridgeInView) → named old ≡ named (with_one old x false)
  no_other None = refl
  no_other (Some y) = refl

  was_none : (old : Option BridgeInView) → is_some (named old) ≡ false → Some x.name ≡ named (with_one old x true)
  was_none None e = refl
  was_none (Some y) e = absurd (true≢false e)

  was_some : (old : Option BridgeInView) → is_some (named old) ≡ true → named old ≡ named (with_one old x true)
  was_some (Some y) e = refl
  was_some None e = absurd (true≢false (sym e))

  -- no bridge had its MAC address
  pub put : is_some (kept x.bridge.mac) ≡ false → cond (nat_eq x.bridge.mac q) (Some x.name) (kept q) ≡ name_with (take (i + 1) bridges) q
  put none = go (x.bridge.mac == q) refl ∙ sym more
    where
      go : (b : Bool) → (x.bridge.mac == q) ≡ b → cond b (Some x.name) (kept q) ≡ named (with_one first x (x.bridge.mac == q))
      go true e =
          let one : x.bridge.mac ≡ q = eqb-true x.bridge.mac q e in
          was_none first (ap is_some (sym (before q)) ∙ ap (λ n. is_some (kept n)) (sym one) ∙ none) ∙ ap (λ b. named (with_one first x b)) (sym e)
      go false e = before q ∙ no_other first ∙ ap (λ b. named (with_one first x b)) (sym e)

  -- one had it
  pub kept_yet : is_some (kept x.bridge.mac) ≡ true → kept q ≡ name_with (take (i + 1) bridges) q
  kept_yet some = go (x.bridge.mac == q) refl ∙ sym more
    where
      go : (b : Bool) → (x.bridge.mac == q) ≡ b → kept q ≡ named (with_one first x (x.bridge.mac == q))
      go true e =
          let one : x.bridge.mac ≡ q = eqb-true x.bridge.mac q e in
          before q ∙ was_some first (ap is_some (sym (before q)) ∙ ap (λ n. is_some (kept n)) (sym one) ∙ some) ∙ ap (λ b. named (with_one first x b)) (sym e)
      go false e = before q ∙ no_other first ∙ ap (λ b. named (with_one first x b)) (sym e)

-- ---- by name
find_changed : {A B : Type 0} (test : B → Bool) (f : A → B) (xs : List A) → find test (map f xs) ≡ option_map f (find (λ x. test (f x)) xs)
find_changed test f [] = refl
find_changed {A} {B} test f (x ∷ xs) = go (test (f x)) (find_changed test f xs)
  where
    go : (b : Bool) → find test (map f xs) ≡ option_map f (find (λ x. test (f x)) xs)
        → cond b (Some (f x)) (find test (map f xs)) ≡ option_map f (cond b (Some x) (find (λ x. test (f x)) xs))
    go true e = refl
    go false e = e

first_named : (o : Option BridgeInView) → named o ≡ option_map (λ (e : List ℕ × BridgeRow). e.0) (option_map named_bridge o)
first_named None = refl
first_named (Some b) = refl

pub holder_seen : (net : Net) (numbers : Numbers) (v : Viewed) → IsView net numbers v → (id : ℕ) → name_with v.bridges (mac_of id) ≡ holder net id
holder_seen net numbers v view id =
    let test : List ℕ × BridgeRow → Bool = λ e. e.1.mac == mac_of id in
    first_named (find (λ b. b.bridge.mac == mac_of id) v.bridges)
    ∙ ap (option_map (λ (e : List ℕ × BridgeRow). e.0)) (sym (find_changed test named_bridge v.bridges) ∙ ap (find test) view.bridges)

-- Where each island is in one place afterwards, there are no parts.
use Rattle.std.proofs.Common.{◌≡◌, ℕ, ◌==◌, ◌+◌, ◌<◌, ◌≤◌, nat_eq, not, Bool, true, false, cond, List, [], ◌∷◌, ◌++◌, length, take, get_or, Option, Some, None, is_some, refl, sym, ap, subst, ◌∙◌, true≢false}
use Rattle.std.specs.List.{AllByRecursion}
use Rattle.std.specs.Option.{option_map_or}
use Rattle.std.proofs.lemmas.Bool.{eqb-true, eq-eqb}
use Rattle.std.proofs.lemmas.List.{take_more, take_all}
use Rattle.mst_vlan.proofs.forest_lemmas.Pieces.{all_append}
use Rattle.mst_graph.specs.Lists.{has_any}
use Rattle.mst_vlan.proofs.forest_lemmas.Entries.{all_weaker}
use Rattle.mst_vlan.proofs.forest_lemmas.Lists.{all_contained, some_is}
use Rattle.mst_sweep.specs.Parts.{all_parts}
use Rattle.mst_sweep.specs.declared.parts.Stays.{Stays}
use Rattle.mst_sweep.proofs.CutApart.{two_apart, both_true, not_true}

-- the place afterwards is kept under that before
abbrev pub IsPlaced : (ℕ → Option ℕ) → Stays → Type 0
IsPlaced places s = places s.before ≡ Some s.after

pub unbroken : (places : ℕ → Option ℕ) (all : List Stays) → AllByRecursion (IsPlaced places) all → all_parts all ≡ []
unbroken places all h = go (all_parts all) refl
  where
    apart : has_any (all_parts all) ≡ true → ⊥
    apart e =
        let r = two_apart all e in
        let x = all_contained (IsPlaced places) all r.0 h r.2 in
        let y = all_contained (IsPlaced places) all r.1 h r.3 in
        let s = both_true (r.1.before == r.0.before) (not (r.1.after == r.0.after)) r.4 in
        let before : r.1.before ≡ r.0.before = eqb-true r.1.before r.0.before s.0 in
        let after : r.1.after ≡ r.0.after = some_is r.1.after r.0.after (sym y ∙ ap places before ∙ x) in
        not_true (r.1.after == r.0.after) s.1 (eq-eqb r.1.after r.0.after after)

    go : (parts : List (List (List ℕ))) → all_parts all ≡ parts → all_parts all ≡ []
    go [] e = e
    go (c ∷ cs) e = absurd (apart (ap has_any e))

-- one more
module _ (all : List Stays) (i : ℕ) (s : Stays) (l : i < length all) (is : s ≡ get_or all i s) (old : ℕ → Option ℕ) (before : AllByRecursion (IsPlaced old) (take i all)) where
  more : (new : ℕ → Option ℕ) → AllByRecursion (IsPlaced new) (take i all) → IsPlaced new s → AllByRecursion (IsPlaced new) (take (i + 1) all)
  more new h one = subst (AllByRecursion (IsPlaced new)) (sym (take_more all i s l ∙ ap (λ y. take i all ++ y ∷ []) (sym is))) (all_append (IsPlaced new) (take i all) (s ∷ []) h (one, tt))

  -- it has a place, and no other one
  pub one_stands : is_some (old s.before) ≡ true → option_map_or (λ after. not (after == s.after)) (old s.before) false ≡ false → AllByRecursion (IsPlaced old) (take (i + 1) all)
  one_stands some stays = more old before (go (old s.before) some stays)
    where
      equal : (b : Bool) → not b ≡ false → b ≡ true
      equal true e = refl
      equal false e = absurd (true≢false e)

      go : (o : Option ℕ) → is_some o ≡ true → option_map_or (λ after. not (after == s.after)) o false ≡ false → o ≡ Some s.after
      go None e f = absurd (true≢false (sym e))
      go (Some x) e f = ap Some (eqb-true x s.after (equal (x == s.after) f))

  -- it had none, and gets one
  pub one_put : (new : ℕ → Option ℕ) → is_some (old s.before) ≡ false → ((q : ℕ) → new q ≡ cond (nat_eq s.before q) (Some s.after) (old q)) → AllByRecursion (IsPlaced new) (take (i + 1) all)
  one_put new none put = more new (all_weaker (IsPlaced old) (IsPlaced new) (λ x h. as_before x h) (take i all) before) (put s.before ∙ ap (λ b. cond b (Some s.after) (old s.before)) (eq-eqb s.before s.before refl))
    where
      as_before : (x : Stays) → IsPlaced old x → IsPlaced new x
      as_before x h = put x.before ∙ go (nat_eq s.before x.before) refl
        where
          go : (b : Bool) → nat_eq s.before x.before ≡ b → cond b (Some s.after) (old x.before) ≡ Some x.after
          go true e = absurd (true≢false (sym (ap is_some h) ∙ ap (λ n. is_some (old n)) (sym (eqb-true s.before x.before e)) ∙ none))
          go false e = h

pub all_placed : (all : List Stays) (i : ℕ) (places : ℕ → Option ℕ) → length all ≤ i → AllByRecursion (IsPlaced places) (take i all) → all_parts all ≡ []
all_placed all i places l h = unbroken places all (subst (AllByRecursion (IsPlaced places)) (take_all i all l) h)

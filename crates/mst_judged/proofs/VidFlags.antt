-- Flags that are set one by one, for the classes of VIDs.
use Rattle.std.proofs.Common.{◌≡◌, inl, inr, ℕ, zero, suc, ◌+◌, ◌-◌, ◌<◌, ◌≤◌, Bool, true, false, List, [], ◌∷◌, ◌++◌, length, take, get_or, set, refl, sym, ap, subst, ◌∙◌, arith}
use Rattle.std.specs.List.{Contains}
use Rattle.std.proofs.lemmas.List.{take_all, take_more}
use Rattle.std.proofs.lemmas.List.Elements.{Contains-push_cases}
use Rattle.mst_reasons.specs.sweep.vlan.classes.Flags.{flag_at}

kept : (flags : List Bool) (class n : ℕ) → get_or flags n false ≡ true → get_or (set flags class true) n false ≡ true
kept [] class n e = e
kept (f ∷ flags) zero zero e = refl
kept (f ∷ flags) zero (suc n) e = e
kept (f ∷ flags) (suc class) zero e = e
kept (f ∷ flags) (suc class) (suc n) e = kept flags class n e

put : (flags : List Bool) (class : ℕ) → class < length flags → get_or (set flags class true) class false ≡ true
put [] class l = absurd (omega arith)
put (f ∷ flags) zero l = refl
put (f ∷ flags) (suc class) l = put flags class (omega arith)

-- these VIDs have flags
abbrev pub AreFlagged : List ℕ → List Bool → List ℕ → Type 0
AreFlagged numbers flags vids = (vid : ℕ) → Contains vids vid → flag_at numbers flags vid ≡ true

pub flags_more : (numbers vids : List ℕ) (i vid : ℕ) → i < length vids → vid ≡ get_or vids i vid → (flags : List Bool) (class : ℕ) → class ≡ get_or numbers (vid - 1) 0 → class < length flags → AreFlagged numbers flags (take i vids)
    → AreFlagged numbers (set flags class true) (take (i + 1) vids)
flags_more numbers vids i vid l is flags class class_is below before v h =
    elim (Contains-push_cases (take i vids) vid v (subst (λ xs. Contains xs v) (take_more vids i vid l ∙ ap (λ y. take i vids ++ y ∷ []) (sym is)) h)) [
      | inl a ↦ kept flags class (get_or numbers (v - 1) 0) (before v a)
      | inr same ↦ subst (λ w. flag_at numbers (set flags class true) w ≡ true) same (subst (λ n. get_or (set flags class true) n false ≡ true) class_is (put flags class below))
    ]

pub flags_all : (numbers vids : List ℕ) (i : ℕ) (flags : List Bool) → length vids ≤ i → AreFlagged numbers flags (take i vids) → AreFlagged numbers flags vids
flags_all numbers vids i flags l are = subst (AreFlagged numbers flags) (take_all i vids l) are

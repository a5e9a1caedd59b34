-- Islands that are found among those that were met, and those that are apart.
use Rattle.std.proofs.Common.{Vec, Global, ◌≡◌, ℕ, ◌+◌, ◌<◌, ◌||◌, Bool, true, false, List, [], ◌∷◌, ◌++◌, length, take, get_or, map, refl, sym, ap, ◌∙◌, append-nil, true≢false}
use Rattle.std.specs.Prelude.{if◌then◌else◌}
use Rattle.std.specs.Borrow.{Bor}
use Rattle.std.specs.Cmp.Lexicographic.{pointwise, nat_list_eq_equiv, lists_equiv}
use Rattle.std.specs.List.{flat_map, list_any}
use Rattle.std.proofs.lemmas.List.{map-append, take_more}
use Rattle.std.proofs.lemmas.List.Concat.{flat_map-append}
use Rattle.std.proofs.lemmas.List.Folds.{list_any-append}
use Rattle.mst_diff.specs.Met.{AreMet}
use Rattle.mst_diff.specs.Reach.{same_names}
use Rattle.mst_diff.specs.Seen.{apart_group}
use Rattle.mst_diff.proofs.SameSides.{names_decide}

or_nothing : (b : Bool) → (b || false) ≡ b
or_nothing true = refl
or_nothing false = refl

names_symm : (x y : List (List ℕ)) → same_names x y ≡ same_names y x
names_symm x y = (lists_equiv nat_list_eq_equiv).symm x y

-- one more island
module _ (groups : List (List (List ℕ))) (keys : List (Bor (List (List ℕ)))) (met : AreMet groups keys) (key : Bor (List (List ℕ))) where
  abbrev found : List (List ℕ) → List (Bor (List (List ℕ))) → Bool
  found group keys = list_any (λ key. same_names group key.now) keys

  among : (group : List (List ℕ)) → list_any (λ other. same_names other group) (groups ++ key.now ∷ []) ≡ (found group keys || same_names key.now group)
  among group =
      list_any-append (λ other. same_names other group) groups (key.now ∷ []) ∙ ap (λ b. list_any (λ other. same_names other group) groups || b) (or_nothing (same_names key.now group))
      ∙ ap (λ b. b || same_names key.now group) (sym (met group))

  known : found key.now keys ≡ true → (group : List (List ℕ)) → found group keys ≡ (found group keys || same_names key.now group)
  known e group = go (same_names key.now group) refl
    where
      go : (b : Bool) → same_names key.now group ≡ b → found group keys ≡ (found group keys || b)
      go false k = sym (or_nothing (found group keys))
      go true k =
          let there : found group keys ≡ true = ap (λ g. found g keys) (sym ((names_decide key.now group).0 k)) ∙ e in
          there ∙ ap (λ b. b || true) (sym there)

  pub met_more : AreMet (groups ++ key.now ∷ []) (if found key.now keys then keys else keys ++ key ∷ [])
  met_more group = go (found key.now keys) refl
    where
      go : (b : Bool) → found key.now keys ≡ b → found group (if b then keys else keys ++ key ∷ []) ≡ list_any (λ other. same_names other group) (groups ++ key.now ∷ [])
      go true e = known e group ∙ sym (among group)
      go false e =
          list_any-append (λ (key : Bor (List (List ℕ))). same_names group key.now) keys (key ∷ []) ∙ ap (λ b. found group keys || b) (or_nothing (same_names group key.now) ∙ names_symm group key.now)
          ∙ sym (among group)

-- ---- islands of which those that are among others are left out
abbrev items : Vec (List ℕ) Global → List (List ℕ)
items group = group.items

pub items_more : (groups : List (Vec (List ℕ) Global)) (i : ℕ) (group : Vec (List ℕ) Global) → i < length groups → group ≡ get_or groups i group → map items (take (i + 1) groups) ≡ map items (take i groups) ++ items group ∷ []
items_more groups i group l is = ap (map items) (take_more groups i group l ∙ ap (λ g. take i groups ++ g ∷ []) (sym is)) ∙ map-append items (take i groups) (group ∷ [])

pub apart_more : (others : List (List (List ℕ))) (groups : List (Vec (List ℕ) Global)) (i : ℕ) (group : Vec (List ℕ) Global) → i < length groups → group ≡ get_or groups i group
    → flat_map (apart_group others) (map items (take (i + 1) groups)) ≡ flat_map (apart_group others) (map items (take i groups)) ++ apart_group others (items group)
apart_more others groups i group l is =
    ap (flat_map (apart_group others)) (items_more groups i group l is) ∙ flat_map-append (apart_group others) (map items (take i groups)) (items group ∷ [])
    ∙ ap (λ l. flat_map (apart_group others) (map items (take i groups)) ++ l) (append-nil (apart_group others (items group)))

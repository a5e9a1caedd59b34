-- Groups by the bodies of numbers.
use Rattle.std.proofs.Common.{◌≡◌, ◌↔◌, ℕ, ◌<◌, Bool, true, not, nat_eq, eq-eqb, List, [], ◌∷◌, ◌++◌, length, get_or, map, sym, ap, subst, ◌∙◌}
use Rattle.std.specs.Cmp.{IsEquivalence}
use Rattle.std.specs.List.{list_any, position_or_len}
use Rattle.std.proofs.lemmas.Bool.{eqb-true, not-false}
use Rattle.std.proofs.lemmas.List.{length-map, get_or-map}
use Rattle.std.proofs.lemmas.List.Elements.{All-push}
use Rattle.std.proofs.lemmas.List.Folds.{list_any_at}
use Rattle.std.proofs.lemmas.List.Sums.{prefix_len_stops}
use Rattle.mst_graph.specs.Adding.{AreKeyed}
use Rattle.mst_graph.specs.Groups.{AreGroups}
use Rattle.mst_graph.specs.Numbers.{AreNumbers, AreBodies, HaveBodies}
use Rattle.mst_graph.proofs.Alike.{alike_groups}
use Rattle.mst_graph.proofs.KeyPlaces.{met_below}

-- the key of a thing: the number of its body
abbrev pub key_by : {T B : Type 0} → (B → B → Bool) → (T → B) → List B → List ℕ → T → ℕ
key_by same body bodies joined x = get_or joined (position_or_len (same (body x)) bodies) 0

module _ {T B : Type 0} (same : B → B → Bool) (laws : IsEquivalence same) (body : T → B) (things : List T) (numbers : List ℕ) (bodies : List B) (joined firsts : List ℕ)
    (are : AreNumbers same bodies joined firsts) (have : HaveBodies same body things numbers bodies) (below : (i : ℕ) → i < length things → get_or numbers i 0 < length bodies) where
  -- things that are the same as one are the same
  both : (x y z : B) → same x y ≡ true → same x z ≡ true → same y z ≡ true
  both x y z e f = sym (laws.congr x y z e) ∙ f

  pub key_at : (i : ℕ) (d : T) → i < length things → key_by same body bodies joined (get_or things i d) ≡ get_or joined (get_or numbers i 0) 0
  key_at i d in_range =
      let x : T = get_or things i d in
      let n : ℕ = get_or numbers i 0 in
      let here : same (body x) (get_or bodies n (body x)) ≡ true = laws.symm (body x) (get_or bodies n (body x)) ∙ have i d (body x) in_range in
      let met : list_any (same (body x)) bodies ≡ true = list_any_at (same (body x)) bodies n (body x) (below i in_range) here in
      let place_below : position_or_len (same (body x)) bodies < length bodies = met_below (same (body x)) bodies met in
      let there : same (body x) (get_or bodies (position_or_len (same (body x)) bodies) (body x)) ≡ true =
      not-false (same (body x) (get_or bodies (position_or_len (same (body x)) bodies) (body x))) (prefix_len_stops (λ b. not (same (body x) b)) bodies (body x) place_below) in
      (are.equal (position_or_len (same (body x)) bodies) n (body x) place_below (below i in_range)).1
      (both (body x) (get_or bodies (position_or_len (same (body x)) bodies) (body x)) (get_or bodies n (body x)) there here)

  alike_at : (x y : T) (i j : ℕ) → i < length things → j < length things → get_or things i x ≡ x → get_or things j y ≡ y
      → (nat_eq (key_by same body bodies joined x) (key_by same body bodies joined y) ≡ true) ↔ (same (body x) (body y) ≡ true)
  alike_at x y i j i_in j_in x_is y_is =
      let n : ℕ = get_or numbers i 0 in
      let m : ℕ = get_or numbers j 0 in
      let key_x : key_by same body bodies joined x ≡ get_or joined n 0 = ap (key_by same body bodies joined) (sym x_is) ∙ key_at i x i_in in
      let key_y : key_by same body bodies joined y ≡ get_or joined m 0 = ap (key_by same body bodies joined) (sym y_is) ∙ key_at j y j_in in
      let of_x : same (get_or bodies n (body x)) (body x) ≡ true = ap (λ z. same (get_or bodies n (body x)) (body z)) (sym x_is) ∙ have i x (body x) i_in in
      let of_y : same (get_or bodies m (body x)) (body y) ≡ true = ap (λ z. same (get_or bodies m (body x)) (body z)) (sym y_is) ∙ have j y (body x) j_in in
      let equal = are.equal n m (body x) (below i i_in) (below j j_in) in (
        λ e. both (get_or bodies n (body x)) (body x) (body y) of_x
            (laws.congr (get_or bodies n (body x)) (get_or bodies m (body x)) (body y)
            (equal.0 (sym key_x ∙ eqb-true (key_by same body bodies joined x) (key_by same body bodies joined y) e ∙ key_y)) ∙ of_y),
        λ s. eq-eqb (key_by same body bodies joined x) (key_by same body bodies joined y)
            (key_x ∙ equal.1 (both (body x) (get_or bodies n (body x)) (get_or bodies m (body x)) (laws.symm (body x) (get_or bodies n (body x)) ∙ of_x)
            (laws.congr (body x) (body y) (get_or bodies m (body x)) s ∙ laws.symm (body y) (get_or bodies m (body x)) ∙ of_y)) ∙ sym key_y),
      )

  -- groups by these keys are groups by bodies
  pub by_bodies : (groups : List (List T)) → AreGroups (λ x y. nat_eq (key_by same body bodies joined x) (key_by same body bodies joined y) ≡ true) things groups
      → AreGroups (λ x y. same (body x) (body y) ≡ true) things groups
  by_bodies groups a =
      alike_groups (λ x y. nat_eq (key_by same body bodies joined x) (key_by same body bodies joined y) ≡ true) (λ x y. same (body x) (body y) ≡ true) things groups
      (λ x y x_in y_in. alike_at x y x_in.0 y_in.0 x_in.1 y_in.1 x_in.2 y_in.2) a

  -- one more thing with its key
  pub key_more : (pairs : List (T × ℕ)) (i : ℕ) (x : T) → i < length things → x ≡ get_or things i x → AreKeyed (key_by same body bodies joined) pairs
      → AreKeyed (key_by same body bodies joined) (pairs ++ (x, get_or joined (get_or numbers i 0) 0) ∷ [])
  key_more pairs i x in_range is keyed =
      All-push (λ (p : T × ℕ). p.1 ≡ key_by same body bodies joined p.0) pairs (x, get_or joined (get_or numbers i 0) 0) keyed
      (sym (key_at i x in_range) ∙ ap (key_by same body bodies joined) (sym is))

-- where equal signatures give equal bodies, a body for each signature tells the body of each thing
pub bodies_by_signature : {T S B : Type 0} (same : S → S → Bool) (alike : B → B → Bool) (signature : T → S) (body : T → B) (things : List T) (numbers firsts : List ℕ) (bodies : List B)
    → ((x y : T) → same (signature x) (signature y) ≡ true → alike (body x) (body y) ≡ true) → AreNumbers same (map signature things) numbers firsts → AreBodies body things firsts bodies
    → HaveBodies alike body things numbers bodies
bodies_by_signature {T} same alike signature body things numbers firsts bodies equal are has i d e below =
    let long : length (map signature things) ≡ length things = length-map things signature in
    let in_range : i < length (map signature things) = subst (λ n. i < n) (sym long) below in
    let n : ℕ = get_or numbers i 0 in
    let n_below : n < length firsts = are.below i in_range in
    let f : ℕ = get_or firsts n 0 in
    let first = are.first n n_below in
    let f_below : f < length things = subst (λ n. f < n) long first.0 in
    let same_keys = (are.equal f i (signature d) first.0 in_range).0 first.1 in
    let same_signatures = subst (λ s. same s (signature (get_or things i d)) ≡ true) (get_or-map signature things f d (signature d) f_below)
    (subst (λ s. same (get_or (map signature things) f (signature d)) s ≡ true) (get_or-map signature things i d (signature d) below) same_keys) in
    subst (λ b. alike b (body (get_or things i d)) ≡ true) (sym (has.of_firsts n d e n_below)) (equal (get_or things f d) (get_or things i d) same_signatures)

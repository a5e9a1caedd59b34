-- The order of paths.
use Rattle.std.proofs.Common.{◌≡◌, ◌≢◌, ◌⊎◌, inl, inr, ℕ, ◌<◌, ◌≤◌, Bool, true, false, cond, not, List, [], ◌∷◌, length, filter, refl, sym, ap, ◌∙◌, subst, true≢false, arith, Less, Equal, Greater}
use Rattle.std.specs.List.{Contains}
use Rattle.std.specs.Ordering.{ordering_reverse}
use Rattle.std.specs.declared.cmp.Ordering.{Ordering}
use Rattle.std.specs.Cmp.{IsTotalOrder, nat_cmp_total, on_total, then_total}
use Rattle.std.specs.Cmp.Lexicographic.{lists_total, nat_list_eq_equiv}
use Rattle.mst_graph.specs.Groups.{StandOnce}
use Rattle.mst_graph.proofs.Members.{cases, here, there, in_none, in_filter}
use Rattle.mst_view.specs.Aggregation.{same_name}
use Rattle.mst_view.proofs.Names.{same_names}
use Rattle.mst_vlan.proofs.forest_lemmas.Views.{ports_total}
use Rattle.mst_path.specs.Paths.{Hop, hop_cmp, path_cmp}

pub hops_total : IsTotalOrder hop_cmp
hops_total = then_total (on_total (λ (h : Hop). h.arriving.name) ports_total) (on_total (λ (h : Hop). h.leaving.name) ports_total)

pub paths_total : IsTotalOrder path_cmp
paths_total = then_total (on_total (λ (hops : List Hop). length hops) nat_cmp_total) (lists_total hops_total)

-- of two things neither of which comes before the other none does
pub level : {A : Type 0} (R : A → A → Ordering) → IsTotalOrder R → (x y : A) → R x y ≢ Greater → R y x ≢ Greater → R x y ≡ Equal
level R total x y n m = go (R x y) (R y x) (total.antisymm x y) n m
  where
    go : (r s : Ordering) → r ≡ ordering_reverse s → r ≢ Greater → s ≢ Greater → r ≡ Equal
    go Less Less e n m = cc
    go Less Equal e n m = cc
    go Less Greater e n m = absurd (m refl)
    go Equal s e n m = refl
    go Greater s e n m = absurd (n refl)

-- the other way round
pub turned : {A : Type 0} (R : A → A → Ordering) → IsTotalOrder R → (x y : A) → R x y ≡ Greater → R y x ≡ Less
turned R total x y e = total.antisymm y x ∙ ap ordering_reverse e

-- what doesn't come behind one that comes before a third
pub before_third : {A : Type 0} (R : A → A → Ordering) → IsTotalOrder R → (x y z : A) → R x y ≡ Less → R y z ≢ Greater → R x z ≢ Greater
before_third R total x y z l n = go (R y z) refl
  where
    less_greater : Less ≡ Greater → ⊥
    less_greater e = cc

    less : (r : Ordering) → r ≡ Less → r ≢ Greater
    less r e f = less_greater (sym e ∙ f)

    go : (r : Ordering) → R y z ≡ r → R x z ≢ Greater
    go Less e = less (R x z) (total.trans x y z l e)
    go Equal e = less (R x z) (total.antisymm x z ∙ ap ordering_reverse (sym (total.congr y z x e)) ∙ sym (total.antisymm x y) ∙ l)
    go Greater e = absurd (n e)

-- ---- as many as there is room for
at_most : (test : List ℕ → Bool) (ys : List (List ℕ)) → length (filter test ys) ≤ length ys
at_most test [] = omega arith
at_most test (y ∷ ys) = go (test y) (at_most test ys)
  where
    go : (b : Bool) → length (filter test ys) ≤ length ys → length (cond b (y ∷ filter test ys) (filter test ys)) ≤ length (y ∷ ys)
    go true l = omega arith
    go false l = omega arith

abbrev off : List ℕ → List ℕ → Bool
off x y = not (same_name x y)

off_itself : (x : List ℕ) → off x x ≡ false
off_itself x = ap not (nat_list_eq_equiv.refl x)

off_other : (x y : List ℕ) → x ≢ y → off x y ≡ true
off_other x y n = go (same_name x y) refl
  where
    go : (b : Bool) → same_name x y ≡ b → not b ≡ true
    go true e = absurd (n (same_names x y e))
    go false e = refl

shorter : (ys : List (List ℕ)) (x : List ℕ) → Contains ys x → length (filter (off x) ys) < length ys
shorter [] x c = absurd (in_none x c)
shorter (y ∷ ys) x c = go (off x y) refl (cases y x ys c) (shorter ys x)
  where
    go : (b : Bool) → off x y ≡ b → (y ≡ x) ⊎ Contains ys x → (Contains ys x → length (filter (off x) ys) < length ys) → length (cond b (y ∷ filter (off x) ys) (filter (off x) ys)) < length (y ∷ ys)
    go true e (inl same) rest = absurd (true≢false (sym e ∙ ap (off x) same ∙ off_itself x))
    go true e (inr k) rest = let a = rest k in omega arith
    go false e k rest = let a = at_most (off x) ys in omega arith

pub room_for : (xs ys : List (List ℕ)) → StandOnce xs → ((x : List ℕ) → Contains xs x → Contains ys x) → length xs ≤ length ys
room_for [] ys once own = omega arith
room_for (x ∷ xs) ys once own =
    let rest : length xs ≤ length (filter (off x) ys) =
    room_for xs (filter (off x) ys) once.1 (λ z c. in_filter (off x) ys z (own z (there x z xs c)) (off_other x z (λ e. once.0 (subst (λ z. Contains xs z) (sym e) c)))) in
    let less = shorter ys x (own x (here x xs)) in
    omega arith

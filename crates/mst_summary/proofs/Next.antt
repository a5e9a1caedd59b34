-- The next bridge after a root is the least of the others.
use Rattle.std.proofs.Common.{◌≡◌, ℕ, ◌≤◌, ◌==◌, Bool, true, false, not, List, [], ◌∷◌, Some, None, refl, sym, ap, subst, ◌∙◌, true≢false, arith}
use Rattle.std.specs.Prelude.{nat_lt, if◌then◌else◌}
use Rattle.std.specs.List.{AllByRecursion, Contains, filter, fold}
use Rattle.std.proofs.lemmas.Bool.Decides.{nat_tests}
use Rattle.mst_graph.proofs.Members.{from_filter, in_filter, in_none}
use Rattle.mst_vlan.proofs.forest_lemmas.Lists.{all_contained, all_there, some_is, no_some}
use Rattle.mst_summary.specs.declared.roots.Follower.{Follower}
use Rattle.mst_summary.specs.Roots.{with_lesser, next_of, IsNext}

-- what is found from a first one on: it is one of them, and none has a lesser identifier
pub record Least (a : Follower) (xs : List Follower) : Type 1 where
  pub it : Follower
  pub is : fold with_lesser (Some a) xs ≡ Some it
  pub among : (P : Follower → Type 0) → AllByRecursion P (a ∷ xs) → P it
  pub below : AllByRecursion (λ f. it.id ≤ f.id) (a ∷ xs)

less_then : (m x a : ℕ) → m ≤ x → nat_lt x a ≡ true → m ≤ a
less_then m x a l e = grind (arith, nat_tests)

less_else : (m x a : ℕ) → m ≤ a → nat_lt x a ≡ false → m ≤ x
less_else m x a l e = grind (arith, nat_tests)

same_least : (m : ℕ) → m ≤ m
same_least m = omega arith

pub least_of : (a : Follower) (xs : List Follower) → Least a xs
least_of a [] = record { it = a; is = refl; among = λ P h. h.0; below = (same_least a.id, tt) }
least_of a (x ∷ xs) = go (nat_lt x.id a.id) refl (least_of x xs) (least_of a xs)
  where
    go : (b : Bool) → nat_lt x.id a.id ≡ b → Least x xs → Least a xs → Least a (x ∷ xs)
    go true e r s = record {
      it = r.it;
      is = ap (λ t. fold with_lesser (if t then Some x else Some a) xs) e ∙ r.is;
      among = λ P h. r.among P h.1;
      below = (less_then r.it.id x.id a.id r.below.0 e, r.below);
    }
    go false e s r = record {
      it = r.it;
      is = ap (λ t. fold with_lesser (if t then Some x else Some a) xs) e ∙ r.is;
      among = λ P h. r.among P (h.0, h.1.1);
      below = (r.below.0, (less_else r.it.id x.id a.id r.below.0 e, r.below.1));
    }

not_so : (b : Bool) → not b ≡ true → b ≡ false
not_so true e = absurd (true≢false (sym e))
not_so false e = refl

module _ (id : ℕ) (all : List Follower) where
  abbrev test : Follower → Bool
  test f = not (f.id == id)

  pub next_is : (next : Follower) → next_of id all ≡ Some next → IsNext id all next
  next_is next e = go (filter test all) refl
    where
      go : (others : List Follower) → filter test all ≡ others → IsNext id all next
      go [] is = absurd (no_some next (sym (ap (fold with_lesser None) is) ∙ e))
      go (x ∷ xs) is =
          let r = least_of x xs in
          let same : r.it ≡ next = some_is r.it next (sym r.is ∙ sym (ap (fold with_lesser None) is) ∙ e) in
          let there : Contains (filter test all) r.it = r.among (Contains (filter test all)) (subst (AllByRecursion (Contains (filter test all))) is (all_there (filter test all))) in
          let whole = from_filter test all r.it there in
          subst (IsNext id all) same record {
            there = whole.0;
            other = not_so (r.it.id == id) whole.1;
            least = λ f h other. all_contained (λ (f : Follower). r.it.id ≤ f.id) (x ∷ xs) f r.below (subst (λ ys. Contains ys f) is (in_filter test all f h (ap not other)));
          }

  pub none_next : next_of id all ≡ None → (f : Follower) → Contains all f → (f.id == id) ≡ true
  none_next e f h = by (f.id == id) refl
    where
      go : (others : List Follower) → filter test all ≡ others → Contains others f → ⊥
      go [] is there = in_none f there
      go (x ∷ xs) is there = no_some (least_of x xs).it (sym e ∙ ap (fold with_lesser None) is ∙ (least_of x xs).is)

      by : (b : Bool) → (f.id == id) ≡ b → (f.id == id) ≡ true
      by true k = k
      by false k = absurd (go (filter test all) refl (in_filter test all f h (ap not k)))

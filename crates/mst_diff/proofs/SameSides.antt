-- Tests of names, of islands and of sides decide whether they are the same.
use Rattle.std.proofs.Common.{◌≡◌, ℕ, ◌&&◌, Bool, List, [], ◌∷◌, map, Vec, Global, refl, ap, sym, ◌∙◌}
use Rattle.std.specs.Bool.{Decides}
use Rattle.std.specs.Cmp.{IsEquivalence}
use Rattle.std.specs.Cmp.Lexicographic.{pointwise, pointwise_decides, bytes_decides, nat_list_eq_equiv, lists_equiv}
use Rattle.std.proofs.lemmas.Bool.{and_parts}
use Rattle.mst_diff.specs.Reach.{same_names, Sides}
use Rattle.mst_diff.specs.Seen.{seen_sides}
use Rattle.mst_diff.specs.declared.sides.Sides.{Sides as KeptSides}

pub names_decide : (x y : List (List ℕ)) → Decides (same_names x y) (x ≡ y)
names_decide = pointwise_decides bytes_decides

groups_decide : (x y : List (List (List ℕ))) → Decides (pointwise same_names x y) (x ≡ y)
groups_decide = pointwise_decides names_decide

abbrev pub same_sides : Sides → Sides → Bool
same_sides s t = pointwise same_names s.old t.old && pointwise same_names s.new t.new

pub sides_decide : (s t : Sides) → Decides (same_sides s t) (s ≡ t)
sides_decide s t = (
  λ e. let parts = and_parts (pointwise same_names s.old t.old) (pointwise same_names s.new t.new) e in
      let old = (groups_decide s.old t.old).0 parts.0 in
      let new = (groups_decide s.new t.new).0 parts.1 in
      λ i. record { old = old i; new = new i },
  λ e. let old = (groups_decide s.old t.old).1 (ap (λ (u : Sides). u.old) e) in
      let new = (groups_decide s.new t.new).1 (ap (λ (u : Sides). u.new) e) in
      λ i. old i && new i,
)

-- things that have equal sides
pub sides_equivalence : {A : Type 0} (sides : A → Sides) → IsEquivalence (λ x y. same_sides (sides x) (sides y))
sides_equivalence sides = record {
  refl = λ x. (sides_decide (sides x) (sides x)).1 refl;
  symm = λ x y i. groups_equivalence.symm (sides x).old (sides y).old i && groups_equivalence.symm (sides x).new (sides y).new i;
  congr = λ x y z e. ap (λ s. same_sides s (sides z)) ((sides_decide (sides x) (sides y)).0 e);
}
  where
    groups_equivalence : IsEquivalence (pointwise same_names)
    groups_equivalence = lists_equiv (lists_equiv nat_list_eq_equiv)

-- a test of elements is one of what is made of them
pub pointwise_map : {A B : Type 0} (E : B → B → Bool) (f : A → B) (xs ys : List A) → pointwise (λ x y. E (f x) (f y)) xs ys ≡ pointwise E (map f xs) (map f ys)
pointwise_map E f [] [] = refl
pointwise_map E f [] (y ∷ ys) = refl
pointwise_map E f (x ∷ xs) [] = refl
pointwise_map E f (x ∷ xs) (y ∷ ys) = ap (λ b. E (f x) (f y) && b) (pointwise_map E f xs ys)

-- sides that are kept
abbrev items : Vec (List ℕ) Global → List (List ℕ)
items group = group.items

abbrev pub same_kept : KeptSides → KeptSides → Bool
same_kept x y = pointwise (λ (g h : Vec (List ℕ) Global). same_names g.items h.items) x.old.items y.old.items && pointwise (λ (g h : Vec (List ℕ) Global). same_names g.items h.items) x.new.items y.new.items

pub kept_decide : (x y : KeptSides) → Decides (same_kept x y) (seen_sides x ≡ seen_sides y)
kept_decide x y = ((λ e. (sides_decide (seen_sides x) (seen_sides y)).0 (sym is ∙ e)), (λ e. is ∙ (sides_decide (seen_sides x) (seen_sides y)).1 e))
  where
    is : same_kept x y ≡ same_sides (seen_sides x) (seen_sides y)
    is = λ i. pointwise_map same_names items x.old.items y.old.items i && pointwise_map same_names items x.new.items y.new.items i

-- What the ports of a tree give by places are the parents of its bridges.
use Rattle.std.proofs.Common.{◌≡◌, ℕ, zero, suc, ◌<◌, ◌≤◌, ◌==◌, Bool, true, false, not, true≢false, nat_eq, List, [], ◌∷◌, length, get_or, Option, Some, None, is_some, refl, sym, ap, ◌∙◌, arith, ◌⊎◌, inl, inr, Less}
use Rattle.std.specs.Prelude.{if◌then◌else◌}
use Rattle.std.specs.List.{find}
use Rattle.std.specs.Option.{option_map, option_and_then}
use Rattle.std.specs.Map.{lookup}
use Rattle.std.proofs.lemmas.Bool.{cases_lt}
use Rattle.mst_ids.specs.Names.{name_cmp}
use Rattle.mst_view.specs.Viewed.{Viewed}
use Rattle.mst_view.specs.declared.in_view.PortInView.{PortInView}
use Rattle.mst_roles.specs.forest.config.Shared.{same_in}
use Rattle.mst_roles.specs.forest.Apart.{Apart}
use Rattle.mst_roles.specs.forest.Forest.{designated_in, Forest}
use Rattle.mst_roles.proofs.forest_lemmas.Lists.{some_is, no_some, all_at}
use Rattle.mst_roles.proofs.forest_lemmas.Views.{names_differ}
use Rattle.mst_note_text.specs.declared.parent.Parent.{Parent}
use Rattle.mst_note_text.specs.SeenTree.{is_root_port, designated_at, parent_by, members_in, name_at}
use Rattle.mst_note_text.specs.SeenTree as seen_tree

-- ---- options in steps
pub then_from : {A B : Type 0} (f : A → Option B) (o : Option A) (y : B) → option_and_then f o ≡ Some y → (x : A) × (o ≡ Some x) × (f x ≡ Some y)
then_from f None y e = absurd (no_some y e)
then_from f (Some x) y e = (x, refl, e)

pub map_from : {A B : Type 0} (f : A → B) (o : Option A) (y : B) → option_map f o ≡ Some y → (x : A) × (o ≡ Some x) × (f x ≡ y)
map_from f None y e = absurd (no_some y e)
map_from f (Some x) y e = (x, refl, some_is (f x) y e)

when_from : {A : Type 0} (b : Bool) (o : Option A) (y : A) → (if b then o else None) ≡ Some y → (b ≡ true) × (o ≡ Some y)
when_from true o y e = (refl, e)
when_from false o y e = absurd (no_some y e)

pub is_there_some : {A : Type 0} (o : Option A) → is_some o ≡ true → (x : A) × (o ≡ Some x)
is_there_some None e = absurd (true≢false (sym e))
is_there_some (Some x) e = (x, refl)

-- ---- what a port gives, in parts
module _ (v : Viewed) (f : Forest) (tree : ℕ) (places : List (ℕ × ℕ)) (q : PortInView) where
  pub record Parts (place : ℕ) (p : Parent) : Type 0 where
    pub is_root : is_root_port v f tree q ≡ true
    pub number : ℕ
    pub designates : designated_in f tree q.lan_number ≡ Some number
    pub port : PortInView
    pub found : find (λ (r : PortInView). number == r.number) v.ports ≡ Some port
    pub here : lookup (nat_eq q.bridge) places ≡ Some place
    pub there : lookup (nat_eq port.bridge) places ≡ Some p.place
    pub between : p.is_between ≡ not (same_in f.regions q.bridge port.bridge)

  pub parts : (place : ℕ) (p : Parent) → seen_tree.given v f tree places q ≡ Some (place, p) → Parts place p
  parts place p e =
      let root = when_from (is_root_port v f tree q) (option_and_then (parent_by f places q) (designated_at v f tree q)) (place, p) e in
      let r = then_from (parent_by f places q) (designated_at v f tree q) (place, p) root.1 in
      let k = then_from (λ k. find (λ (r : PortInView). k == r.number) v.ports) (designated_in f tree q.lan_number) r.0 r.1 in
      let here = then_from (λ n. option_map (λ parent. (n, record { place = parent; is_between = not (same_in f.regions q.bridge r.0.bridge) })) (lookup (nat_eq r.0.bridge) places)) (lookup (nat_eq q.bridge) places) (place, p) r.2 in
      let there = map_from (λ parent. (here.0, record { place = parent; is_between = not (same_in f.regions q.bridge r.0.bridge) })) (lookup (nat_eq r.0.bridge) places) (place, p) here.2 in
      record {
        is_root = root.0;
        number = k.0;
        designates = k.1;
        port = r.0;
        found = k.2;
        here = here.1 ∙ ap (λ (x : ℕ × Parent). Some x.0) there.2;
        there = there.1 ∙ ap (λ (x : ℕ × Parent). Some x.1.place) there.2;
        between = sym (ap (λ (x : ℕ × Parent). x.1.is_between) there.2);
      }

  pub from_parts : (k place parent : ℕ) (r : PortInView) → is_root_port v f tree q ≡ true → designated_in f tree q.lan_number ≡ Some k → find (λ (x : PortInView). k == x.number) v.ports ≡ Some r
      → lookup (nat_eq q.bridge) places ≡ Some place → lookup (nat_eq r.bridge) places ≡ Some parent
      → seen_tree.given v f tree places q ≡ Some (place, record { place = parent; is_between = not (same_in f.regions q.bridge r.bridge) })
  from_parts k place parent r root designates found here there =
      ap (λ b. if b then option_and_then (parent_by f places q) (designated_at v f tree q) else None) root
      ∙ ap (λ o. option_and_then (parent_by f places q) (option_and_then (λ n. find (λ (x : PortInView). n == x.number) v.ports) o)) designates
      ∙ ap (option_and_then (parent_by f places q)) found
      ∙ ap (option_and_then (λ n. option_map (λ x. (n, record { place = x; is_between = not (same_in f.regions q.bridge r.bridge) })) (lookup (nat_eq r.bridge) places))) here
      ∙ ap (option_map (λ x. (place, record { place = x; is_between = not (same_in f.regions q.bridge r.bridge) }))) there

-- ---- two places of a list whose names rise
apart_places : {A : Type 0} (R : A → A → Type 0) (xs : List A) (i j : ℕ) (d : A) → i < j → j < length xs → Apart R xs → R (get_or xs i d) (get_or xs j d)
apart_places R [] i j d l m h = absurd (omega arith)
apart_places R (x ∷ xs) zero zero d l m h = absurd (omega arith)
apart_places R (x ∷ xs) zero (suc j) d l m h = all_at (R x) xs j d (omega arith) h.0
apart_places R (x ∷ xs) (suc i) zero d l m h = absurd (omega arith)
apart_places R (x ∷ xs) (suc i) (suc j) d l m h = apart_places R xs i j d (omega arith) (omega arith) h.1

pub one_place : {A : Type 0} (name : A → List ℕ) (xs : List A) (i j : ℕ) (d : A) → i < length xs → j < length xs → Apart (λ x y. name_cmp (name x) (name y) ≡ Less) xs → name (get_or xs i d) ≡ name (get_or xs j d) → i ≡ j
one_place name xs i j d l m h e = by (cases_lt i j) (cases_lt j i)
  where
    below : i < j → ⊥
    below k = names_differ (name (get_or xs i d)) (name (get_or xs j d)) (apart_places (λ x y. name_cmp (name x) (name y) ≡ Less) xs i j d k m h) e

    above : j < i → ⊥
    above k = names_differ (name (get_or xs j d)) (name (get_or xs i d)) (apart_places (λ x y. name_cmp (name x) (name y) ≡ Less) xs j i d k l h) (sym e)

    by : (i < j) ⊎ (j ≤ i) → (j < i) ⊎ (i ≤ j) → i ≡ j
    by (inl k) b = absurd (below k)
    by (inr k) (inl n) = absurd (above n)
    by (inr k) (inr n) = omega arith

-- Parts don't depend on which numbers tell apart where bridges were before.
use Rattle.std.proofs.Common.{◌≡◌, ℕ, ◌==◌, ◌&&◌, ◌||◌, not, Bool, true, false, cond, List, [], ◌∷◌, ◌++◌, map, Option, Some, None, refl, sym, ap, ◌∙◌}
use Rattle.std.specs.Prelude.{if◌then◌else◌}
use Rattle.std.specs.List.{Contains, cons_option, filter, filter_map, find, flat_map, list_any}
use Rattle.std.specs.Option.{option_and_then, option_map, option_map_or}
use Rattle.mst_graph.proofs.Members.{here, there}
use Rattle.mst_vlan.proofs.forest_lemmas.Lists.{kept_from}
use Rattle.mst_view.specs.Aggregation.{same_name}
use Rattle.mst_sweep.specs.Parts.{all_parts, are_together, came_apart, part_led}
use Rattle.mst_sweep.specs.declared.parts.Stays.{Stays}

-- a bridge with two numbers for where it was, and the place where it is
pub record Twice : Type 0 where
  pub name : List ℕ
  pub one : ℕ
  pub other : ℕ
  pub after : ℕ

-- ---- lists of bridges by one of their numbers
module _ (number : Twice → ℕ) where
  abbrev pub stays : Twice → Stays
  stays z = record { name = z.name; before = number z; after = z.after }

-- two were in one, by any test
abbrev Test : Type 0
Test = Twice → Twice → Bool

abbrev together : Test → Twice → Twice → Bool
together were_one z w = were_one z w && w.after == z.after

abbrev apart : Test → Twice → Twice → Bool
apart were_one z w = were_one z w && not (w.after == z.after)

abbrev led : Test → List Twice → Twice → List (List (List ℕ))
led were_one all z =
    if list_any (apart were_one z) all && option_map_or (λ first. same_name first z.name) (option_map (λ (w : Twice). w.name) (find (together were_one z) all)) false then map (λ (w : Twice). w.name) (filter (together were_one z) all) ∷ [] else []

-- ---- what a mapped list has is what the list has
module _ {A B : Type 0} (f : A → B) where
  any_mapped : (p : B → Bool) (xs : List A) → list_any p (map f xs) ≡ list_any (λ x. p (f x)) xs
  any_mapped p [] = refl
  any_mapped p (x ∷ xs) = ap (λ b. p (f x) || b) (any_mapped p xs)

  found_mapped : {C : Type 0} (name : B → C) (p : B → Bool) (xs : List A) → option_map name (find p (map f xs)) ≡ option_map (λ x. name (f x)) (find (λ x. p (f x)) xs)
  found_mapped name p [] = refl
  found_mapped {C} name p (x ∷ xs) = go (p (f x)) (found_mapped name p xs)
    where
      go : (b : Bool) → option_map name (find p (map f xs)) ≡ option_map (λ x. name (f x)) (find (λ x. p (f x)) xs) → option_map name (cond b (Some (f x)) (find p (map f xs))) ≡ option_map (λ x. name (f x)) (cond b (Some x) (find (λ x. p (f x)) xs))
      go true e = refl
      go false e = e

  kept_mapped : {C : Type 0} (name : B → C) (p : B → Bool) (xs : List A) → map name (filter p (map f xs)) ≡ map (λ x. name (f x)) (filter (λ x. p (f x)) xs)
  kept_mapped name p [] = refl
  kept_mapped {C} name p (x ∷ xs) = go (p (f x)) (kept_mapped name p xs)
    where
      go : (b : Bool) → map name (filter p (map f xs)) ≡ map (λ x. name (f x)) (filter (λ x. p (f x)) xs) → map name (cond b (f x ∷ filter p (map f xs)) (filter p (map f xs))) ≡ map (λ x. name (f x)) (cond b (x ∷ filter (λ x. p (f x)) xs) (filter (λ x. p (f x)) xs))
      go true e = ap (λ l. name (f x) ∷ l) e
      go false e = e

  flat_mapped : {C : Type 0} (g : B → List C) (xs : List A) → flat_map g (map f xs) ≡ flat_map (λ x. g (f x)) xs
  flat_mapped g [] = refl
  flat_mapped g (x ∷ xs) = ap (λ l. g (f x) ++ l) (flat_mapped g xs)

-- ---- tests that agree on what is there
module _ {A : Type 0} (p q : A → Bool) where
  any_agrees : (xs : List A) → ((x : A) → Contains xs x → p x ≡ q x) → list_any p xs ≡ list_any q xs
  any_agrees [] h = refl
  any_agrees (x ∷ xs) h = λ i. h x (here x xs) i || any_agrees xs (λ y c. h y (there x y xs c)) i

  found_agrees : (xs : List A) → ((x : A) → Contains xs x → p x ≡ q x) → find p xs ≡ find q xs
  found_agrees [] h = refl
  found_agrees (x ∷ xs) h = λ i. cond (h x (here x xs) i) (Some x) (found_agrees xs (λ y c. h y (there x y xs c)) i)

  kept_agrees : (xs : List A) → ((x : A) → Contains xs x → p x ≡ q x) → filter p xs ≡ filter q xs
  kept_agrees [] h = refl
  kept_agrees (x ∷ xs) h = λ i. cond (h x (here x xs) i) (x ∷ kept_agrees xs (λ y c. h y (there x y xs c)) i) (kept_agrees xs (λ y c. h y (there x y xs c)) i)

flat_agrees : {A B : Type 0} (f g : A → List B) (xs : List A) → ((x : A) → Contains xs x → f x ≡ g x) → flat_map f xs ≡ flat_map g xs
flat_agrees f g [] h = refl
flat_agrees f g (x ∷ xs) h = λ i. h x (here x xs) i ++ flat_agrees f g xs (λ y c. h y (there x y xs c)) i

-- ---- parts by a test
module _ (number : Twice → ℕ) (all : List Twice) where
  abbrev were_one : Test
  were_one z w = number w == number z

  led_is : (z : Twice) → part_led (map (stays number) all) (stays number z) ≡ led were_one all z
  led_is z =
      let any = any_mapped (stays number) (came_apart (stays number z)) all in
      let first = found_mapped (stays number) (λ (s : Stays). s.name) (are_together (stays number z)) all in
      let names = kept_mapped (stays number) (λ (s : Stays). s.name) (are_together (stays number z)) all in
      λ i. if any i && option_map_or (λ first. same_name first z.name) (first i) false then names i ∷ [] else []

  pub parts_by : all_parts (map (stays number) all) ≡ flat_map (led were_one all) all
  parts_by = flat_mapped (stays number) (part_led (map (stays number) all)) all ∙ flat_agrees (λ z. part_led (map (stays number) all) (stays number z)) (led were_one all) all (λ z h. led_is z)

module _ (r s : Test) (all : List Twice) (agree : (z w : Twice) → Contains all z → Contains all w → r z w ≡ s z w) where
  led_agrees : (z : Twice) → Contains all z → led r all z ≡ led s all z
  led_agrees z h =
      let any = any_agrees (apart r z) (apart s z) all (λ w c. ap (λ b. b && not (w.after == z.after)) (agree z w h c)) in
      let first = found_agrees (together r z) (together s z) all (λ w c. ap (λ b. b && w.after == z.after) (agree z w h c)) in
      let names = kept_agrees (together r z) (together s z) all (λ w c. ap (λ b. b && w.after == z.after) (agree z w h c)) in
      λ i. if any i && option_map_or (λ first. same_name first z.name) (option_map (λ (w : Twice). w.name) (first i)) false then map (λ (w : Twice). w.name) (names i) ∷ [] else []

  pub parts_agree : flat_map (led r all) all ≡ flat_map (led s all) all
  parts_agree = flat_agrees (led r all) (led s all) all led_agrees

-- two numbers that tell the same bridges apart give the same parts
pub relabelled : (all : List Twice) → ((z w : Twice) → Contains all z → Contains all w → (w.one == z.one) ≡ (w.other == z.other)) → all_parts (map (stays (λ z. z.one)) all) ≡ all_parts (map (stays (λ z. z.other)) all)
relabelled all agree =
    parts_by (λ z. z.one) all
    ∙ parts_agree (were_one (λ (z : Twice). z.one) all) (were_one (λ (z : Twice). z.other) all) all agree
    ∙ sym (parts_by (λ z. z.other) all)

-- ---- the bridges of a list that stay, by what numbers them
module _ (after : List ℕ → Option ℕ) where
  abbrev pub stays_by : (List ℕ → Option ℕ) → List ℕ → Option Stays
  stays_by number name = option_and_then (λ before. option_map (λ after. let s : Stays = record { name = name; before = before; after = after } in s) (after name)) (number name)

  module _ (one other : List ℕ → Option ℕ) where
    abbrev twice : List ℕ → Option Twice
    twice name = option_and_then (λ x. option_and_then (λ y. option_map (λ after. record { name = name; one = x; other = y; after = after }) (after name)) (other name)) (one name)

    -- who is there afterwards has both numbers
    abbrev Both : List ℕ → Type 0
    Both name = (at : ℕ) → after name ≡ Some at → ((x : ℕ) × (one name ≡ Some x)) × ((y : ℕ) × (other name ≡ Some y))

    -- and two have one of the first just where they have one of the second
    abbrev Agree : List ℕ → List ℕ → Type 0
    Agree a b = (at at' x x' y y' : ℕ) → after a ≡ Some at → after b ≡ Some at' → one a ≡ Some x → one b ≡ Some x' → other a ≡ Some y → other b ≡ Some y' → (x' == x) ≡ (y' == y)

    twice_is : (name : List ℕ) (z : Twice) → twice name ≡ Some z → (name ≡ z.name) × (one name ≡ Some z.one) × (other name ≡ Some z.other) × (after name ≡ Some z.after)
    twice_is name z e = go (one name) (other name) (after name) e
      where
        go : (x y at : Option ℕ) → option_and_then (λ x. option_and_then (λ y. option_map (λ after. let t : Twice = record { name = name; one = x; other = y; after = after } in t) at) y) x ≡ Some z → (name ≡ z.name) × (x ≡ Some z.one) × (y ≡ Some z.other) × (at ≡ Some z.after)
        go None y at e = cc
        go (Some x) None at e = cc
        go (Some x) (Some y) None e = cc
        go (Some x) (Some y) (Some at) e =
            let same : (let t : Twice = record { name = name; one = x; other = y; after = at } in t) ≡ z = cc in
            (ap (λ (t : Twice). t.name) same, ap (λ (t : Twice). Some t.one) same, ap (λ (t : Twice). Some t.other) same, ap (λ (t : Twice). Some t.after) same)

    one_of : (name : List ℕ) → Both name → stays_by one name ≡ option_map (stays (λ z. z.one)) (twice name)
    one_of name both = go (one name) (other name) (after name) both
      where
        go : (x y at : Option ℕ) → ((k : ℕ) → at ≡ Some k → ((v : ℕ) × (x ≡ Some v)) × ((w : ℕ) × (y ≡ Some w)))
            → option_and_then (λ before. option_map (λ after. let s : Stays = record { name = name; before = before; after = after } in s) at) x
            ≡ option_map (stays (λ z. z.one)) (option_and_then (λ x. option_and_then (λ y. option_map (λ after. let t : Twice = record { name = name; one = x; other = y; after = after } in t) at) y) x)
        go None y at h = refl
        go (Some x) (Some y) None h = refl
        go (Some x) None None h = refl
        go (Some x) (Some y) (Some at) h = refl
        go (Some x) None (Some at) h = let e = (h at refl).1.1 in cc

    other_of : (name : List ℕ) → Both name → stays_by other name ≡ option_map (stays (λ z. z.other)) (twice name)
    other_of name both = go (one name) (other name) (after name) both
      where
        go : (x y at : Option ℕ) → ((k : ℕ) → at ≡ Some k → ((v : ℕ) × (x ≡ Some v)) × ((w : ℕ) × (y ≡ Some w)))
            → option_and_then (λ before. option_map (λ after. let s : Stays = record { name = name; before = before; after = after } in s) at) y
            ≡ option_map (stays (λ z. z.other)) (option_and_then (λ x. option_and_then (λ y. option_map (λ after. let t : Twice = record { name = name; one = x; other = y; after = after } in t) at) y) x)
        go None None at h = refl
        go None (Some y) None h = refl
        go None (Some y) (Some at) h = let e = (h at refl).0.1 in cc
        go (Some x) None at h = refl
        go (Some x) (Some y) None h = refl
        go (Some x) (Some y) (Some at) h = refl

    mapped : (number : Twice → ℕ) (by : List ℕ → Option ℕ) (names : List (List ℕ)) → ((name : List ℕ) → Contains names name → stays_by by name ≡ option_map (stays number) (twice name)) → filter_map (stays_by by) names ≡ map (stays number) (filter_map twice names)
    mapped number by [] h = refl
    mapped number by (name ∷ names) h = go (stays_by by name) (twice name) (h name (here name names)) (mapped number by names (λ n c. h n (there name n names c)))
      where
        go : (s : Option Stays) (t : Option Twice) → s ≡ option_map (stays number) t → filter_map (stays_by by) names ≡ map (stays number) (filter_map twice names) → cons_option s (filter_map (stays_by by) names) ≡ map (stays number) (cons_option t (filter_map twice names))
        go s None e rest = ap (λ s. cons_option s (filter_map (stays_by by) names)) e ∙ rest
        go s (Some z) e rest = ap (λ s. cons_option s (filter_map (stays_by by) names)) e ∙ ap (λ l. stays number z ∷ l) rest

    -- so they have the same parts
    pub parts_same : (names : List (List ℕ)) → ((name : List ℕ) → Contains names name → Both name) → ((a b : List ℕ) → Contains names a → Contains names b → Agree a b)
        → all_parts (filter_map (stays_by one) names) ≡ all_parts (filter_map (stays_by other) names)
    parts_same names both agree =
        ap all_parts (mapped (λ z. z.one) one names (λ name h. one_of name (both name h)))
        ∙ relabelled (filter_map twice names) test
        ∙ sym (ap all_parts (mapped (λ z. z.other) other names (λ name h. other_of name (both name h))))
      where
        test : (z w : Twice) → Contains (filter_map twice names) z → Contains (filter_map twice names) w → (w.one == z.one) ≡ (w.other == z.other)
        test z w h k =
            let a = kept_from twice names z h in
            let b = kept_from twice names w k in
            let x = twice_is a.0 z a.2 in
            let y = twice_is b.0 w b.2 in
            agree a.0 b.0 a.1 b.1 z.after w.after z.one w.one z.other w.other x.3 y.3 x.1 y.1 x.2 y.2

-- There is at most one list of groups.
use Rattle.std.proofs.Common.{◌≡◌, inl, inr, List, ◌∷◌, refl, sym, ap, subst, ◌∙◌}
use Rattle.std.specs.List.{Contains}
use Rattle.mst_graph.specs.Groups.{IsThinned, nothing, kept, left_out, BeginWith, no_groups, one_more, StandOnce, AreGroups}
use Rattle.mst_graph.proofs.Members.{in_none, here, there, cases, in_whole}

-- the same members
abbrev pub Alike : {A : Type 0} → List A → List A → Type 0
Alike {A} xs ys = (x : A) → (Contains xs x → Contains ys x) × (Contains ys x → Contains xs x)

-- with one more that the second list has too
alike_rest : {A : Type 0} (x : A) (xs ys zs : List A) → ((y : A) → Contains xs y → Contains zs y) → (Contains zs x → ⊥)
    → ((y : A) → Contains (x ∷ xs) y → Contains (x ∷ ys) y) → (y : A) → Contains xs y → Contains ys y
alike_rest x xs ys zs within apart both y h = elim (cases x y ys (both y (there x y xs h))) [
  | inl same ↦ absurd (apart (within x (subst (λ z. Contains xs z) (sym same) h)))
  | inr a ↦ a
]

-- a list without repeats is thinned in one way to given members
pub one_thinned : {A : Type 0} {xs ys zs : List A} → StandOnce zs → IsThinned xs zs → IsThinned ys zs → Alike xs ys → xs ≡ ys
one_thinned once nothing nothing alike = refl
one_thinned once (kept {x = x} {xs = xs} {ys = zs} s) (kept {xs = ys} t) alike =
    ap (λ r. x ∷ r) (one_thinned once.1 s t (λ y. (
      alike_rest x xs ys zs (in_whole s) once.0 (λ z. (alike z).0) y,
      alike_rest x ys xs zs (in_whole t) once.0 (λ z. (alike z).1) y,
    )))
one_thinned once (kept {x = x} {xs = xs} s) (left_out t) alike = absurd (once.0 (in_whole t x ((alike x).0 (here x xs))))
one_thinned once (left_out s) (kept {x = x} {xs = ys} t) alike = absurd (once.0 (in_whole s x ((alike x).1 (here x ys))))
one_thinned once (left_out s) (left_out t) alike = one_thinned once.1 s t alike

-- a first thing is in a group
pub first_in : {A : Type 0} {firsts : List A} {groups : List (List A)} → BeginWith firsts groups → (x : A) → Contains firsts x
    → (group : List A) × Contains groups group × Contains group x × ((rest : List A) × (group ≡ x ∷ rest))
first_in no_groups x h = absurd (in_none x h)
first_in (one_more {x = y} {xs = firsts} {rest = rest} {groups = groups} b) x h = elim (cases y x firsts h) [
  | inl same ↦ (y ∷ rest, here (y ∷ rest) groups, subst (λ z. Contains (y ∷ rest) z) same (here y rest), (rest, ap (λ z. z ∷ rest) same))
  | inr a ↦ let r = first_in b x a in (r.0, there (y ∷ rest) r.0 groups r.1, r.2, r.3)
]

-- and a group begins with one
pub has_first : {A : Type 0} {firsts : List A} {groups : List (List A)} → BeginWith firsts groups → (group : List A) → Contains groups group
    → (x : A) × Contains firsts x × Contains group x × ((rest : List A) × (group ≡ x ∷ rest))
has_first no_groups group h = absurd (in_none group h)
has_first (one_more {x = y} {xs = firsts} {rest = rest} {groups = groups} b) group h = elim (cases (y ∷ rest) group groups h) [
  | inl same ↦ (y, here y firsts, subst (λ z. Contains z y) same (here y rest), (rest, sym same))
  | inr a ↦ let r = has_first b group a in (r.0, there y r.0 firsts r.1, r.2, r.3)
]

-- groups by the same first things, of which two that share a thing are one
pub zipped : {A : Type 0} {firsts : List A} {groups others : List (List A)} → BeginWith firsts groups → BeginWith firsts others
    → ((g h : List A) (x : A) → Contains groups g → Contains others h → Contains g x → Contains h x → g ≡ h) → groups ≡ others
zipped no_groups no_groups one = refl
zipped (one_more {x = x} {rest = rest} {groups = groups} b) (one_more {rest = rest'} {groups = others} c) one =
    let head : (x ∷ rest) ≡ (x ∷ rest') = one (x ∷ rest) (x ∷ rest') x (here (x ∷ rest) groups) (here (x ∷ rest') others) (here x rest) (here x rest') in
    let tail : groups ≡ others = zipped b c (λ g h y a d. one g h y (there (x ∷ rest) g groups a) (there (x ∷ rest') h others d)) in
    ap (λ g. g ∷ groups) head ∙ ap (λ gs. (x ∷ rest') ∷ gs) tail

module _ {A : Type 0} (Related : A → A → Type 0) (things : List A) (once : StandOnce things) where
  -- groups of two lists that share a thing
  pub shared : (groups others : List (List A)) → AreGroups Related things groups → AreGroups Related things others
      → (g h : List A) (x : A) → Contains groups g → Contains others h → Contains g x → Contains h x → g ≡ h
  shared groups others a b g h x ing inh xg xh = one_thinned once (a.in_order g ing) (b.in_order h inh) (λ y. (
    λ yg. let y_in : Contains things y = in_whole (a.in_order g ing) y yg in (b.related h x y inh xh y_in).1 ((a.related g x y ing xg y_in).0 yg),
    λ yh. let y_in : Contains things y = in_whole (b.in_order h inh) y yh in (a.related g x y ing xg y_in).1 ((b.related h x y inh xh y_in).0 yh),
  ))

  one_way : (groups others : List (List A)) (a : AreGroups Related things groups) (b : AreGroups Related things others) → (x : A) → Contains a.firsts x → Contains b.firsts x
  one_way groups others a b x h =
      let g = first_in a.begin_with x h in
      let x_in : Contains things x = in_whole (a.in_order g.0 g.1) x g.2 in
      let o = b.each x x_in in
      let f = has_first b.begin_with o.0 o.1 in
      let same : g.0 ≡ o.0 = shared groups others a b g.0 o.0 x g.1 o.1 g.2 o.2 in
      let heads : (x ∷ g.3.0) ≡ (f.0 ∷ f.3.0) = sym g.3.1 ∙ same ∙ f.3.1 in
      let head : x ≡ f.0 = cc in
      subst (λ z. Contains b.firsts z) (sym head) f.1

  pub one_list : (groups others : List (List A)) → AreGroups Related things groups → AreGroups Related things others → groups ≡ others
  one_list groups others a b =
      let firsts : a.firsts ≡ b.firsts = one_thinned once a.by_firsts b.by_firsts (λ x. (one_way groups others a b x, one_way others groups b a x)) in
      zipped (subst (λ fs. BeginWith fs groups) firsts a.begin_with) b.begin_with (shared groups others a b)

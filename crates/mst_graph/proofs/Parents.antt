-- Parents of places: new ones on the way up, and two groups that are joined.
use Rattle.std.proofs.Common.{min, max, ◌≡◌, ◌≢◌, ℕ, ◌<◌, ◌+◌, ◌≤◌, ◌==◌, ◌⊎◌, inl, inr, cond, List, length, map, get_or, set, eq-eqb, refl, sym, ap, subst, ◌∙◌, arith}
use Rattle.std.proofs.lemmas.Bool.{cases_eq, cases_lt}
use Rattle.std.proofs.lemmas.List.{length-set, get_or-set_same, get_or-set_other, length-map, get_or-map}
use Rattle.std.proofs.lemmas.Grind.{same_number_lists}
use Rattle.mst_graph.specs.Labels.{AreParents, HaveLabels, KeepLabels, IsMerged, AreMerged}

pub none_changed : (parents : List ℕ) → AreParents parents → KeepLabels parents parents
none_changed parents are = record { as_long = refl; parents = are; roots = λ place e. e; labels = λ labels have. have }

pub both_changed : (a b c : List ℕ) → KeepLabels a b → KeepLabels b c → KeepLabels a c
both_changed a b c f g = record {
  as_long = g.as_long ∙ f.as_long;
  parents = g.parents;
  roots = λ place e. g.roots place (f.roots place e);
  labels = λ labels have. g.labels labels (f.labels labels have);
}

-- places that are each its own parent
pub own_parents : (parents : List ℕ) → ((place : ℕ) → place < length parents → get_or parents place 0 ≡ place) → AreParents parents
own_parents parents own = λ place below. let e : get_or parents place 0 ≡ place = own place below in omega arith

pub own_labels : (parents : List ℕ) → ((place : ℕ) → place < length parents → get_or parents place 0 ≡ place) → HaveLabels parents parents
own_labels parents own = record { as_long = refl; own = λ place below e. e; follow = λ place below. sym (ap (λ p. get_or parents p 0) (own place below)) }

-- a place gets its parent's parent as parent
module _ (parents : List ℕ) (at : ℕ) (below : at < length parents) (are : AreParents parents) where
  abbrev parent : ℕ
  parent = get_or parents at 0

  abbrev above : ℕ
  above = get_or parents parent 0

  abbrev new : List ℕ
  new = set parents at above

  pub parent_low : parent ≤ at
  parent_low = are at below

  pub parent_below : parent < length parents
  parent_below = let low : parent ≤ at = parent_low in omega arith

  pub above_low : above ≤ parent
  above_low = are parent parent_below

  long : length new ≡ length parents
  long = length-set parents at above

  at_same : get_or new at 0 ≡ above
  at_same = get_or-set_same parents at above 0 below

  at_other : (p : ℕ) → p ≢ at → get_or new p 0 ≡ get_or parents p 0
  at_other p apart = get_or-set_other parents at p above 0 apart

  still : (p : ℕ) → get_or parents p 0 ≡ p → get_or new p 0 ≡ p
  still p e = elim (cases_eq p at) [
    | inl same ↦
        let own : parent ≡ at = ap (λ q. get_or parents q 0) (sym same) ∙ e ∙ same in
        ap (λ q. get_or new q 0) same ∙ at_same ∙ ap (λ q. get_or parents q 0) own ∙ own ∙ sym same
    | inr apart ↦ at_other p apart ∙ e
  ]

  low : (p : ℕ) → p < length new → get_or new p 0 ≤ p
  low p h = elim (cases_eq p at) [
    | inl same ↦
        let a : get_or new p 0 ≡ above = ap (λ q. get_or new q 0) same ∙ at_same in
        let b : above ≤ parent = above_low in
        let c : parent ≤ at = parent_low in
        omega arith
    | inr apart ↦ subst (λ n. n ≤ p) (sym (at_other p apart)) (are p (subst (λ n. p < n) long h))
  ]

  module _ (labels : List ℕ) (have : HaveLabels parents labels) where
    -- the label of the parent's parent
    pub above_label : get_or labels above 0 ≡ get_or labels at 0
    above_label = sym (have.follow at below ∙ have.follow parent parent_below)

    own : (p : ℕ) → p < length parents → get_or new p 0 ≡ p → get_or labels p 0 ≡ p
    own p h e = elim (cases_eq p at) [
      | inl same ↦
          let a : get_or new p 0 ≡ above = ap (λ q. get_or new q 0) same ∙ at_same in
          let b : above ≤ parent = above_low in
          let c : parent ≤ at = parent_low in
          let d : parent ≡ at = omega arith in
          have.own p h (ap (λ q. get_or parents q 0) same ∙ d ∙ sym same)
      | inr apart ↦ have.own p h (sym (at_other p apart) ∙ e)
    ]

    follow : (p : ℕ) → p < length parents → get_or labels p 0 ≡ get_or labels (get_or new p 0) 0
    follow p h = elim (cases_eq p at) [
      | inl same ↦ ap (λ q. get_or labels q 0) same ∙ sym above_label ∙ ap (λ q. get_or labels q 0) (sym (ap (λ q. get_or new q 0) same ∙ at_same))
      | inr apart ↦ have.follow p h ∙ ap (λ q. get_or labels q 0) (sym (at_other p apart))
    ]

    still_have : HaveLabels new labels
    still_have = record {
      as_long = have.as_long ∙ sym long;
      own = λ p h. own p (subst (λ n. p < n) long h);
      follow = λ p h. follow p (subst (λ n. p < n) long h);
    }

    -- its label, where the places before it have theirs as parents
    pub settles : ((p : ℕ) → p < at → get_or parents p 0 ≡ get_or labels p 0) → (p : ℕ) → p < at + 1 → get_or new p 0 ≡ get_or labels p 0
    settles before p h = elim (cases_eq p at) [
      | inl same ↦ ap (λ q. get_or new q 0) same ∙ at_same ∙ last (cases_lt parent at) ∙ ap (λ q. get_or labels q 0) (sym same)
      | inr apart ↦ at_other p apart ∙ before p (omega arith)
    ]
      where
        last : (parent < at) ⊎ (at ≤ parent) → above ≡ get_or labels at 0
        last (inl less) = before parent less ∙ sym (have.follow at below)
        last (inr no_less) =
            let c : parent ≤ at = parent_low in
            let e : parent ≡ at = omega arith in
            ap (λ q. get_or parents q 0) e ∙ e ∙ sym (have.own at below e)

  pub one_up : KeepLabels parents new
  one_up = record { as_long = long; parents = low; roots = still; labels = still_have }

-- the labels of which one gives way
pub after_merge : ℕ → ℕ → List ℕ → List ℕ
after_merge few many labels = map (λ l. cond (l == few) many l) labels

pub merged : (few many : ℕ) (labels : List ℕ) → IsMerged few many labels (after_merge few many labels)
unfolding after_merge
merged few many labels = record {
  as_long = length-map labels (λ l. cond (l == few) many l);
  labels = λ place below. get_or-map (λ l. cond (l == few) many l) labels place 0 0 below;
}

-- the greater of two places that are their own parents gets the other as parent
module _ (parents : List ℕ) (least greatest : ℕ) (below : greatest < length parents) (up : least ≤ greatest) (are : AreParents parents)
    (least_own : get_or parents least 0 ≡ least) (greatest_own : get_or parents greatest 0 ≡ greatest) where
  abbrev joined : List ℕ
  joined = set parents greatest least

  joined_long : length joined ≡ length parents
  joined_long = length-set parents greatest least

  joined_same : get_or joined greatest 0 ≡ least
  joined_same = get_or-set_same parents greatest least 0 below

  joined_other : (p : ℕ) → p ≢ greatest → get_or joined p 0 ≡ get_or parents p 0
  joined_other p apart = get_or-set_other parents greatest p least 0 apart

  pub joined_parents : AreParents joined
  joined_parents p h = elim (cases_eq p greatest) [
    | inl same ↦ let a : get_or joined p 0 ≡ least = ap (λ q. get_or joined q 0) same ∙ joined_same in omega arith
    | inr apart ↦ subst (λ n. n ≤ p) (sym (joined_other p apart)) (are p (subst (λ n. p < n) joined_long h))
  ]

  module _ (labels : List ℕ) (have : HaveLabels parents labels) where
    pub after : List ℕ
    after = after_merge greatest least labels

    abbrev becomes : ℕ → ℕ
    becomes l = cond (l == greatest) least l

    pub is_merged : IsMerged greatest least labels after
    unfolding after
    is_merged = merged greatest least labels

    after_at : (p : ℕ) → p < length parents → get_or after p 0 ≡ becomes (get_or labels p 0)
    after_at p h = is_merged.labels p (subst (λ n. p < n) (sym have.as_long) h)

    least_label : get_or labels least 0 ≡ least
    least_label = have.own least (omega arith) least_own

    greatest_label : get_or labels greatest 0 ≡ greatest
    greatest_label = have.own greatest below greatest_own

    greatest_becomes : becomes greatest ≡ least
    greatest_becomes = ap (λ b. cond b least greatest) (eq-eqb greatest greatest refl)

    least_becomes : becomes least ≡ least
    least_becomes = grind arith

    other_becomes : (l : ℕ) → l ≢ greatest → becomes l ≡ l
    other_becomes l apart = grind arith

    joined_own : (p : ℕ) → p < length parents → get_or joined p 0 ≡ p → get_or after p 0 ≡ p
    joined_own p h e = elim (cases_eq p greatest) [
      | inl same ↦
          let a : get_or joined p 0 ≡ least = ap (λ q. get_or joined q 0) same ∙ joined_same in
          after_at p h ∙ ap becomes (ap (λ q. get_or labels q 0) same ∙ greatest_label) ∙ greatest_becomes ∙ sym a ∙ e
      | inr apart ↦
          let l : get_or labels p 0 ≡ p = have.own p h (sym (joined_other p apart) ∙ e) in
          after_at p h ∙ ap becomes l ∙ other_becomes p apart
    ]

    joined_follow : (p : ℕ) → p < length parents → get_or after p 0 ≡ get_or after (get_or joined p 0) 0
    joined_follow p h = elim (cases_eq p greatest) [
      | inl same ↦
          let a : get_or joined p 0 ≡ least = ap (λ q. get_or joined q 0) same ∙ joined_same in
          after_at p h ∙ ap becomes (ap (λ q. get_or labels q 0) same ∙ greatest_label) ∙ greatest_becomes
          ∙ sym (ap (λ q. get_or after q 0) a ∙ after_at least (omega arith) ∙ ap becomes least_label ∙ least_becomes)
      | inr apart ↦
          let low : get_or parents p 0 ≤ p = are p h in
          after_at p h ∙ ap becomes (have.follow p h) ∙ sym (after_at (get_or parents p 0) (omega arith)) ∙ ap (λ q. get_or after q 0) (sym (joined_other p apart))
    ]

    pub joined_have : HaveLabels joined after
    joined_have = record {
      as_long = is_merged.as_long ∙ have.as_long ∙ sym joined_long;
      own = λ p h. joined_own p (subst (λ n. p < n) joined_long h);
      follow = λ p h. joined_follow p (subst (λ n. p < n) joined_long h);
    }

-- places whose parents are their labels
pub settled : (parents labels : List ℕ) → length labels ≡ length parents → ((p : ℕ) → p < length parents → get_or parents p 0 ≡ get_or labels p 0) → parents ≡ labels
settled parents labels long same =
    same_number_lists parents labels (sym long) same

-- two places that are their own parents are joined
module _ (parents : List ℕ) (first second one other least greatest : ℕ) (are : AreParents parents) (one_below : one < length parents) (other_below : other < length parents)
    (one_own : get_or parents one 0 ≡ one) (other_own : get_or parents other 0 ≡ other) (is_least : least ≡ min one other) (is_greatest : greatest ≡ max one other)
    (labels : List ℕ) (have : HaveLabels parents labels) (of_first : one ≡ get_or labels first 0) (of_second : other ≡ get_or labels second 0) where
  abbrev Merged : ℕ → ℕ → Type 0
  Merged low high = (new : List ℕ) × HaveLabels (set parents high low) new × AreMerged first second labels new

  in_order : one ≤ other → Merged one other
  in_order up = (
    after parents one other other_below up are one_own other_own labels have,
    joined_have parents one other other_below up are one_own other_own labels have,
    record { few = other; many = one; which = inr (of_second, of_first); merged = is_merged parents one other other_below up are one_own other_own labels have },
  )

  turned : other ≤ one → Merged other one
  turned up = (
    after parents other one one_below up are other_own one_own labels have,
    joined_have parents other one one_below up are other_own one_own labels have,
    record { few = one; many = other; which = inl (of_first, of_second); merged = is_merged parents other one one_below up are other_own one_own labels have },
  )

  pub joined_roots : Merged least greatest
  joined_roots = elim (cases_lt one other) [
    | inl less ↦
        let low : one ≡ least = omega arith in
        let high : other ≡ greatest = omega arith in
        subst (Merged least) high (subst (λ n. Merged n other) low (in_order (omega arith)))
    | inr no_less ↦
        let low : other ≡ least = omega arith in
        let high : one ≡ greatest = omega arith in
        subst (Merged least) high (subst (λ n. Merged n one) low (turned no_less))
  ]

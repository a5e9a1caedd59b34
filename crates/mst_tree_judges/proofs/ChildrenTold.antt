-- What the children of a tree tell: which bridges are the children of a bridge, and which have the most steps to parents.
use Rattle.std.proofs.Common.{◌≡◌, ◌⊎◌, inl, inr, ℕ, zero, suc, ◌≤◌, ◌==◌, max, Bool, true, false, true≢false, List, [], ◌∷◌, fold, map, Option, Some, None, MatchOption, refl, sym, ap, subst, ◌∙◌, arith, eq-eqb}
use Rattle.std.specs.List.{Contains, filter}
use Rattle.std.specs.Cmp.Lexicographic.{bytes_decides}
use Rattle.std.specs.Option.{option_map_or}
use Rattle.std.proofs.lemmas.Bool.{eqb-true}
use Rattle.mst_ids.specs.declared.name.PortName.{PortName}
use Rattle.mst_graph.specs.Groups.{IsThinned, nothing, kept, left_out}
use Rattle.mst_graph.proofs.Members.{filter_thins, from_filter, from_map, in_filter, in_map, in_none, here, there, cases}
use Rattle.mst_view.specs.Aggregation.{same_name}
use Rattle.mst_judged.specs.reasons.note_text.Children.{AreChildren, HasSteps, IsChild}
use Rattle.mst_judged.specs.reasons.note_text.Depths.{ParentIn}
use Rattle.mst_judged.specs.reasons.note_text.declared.children.Child.{Child}
use Rattle.mst_judged.proofs.reasons_lemmas.note_text_lemmas.Chains.{one_internal}
use Rattle.mst_judged.proofs.reasons_lemmas.note_text_lemmas.Regions.{one_parent_in}
use Rattle.mst_graph.specs.Lists.{has_any}
use Rattle.mst_roles.specs.forest.nested.Trees.{HasTree, IsSettled, Trees}
use Rattle.mst_roles.proofs.forest_lemmas.Lists.{all_contained}
use Rattle.mst_roles.proofs.Names.{tests}
use Rattle.mst_judged.specs.reasons.Reasons.{AreThose}
use Rattle.mst_tree_judges.specs.Seen.{is_child_of}
use Rattle.mst_judged.proofs.reasons_lemmas.Things.{there_any}

-- ---- lists with elements left out
thinned_map : {A B : Type 0} (f : A → B) {xs ys : List A} → IsThinned xs ys → IsThinned (map f xs) (map f ys)
thinned_map f nothing = nothing
thinned_map f (kept t) = kept (thinned_map f t)
thinned_map f (left_out t) = left_out (thinned_map f t)

thinned_twice : {A : Type 0} {xs ys zs : List A} → IsThinned xs ys → IsThinned ys zs → IsThinned xs zs
thinned_twice nothing nothing = nothing
thinned_twice t (left_out u) = left_out (thinned_twice t u)
thinned_twice (kept t) (kept u) = kept (thinned_twice t u)
thinned_twice (left_out t) (kept u) = left_out (thinned_twice t u)

-- ---- the most
abbrev pub most_of : ℕ → List Child → ℕ
most_of most children = fold (λ most c. max most c.steps) most children

at_least : (most : ℕ) (children : List Child) → most ≤ most_of most children
at_least most [] = omega arith
at_least most (c ∷ children) = let rest : max most c.steps ≤ most_of (max most c.steps) children = at_least (max most c.steps) children in omega arith

at_least_each : (most : ℕ) (children : List Child) (c : Child) → Contains children c → c.steps ≤ most_of most children
at_least_each most [] c h = absurd (in_none c h)
at_least_each most (d ∷ children) c h = elim (cases d c children h) [
  | inl same ↦ let first : max most d.steps ≤ most_of (max most d.steps) children = at_least (max most d.steps) children in let steps : d.steps ≡ c.steps = ap (λ (x : Child). x.steps) same in omega arith
  | inr a ↦ at_least_each (max most d.steps) children c a
]

-- it is what it began with, or that of one
attained : (most : ℕ) (children : List Child) → (most_of most children ≡ most) ⊎ ((c : Child) × Contains children c × (c.steps ≡ most_of most children))
attained most [] = inl refl
attained most (d ∷ children) = elim (attained (max most d.steps) children) [
  | inl e ↦ first (le_total d.steps most) e
  | inr c ↦ inr (c.0, there d c.0 children c.1, c.2)
]
  where
    le_total : (a b : ℕ) → (a ≤ b) ⊎ (b ≤ a)
    le_total zero b = inl (omega arith)
    le_total (suc a) zero = inr (omega arith)
    le_total (suc a) (suc b) = elim (le_total a b) [ inl l ↦ inl (omega arith) | inr l ↦ inr (omega arith) ]

    first : (d.steps ≤ most) ⊎ (most ≤ d.steps) → most_of (max most d.steps) children ≡ max most d.steps
        → (most_of (max most d.steps) children ≡ most) ⊎ ((c : Child) × Contains (d ∷ children) c × (c.steps ≡ most_of (max most d.steps) children))
    first (inl l) e = let same : max most d.steps ≡ most = omega arith in inl (e ∙ same)
    first (inr l) e = let same : max most d.steps ≡ d.steps = omega arith in inr (d, here d children, sym (e ∙ same))

module _ (f : Trees (List ℕ) (List ℕ) PortName) (ok : IsSettled f) (tree : ℕ) where
  -- ---- one parent, and so many steps
  one_steps : (bridge : List ℕ) (d e : ℕ) → HasSteps f tree bridge d → HasSteps f tree bridge e → d ≡ e
  one_steps bridge d e x y = (one_internal (one_parent_in f tests ok tree) x.chain y.chain).steps

  with_tree : (tree : ℕ) (n k : List ℕ) → ParentIn f tree n k → HasTree f tree n
  with_tree zero n k h = ok.cist.settled.is_bridge n h.is_root.vector (ap f.cist_vector (sym h.on_bridge) ∙ h.is_root.is_vector)
  with_tree (suc i) n k h = (ok.msti i).settled.is_bridge n h.is_root.vector (ap (f.msti_vector (suc i)) (sym h.on_bridge) ∙ h.is_root.is_vector)

  module _ (names : List (List ℕ)) (children : List Child) (are : AreChildren f tree names children) where
    abbrev name : Child → List ℕ
    name c = c.name

    is_child : (c : Child) → Contains children c → IsChild f tree c
    is_child c h = all_contained (IsChild f tree) children c are.each h

    -- those of the children that pass a test
    passed : (test : Child → Bool) → IsThinned (map name (filter test children)) names
    passed test = thinned_twice (thinned_map name (filter_thins test children)) are.in_order

    -- ---- the children of a bridge
    has_parent : (bridge : List ℕ) (o : Option (List ℕ)) (n : List ℕ) → MatchOption o ((k : List ℕ) → ParentIn f tree n k → ⊥) (ParentIn f tree n) → option_map_or (λ own. same_name own bridge) o false ≡ true → ParentIn f tree n bridge
    has_parent bridge None n m e = absurd (true≢false (sym e))
    has_parent bridge (Some own) n m e = subst (ParentIn f tree n) ((bytes_decides own bridge).0 e) m

    parent_has : (bridge : List ℕ) (o : Option (List ℕ)) (n : List ℕ) → MatchOption o ((k : List ℕ) → ParentIn f tree n k → ⊥) (ParentIn f tree n) → ParentIn f tree n bridge → option_map_or (λ own. same_name own bridge) o false ≡ true
    parent_has bridge None n m p = absurd (m bridge p)
    parent_has bridge (Some own) n m p = (bytes_decides own bridge).1 (one_parent_in f tests ok tree n own bridge m p)

    pub of_bridge : (bridge : List ℕ) → AreThose (λ child. ParentIn f tree child bridge) names (map name (filter (is_child_of bridge) children))
    of_bridge bridge = record {
      in_order = passed (is_child_of bridge);
      are = λ n k. (
        λ h.
            let c = from_map name (filter (is_child_of bridge) children) n h in
            let g = from_filter (is_child_of bridge) children c.0 c.1 in
            subst (λ n. ParentIn f tree n bridge) c.2 (has_parent bridge c.0.parent c.0.name (is_child c.0 g.0).parent g.1),
        λ p.
            let c = from_map name children n (are.all n (with_tree tree n bridge p)) in
            let own = subst (λ n. ParentIn f tree n bridge) (sym c.2) p in
            subst (Contains (map name (filter (is_child_of bridge) children))) c.2
            (in_map name (filter (is_child_of bridge) children) c.0 (in_filter (is_child_of bridge) children c.0 c.1 (parent_has bridge c.0.parent c.0.name (is_child c.0 c.1).parent own))),
      );
    }

    -- ---- the deepest
    abbrev pub greatest : ℕ
    greatest = most_of 0 children

    abbrev pub deepest : List (List ℕ)
    deepest = map name (filter (λ c. c.steps == greatest) children)

    pub none_deeper : (bridge : List ℕ) (steps : ℕ) → HasSteps f tree bridge steps → steps ≤ greatest
    none_deeper bridge steps h =
        let c = from_map name children bridge (are.all bridge h.has_tree) in
        let same : c.0.steps ≡ steps = one_steps bridge c.0.steps steps (subst (λ n. HasSteps f tree n c.0.steps) c.2 (is_child c.0 c.1).steps) h in
        let low : c.0.steps ≤ greatest = at_least_each 0 children c.0 c.1 in
        omega arith

    pub are_deepest : AreThose (λ bridge. HasSteps f tree bridge greatest) names deepest
    are_deepest = record {
      in_order = passed (λ c. c.steps == greatest);
      are = λ n k. (
        λ h.
            let c = from_map name (filter (λ c. c.steps == greatest) children) n h in
            let g = from_filter (λ (c : Child). c.steps == greatest) children c.0 c.1 in
            subst (λ n. HasSteps f tree n greatest) c.2 (subst (HasSteps f tree c.0.name) (eqb-true c.0.steps greatest g.1) (is_child c.0 g.0).steps),
        λ p.
            let c = from_map name children n (are.all n p.has_tree) in
            let same : c.0.steps ≡ greatest = one_steps n c.0.steps greatest (subst (λ n. HasSteps f tree n c.0.steps) c.2 (is_child c.0 c.1).steps) p in
            subst (Contains deepest) c.2 (in_map name (filter (λ c. c.steps == greatest) children) c.0 (in_filter (λ (c : Child). c.steps == greatest) children c.0 c.1 (eq-eqb c.0.steps greatest same))),
      );
    }

    pub some_deepest : (greatest ≡ 0) ⊎ (has_any deepest ≡ true)
    some_deepest = elim (attained 0 children) [
      | inl e ↦ inl e
      | inr c ↦ inr (there_any deepest c.0.name (in_map name (filter (λ c. c.steps == greatest) children) c.0 (in_filter (λ (c : Child). c.steps == greatest) children c.0 c.1 (eq-eqb c.0.steps greatest c.2))))
    ]

-- Labels that are equal just where links join the nodes, and one more link.
use Rattle.std.proofs.Common.{◌≡◌, ℕ, ◌+◌, ◌<◌, ◌==◌, ◌⊎◌, inl, inr, Bool, true, false, cond, nat_eq, eq-eqb, List, [], ◌∷◌, ◌++◌, length, get_or, refl, sym, ap, subst, ◌∙◌, arith}
use Rattle.std.specs.List.{Contains, position_or_len}
use Rattle.std.proofs.lemmas.Bool.{eqb-true}
use Rattle.std.proofs.lemmas.List.Elements.{Contains-push_cases, Contains-append_left, Contains-push}
use Rattle.mst_graph.proofs.Members.{in_none}
use Rattle.mst_graph.specs.Walks.{Walk, Node, stay, along, bridge_at, lan_at}
use Rattle.mst_graph.specs.Islands.{Link, link_ends, AreJoined}
use Rattle.mst_graph.specs.Labels.{IsMerged}
use Rattle.mst_graph.specs.Labelling.{IsPlaced, place_of, label_of, AreLabels}
use Rattle.mst_graph.proofs.Placing.{found_at}
use Rattle.mst_graph.proofs.Walks.{joined_to, back, weaker}

module _ (bridges lans : List ℕ) where
  -- a placed node's place is one of them
  pub place_below : (a : Node ℕ ℕ) → IsPlaced bridges lans a → place_of bridges lans a < length bridges + length lans
  place_below (bridge_at n) h = let below : position_or_len (nat_eq n) bridges < length bridges = (found_at n bridges h).0 in omega arith
  place_below (lan_at n) h = let below : position_or_len (nat_eq n) lans < length lans = (found_at n lans h).0 in omega arith

  -- nodes at one place are one
  one_place : (a b : Node ℕ ℕ) → IsPlaced bridges lans a → IsPlaced bridges lans b → place_of bridges lans a ≡ place_of bridges lans b → a ≡ b
  one_place (bridge_at n) (bridge_at m) h k e = ap bridge_at (sym (found_at n bridges h).1 ∙ ap (λ p. get_or bridges p 0) e ∙ (found_at m bridges k).1)
  one_place (bridge_at n) (lan_at m) h k e = let below : position_or_len (nat_eq n) bridges < length bridges = (found_at n bridges h).0 in absurd (omega arith)
  one_place (lan_at n) (bridge_at m) h k e = let below : position_or_len (nat_eq m) bridges < length bridges = (found_at m bridges k).0 in absurd (omega arith)
  one_place (lan_at n) (lan_at m) h k e =
      let same : position_or_len (nat_eq n) lans ≡ position_or_len (nat_eq m) lans = omega arith in
      ap lan_at (sym (found_at n lans h).1 ∙ ap (λ p. get_or lans p 0) same ∙ (found_at m lans k).1)

  -- before any link each place has a label of its own
  pub none_labelled : (labels : List ℕ) → length labels ≡ length bridges + length lans
      → ((place : ℕ) → place < length bridges + length lans → get_or labels place 0 ≡ place) → AreLabels bridges lans [] labels
  none_labelled labels long own = record {
    as_long = long;
    joins = λ link h. absurd (in_none link h);
    only = λ a b in_a in_b e.
        let same = one_place a b in_a in_b (sym (own (place_of bridges lans a) (place_below a in_a)) ∙ e ∙ own (place_of bridges lans b) (place_below b in_b)) in
        subst (λ c. AreJoined [] a c) same stay;
  }

  module _ (links : List (Link ℕ ℕ)) (link : Link ℕ ℕ) (labels new : List ℕ) (before : AreLabels bridges lans links labels)
      (placed : (k : Link ℕ ℕ) → Contains (links ++ link ∷ []) k → IsPlaced bridges lans (bridge_at k.bridge) × IsPlaced bridges lans (lan_at k.lan))
      (few many : ℕ) (merged : IsMerged few many labels new) where
    abbrev label : Node ℕ ℕ → ℕ
    label a = label_of bridges lans labels a

    abbrev label_new : Node ℕ ℕ → ℕ
    label_new a = label_of bridges lans new a

    abbrev Joined : Node ℕ ℕ → Node ℕ ℕ → Type 0
    Joined a b = AreJoined (links ++ link ∷ []) a b

    -- what a label becomes
    becomes : (a : Node ℕ ℕ) → IsPlaced bridges lans a → label_new a ≡ cond (label a == few) many (label a)
    becomes a h = merged.labels (place_of bridges lans a) (subst (λ n. place_of bridges lans a < n) (sym before.as_long) (place_below a h))

    few_becomes : (a : Node ℕ ℕ) → IsPlaced bridges lans a → label a ≡ few → label_new a ≡ many
    few_becomes a h e = becomes a h ∙ ap (λ t. cond t many (label a)) (eq-eqb (label a) few e)

    many_becomes : (a : Node ℕ ℕ) → IsPlaced bridges lans a → label a ≡ many → label_new a ≡ many
    many_becomes a h e = becomes a h ∙ ap (cond (label a == few) many) e ∙ either (label a == few)
      where
        either : (t : Bool) → cond t many many ≡ many
        either true = refl
        either false = refl

    as_before : (a b : Node ℕ ℕ) → Walk link_ends (Contains links) a b → Joined a b
    as_before a b w = weaker link_ends (λ k h. Contains-append_left links (link ∷ []) k h) w

    -- the ends of the new link, in one order or the other
    module _ (p q : Node ℕ ℕ) (p_in : IsPlaced bridges lans p) (q_in : IsPlaced bridges lans q) (p_few : few ≡ label p) (q_many : many ≡ label q) (linked : Joined p q) where
      over : (a b : Node ℕ ℕ) → IsPlaced bridges lans a → IsPlaced bridges lans b → label a ≡ few → label b ≡ many → Joined a b
      over a b in_a in_b of_a of_b =
          joined_to link_ends (as_before a p (before.only a p in_a p_in (of_a ∙ p_few)))
          (joined_to link_ends linked (as_before q b (before.only q b q_in in_b (sym q_many ∙ sym of_b))))

      only : (a b : Node ℕ ℕ) → IsPlaced bridges lans a → IsPlaced bridges lans b → label_new a ≡ label_new b → Joined a b
      only a b in_a in_b e = go (label a == few) (label b == few) refl refl
        where
          go : (t u : Bool) → (label a == few) ≡ t → (label b == few) ≡ u → Joined a b
          go true true x y = as_before a b (before.only a b in_a in_b (eqb-true (label a) few x ∙ sym (eqb-true (label b) few y)))
          go true false x y =
              over a b in_a in_b (eqb-true (label a) few x)
              (sym (becomes b in_b ∙ ap (λ t. cond t many (label b)) y) ∙ sym e ∙ becomes a in_a ∙ ap (λ t. cond t many (label a)) x)
          go false true x y =
              back link_ends (over b a in_b in_a (eqb-true (label b) few y)
              (sym (becomes a in_a ∙ ap (λ t. cond t many (label a)) x) ∙ e ∙ becomes b in_b ∙ ap (λ t. cond t many (label b)) y))
          go false false x y =
              as_before a b (before.only a b in_a in_b
              (sym (becomes a in_a ∙ ap (λ t. cond t many (label a)) x) ∙ e ∙ becomes b in_b ∙ ap (λ t. cond t many (label b)) y))

    b_in : IsPlaced bridges lans (bridge_at link.bridge)
    b_in = (placed link (Contains-push links link)).0

    l_in : IsPlaced bridges lans (lan_at link.lan)
    l_in = (placed link (Contains-push links link)).1

    link_joins : Joined (bridge_at link.bridge) (lan_at link.lan)
    link_joins = along link (Contains-push links link) (inl (refl, refl)) stay

    old_joins : (k : Link ℕ ℕ) → Contains links k → label_new (bridge_at k.bridge) ≡ label_new (lan_at k.lan)
    old_joins k h =
        let ends_in = placed k (Contains-append_left links (link ∷ []) k h) in
        becomes (bridge_at k.bridge) ends_in.0 ∙ ap (λ n. cond (n == few) many n) (before.joins k h) ∙ sym (becomes (lan_at k.lan) ends_in.1)

    joins : label_new (bridge_at link.bridge) ≡ label_new (lan_at link.lan) → (k : Link ℕ ℕ) → Contains (links ++ link ∷ []) k → label_new (bridge_at k.bridge) ≡ label_new (lan_at k.lan)
    joins new_joins k h = elim (Contains-push_cases links link k h) [
      | inl a ↦ old_joins k a
      | inr e ↦ subst (λ j. label_new (bridge_at j.bridge) ≡ label_new (lan_at j.lan)) e new_joins
    ]

    pub more_labelled : ((few ≡ label (bridge_at link.bridge)) × (many ≡ label (lan_at link.lan))) ⊎ ((few ≡ label (lan_at link.lan)) × (many ≡ label (bridge_at link.bridge)))
        → AreLabels bridges lans (links ++ link ∷ []) new
    more_labelled (inl w) = record {
      as_long = merged.as_long ∙ before.as_long;
      joins = joins (few_becomes (bridge_at link.bridge) b_in (sym w.0) ∙ sym (many_becomes (lan_at link.lan) l_in (sym w.1)));
      only = only (bridge_at link.bridge) (lan_at link.lan) b_in l_in w.0 w.1 link_joins;
    }
    more_labelled (inr w) = record {
      as_long = merged.as_long ∙ before.as_long;
      joins = joins (many_becomes (bridge_at link.bridge) b_in (sym w.1) ∙ sym (few_becomes (lan_at link.lan) l_in (sym w.0)));
      only = only (lan_at link.lan) (bridge_at link.bridge) l_in b_in w.0 w.1 (back link_ends link_joins);
    }

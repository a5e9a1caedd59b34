-- For each node the first of those that may be chosen for it, found by going over all of them.
use Rattle.std.proofs.Common.{◌≡◌, ◌≢◌, ◌⊎◌, inl, inr, ℕ, ◌+◌, ◌<◌, List, length, get_or, set, refl, sym, ap, ◌∙◌, subst, arith}
use Rattle.std.proofs.lemmas.List.{length-set, get_or-set_same, get_or-set_other}
use Rattle.mst_graph.proofs.Cut.{same_or_not}
use Rattle.mst_path.specs.Places.{StaysBeside}

-- node by node: the places of ports, each of one node; which of them may be chosen; and which comes before another
module _ (own : List ℕ) (Goes : ℕ → Type 0) (Before : ℕ → ℕ → Type 0) (old : List ℕ) where
  -- what was chosen for a node, of the places up to one, is one of these that may be
  pub record IsOneOf (up_to x place : ℕ) : Type 0 where
    pub below : place < up_to
    pub own_node : get_or own place 0 ≡ x
    pub goes : Goes place

  pub record AreChosen (ups : List ℕ) (up_to : ℕ) : Type 0 where
    pub as_long : length ups ≡ length old
    pub chosen : (x : ℕ) → (get_or ups x 0 ≡ get_or old x 0) ⊎ IsOneOf up_to x (get_or ups x 0)
    pub first : (place : ℕ) → place < up_to → Goes place → (get_or ups (get_or own place 0) 0 < length own) × Before (get_or ups (get_or own place 0) 0) place
    pub others : StaysBeside own old ups

  pub none_chosen : AreChosen old 0
  none_chosen = record { as_long = refl; chosen = λ x. inl refl; first = λ place h. absurd (omega arith); others = λ x h. refl }

  module _ (ups : List ℕ) (n : ℕ) (are : AreChosen ups n) where
    still_one : (x : ℕ) → (get_or ups x 0 ≡ get_or old x 0) ⊎ IsOneOf (n + 1) x (get_or ups x 0)
    still_one x = elim (are.chosen x) [
      | inl e ↦ inl e
      | inr h ↦ inr (record { below = let a = h.below in omega arith; own_node = h.own_node; goes = h.goes })
    ]

    -- the place can't be chosen
    pub passed : (Goes n → ⊥) → AreChosen ups (n + 1)
    passed never = record {
      as_long = are.as_long;
      chosen = still_one;
      first = λ place h goes. elim (same_or_not place n) [
        | inl e ↦ absurd (never (subst Goes e goes))
        | inr d ↦ are.first place (omega arith) goes
      ];
      others = are.others;
    }

    -- what was chosen comes before it
    pub kept : get_or ups (get_or own n 0) 0 < length own → Before (get_or ups (get_or own n 0) 0) n → AreChosen ups (n + 1)
    kept below before = record {
      as_long = are.as_long;
      chosen = still_one;
      first = λ place h goes. elim (same_or_not place n) [
        | inl e ↦ subst (λ p. (get_or ups (get_or own p 0) 0 < length own) × Before (get_or ups (get_or own p 0) 0) p) (sym e) (below, before)
        | inr d ↦ are.first place (omega arith) goes
      ];
      others = are.others;
    }

    -- it comes before what was chosen
    pub taken : n < length own → get_or own n 0 < length ups → Goes n → Before n n → ((place : ℕ) → place < n → Goes place → get_or own place 0 ≡ get_or own n 0 → Before n place) → AreChosen (set ups (get_or own n 0) n) (n + 1)
    taken inside below goes itself better = record {
      as_long = length-set ups (get_or own n 0) n ∙ are.as_long;
      chosen = λ x. elim (same_or_not x (get_or own n 0)) [
        | inl e ↦ inr (subst (λ x. IsOneOf (n + 1) x (get_or (set ups (get_or own n 0) n) x 0)) (sym e) (subst (IsOneOf (n + 1) (get_or own n 0)) (sym here) (record { below = omega arith; own_node = refl; goes = goes })))
        | inr d ↦ subst (λ p. (p ≡ get_or old x 0) ⊎ IsOneOf (n + 1) x p) (sym (beside x d)) (still_one x)
      ];
      first = λ place h may. elim (same_or_not (get_or own place 0) (get_or own n 0)) [
        | inl e ↦ subst (λ p. (p < length own) × Before p place) (sym (ap (λ x. get_or (set ups (get_or own n 0) n) x 0) e ∙ here)) (
          inside,
          elim (same_or_not place n) [
            | inl same ↦ subst (Before n) (sym same) itself
            | inr d ↦ better place (omega arith) may e
          ],
        )
        | inr d ↦ subst (λ p. (p < length own) × Before p place) (sym (beside (get_or own place 0) d)) (are.first place (let other : place ≢ n = λ same. d (ap (λ p. get_or own p 0) same) in omega arith) may)
      ];
      others = λ x h. beside x (λ e. h n inside (sym e)) ∙ are.others x h;
    }
      where
        here : get_or (set ups (get_or own n 0) n) (get_or own n 0) 0 ≡ n
        here = get_or-set_same ups (get_or own n 0) n 0 below

        beside : (x : ℕ) → x ≢ get_or own n 0 → get_or (set ups (get_or own n 0) n) x 0 ≡ get_or ups x 0
        beside x d = get_or-set_other ups (get_or own n 0) x n 0 d

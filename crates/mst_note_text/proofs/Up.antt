-- A step up: the bridge joins the path, and its parent comes next.
use Rattle.std.proofs.Common.{◌≡◌, ◌≢◌, ◌⊎◌, inl, inr, sym, ◌∙◌, ap, subst, ℕ, ◌+◌, ◌<◌, ◌≤◌, List, [], ◌∷◌, ◌++◌, length, get_or, Option, Some, None, Bool, true, false, arith}
use Rattle.std.proofs.Math.ListN.{set, length-set}
use Rattle.std.proofs.lemmas.List.{get_or-set_other, get_or_append_left}
use Rattle.mst_note_text.specs.Places.{IsParent, IsForest}
use Rattle.mst_note_text.specs.Walk.{IsSeen, unseen, IsOn, IsFound, IsNext, IsWalk}
use Rattle.mst_note_text.specs.declared.parent.Parent.{Parent}
use Rattle.mst_note_text.specs.declared.parent.Depths.{Depths}
use Rattle.mst_note_text.proofs.Unseen.{unseen_set}
use Rattle.mst_note_text.proofs.Down.{same_place, at_end, one_longer}

-- on the way up, at a bridge that is next on the path
pub record IsClimb (parents : List (Option Parent)) (height : ℕ → ℕ) (at : ℕ) (seen : List Bool) (path : List ℕ) (found : List Depths) : Type 0 where
  pub each_seen : length seen ≡ length parents
  pub each_found : length found ≡ length parents
  pub room : unseen seen + length path ≤ length parents
  pub in_list : (index : ℕ) → index < length path → get_or path index 0 < length parents
  pub here : at < length parents
  pub reached : (n : ℕ) → IsSeen seen n → IsFound parents found (unseen seen + length path) n ⊎ IsOn path n
  pub parent : (index : ℕ) (p : Parent) → index < length path → IsParent parents (get_or path index 0) p → IsFound parents found (unseen seen + length path) p.place ⊎ IsNext (path ++ at ∷ []) index p.place
  pub higher : (index : ℕ) → index < length path → height at < height (get_or path index 0)

module _ (parents : List (Option Parent)) (forest : IsForest parents) (found : List Depths) where
  starts : (at : ℕ) (seen : List Bool) → at < length parents → IsWalk parents seen [] found → IsClimb parents forest.height at seen [] found
  starts at seen low walk = record {
    each_seen = walk.each_seen;
    each_found = walk.each_found;
    room = walk.room;
    in_list = walk.in_list;
    here = low;
    reached = walk.reached;
    parent = λ index p none s. absurd (omega arith);
    higher = λ index none. absurd (omega arith);
  }

  pub starts_empty : (at : ℕ) (seen : List Bool) (path : List ℕ) → path ≡ [] → at < length parents → IsWalk parents seen path found → IsClimb parents forest.height at seen path found
  starts_empty at seen path empty low walk = subst (λ (p : List ℕ). IsClimb parents forest.height at seen p found) (sym empty) (starts at seen low (rw empty at walk))

  module _ (at : ℕ) (seen : List Bool) (path : List ℕ) (climb : IsClimb parents forest.height at seen path found) where
    -- at a bridge that was come to before, which has its depths
    pub stops : IsSeen seen at → IsWalk parents seen path found
    stops is = record {
      each_seen = climb.each_seen;
      each_found = climb.each_found;
      room = climb.room;
      in_list = climb.in_list;
      reached = climb.reached;
      parent = λ index p low s. next index p low (climb.parent index p low s);
    }
      where
        has : IsFound parents found (unseen seen + length path) at
        has = elim (climb.reached at is) [
          | inl h ↦ h
          | inr o ↦ (let h = climb.higher o.index o.in_path in let e = ap forest.height o.is_at in absurd (omega arith))
        ]

        next : (index : ℕ) (p : Parent) → index < length path → IsFound parents found (unseen seen + length path) p.place ⊎ IsNext (path ++ at ∷ []) index p.place → IsFound parents found (unseen seen + length path) p.place ⊎ IsNext path index p.place
        next index p low (inl h) = inl h
        next index p low (inr o) = elim (same_place (index + 1) (length path)) [
          | inl e ↦ inl (subst (IsFound parents found (unseen seen + length path)) (sym (at_end path at) ∙ (ap (λ i. get_or (path ++ at ∷ []) i 0) (sym e) ∙ o.is_at)) has)
          | inr differ ↦ (let below : index + 1 < length path = omega arith in inr (record { in_path = below; is_at = rw (get_or_append_left path (at ∷ []) 0 (index + 1) below) at o.is_at }))
        ]

    -- at one that was not
    module _ (new : get_or seen at false ≡ false) where
      same_left : unseen seen + length path ≡ unseen (set seen at true) + length (path ++ at ∷ [])
      same_left =
          let here = climb.here in
          let each = climb.each_seen in
          let one = unseen_set seen at (omega arith) new in
          let longer = one_longer path at in
          omega arith

      as_left : (n : ℕ) → IsFound parents found (unseen seen + length path) n → IsFound parents found (unseen (set seen at true) + length (path ++ at ∷ [])) n
      as_left n h = subst (λ left. IsFound parents found left n) same_left h

      room : unseen (set seen at true) + length (path ++ at ∷ []) ≤ length parents
      room = let e = same_left in let h = climb.room in omega arith

      in_list : (index : ℕ) → index < length (path ++ at ∷ []) → get_or (path ++ at ∷ []) index 0 < length parents
      in_list index low = elim (same_place index (length path)) [
        | inl e ↦ (let here = climb.here in let is = ap (λ i. get_or (path ++ at ∷ []) i 0) e ∙ at_end path at in omega arith)
        | inr differ ↦ (let longer = one_longer path at in let below : index < length path = omega arith in rw (get_or_append_left path (at ∷ []) 0 index below) (climb.in_list index below))
      ]

      on_more : (n : ℕ) → IsOn path n → IsOn (path ++ at ∷ []) n
      on_more n o = let longer = one_longer path at in let h = o.in_path in record { index = o.index; in_path = omega arith; is_at = get_or_append_left path (at ∷ []) 0 o.index o.in_path ∙ o.is_at }

      on_end : IsOn (path ++ at ∷ []) at
      on_end = let longer = one_longer path at in record { index = length path; in_path = omega arith; is_at = at_end path at }

      reached : (n : ℕ) → IsSeen (set seen at true) n → IsFound parents found (unseen (set seen at true) + length (path ++ at ∷ [])) n ⊎ IsOn (path ++ at ∷ []) n
      reached n s = elim (same_place n at) [
        | inl e ↦ inr (subst (IsOn (path ++ at ∷ [])) (sym e) on_end)
        | inr differ ↦ elim (climb.reached n (sym (get_or-set_other seen at n true false differ) ∙ s)) [
          | inl h ↦ inl (as_left n h)
          | inr o ↦ inr (on_more n o)
        ]
      ]

      -- it has no parent
      pub stops_alone : get_or parents at None ≡ None → IsWalk parents (set seen at true) (path ++ at ∷ []) found
      stops_alone none = record {
        each_seen = length-set seen at true ∙ climb.each_seen;
        each_found = climb.each_found;
        room = room;
        in_list = in_list;
        reached = reached;
        parent = λ index p low s. next index p low s (same_place index (length path));
      }
        where
          next : (index : ℕ) (p : Parent) → index < length (path ++ at ∷ []) → IsParent parents (get_or (path ++ at ∷ []) index 0) p → (index ≡ length path) ⊎ (index ≢ length path) → IsFound parents found (unseen (set seen at true) + length (path ++ at ∷ [])) p.place ⊎ IsNext (path ++ at ∷ []) index p.place
          next index p low s (inl e) =
              let is : get_or (path ++ at ∷ []) index 0 ≡ at = ap (λ i. get_or (path ++ at ∷ []) i 0) e ∙ at_end path at in
              let own : IsParent parents at p = rw is at s in
              cc
          next index p low s (inr differ) =
              let longer = one_longer path at in
              let below : index < length path = omega arith in
              elim (climb.parent index p below (rw (get_or_append_left path (at ∷ []) 0 index below) at s)) [
                | inl h ↦ inl (as_left p.place h)
                | inr o ↦ inr o
              ]

      -- it has one
      pub goes_up : (q : Parent) → IsParent parents at q → IsClimb parents forest.height q.place (set seen at true) (path ++ at ∷ []) found
      goes_up q is = record {
        each_seen = length-set seen at true ∙ climb.each_seen;
        each_found = climb.each_found;
        room = room;
        in_list = in_list;
        here = forest.in_list at q is;
        reached = reached;
        parent = λ index p low s. next index p low s (same_place index (length path));
        higher = λ index low. higher index low (same_place index (length path));
      }
        where
          falls : forest.height q.place < forest.height at
          falls = forest.falls at q is

          higher : (index : ℕ) → index < length (path ++ at ∷ []) → (index ≡ length path) ⊎ (index ≢ length path) → forest.height q.place < forest.height (get_or (path ++ at ∷ []) index 0)
          higher index low (inl e) =
              let is_at : get_or (path ++ at ∷ []) index 0 ≡ at = ap (λ i. get_or (path ++ at ∷ []) i 0) e ∙ at_end path at in
              rw is_at falls
          higher index low (inr differ) =
              let longer = one_longer path at in
              let below : index < length path = omega arith in
              let h = climb.higher index below in
              let here = falls in
              rw (get_or_append_left path (at ∷ []) 0 index below) (omega arith)

          next_more : (index n : ℕ) → IsNext (path ++ at ∷ []) index n → IsNext ((path ++ at ∷ []) ++ q.place ∷ []) index n
          next_more index n o =
              let longer = one_longer (path ++ at ∷ []) q.place in
              let low = o.in_path in
              record { in_path = omega arith; is_at = get_or_append_left (path ++ at ∷ []) (q.place ∷ []) 0 (index + 1) o.in_path ∙ o.is_at }

          next : (index : ℕ) (p : Parent) → index < length (path ++ at ∷ []) → IsParent parents (get_or (path ++ at ∷ []) index 0) p → (index ≡ length path) ⊎ (index ≢ length path) → IsFound parents found (unseen (set seen at true) + length (path ++ at ∷ [])) p.place ⊎ IsNext ((path ++ at ∷ []) ++ q.place ∷ []) index p.place
          next index p low s (inl e) =
              let is_at : get_or (path ++ at ∷ []) index 0 ≡ at = ap (λ i. get_or (path ++ at ∷ []) i 0) e ∙ at_end path at in
              let own : IsParent parents at p = rw is_at at s in
              let same : q ≡ p = some_same q p (sym is ∙ own) in
              let longer = one_longer path at in
              let more = one_longer (path ++ at ∷ []) q.place in
              let place : index + 1 ≡ length (path ++ at ∷ []) = omega arith in
              inr (record { in_path = omega arith; is_at = ap (λ i. get_or ((path ++ at ∷ []) ++ q.place ∷ []) i 0) place ∙ (at_end (path ++ at ∷ []) q.place ∙ ap (λ (r : Parent). r.place) same) })
            where
              some_same : (x y : Parent) → Some x ≡ Some y → x ≡ y
              some_same x y h = cc
          next index p low s (inr differ) =
              let longer = one_longer path at in
              let below : index < length path = omega arith in
              elim (climb.parent index p below (rw (get_or_append_left path (at ∷ []) 0 index below) at s)) [
                | inl h ↦ inl (as_left p.place h)
                | inr o ↦ inr (next_more index p.place o)
              ]

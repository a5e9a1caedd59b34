-- A step down the path: the bridge at its end has its depths.
use Rattle.std.proofs.Common.{◌≡◌, ◌≢◌, ◌⊎◌, inl, inr, refl, sym, ◌∙◌, ap, subst, ℕ, zero, suc, ◌+◌, ◌<◌, List, [], ◌∷◌, ◌++◌, length, get_or, Option, None, Bool, true, false, nat_eq, replicate, arith, length-append, eqb-true}
use Rattle.std.proofs.Math.ListN.{set, length-set}
use Rattle.std.proofs.lemmas.Bool.{eqb-false}
use Rattle.std.proofs.lemmas.List.{get_or-set_same, get_or-set_other, get_or_append_left, get_or_push}
use Rattle.mst_note_text.specs.Places.{IsParent, HasDepths, no_depth, deeper_of, depths_at}
use Rattle.mst_note_text.specs.Walk.{IsSeen, unseen, IsOn, IsFound, IsNext, IsWalk}
use Rattle.mst_note_text.specs.declared.parent.Parent.{Parent}
use Rattle.mst_note_text.specs.declared.parent.Depths.{Depths}
use Rattle.mst_note_text.proofs.Unseen.{unseen_upto}
use Rattle.mst_note_text.proofs.Steps.{alone, deeper}

pub same_place : (n k : ℕ) → (n ≡ k) ⊎ (n ≢ k)
same_place n k = go (nat_eq n k) refl
  where
    go : (c : Bool) → nat_eq n k ≡ c → (n ≡ k) ⊎ (n ≢ k)
    go true e = inl (eqb-true n k e)
    go false e = inr (eqb-false n k e)

pub at_end : (rest : List ℕ) (at : ℕ) → get_or (rest ++ at ∷ []) (length rest) 0 ≡ at
at_end rest at = get_or_push rest at 0 (length rest) refl

pub one_longer : (rest : List ℕ) (at : ℕ) → length (rest ++ at ∷ []) ≡ length rest + 1
one_longer rest at = length-append rest (at ∷ [])

module _ (parents : List (Option Parent)) (seen : List Bool) (rest : List ℕ) (at : ℕ) (found : List Depths) (walk : IsWalk parents seen (rest ++ at ∷ []) found) where
  left : ℕ
  left = unseen seen + length rest

  pub end_in_list : at < length parents
  end_in_list =
      let longer = one_longer rest at in
      let h = walk.in_list (length rest) (omega arith) in
      let e = at_end rest at in
      omega arith

  -- the parent of the bridge at the end has its depths
  pub end_found : (p : Parent) → IsParent parents at p → IsFound parents found (unseen seen + length (rest ++ at ∷ [])) p.place
  end_found p s =
      let longer = one_longer rest at in
      let low : length rest < length (rest ++ at ∷ []) = omega arith in
      elim (walk.parent (length rest) p low (rw (at_end rest at) s)) [
        | inl h ↦ h
        | inr h ↦ (let low_next = h.in_path in absurd (omega arith))
      ]

  module _ (d : Depths) (has : HasDepths parents at d) (internal : d.internal + (unseen seen + length rest) < length parents) (external : d.external + (unseen seen + length rest) < length parents) where
    now_found : IsFound parents (set found at d) (unseen seen + length rest) at
    now_found =
        let low = end_in_list in
        let each = walk.each_found in
        let same : depths_at (set found at d) at ≡ d = get_or-set_same found at d no_depth (omega arith) in
        record { depths = rw same has; internal = rw same internal; external = rw same external }

    kept : (n : ℕ) → IsFound parents found (unseen seen + length (rest ++ at ∷ [])) n → IsFound parents (set found at d) (unseen seen + length rest) n
    kept n h = elim (same_place n at) [
      | inl e ↦ subst (IsFound parents (set found at d) (unseen seen + length rest)) (sym e) now_found
      | inr differ ↦ (let same : depths_at (set found at d) n ≡ depths_at found n = get_or-set_other found at n d no_depth differ in let longer = one_longer rest at in let i = h.internal in let x = h.external in record { depths = rw same h.depths; internal = rw same (omega arith); external = rw same (omega arith) })
    ]

    pub down : IsWalk parents seen rest (set found at d)
    down = record {
      each_seen = walk.each_seen;
      each_found = length-set found at d ∙ walk.each_found;
      room = (let h = walk.room in let longer = one_longer rest at in omega arith);
      in_list = λ index low. (let longer = one_longer rest at in rw (get_or_append_left rest (at ∷ []) 0 index low) at (walk.in_list index (omega arith)));
      reached = λ n s. reached n (walk.reached n s);
      parent = λ index p low s. (let longer = one_longer rest at in next index p low (walk.parent index p (omega arith) (rw (get_or_append_left rest (at ∷ []) 0 index low) s)));
    }
      where
        reached : (n : ℕ) → IsFound parents found (unseen seen + length (rest ++ at ∷ [])) n ⊎ IsOn (rest ++ at ∷ []) n → IsFound parents (set found at d) (unseen seen + length rest) n ⊎ IsOn rest n
        reached n (inl h) = inl (kept n h)
        reached n (inr o) = elim (same_place o.index (length rest)) [
          | inl e ↦ inl (subst (IsFound parents (set found at d) (unseen seen + length rest)) (sym (at_end rest at) ∙ (ap (λ i. get_or (rest ++ at ∷ []) i 0) (sym e) ∙ o.is_at)) now_found)
          | inr differ ↦ (let longer = one_longer rest at in let below = o.in_path in let low : o.index < length rest = omega arith in inr (record { index = o.index; in_path = low; is_at = rw (get_or_append_left rest (at ∷ []) 0 o.index low) at o.is_at }))
        ]

        next : (index : ℕ) (p : Parent) → index < length rest → IsFound parents found (unseen seen + length (rest ++ at ∷ [])) p.place ⊎ IsNext (rest ++ at ∷ []) index p.place → IsFound parents (set found at d) (unseen seen + length rest) p.place ⊎ IsNext rest index p.place
        next index p low (inl h) = inl (kept p.place h)
        next index p low (inr o) = elim (same_place (index + 1) (length rest)) [
          | inl e ↦ inl (subst (IsFound parents (set found at d) (unseen seen + length rest)) (sym (at_end rest at) ∙ (ap (λ i. get_or (rest ++ at ∷ []) i 0) (sym e) ∙ o.is_at)) now_found)
          | inr differ ↦ (let below : index + 1 < length rest = omega arith in inr (record { in_path = below; is_at = rw (get_or_append_left rest (at ∷ []) 0 (index + 1) below) at o.is_at }))
        ]

  -- with no parent, and below one
  pub down_alone : get_or parents at None ≡ None → IsWalk parents seen rest (set found at no_depth)
  down_alone none =
      let room = walk.room in
      let longer = one_longer rest at in
      down no_depth (alone parents at none) (omega arith) (omega arith)

  pub down_below : (p : Parent) → IsParent parents at p → IsWalk parents seen rest (set found at (deeper_of p.is_between (depths_at found p.place)))
  down_below p s = go p.is_between s
    where
      above : IsFound parents found (unseen seen + length (rest ++ at ∷ [])) p.place
      above = end_found p s

      go : (c : Bool) → IsParent parents at (record { place = p.place; is_between = c }) → IsWalk parents seen rest (set found at (deeper_of c (depths_at found p.place)))
      go false u = (let longer = one_longer rest at in let i = above.internal in let x = above.external in down (deeper_of false (depths_at found p.place)) (deeper parents at p.place false (depths_at found p.place) u above.depths) (omega arith) (omega arith))
      go true u = (let longer = one_longer rest at in let i = above.internal in let x = above.external in down (deeper_of true (depths_at found p.place)) (deeper parents at p.place true (depths_at found p.place) u above.depths) (omega arith) (omega arith))

-- no bridge was come to yet
pub begins : (parents : List (Option Parent)) (seen : List Bool) (path : List ℕ) (found : List Depths) → path ≡ [] → length seen ≡ length parents → length found ≡ length parents → ((n : ℕ) → IsSeen seen n → ⊥) → IsWalk parents seen path found
begins parents seen path found empty each_seen each_found none =
    let nothing : length path ≡ 0 = ap length empty in
    let upto = unseen_upto seen in
    record {
      each_seen = each_seen;
      each_found = each_found;
      room = omega arith;
      in_list = λ index low. absurd (omega arith);
      reached = λ n s. absurd (none n s);
      parent = λ index p low s. absurd (omega arith);
    }

-- a bridge that was come to has its depths once the path is empty
pub ends : (parents : List (Option Parent)) (seen : List Bool) (path : List ℕ) (found : List Depths) (n : ℕ) → path ≡ [] → IsWalk parents seen path found → IsSeen seen n → HasDepths parents n (depths_at found n)
ends parents seen path found n empty walk s = elim (walk.reached n s) [
  | inl h ↦ h.depths
  | inr o ↦ (let nothing : length path ≡ 0 = ap length empty in let low = o.in_path in absurd (omega arith))
]

pub none_seen : (count n : ℕ) → IsSeen (replicate count false) n → ⊥
none_seen zero n s = cc
none_seen (suc count) zero s = cc
none_seen (suc count) (suc n) s = none_seen count n s

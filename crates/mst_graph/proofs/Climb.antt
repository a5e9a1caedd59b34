-- Active edges join what is enabled: up to the root of a part, and out to the top part.
use Rattle.std.proofs.Common.{◌≡◌, ◌⊎◌, inl, inr, refl, sym, ◌∙◌, ap, ℕ, zero, suc, ◌<◌, arith}
use Rattle.mst_graph.specs.Walks.{Ends, Links, Walk, stay, along}
use Rattle.mst_graph.specs.Joined.{IsJoined}
use Rattle.mst_graph.specs.TreesInParts.{Levels, Climbs, Leaves, HasTreesInParts, Inside, Touches, HasTops}
use Rattle.mst_graph.proofs.Walks.{joined_to, back, weaker, one_value}

-- there is one top part, if it is known by a number that each enabled edge keeps
pub one_top_by : {N E : Type 0} (g : Ends N E) (Enabled : E → Type 0) (s : Levels N) (IsTop : N → Type 0) (key : N → ℕ) → ((e : E) → Enabled e → key (g.from e) ≡ key (g.to e)) → ((x : N) → IsTop x → s.part x ≡ key x) → (x y : N) → Walk g Enabled x y → IsTop x → IsTop y → s.part x ≡ s.part y
one_top_by g Enabled s IsTop key f top x y w tx ty = top x tx ∙ (one_value g key f w ∙ sym (top y ty))

module _ {N E : Type 0} (g : Ends N E) (Enabled Active : E → Type 0) (s : Levels N) (IsRoot IsTop : N → Type 0) (ok : HasTreesInParts g Active s) (tops : HasTops g Enabled Active s IsRoot IsTop) where
  -- the end of an active edge is an end of an enabled one
  touched : (e : E) (a b : N) → Active e → Links g e a b → Touches g Enabled b
  touched e a b act l = record { edge = e; is_enabled = tops.enabled e act; is_end = elim l [ inl h ↦ inr h.1 | inr h ↦ inl h.1 ] }

  inside : (x y : N) (e : E) → Active e → Links g e x y → s.part y ≡ s.part x → Inside g Active s (s.part x) e
  inside x y e act l i = elim l [ inl h ↦ (act, ap s.part h.0, ap s.part h.1 ∙ i) | inr h ↦ (act, ap s.part h.1 ∙ i, ap s.part h.0) ]

  -- a walk of active edges inside x's part to its root
  record Rooted (x : N) : Type 0 where
    root : N
    walk : Walk g (Inside g Active s (s.part x)) x root
    same_part : s.part root ≡ s.part x
    is_root : IsRoot root

  to_root : (n : ℕ) (x : N) → s.rank x < n → Touches g Enabled x → Rooted x
  to_root zero x low t = absurd (omega arith)
  to_root (suc n) x low t = go (to_root n) (tops.way_up x t)
    where
      go : ((y : N) → s.rank y < n → Touches g Enabled y → Rooted y) → ((e : E) × Climbs g Active s x e) ⊎ IsRoot x → Rooted x
      go more (inr r) = record { root = x; walk = stay; same_part = refl; is_root = r }
      go more (inl u) =
          let c = u.1 in
          let lower : s.rank c.above < n = (let r = c.higher in omega arith) in
          let r = more c.above lower (touched u.0 x c.above c.is_active c.links) in
          record { root = r.root; walk = along u.0 (inside x c.above u.0 c.is_active c.links c.same_part) c.links (rw c.same_part at r.walk); same_part = r.same_part ∙ c.same_part; is_root = r.is_root }

  -- the active edges inside a part join it
  pub part_joined : (x y : N) → Touches g Enabled x → Touches g Enabled y → s.part x ≡ s.part y → Walk g (Inside g Active s (s.part x)) x y
  part_joined x y tx ty e =
      let a = to_root (suc (s.rank x)) x (omega arith) tx in
      let b = to_root (suc (s.rank y)) y (omega arith) ty in
      let same : a.root ≡ b.root = tops.one_root a.root b.root (a.same_part ∙ (e ∙ sym b.same_part)) a.is_root b.is_root in
      joined_to g a.walk (rw (same, e) (back g b.walk))

  part_walk : (x y : N) → Touches g Enabled x → Touches g Enabled y → s.part x ≡ s.part y → Walk g Active x y
  part_walk x y tx ty e = weaker g (λ f h. h.0) (part_joined x y tx ty e)

  -- a walk of active edges to a node of the top part
  record Topped (x : N) : Type 0 where
    top : N
    walk : Walk g Active x top
    is_top : IsTop top
    is_touched : Touches g Enabled top

  to_top : (n : ℕ) (x : N) → s.height x < n → Touches g Enabled x → Topped x
  to_top zero x low t = absurd (omega arith)
  to_top (suc n) x low t = go (to_top n) (tops.way_out x t)
    where
      go : ((y : N) → s.height y < n → Touches g Enabled y → Topped y) → ((e : E) × Leaves g Active s x e) ⊎ IsTop x → Topped x
      go more (inr r) = record { top = x; walk = stay; is_top = r; is_touched = t }
      go more (inl u) =
          let e = u.0 in
          let c = u.1 in
          let level : s.height (g.from e) ≡ s.height x = ok.same_height (g.from e) x c.own in
          let lower : s.height (g.to e) < n = (let r = ok.falls e c.is_active (λ i. c.other (sym i ∙ c.own)) in omega arith) in
          let r = more (g.to e) lower (touched e (g.from e) (g.to e) c.is_active (inl (refl, refl))) in
          let first = part_walk x (g.from e) t (touched e (g.to e) (g.from e) c.is_active (inr (refl, refl))) (sym c.own) in
          record { top = r.top; walk = joined_to g first (along e c.is_active (inl (refl, refl)) r.walk); is_top = r.is_top; is_touched = r.is_touched }

  pub joined : IsJoined g Enabled Active
  joined e on =
      let a = to_top (suc (s.height (g.from e))) (g.from e) (omega arith) (record { edge = e; is_enabled = on; is_end = inl refl }) in
      let b = to_top (suc (s.height (g.to e))) (g.to e) (omega arith) (record { edge = e; is_enabled = on; is_end = inr refl }) in
      let over : Walk g Enabled a.top b.top = joined_to g (weaker g tops.enabled (back g a.walk)) (along e on (inl (refl, refl)) (weaker g tops.enabled b.walk)) in
      let same = tops.one_top a.top b.top over a.is_top b.is_top in
      joined_to g a.walk (joined_to g (part_walk a.top b.top a.is_touched b.is_touched same) (back g b.walk))

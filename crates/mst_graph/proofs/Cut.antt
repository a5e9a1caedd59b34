-- No loop over parts, by a cut for each active edge.
use Rattle.std.proofs.Common.{◌≡◌, ◌≢◌, ◌⊎◌, inl, inr, refl, sym, ◌∙◌, ap, ℕ, zero, suc, ◌<◌, ◌≤◌, Bool, true, false, ◌==◌, eqb-true, subst, arith}
use Rattle.std.proofs.lemmas.Bool.{eqb-false}
use Rattle.mst_graph.specs.Walks.{Ends, Links, Walk}
use Rattle.mst_graph.specs.Joined.{Other, HasNoLoop}
use Rattle.mst_graph.specs.TreesInParts.{Levels, Climbs, Leaves, HasTreesInParts}
use Rattle.mst_graph.proofs.Walks.{turned, back, stays, Keeps}

-- the node l is x, or above it
pub data Under {N E : Type 0} (g : Ends N E) (Active : E → Type 0) (s : Levels N) (l : N) : N → Type 0 where
  same : {x : N} → x ≡ l → Under g Active s l x
  below : {x : N} → (e : E) → (c : Climbs g Active s x e) → Under g Active s l c.above → Under g Active s l x

-- x is in p's part and in T, or the way out of x's part, and on, comes into p's part at a node of T
pub data Leads {N E : Type 0} (g : Ends N E) (Active : E → Type 0) (s : Levels N) (p : N) (T : N → Type 0) : N → Type 0 where
  in_part : {x : N} → s.part x ≡ s.part p → T x → Leads g Active s p T x
  by_exit : {x : N} → (s.part x ≢ s.part p) → (e : E) → Leaves g Active s x e → Leads g Active s p T (g.to e) → Leads g Active s p T x

-- two numbers are equal or not, and then one is less
pub same_or_not : (a b : ℕ) → (a ≡ b) ⊎ (a ≢ b)
same_or_not a b = go (a == b) refl
  where
    go : (t : Bool) → (a == b) ≡ t → (a ≡ b) ⊎ (a ≢ b)
    go true e = inl (eqb-true a b e)
    go false e = inr (eqb-false a b e)

pub less_or_more : (a b : ℕ) → (a ≢ b) → (a < b) ⊎ (b < a)
less_or_more zero zero n = absurd (n refl)
less_or_more zero (suc b) n = inl (omega arith)
less_or_more (suc a) zero n = inr (omega arith)
less_or_more (suc a) (suc b) n = elim (less_or_more a b (λ h. n (ap suc h))) [ inl l ↦ inl (omega arith) | inr l ↦ inr (omega arith) ]

module _ {N E : Type 0} (g : Ends N E) where
  -- the edge with these ends has no third
  one_end : (e : E) (a b c : N) → Links g e a b → Links g e a c → b ≡ c
  one_end e a b c l m = elim l [
    | inl h ↦ elim m [ inl k ↦ cc | inr k ↦ cc ]
    | inr h ↦ elim m [ inl k ↦ cc | inr k ↦ cc ]
  ]

  -- the cut: a set with one end of the edge, and with both ends or none of each other active edge
  cut : (Active : E → Type 0) (S : N → Type 0) (e : E) (a b : N) → Links g e a b → S a → (S b → ⊥) → ((f : E) → Other Active e f → Keeps g S f) → Walk g (Other Active e) (g.from e) (g.to e) → ⊥
  cut Active S e a b l s n keeps w = elim l [
    | inl h ↦ n (rw h.1 at (stays g S keeps w (rw h.0 s)))
    | inr h ↦ n (rw h.1 at (stays g S keeps (back g w) (rw h.0 s)))
  ]

module _ {N E : Type 0} (g : Ends N E) (Active : E → Type 0) (s : Levels N) (ok : HasTreesInParts g Active s) where
  -- an active edge inside a part climbs from one of its ends
  pub climbs_one : (e : E) → Active e → s.part (g.from e) ≡ s.part (g.to e) → Climbs g Active s (g.from e) e ⊎ Climbs g Active s (g.to e) e
  climbs_one e act i = elim (less_or_more (s.rank (g.from e)) (s.rank (g.to e)) (ok.uneven e act i)) [
    | inl l ↦ inr (record { is_active = act; above = g.from e; links = inr (refl, refl); same_part = i; higher = l })
    | inr l ↦ inl (record { is_active = act; above = g.to e; links = inl (refl, refl); same_part = sym i; higher = l })
  ]

  -- an active edge between parts leaves the part of its first end
  leaves_own : (e : E) (x : N) → Active e → (s.part (g.from e) ≢ s.part (g.to e)) → s.part (g.from e) ≡ s.part x → Leaves g Active s x e
  leaves_own e x act c i = record { is_active = act; own = i; other = λ h. c (i ∙ sym h) }

  -- one edge out of a part is out of it for each of its nodes
  leaves_also : (x y : N) (e : E) → s.part x ≡ s.part y → Leaves g Active s x e → Leaves g Active s y e
  leaves_also x y e i o = record { is_active = o.is_active; own = o.own ∙ i; other = λ h. o.other (h ∙ sym i) }

  leaves_lower : (x : N) (e : E) → Leaves g Active s x e → s.height (g.to e) < s.height x
  leaves_lower x e o =
      let h : s.height (g.from e) ≡ s.height x = ok.same_height (g.from e) x o.own in
      let r = ok.falls e o.is_active (λ i. o.other (sym i ∙ o.own)) in
      omega arith

  -- nodes under l are as low or lower
  under_lower : (l : N) {x : N} → Under g Active s l x → s.rank l ≤ s.rank x
  under_lower l (same e) = let h = ap s.rank e in omega arith
  under_lower l (below e c b) = let rest = under_lower l b in let r = c.higher in omega arith

  -- parts that lead into a part are as low or lower
  leads_lower : (p : N) (T : N → Type 0) {x : N} → Leads g Active s p T x → s.height p ≤ s.height x
  leads_lower p T (in_part {x = x} i t) = let h = ok.same_height x p i in omega arith
  leads_lower p T (by_exit {x = x} ne e o b) = let rest = leads_lower p T b in let r = leaves_lower x e o in omega arith

  leads_in : (p : N) (T : N → Type 0) {x : N} → Leads g Active s p T x → s.part x ≡ s.part p → T x
  leads_in p T (in_part i t) h = t
  leads_in p T (by_exit ne e o b) h = absurd (ne h)

  leads_out : (p : N) (T : N → Type 0) {x : N} → Leads g Active s p T x → (s.part x ≢ s.part p) → (e : E) × Leaves g Active s x e × Leads g Active s p T (g.to e)
  leads_out p T (in_part i t) h = absurd (h i)
  leads_out p T (by_exit ne e o b) h = (e, o, b)

  -- two nodes of one other part are both in the set or neither
  same_way : (p : N) (T : N → Type 0) (x y : N) → s.part x ≡ s.part y → (s.part x ≢ s.part p) → Leads g Active s p T x → Leads g Active s p T y
  same_way p T x y e ne l = let o = leads_out p T l ne in by_exit (λ h. ne (e ∙ h)) o.0 (leaves_also x y o.0 e o.1) o.2

  -- the set keeps an active edge, if T keeps it where it is inside the part and doesn't have its own end where it leaves the part
  leads_keeps : (p : N) (T : N → Type 0) (f : E) → Active f → (s.part (g.from f) ≡ s.part (g.to f) → Keeps g T f) → (Leaves g Active s p f → T (g.from f) → ⊥) → Keeps g (Leads g Active s p T) f
  leads_keeps p T f act keeps gate = go (same_or_not (s.part (g.from f)) (s.part (g.to f))) (same_or_not (s.part (g.from f)) (s.part p))
    where
      a : N
      a = g.from f

      b : N
      b = g.to f

      go : (s.part a ≡ s.part b) ⊎ (s.part a ≢ s.part b) → (s.part a ≡ s.part p) ⊎ (s.part a ≢ s.part p) → Keeps g (Leads g Active s p T) f
      go (inl e) (inl i) =
          let j : s.part b ≡ s.part p = sym e ∙ i in
          let t = keeps e in
          (λ l. in_part j (t.0 (leads_in p T l i)), λ l. in_part i (t.1 (leads_in p T l j)))
      go (inl e) (inr n) = (same_way p T a b e n, same_way p T b a (sym e) (λ h. n (e ∙ h)))
      go (inr c) (inl i) =
          let o = leaves_own f p act c i in
          (λ l. absurd (gate o (leads_in p T l i)), λ l. (let low = leads_lower p T l in let r = leaves_lower p f o in absurd (omega arith)))
      go (inr c) (inr n) =
          let o = leaves_own f a act c refl in
          (λ l. (let d = leads_out p T l n in subst (λ (d : E). Leads g Active s p T (g.to d)) (ok.one_exit a d.0 f d.1 o) d.2), λ l. by_exit n f o l)

  -- of each edge that climbs, other than l's, both ends are under l or none
  under_keeps : (l : N) (e : E) → Climbs g Active s l e → (f : E) → (f ≢ e) → (y z : N) → Links g f y z → Climbs g Active s y f → (Under g Active s l y → Under g Active s l z) × (Under g Active s l z → Under g Active s l y)
  under_keeps l e up f ne y z k c = (down c k, λ u. below f c (rw (one_end g f y c.above z c.links k) u))
    where
      down : {x : N} → Climbs g Active s x f → Links g f x z → Under g Active s l x → Under g Active s l z
      down cx m (same i) = absurd (ne (ok.one_up l f e (subst (λ (v : N). Climbs g Active s v f) i cx) up))
      down {x} cx m (below d cd b) =
          let is : d ≡ f = ok.one_up x d f cd cx in
          rw (one_end g f x cd.above z (rw is at cd.links) m) at b

  -- the tree law: each other active edge inside a part has both ends under l or none
  pub under_tree : (l : N) (e : E) → Climbs g Active s l e → (f : E) → Other Active e f → s.part (g.from f) ≡ s.part (g.to f) → Keeps g (Under g Active s l) f
  under_tree l e up f o i = elim (climbs_one f o.0 i) [
    | inl c ↦ under_keeps l e up f o.1 (g.from f) (g.to f) (inl (refl, refl)) c
    | inr c ↦ (let h = under_keeps l e up f o.1 (g.to f) (g.from f) (inr (refl, refl)) c in (h.1, h.0))
  ]

  -- no loop through an edge out of a part: the set is what leads into the part
  loop_out : (e : E) → Active e → (s.part (g.from e) ≢ s.part (g.to e)) → Walk g (Other Active e) (g.from e) (g.to e) → ⊥
  loop_out e act c = cut g Active S e p (g.to e) (inl (refl, refl)) (in_part refl tt) (λ l. (let low = leads_lower p T l in let r = leaves_lower p e out in absurd (omega arith))) keeps
    where
      p : N
      p = g.from e

      T : N → Type 0
      T x = Unit {0}

      S : N → Type 0
      S = Leads g Active s p T

      out : Leaves g Active s p e
      out = leaves_own e p act c refl

      keeps : (f : E) → Other Active e f → Keeps g S f
      keeps f o = leads_keeps p T f o.0 (λ i. (λ t. tt, λ t. tt)) (λ h t. o.1 (ok.one_exit p f e h out))

  -- no loop through an edge inside a part, if one side of it has the edge out: the set is what leads into the other side
  side_cut : (T : N → Type 0) (e : E) (a b : N) → Links g e a b → s.part b ≡ s.part a → T a → (T b → ⊥) → ((f : E) → Other Active e f → s.part (g.from f) ≡ s.part (g.to f) → Keeps g T f) → ((f : E) → Leaves g Active s a f → T (g.from f) → ⊥) → Walk g (Other Active e) (g.from e) (g.to e) → ⊥
  side_cut T e a b l i t n keeps gate =
      cut g Active (Leads g Active s a T) e a b l (in_part refl t) (λ h. n (leads_in a T h i)) (λ f o. leads_keeps a T f o.0 (keeps f o) (gate f))

  -- that is the lower side, or else the upper one
  loop_up : (e : E) (l : N) → Climbs g Active s l e → Walk g (Other Active e) (g.from e) (g.to e) → ⊥
  loop_up e l c w = upper (λ f j n. lower (λ d h b. n (rw (ok.one_exit l d f h (leaves_also c.above l f c.same_part j)) at b)))
    where
      not_under : Under g Active s l c.above → ⊥
      not_under b = let low = under_lower l b in let r = c.higher in absurd (omega arith)

      keeps : (f : E) → Other Active e f → s.part (g.from f) ≡ s.part (g.to f) → Keeps g (Under g Active s l) f
      keeps = under_tree l e c

      not_keeps : (f : E) → Other Active e f → s.part (g.from f) ≡ s.part (g.to f) → Keeps g (λ x. Under g Active s l x → ⊥) f
      not_keeps f o i = let h = keeps f o i in (λ n b. n (h.1 b), λ n b. n (h.0 b))

      lower : ((f : E) → Leaves g Active s l f → Under g Active s l (g.from f) → ⊥) → ⊥
      lower gate = side_cut (Under g Active s l) e l c.above c.links c.same_part (same refl) not_under keeps gate w

      upper : ((f : E) → Leaves g Active s c.above f → (Under g Active s l (g.from f) → ⊥) → ⊥) → ⊥
      upper gate = side_cut (λ x. Under g Active s l x → ⊥) e c.above l (turned g e l c.above c.links) (sym c.same_part) not_under (λ n. n (same refl)) not_keeps gate w

  pub no_loop : HasNoLoop g Active
  no_loop e act w = go (same_or_not (s.part (g.from e)) (s.part (g.to e)))
    where
      go : (s.part (g.from e) ≡ s.part (g.to e)) ⊎ (s.part (g.from e) ≢ s.part (g.to e)) → ⊥
      go (inr c) = loop_out e act c w
      go (inl i) = elim (climbs_one e act i) [ inl c ↦ loop_up e (g.from e) c w | inr c ↦ loop_up e (g.to e) c w ]

-- Walks go back and on, and keep what each of their edges keeps.
use Rattle.std.proofs.Common.{◌≡◌, inl, inr, refl, sym, ◌∙◌, ap, subst}
use Rattle.mst_graph.specs.Walks.{Ends, Links, Walk, stay, along}

module _ {N E : Type 0} (g : Ends N E) where
  pub turned : (e : E) (a b : N) → Links g e a b → Links g e b a
  turned e a b l = elim l [ inl h ↦ inr (h.1, h.0) | inr h ↦ inl (h.1, h.0) ]

  pub joined_to : {P : E → Type 0} {a b c : N} → Walk g P a b → Walk g P b c → Walk g P a c
  joined_to stay w = w
  joined_to (along e p l v) w = along e p l (joined_to v w)

  pub back : {P : E → Type 0} {a b : N} → Walk g P a b → Walk g P b a
  back stay = stay
  back (along {a = a} {b = b} e p l v) = joined_to (back v) (along e p (turned e a b l) stay)

  pub weaker : {P Q : E → Type 0} {a b : N} → ((e : E) → P e → Q e) → Walk g P a b → Walk g Q a b
  weaker f stay = stay
  weaker f (along e p l v) = along e (f e p) l (weaker f v)

  -- a walk whose edges are each replaced by a walk
  pub replaced : {P Q : E → Type 0} → ((e : E) → P e → Walk g Q (g.from e) (g.to e)) → {a b : N} → Walk g P a b → Walk g Q a b
  replaced w stay = stay
  replaced {P} {Q} w (along {a = a} {b = b} e p l rest) = joined_to (first l) (replaced w rest)
    where
      first : Links g e a b → Walk g Q a b
      first (inl h) = subst (λ (x : N). Walk g Q x b) h.0 (subst (Walk g Q (g.from e)) h.1 (w e p))
      first (inr h) = subst (λ (x : N). Walk g Q x b) h.0 (subst (Walk g Q (g.to e)) h.1 (back (w e p)))

  -- both ends of the edge are in the set, or neither
  abbrev pub Keeps : (S : N → Type 0) → E → Type 0
  Keeps S e = (S (g.from e) → S (g.to e)) × (S (g.to e) → S (g.from e))

  pub keeps_on : (S : N → Type 0) (e : E) (a b : N) → Keeps S e → Links g e a b → S a → S b
  keeps_on S e a b k l s = elim l [
    | inl h ↦ rw h.1 at (k.0 (rw h.0 s))
    | inr h ↦ rw h.1 at (k.1 (rw h.0 s))
  ]

  pub stays : {P : E → Type 0} (S : N → Type 0) {a b : N} → ((e : E) → P e → Keeps S e) → Walk g P a b → S a → S b
  stays S f stay s = s
  stays S f (along {a = a} {b = b} e p l v) s = stays S f v (keeps_on S e a b (f e p) l s)

  -- so its edges are all in the set
  pub stays_in : {P : E → Type 0} (S : N → Type 0) {a b : N} → ((e : E) → P e → Keeps S e) → S a → Walk g P a b → Walk g (λ e. P e × S (g.from e)) a b
  stays_in S f s stay = stay
  stays_in S f s (along {a = a} {b = b} e p l v) = along e (p, first l) l (stays_in S f (keeps_on S e a b (f e p) l s) v)
    where
      first : Links g e a b → S (g.from e)
      first (inl h) = rw h.0 s
      first (inr h) = (f e p).1 (rw h.0 s)

  -- what both ends of each edge share is one along a walk
  pub one_value : {P : E → Type 0} {A : Type 0} (key : N → A) → ((e : E) → P e → key (g.from e) ≡ key (g.to e)) → {a b : N} → Walk g P a b → key a ≡ key b
  one_value key f stay = refl
  one_value key f (along e p l w) = elim l [
    | inl h ↦ ap key (sym h.0) ∙ (f e p ∙ (ap key h.1 ∙ one_value key f w))
    | inr h ↦ ap key (sym h.0) ∙ (sym (f e p) ∙ (ap key h.1 ∙ one_value key f w))
  ]

-- Two settled assignments of one topology agree.
use Rattle.std.proofs.Common.{◌≡◌, ℕ, suc, zero, ◌+◌, ◌<◌, ◌≤◌, length, List, [], ◌∷◌, ◌++◌, Option, Some, None, refl, sym, ◌∙◌, ap, inl, inr, Less, arith}
use Rattle.std.specs.Ordering.{is_gt, nat_cmp}
use Rattle.std.specs.Cmp.Lexicographic.{slice_cmp}
use Rattle.std.proofs.lemmas.Cmp.{nat_list_cmp_total, nat_cmp_total, tied_itself}
use Rattle.mst_vector.specs.Rules.{Rules, IsMetric}
use Rattle.mst_topology.specs.Topology.{TreePort, Topology, IsTopology}
use Rattle.mst_topology.specs.Settled.{Designates, IsDesignated, Settled}
use Rattle.mst_topology.proofs.Rank.{Among, contains-among, among_left, among_right, rank, rank-rises}
use Rattle.mst_topology.proofs.Below.{Below, same_vector, designates_also, one_designated}

abbrev pub cons_option : {A : Type 0} → Option A → List A → List A
cons_option None xs = xs
cons_option (Some x) xs = x ∷ xs

abbrev pub leading_option : {B P V : Type 0} → Rules B P V → Option V → Option (List ℕ)
leading_option m None = None
leading_option m (Some x) = Some (m.leading x)

-- the leading parts of the bridges' vectors
abbrev pub leads : {N B P V : Type 0} → Rules B P V → (N → Option V) → List (N × B) → List (List ℕ)
leads m a [] = []
leads m a (b ∷ bs) = cons_option (leading_option m (a b.0)) (leads m a bs)

among_cons : {A : Type 0} (x : A) (o : Option A) (xs : List A) → Among x xs → Among x (cons_option o xs)
among_cons x None xs h = h
among_cons x (Some y) xs h = inr h

pub leads-among : {N B P V : Type 0} (m : Rules B P V) (a : N → Option V) (bs : List (N × B)) (n : N) (c : B) (x : V) → Among (n, c) bs → a n ≡ Some x → Among (m.leading x) (leads m a bs)
leads-among m a [] n c x e v = absurd e
leads-among {N} {B} m a (b ∷ bs) n c x e v = elim e [
  | inl f ↦ (let number : n ≡ b.0 = ap (λ (d : N × B). d.0) f in let here : a b.0 ≡ Some x = rw (sym number) v in rw here (inl refl))
  | inr f ↦ among_cons (m.leading x) (leading_option m (a b.0)) (leads m a bs) (leads-among m a bs n c x f v)
]

cons_length : {A : Type 0} (o : Option A) (xs : List A) → length (cons_option o xs) ≤ length xs + 1
cons_length None xs = omega arith
cons_length (Some x) xs = omega arith

pub leads_length : {N B P V : Type 0} (m : Rules B P V) (a : N → Option V) (bs : List (N × B)) → length (leads m a bs) ≤ length bs
leads_length m a [] = omega arith
leads_length m a (b ∷ bs) = let rest = leads_length m a bs in let here = cons_length (leading_option m (a b.0)) (leads m a bs) in omega arith

end_above : (xs : List ℕ) → slice_cmp nat_cmp xs (xs ++ 0 ∷ []) ≡ Less
end_above [] = refl
end_above (x ∷ xs) = rw (tied_itself nat_cmp_total x) (end_above xs)

module _ {N L K B P V : Type 0} (m : Rules B P V) (law : IsMetric m) (t : Topology N L K B P) (ok : IsTopology m t) where
  -- the bridges of a whose leading parts have a rank below r have the same vector in b
  abbrev Agree : (a b : N → Option V) (ks : List (List ℕ)) (r : ℕ) → Type 0
  Agree a b ks r = (n : N) (x : V) → a n ≡ Some x → rank (slice_cmp nat_cmp) ks (m.leading x) < r → b n ≡ Some x

  abbrev Covers : (a : N → Option V) (ks : List (List ℕ)) → Type 0
  Covers a ks = (n : N) (x : V) → a n ≡ Some x → Among (m.leading x) ks

  agree_below : (a b : N → Option V) (ks : List (List ℕ)) (r : ℕ) → Covers a ks → Agree a b ks r → (k : List ℕ) → rank (slice_cmp nat_cmp) ks k < suc r → Below m k a b
  agree_below a b ks r covers agree k low n x v l =
      let rises = rank-rises nat_list_cmp_total ks (m.leading x) k (covers n x v) l in
      agree n x v (omega arith)

  agree_more : (a b : N → Option V) (ks : List (List ℕ)) (r : ℕ) → Settled m t a → Settled m t b → Covers a ks → Covers b ks → Agree a b ks r → Agree b a ks r → Agree a b ks (suc r)
  agree_more a b ks r sa sb ca cb ab ba n x v low =
      let c = sa.is_bridge n x v in
      let y = sb.has_vector n c.0 c.1 in
      let same : x ≡ y.0 = same_vector m law t ok a b (m.leading x) (agree_below a b ks r ca ab (m.leading x) low) (agree_below b a ks r cb ba (m.leading x) low) n c.0 x y.0 (sa.bridges n c.0 x c.1 v) (sb.bridges n c.0 y.0 c.1 y.1) (ap is_gt (tied_itself nat_list_cmp_total (m.leading x))) in
      y.1 ∙ ap Some (sym same)

  agree_both : (a b : N → Option V) (ks : List (List ℕ)) (r : ℕ) → Settled m t a → Settled m t b → Covers a ks → Covers b ks → Agree a b ks r × Agree b a ks r
  agree_both a b ks zero sa sb ca cb = (λ n x v l. absurd (omega arith), λ n x v l. absurd (omega arith))
  agree_both a b ks (suc r) sa sb ca cb =
      let h = agree_both a b ks r sa sb ca cb in
      (agree_more a b ks r sa sb ca cb h.0 h.1, agree_more b a ks r sb sa cb ca h.1 h.0)

  covers_own : (a : N → Option V) → Settled m t a → Covers a (leads m a t.bridges)
  covers_own a s n x v = let c = s.is_bridge n x v in leads-among m a t.bridges n c.0 x (contains-among t.bridges (n, c.0) c.1) v

  agree : (a b : N → Option V) → Settled m t a → Settled m t b → (n : N) (x : V) → a n ≡ Some x → b n ≡ Some x
  agree a b sa sb n x v =
      let ks : List (List ℕ) = leads m a t.bridges ++ leads m b t.bridges in
      let ca : Covers a ks = λ i y w. among_left (m.leading y) (leads m a t.bridges) (leads m b t.bridges) (covers_own a sa i y w) in
      let cb : Covers b ks = λ i y w. among_right (m.leading y) (leads m a t.bridges) (leads m b t.bridges) (covers_own b sb i y w) in
      (agree_both a b ks (suc (rank (slice_cmp nat_cmp) ks (m.leading x))) sa sb ca cb).0 n x v (omega arith)

  pub vectors_agree : (a b : N → Option V) → Settled m t a → Settled m t b → (n : N) → a n ≡ b n
  vectors_agree a b sa sb n = go (a n) (b n) refl refl
    where
      go : (x y : Option V) → a n ≡ x → b n ≡ y → a n ≡ b n
      go None None e f = cc
      go None (Some y) e f = let g = agree b a sb sa n y f in cc
      go (Some x) y e f = let g = agree a b sa sb n x e in cc

  -- the designated port of a LAN is determined
  pub ports_agree : (a b : N → Option V) → Settled m t a → Settled m t b → (lan : L) (o p : Option K) → IsDesignated m t a lan o → IsDesignated m t b lan p → o ≡ p
  ports_agree a b sa sb lan o p da db = go o p da db
    where
      also : (q : TreePort N L K P) (x : V) → Designates m t a lan q x → Designates m t b lan q x
      also q x d = designates_also m law t ok a b (m.leading x ++ 0 ∷ []) (λ n y v l. agree a b sa sb n y v) (λ n y v l. agree b a sb sa n y v) lan q x d (end_above (m.leading x))

      back : (q : TreePort N L K P) (x : V) → Designates m t b lan q x → Designates m t a lan q x
      back q x d = designates_also m law t ok b a (m.leading x ++ 0 ∷ []) (λ n y v l. agree b a sb sa n y v) (λ n y v l. agree a b sa sb n y v) lan q x d (end_above (m.leading x))

      go : (o p : Option K) → IsDesignated m t a lan o → IsDesignated m t b lan p → o ≡ p
      go None None f g = refl
      go None (Some q) f g = absurd (f g.0 g.1 g.3.on_lan (back g.0 g.1 g.3).says)
      go (Some r) None f g = absurd (g f.0 f.1 f.3.on_lan (also f.0 f.1 f.3).says)
      go (Some r) (Some q) f g = ap Some (sym f.2 ∙ ap (λ (c : TreePort N L K P). c.number) (one_designated m law t ok b lan f.0 g.0 f.1 g.1 (also f.0 f.1 f.3) g.3) ∙ g.2)

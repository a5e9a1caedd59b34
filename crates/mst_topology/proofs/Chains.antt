-- Chains of ports, as ports are added.
use Rattle.std.proofs.Common.{◌≡◌, ◌≢◌, ℕ, ◌+◌, ◌<◌, ◌≤◌, List, [], ◌∷◌, ◌++◌, length, Option, Some, refl, sym, ◌∙◌, ap, subst, inl, inr, ◌⊎◌, arith}
use Rattle.std.specs.List.{Contains}
use Rattle.std.proofs.lemmas.List.{get_or_append_left, get_or_push, length_push, get_or_default}
use Rattle.mst_topology.specs.Topology.{TreePort}
use Rattle.mst_topology.specs.declared.link.Link.{Link}
use Rattle.mst_topology.specs.Settling.{IsPut}
use Rattle.mst_topology.specs.Chains.{IsAt, IsLast, IsPortIndex, IsChained}
use Rattle.mst_topology.proofs.Search.{some_is}

module _ {A : Type 0} (xs : List A) where
  -- one element stands at a place
  pub one_there : (k : ℕ) (x y : A) → IsAt xs k x → IsAt xs k y → x ≡ y
  one_there k x y h i = sym h.1 ∙ get_or_default xs k x y h.0 ∙ i.1

  module _ (y : A) where
    long : length (xs ++ y ∷ []) ≡ length xs + 1
    long = length_push xs y

    pub at_longer : (k : ℕ) (x : A) → IsAt xs k x → IsAt (xs ++ y ∷ []) k x
    at_longer k x h = let l = long in let m = h.0 in (omega arith, get_or_append_left xs (y ∷ []) x k h.0 ∙ h.1)

    pub at_end : IsAt (xs ++ y ∷ []) (length xs) y
    at_end = let l = long in (omega arith, get_or_push xs y y (length xs) refl)

    below_or_end : (k : ℕ) → k < length (xs ++ y ∷ []) → (k < length xs) ⊎ (k ≡ length xs)
    below_or_end k l = let e = long in grind arith

    pub at_cases : (k : ℕ) (x : A) → IsAt (xs ++ y ∷ []) k x → IsAt xs k x ⊎ (k ≡ length xs) × (x ≡ y)
    at_cases k x h = elim (below_or_end k h.0) [
      | inl l ↦ inl (l, sym (get_or_append_left xs (y ∷ []) x k l) ∙ h.1)
      | inr e ↦ inr (e, sym h.1 ∙ get_or_push xs y x k (sym e))
    ]

    module _ (P : A → Type 0) where
      -- nothing changes below the end
      pub last_kept : (b : ℕ) (o : Option ℕ) → b ≤ length xs → IsLast xs P b o → IsLast (xs ++ y ∷ []) P b o
      last_kept b o l h = record {
        at = λ k e. let p = h.at k e in (p.0, p.1, at_longer k p.0 p.2, p.3);
        none_after = λ k x u v i p. elim (at_cases k x i) [
          | inl j ↦ h.none_after k x u v j p
          | inr j ↦ (let e = j.0 in absurd (omega arith))
        ];
      }

      -- the new element isn't one
      pub last_other : (o : Option ℕ) → (P y → ⊥) → IsLast xs P (length xs) o → IsLast (xs ++ y ∷ []) P (length (xs ++ y ∷ [])) o
      last_other o not h = record {
        at = λ k e. let p = h.at k e in let l = p.1 in let m = long in (p.0, omega arith, at_longer k p.0 p.2, p.3);
        none_after = λ k x u v i p. elim (at_cases k x i) [
          | inl j ↦ h.none_after k x u j.0 j p
          | inr j ↦ not (subst P j.1 p)
        ];
      }

      -- the new element is the last
      pub last_here : P y → IsLast (xs ++ y ∷ []) P (length (xs ++ y ∷ [])) (Some (length xs))
      last_here p = record {
        at = λ k e. let same : length xs ≡ k = some_is (length xs) k e in let l = long in (y, omega arith, subst (λ z. IsAt (xs ++ y ∷ []) z y) same at_end, p);
        none_after = λ k x u v i q. let l = long in absurd (omega arith);
      }

module _ {P : Type 0} (ports : List (TreePort ℕ ℕ ℕ P)) (p : TreePort ℕ ℕ ℕ P) where
  -- one more port
  pub port_index_more : (place_of more : ℕ → Option ℕ) → IsPortIndex ports place_of → ((q : TreePort ℕ ℕ ℕ P) → Contains ports q → q.number ≢ p.number) → IsPut place_of p.number (length ports) more → IsPortIndex (ports ++ p ∷ []) more
  port_index_more place_of more old new put = record {
    found = λ n i e. elim (put n) [
      | inl h ↦ (let here : length ports ≡ i = some_is (length ports) i (sym h.1 ∙ e) in (p, subst (λ z. IsAt (ports ++ p ∷ []) z p) here (at_end ports p), sym h.0))
      | inr h ↦ (let f = old.found n i (sym h.1 ∙ e) in (f.0, at_longer ports p i f.0 f.1, f.2))
    ];
    back = λ i q at. elim (at_cases ports p i q at) [
      | inl a ↦ elim (put q.number) [
        | inl h ↦ absurd (new q (i, a.0, a.1) h.0)
        | inr h ↦ h.1 ∙ old.back i q a
      ]
      | inr a ↦ elim (put q.number) [
        | inl h ↦ h.1 ∙ ap Some (sym a.0)
        | inr h ↦ absurd (h.0 (ap (λ (z : TreePort ℕ ℕ ℕ P). z.number) a.1))
      ]
    ];
  }

  module _ (on on' of of' : ℕ → Option ℕ) (links : List Link) (old : IsChained ports on of links) (puts_on : IsPut on p.lan (length ports) on') (puts_of : IsPut of p.bridge (length ports) of') where
    abbrev link : Link
    link = record { on_lan = on p.lan; of_bridge = of p.bridge }

    -- the last of a key, after the port was put
    last_put : (key : TreePort ℕ ℕ ℕ P → ℕ) (f g : ℕ → Option ℕ) → IsPut f (key p) (length ports) g → ((n : ℕ) → IsLast ports (λ q. key q ≡ n) (length ports) (f n))
        → (n : ℕ) → IsLast (ports ++ p ∷ []) (λ q. key q ≡ n) (length (ports ++ p ∷ [])) (g n)
    last_put key f g put last n = elim (put n) [
      | inl h ↦ rw h.1 (last_here ports p (λ q. key q ≡ n) (sym h.0))
      | inr h ↦ rw h.1 (last_other ports p (λ q. key q ≡ n) (f n) (λ e. h.0 (sym e)) (last n))
    ]

    -- the link of a port
    link_put : (key : TreePort ℕ ℕ ℕ P → ℕ) (before : Link → Option ℕ) → ((k : ℕ) (q : TreePort ℕ ℕ ℕ P) (l : Link) → IsAt ports k q → IsAt links k l → IsLast ports (λ r. key r ≡ key q) k (before l))
        → IsLast ports (λ r. key r ≡ key p) (length ports) (before link)
        → (k : ℕ) (q : TreePort ℕ ℕ ℕ P) (l : Link) → IsAt (ports ++ p ∷ []) k q → IsAt (links ++ link ∷ []) k l → IsLast (ports ++ p ∷ []) (λ r. key r ≡ key q) k (before l)
    link_put key before each here k q l i j = elim (at_cases ports p k q i) [
      | inl a ↦ elim (at_cases links link k l j) [
        | inl b ↦ (let m = a.0 in last_kept ports p (λ r. key r ≡ key q) k (before l) (omega arith) (each k q l a b))
        | inr b ↦ (let e = b.0 in let m = a.0 in let s = old.size in absurd (omega arith))
      ]
      | inr a ↦ elim (at_cases links link k l j) [
        | inl b ↦ (let e = a.0 in let m = b.0 in let s = old.size in absurd (omega arith))
        | inr b ↦ rw (a.0, a.1, b.1) (last_kept ports p (λ r. key r ≡ key p) (length ports) (before link) (omega arith) here)
      ]
    ]

    pub chained_more : IsChained (ports ++ p ∷ []) on' of' (links ++ link ∷ [])
    chained_more = record {
      size = length_push links link ∙ ap (λ n. n + 1) old.size ∙ sym (length_push ports p);
      on = last_put (λ q. q.lan) on on' puts_on old.on;
      of = last_put (λ q. q.bridge) of of' puts_of old.of;
      before_on = link_put (λ q. q.lan) (λ l. l.on_lan) old.before_on (old.on p.lan);
      before_of = link_put (λ q. q.bridge) (λ l. l.of_bridge) old.before_of (old.of p.bridge);
    }

-- the same chains
pub chained_same : {P : Type 0} (ports : List (TreePort ℕ ℕ ℕ P)) (on on' of of' : ℕ → Option ℕ) (links : List Link) → ((n : ℕ) → on' n ≡ on n) → ((n : ℕ) → of' n ≡ of n) → IsChained ports on of links → IsChained ports on' of' links
chained_same ports on on' of of' links same_on same_of old = record {
  size = old.size;
  on = λ lan. rw (same_on lan) (old.on lan);
  of = λ n. rw (same_of n) (old.of n);
  before_on = old.before_on;
  before_of = old.before_of;
}

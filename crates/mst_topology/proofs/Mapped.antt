-- The places of a list whose elements are mapped.
use Rattle.std.proofs.Common.{◌≡◌, ℕ, zero, suc, ◌<◌, List, [], ◌∷◌, length, map, Option, refl, sym, ◌∙◌, ap, subst, arith}
use Rattle.std.specs.List.{Contains}
use Rattle.std.proofs.lemmas.List.{length-map, get_or-map}
use Rattle.mst_topology.specs.Chains.{IsAt, IsLast}

-- an element stands at each place
pub element_at : {A : Type 0} (xs : List A) (k : ℕ) → k < length xs → (x : A) × IsAt xs k x
element_at [] k l = absurd (omega arith)
element_at (x ∷ xs) zero l = (x, (l, refl))
element_at (x ∷ xs) (suc k) l = let e = element_at xs k (omega arith) in (e.0, (l, e.1.1))

module _ {A B : Type 0} (f : A → B) (xs : List A) where
  at_mapped : (k : ℕ) (x : A) → IsAt xs k x → IsAt (map f xs) k (f x)
  at_mapped k x h = (rw length-map h.0, get_or-map f xs k x (f x) h.0 ∙ ap f h.1)

  pub at_from : (k : ℕ) (y : B) → IsAt (map f xs) k y → (x : A) × IsAt xs k x × (y ≡ f x)
  at_from k y h =
      let l : k < length xs = rw length-map at h.0 in
      let e = element_at xs k l in
      (e.0, e.1, sym h.1 ∙ get_or-map f xs k e.0 y l ∙ ap f e.1.1)

  -- what is true of an element of the mapped list is so of one that was mapped
  pub found_before : (P : B → Type 0) (y : B) → Contains (map f xs) y → P y → (x : A) × Contains xs x × P (f x)
  found_before P y h p = let e = at_from h.0 y (h.1, h.2) in (e.0, (h.0, e.1.0, e.1.1), subst P e.2 p)

  -- a chain of the elements is one of the mapped ones
  pub last_mapped : (P : B → Type 0) (b : ℕ) (o : Option ℕ) → IsLast xs (λ x. P (f x)) b o → IsLast (map f xs) P b o
  last_mapped P b o h = record {
    at = λ k e. let p = h.at k e in (f p.0, p.1, at_mapped k p.0 p.2, p.3);
    none_after = λ k y u v i q. let x = at_from k y i in h.none_after k x.0 u v x.1 (subst P x.2 q);
  }

  pub last_mapped_all : (P : B → Type 0) (o : Option ℕ) → IsLast xs (λ x. P (f x)) (length xs) o → IsLast (map f xs) P (length (map f xs)) o
  last_mapped_all P o h = rw length-map (last_mapped P (length xs) o h)
